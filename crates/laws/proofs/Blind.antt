-- It learns nothing, carried to tables.
use Rattle.std.specs.Prelude.{◌≡◌, Bool, ℕ, ◌+◌, ◌<◌, Float}
use Rattle.std.proofs.Math.Path.{sym, ap}
use Rattle.std.proofs.Common.{◌∙◌, arith}
use Rattle.std.proofs.Math.Bool.{false}
use mathlib.Core.List.{List, []}
use Rattle.style.specs.Style.{word_at, style_at}
use Rattle.tree.specs.Tree.{Tree, node, map_t}
use Rattle.tree.specs.Table.{Entry, parse_t}
use Rattle.steps.specs.Row.{row_at}
use Rattle.steps.specs.Page.{Cell, named, site_at, cell_at, nodes_in, page_of, cells_of}
use Rattle.steps.specs.Layout.{relaid}
use Rattle.steps.specs.declared.LayoutInput.{LayoutInput}
use Rattle.steps.proofs.Shape.{mute}
use Rattle.laws.specs.Trees.{AllT}
use Rattle.laws.specs.Below.{Two, page1, page2, below_of, Agree, below_kept}
use Rattle.laws.proofs.Learns.{learns_nothing}
use Rattle.laws.specs.Parsed.{on_label, parse-map, parse-same, all_parse}
use Rattle.laws.specs.Entries.{labels-tree}
use Rattle.laws.specs.Tables.{SameShape, Sound, AgreeAt, below_at}
use Rattle.laws.specs.Styles.{same_style}
use Rattle.laws.specs.Blind.{below_shape, same_kind, same_position}

module _ (ws : List ℕ) (xs : List Float) (ws' : List ℕ) (xs' : List Float) (rs : List Float) (ms es : List ℕ) (q : LayoutInput) where
  abbrev below : ℕ → Bool
  below i = below_at ws xs rs ms es q i

  -- node i of both pages
  abbrev two_at : ℕ → Entry Two
  two_at i = record {
    size = word_at ws i 0;
    label = record { node = 0 + i; one = style_at ws i xs (0 + i); two = style_at ws' i xs' (0 + i); old = row_at rs ms i; edit = named es (0 + i); below = below i };
  }

  abbrev two_tree : Tree Two
  two_tree = parse_t two_at (nodes_in ws)

  one-view : map_t page1 two_tree ≡ cells_of ws xs rs ms es
  unfolding cells_of cell_at site_at
  one-view = parse-map page1 two_at (nodes_in ws)

  site-shape : map_t mute (cells_of ws xs rs ms es) ≡ map_t mute (page_of ws xs [])
  unfolding cells_of cell_at site_at page_of
  site-shape = parse-map mute (cell_at ws xs rs ms es) (nodes_in ws) ∙ sym (parse-map mute (site_at ws xs [] 0) (nodes_in ws))

  module _ (s : Sound ws xs) (shape : SameShape ws ws') where
    two-view : map_t page2 two_tree ≡ cells_of ws' xs' rs ms es
    unfolding cells_of cell_at site_at
    two-view =
        parse-map page2 two_at (nodes_in ws)
        ∙ parse-same (λ (i : ℕ). on_label page2 (two_at i)) (cell_at ws' xs' rs ms es) (nodes_in ws) s.some (λ i p. ap (λ (n : ℕ). record { size = n; label = page2 (two_at i).label }) (shape.sizes i p))
        ∙ ap (parse_t (cell_at ws' xs' rs ms es)) shape.nodes

    below-view : map_t below_of two_tree ≡ below_kept (cells_of ws xs rs ms es) q
    unfolding site_at below_at
    below-view =
        parse-map below_of two_at (nodes_in ws)
        ∙ labels-tree false (site_at ws xs [] 0) (nodes_in ws) (page_of ws xs []) (below_kept (cells_of ws xs rs ms es) q) s.entries (below_shape (cells_of ws xs rs ms es) q ∙ site-shape)

    agree : ((i : ℕ) → i < nodes_in ws → AgreeAt ws xs ws' xs' (below i) i) → AllT Agree two_tree
    agree h = all_parse Agree two_at (nodes_in ws) s.some (λ i p. at i (h i p))
      where
        at : (i : ℕ) → AgreeAt ws xs ws' xs' (below i) i → Agree (two_at i).label
        at i a =
            let z : 0 + i ≡ i = omega arith in
            record { style = λ b. rw z (same_style ws xs ws' xs' i (a.same b)); kind = same_kind ws xs ws' xs' i (0 + i) a.kind; position = same_position ws xs ws' xs' i (0 + i) a.position }

    pub tables-same : ((i : ℕ) → i < nodes_in ws → AgreeAt ws xs ws' xs' (below i) i) → relaid (cells_of ws xs rs ms es) q ≡ relaid (cells_of ws' xs' rs ms es) q
    tables-same h =
        ap (λ (t : Tree Cell). relaid t q) (sym one-view)
        ∙ learns_nothing two_tree q (below-view ∙ ap (λ (t : Tree Cell). below_kept t q) (sym one-view)) (agree h)
        ∙ ap (λ (t : Tree Cell). relaid t q) two-view
