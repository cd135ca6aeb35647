-- A relayout learns nothing from below a kept node but kind and position: two pages that differ only there have one result.
use Rattle.std.specs.Prelude.{◌≡◌, refl, Bool, false}
use Rattle.std.proofs.Common.{sym, ap, ◌∙◌}
use Rattle.style.specs.declared.Style.{Style}
use Rattle.style.specs.declared.Kind.{Kind}
use Rattle.style.specs.declared.Position.{Position}
use Rattle.tree.specs.Tree.{Tree, Forest, node, map_t, map_f, root_t}
use Rattle.tree.proofs.Laws.{root_t_map}
use Rattle.style.specs.Flow.{flow_of, flow_by}
use Rattle.steps.specs.Page.{Cell, Node, any_t}
use Rattle.steps.specs.Kept.{kept, edited_node, kept_row, below_row}
use Rattle.steps.specs.Layout.{leaf_laid}
use Rattle.steps.specs.declared.LayoutInput.{LayoutInput}
use Rattle.steps.proofs.Clauses.{style_t, any_map_t}
use Rattle.steps.proofs.Zeros.{zeros_f_lem}
use Rattle.steps.proofs.Cells.{cell_in}
use Rattle.laws.specs.Trees.{AllT, top_t, Joint, joint-T}
use Rattle.laws.specs.Below.{Two, page1, page2, Agree}
use Rattle.laws.specs.Unread.{Given, given_in}

-- after the width pass
pub record Pair : Type 0 where
  pub two : Two
  pub given : Given

abbrev node_by : Two → Style → Given → Node
node_by l s g = record { site = record { node = l.node; style = s; edit = l.edit }; old = l.old; probe = g.probe; anew = g.anew }

abbrev pub node1 : Pair → Node
node1 p = node_by p.two p.two.one p.given

abbrev pub node2 : Pair → Node
node2 p = node_by p.two p.two.two p.given

abbrev pub AgreeP : Pair → Type 0
AgreeP p = Agree p.two

abbrev pub below_p : Pair → Bool
below_p p = p.two.below

pub same_node : (p : Pair) → AgreeP p → below_p p ≡ false → node1 p ≡ node2 p
same_node p h b = ap (λ (s : Style). node_by p.two s p.given) (h.style b)

-- flow comes from kind and position
pub same_flow : (p : Pair) → AgreeP p → flow_of p.two.one ≡ flow_of p.two.two
unfolding flow_of
same_flow p h = ap (λ (k : Kind). flow_by k p.two.one.position) h.kind ∙ ap (λ (x : Position). flow_by p.two.two.kind x) h.position

-- kept, and the rows of a kept node
edits_t : (t : Tree Pair) → any_t edited_node (map_t node1 t) ≡ any_t edited_node (map_t node2 t)
unfolding edited_node
edits_t t = any_map_t edited_node node1 t ∙ sym (any_map_t edited_node node2 t)

pub kept_same : (t : Tree Pair) (q : LayoutInput) → kept (map_t node1 t) q ≡ kept (map_t node2 t) q
unfolding kept
kept_same t q = rw (edits_t t, root_t_map node1 t, root_t_map node2 t)

pub below_same : (p : Pair) → below_row (node1 p) ≡ below_row (node2 p)
unfolding below_row
below_same p = refl

pub kept_row_same : (p : Pair) → kept_row (node1 p) ≡ kept_row (node2 p)
unfolding kept_row
kept_row_same p = refl

-- the final pass
pub leaf_same : (n : Node) (ks : Forest Pair) (q : LayoutInput) → leaf_laid n q (map_f node1 ks) ≡ leaf_laid n q (map_f node2 ks)
unfolding leaf_laid
leaf_same n ks q = rw (zeros_f_lem node1 ks, zeros_f_lem node2 ks)

pub top_below : (t : Tree Pair) (u : Tree Bool) → map_t below_p t ≡ u → top_t u ≡ false → below_p (root_t t) ≡ false
unfolding map_t root_t
top_below (node p ks) u e z = ap top_t e ∙ z

pub same_style : (t : Tree Pair) → AgreeP (root_t t) → below_p (root_t t) ≡ false → style_t (map_t node1 t) ≡ style_t (map_t node2 t)
same_style t h b = ap (λ (n : Node). n.site.style) (root_t_map node1 t) ∙ h.style b ∙ sym (ap (λ (n : Node). n.site.style) (root_t_map node2 t))

pub top_agree : (t : Tree Pair) → AllT AgreeP t → AgreeP (root_t t)
unfolding AllT root_t
top_agree (node p ks) h = h.0

-- one tree of the pages and of the nodes after the width pass
abbrev pub two_in : Pair → Two
two_in p = p.two

abbrev pair_of : Two → Node → Pair
pair_of l n = record { two = l; given = given_in n }

node_is : (l : Two) (n : Node) → page1 l ≡ cell_in n → node1 (pair_of l n) ≡ n
node_is l n e = ap (λ (c : Cell). record { site = c.site; old = c.old; probe = n.probe; anew = n.anew }) e

pub pairs : (t : Tree Two) (u : Tree Node) → map_t page1 t ≡ map_t cell_in u → Joint two_in node1 t u
pairs t u e = joint-T page1 cell_in pair_of two_in node1 (λ l n _. refl) node_is t u e

pub node_by_lem : (p : Pair) (n : Node) → page2 p.two ≡ cell_in n → p.given ≡ given_in n → node2 p ≡ n
node_by_lem p n c g = go (page2 p.two) (cell_in n) p.given (given_in n) c g
  where
    go : (a b : Cell) (x y : Given) → a ≡ b → x ≡ y → ◌≡◌ {A = Node} (record { site = a.site; old = a.old; probe = x.probe; anew = x.anew }) (record { site = b.site; old = b.old; probe = y.probe; anew = y.anew })
    go a b x y c g = rw (c, g)
