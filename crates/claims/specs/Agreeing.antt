-- Demand 3, second half, at exit of every call that does it: two pages that differ only below kept nodes end alike.
use Rattle.steps.specs.declared.Refusal.TheVariants.{Lengths, Room}
use Rattle.std.specs.Prelude.{◌≡◌, refl, ◌||◌, ℕ, ◌+◌, ◌<◌, Float, Ok}
use Rattle.std.proofs.Math.Path.{sym, ap}
use Rattle.std.proofs.Common.{◌∙◌}
use mathlib.Core.List.{List, []}
use Rattle.style.specs.Codes.{code_at, kind_of, position_of}
use Rattle.style.specs.Flow.{flow_by, flow_of}
use Rattle.style.specs.Style.{word_at, style_at}
use Rattle.style.specs.declared.Flow.{Flow}
use Rattle.style.specs.declared.Flow.TheVariants.{Gone, Out, In}
use Rattle.tree.specs.Tree.{Tree, Forest, node, none, more, map_t, map_f}
use Rattle.tree.specs.Table.{parse_t}
use Rattle.steps.specs.Page.{Site, nodes_in, site_at, page_of}
use Rattle.steps.specs.Candidates.{Candidate, needed_t, needed_f, needed}
use Rattle.steps.specs.Noes.{bad_tables, bad_rows, no5, refuse_if, page_tested, layout_tested}
use Rattle.steps.specs.Results.{Reply}
use Rattle.steps.specs.declared.LayoutInput.{LayoutInput}
use Rattle.tables.proofs.Passing.{then_pass_1, then_pass_2}
use Rattle.laws.specs.Tables.{SameShape}
use Rattle.laws.specs.Parsed.{on_label, parse-map, parse-same}
use Rattle.records.specs.Results.{RecordsReply, with_records}
use Rattle.records.specs.declared.Record.{Record}
use Rattle.records.proofs.EnoughOrFew.{Scarce, room_due}

-- what is needed, from how each node takes part
unfoldable mutual
  wanted_t : Tree Flow → ℕ
  wanted_t (node f ks) = elim f [ Gone ↦ 0 | Out ↦ 1 | In ↦ wanted_f ks ]

  wanted_f : Forest Flow → ℕ
  wanted_f none = 0
  wanted_f (more t ts) = wanted_t t + wanted_f ts

unfoldable wanted : Tree Flow → ℕ
wanted (node f ks) = wanted_f ks

abbrev flow_in : Site → Flow
flow_in s = flow_of s.style

mutual
  unfolding needed_t wanted_t map_t

  wanted_t_lem : (t : Tree Site) → needed_t t ≡ wanted_t (map_t flow_in t)
  wanted_t_lem (node l ks) = ap (λ (n : ℕ). elim (flow_of l.style) [ Gone ↦ 0 | Out ↦ 1 | In ↦ n ]) (wanted_f_lem ks)

  wanted_f_lem : (ts : Forest Site) → needed_f ts ≡ wanted_f (map_f flow_in ts)
  wanted_f_lem none = refl
  wanted_f_lem (more t ts) = rw (wanted_t_lem t, wanted_f_lem ts)

wanted_is : (t : Tree Site) → needed t ≡ wanted (map_t flow_in t)
unfolding needed wanted map_t
wanted_is (node l ks) = wanted_f_lem ks

module _ (ws : List ℕ) (xs : List Float) (ws' : List ℕ) (xs' : List Float) (shape : SameShape ws ws') (some : 0 < nodes_in ws) where
  same_flow : (i : ℕ) → code_at (word_at ws i 1) 0 ≡ code_at (word_at ws' i 1) 0 → code_at (word_at ws i 1) 2 ≡ code_at (word_at ws' i 1) 2 → flow_of (style_at ws i xs (0 + i)) ≡ flow_of (style_at ws' i xs' (0 + i))
  unfolding flow_of style_at
  same_flow i k p = ap (λ (n : ℕ). flow_by (kind_of n) (position_of (code_at (word_at ws i 1) 2))) k ∙ ap (λ (n : ℕ). flow_by (kind_of (code_at (word_at ws' i 1) 0)) (position_of n)) p

  same_entry : (i : ℕ) → word_at ws i 0 ≡ word_at ws' i 0 → flow_of (style_at ws i xs (0 + i)) ≡ flow_of (style_at ws' i xs' (0 + i)) → on_label flow_in (site_at ws xs [] 0 i) ≡ on_label flow_in (site_at ws' xs' [] 0 i)
  unfolding site_at
  same_entry i s f = ap (λ (n : ℕ). record { size = n; label = flow_of (style_at ws i xs (0 + i)) }) s ∙ ap (λ (v : Flow). record { size = word_at ws' i 0; label = v }) f

  -- kind, position and shape say how many records are needed
  pub same-needed : ((i : ℕ) → i < nodes_in ws → (code_at (word_at ws i 1) 0 ≡ code_at (word_at ws' i 1) 0) × (code_at (word_at ws i 1) 2 ≡ code_at (word_at ws' i 1) 2)) → needed (page_of ws xs []) ≡ needed (page_of ws' xs' [])
  unfolding page_of
  same-needed h =
      wanted_is (page_of ws xs [])
      ∙ ap wanted
      (parse-map flow_in (site_at ws xs [] 0) (nodes_in ws)
      ∙ parse-same (λ (i : ℕ). on_label flow_in (site_at ws xs [] 0 i)) (λ (i : ℕ). on_label flow_in (site_at ws' xs' [] 0 i)) (nodes_in ws) some (λ i p. same_entry i (shape.sizes i p) (same_flow i (h i p).0 (h i p).1))
      ∙ ap (parse_t (λ (i : ℕ). on_label flow_in (site_at ws' xs' [] 0 i))) shape.nodes
      ∙ sym (parse-map flow_in (site_at ws' xs' [] 0) (nodes_in ws')))
      ∙ sym (wanted_is (page_of ws' xs' []))

-- a page that passes every test, lent too few records: 5
pub room_by : (ws : List ℕ) (xs rs : List Float) (ms cw : List ℕ) (cx : List Float) (lent : List Record) (q : LayoutInput) (r : RecordsReply) (s : Scarce ws xs rs ms cw cx lent q r) → layout_tested ws xs rs ms cw cx q ≡ Ok tt → s.answer ≡ Room
unfolding layout_tested
room_by ws xs rs ms cw cx lent q r s e =
    let l = refuse_if (bad_tables ws xs || bad_rows ws rs ms) Lengths in
    room_due ws xs rs ms cw cx lent q r s (then_pass_1 l _ e) (then_pass_1 (page_tested ws xs q) (no5 ws xs cw cx) (then_pass_2 l _ e))

pub both_parts : (l m : List Candidate) → l ≡ m → (lent : List Record) → {r s : Reply} → r ≡ s → with_records r l lent ≡ with_records s m lent
both_parts l m e lent f = rw (e, f)
