-- The loop of `count_needed`: what is left of the nodes in preorder is a forest, a node's children before its siblings.
use mathlib.Core.Path.{◌≡◌, refl, sym, ap, ◌∙◌}
use mathlib.Core.List.{List, [], ◌∷◌, ◌++◌}
use Prim.Native.Nat.{ℕ, suc, ◌+◌, ◌-◌, ◌<◌, ◌≤◌}
use native.Mathlib.Omega.{arith}
use native.Mathlib.Nat.{add_assoc}
use lib.ListN.{length, length-append}
use lib.Ieee.{Float}
use Rattle.tree.specs.Tree.{Tree, Forest, node, none, more, count_f, flat_t, flat_f, join_f}
use Rattle.tree.specs.Table.{Entry, entry_of, from}
use Rattle.tree.proofs.Laws.{count_t_node, count_f_more, flat_t_node, flat_f_none, flat_f_more, flat_join, join_f_none, join_f_more}
use Rattle.tree.proofs.Lists.{from_suc, from-add, length_from, tails, cons-first, cons-rest}
use Rattle.tree.proofs.Parse.{entries_f}
use Rattle.style.specs.Style.{word_at, style_at}
use Rattle.steps.specs.Page.{Site, nodes_in, site_at, page_of}
use Rattle.style.specs.Flow.{flow_of, flow_at}
use Rattle.steps.specs.Candidates.{needed_t, needed_f, needed}
use Rattle.style.specs.declared.Flow.{Flow}
use Rattle.style.specs.declared.Flow.TheVariants.{Gone, Out, In}
use Rattle.tables.specs.TreeCheck.{GoodTable}
use Rattle.tables.specs.Walk.{counted_by, passed_by}
use Rattle.tables.proofs.GoodPage.{good_page}

needed_f_none : needed_f none ≡ 0
unfolding needed_f
needed_f_none = refl

needed_f_more : (t : Tree Site) (ts : Forest Site) → needed_f (more t ts) ≡ needed_t t + needed_f ts
unfolding needed_f
needed_f_more t ts = refl

-- a node's own number, by how it takes part
needed_t_by : (l : Site) (ks : Forest Site) (flow : Flow) → flow_of l.style ≡ flow → needed_t (node l ks) ≡ elim flow [ Gone ↦ 0 | Out ↦ 1 | In ↦ needed_f ks ]
unfolding needed_t
needed_t_by l ks flow e = ap (λ (x : Flow). elim x [ Gone ↦ 0 | Out ↦ 1 | In ↦ needed_f ks ]) e

needed_gone : (l : Site) (ks : Forest Site) → flow_of l.style ≡ Gone → needed_t (node l ks) ≡ 0
needed_gone l ks e = needed_t_by l ks Gone e

needed_out : (l : Site) (ks : Forest Site) → flow_of l.style ≡ Out → needed_t (node l ks) ≡ 1
needed_out l ks e = needed_t_by l ks Out e

needed_in : (l : Site) (ks : Forest Site) → flow_of l.style ≡ In → needed_t (node l ks) ≡ needed_f ks
needed_in l ks e = needed_t_by l ks In e

needed_join : (ts us : Forest Site) → needed_f (join_f ts us) ≡ needed_f ts + needed_f us
needed_join none us = rw (join_f_none, needed_f_none) (omega arith)
needed_join (more t ts) us = rw (join_f_more, needed_f_more, needed_f_more, needed_join ts us) (sym (add_assoc (needed_t t) (needed_f ts) (needed_f us)))

abbrev sites : List ℕ → List Float → ℕ → Entry Site
sites ws xs i = site_at ws xs [] 0 i

-- i nodes are passed, and have this count
pub record Left (ws : List ℕ) (xs : List Float) (i count : ℕ) : Type 0 where
  pub left : Forest Site
  pub entries : from (sites ws xs) i (nodes_in ws - i) ≡ flat_f entry_of left
  pub total : needed (page_of ws xs []) ≡ count + needed_f left

pub begin : (ws : List ℕ) (xs : List Float) → GoodTable ws → Left ws xs 1 0
unfolding needed
begin ws xs good = go (page_of ws xs []) refl
  where
    go : (t : Tree Site) → page_of ws xs [] ≡ t → Left ws xs 1 0
    go (node l ks) e =
        let g = good_page ws good xs [] in
        let h = good.some in
        let p : nodes_in ws ≡ suc (nodes_in ws - 1) = omega arith in
        let q : from (sites ws xs) 0 (nodes_in ws) ≡ record { size = suc (count_f ks); label = l } ∷ flat_f entry_of ks = g.entries ∙ ap (flat_t entry_of) e ∙ flat_t_node entry_of l ks in
        let r : sites ws xs 0 ∷ from (sites ws xs) 1 (nodes_in ws - 1) ≡ record { size = suc (count_f ks); label = l } ∷ flat_f entry_of ks = sym (from_suc (sites ws xs) 0 (nodes_in ws - 1)) ∙ ap (from (sites ws xs) 0) (sym p) ∙ q in
        record { left = ks; entries = cons-rest (sites ws xs 0) _ _ _ r; total = rw e (omega arith) }

-- what one turn is asked
pub record Turn (ws : List ℕ) (xs : List Float) (i count size : ℕ) (flow : Flow) : Type 0 where
  pub on : 0 < passed_by flow size
  pub most : counted_by flow ≤ 1
  pub within : i + passed_by flow size ≤ nodes_in ws
  pub next : Left ws xs (i + passed_by flow size) (count + counted_by flow)

module _ (ws : List ℕ) (xs : List Float) (i count size : ℕ) (es : size ≡ word_at ws i 0) (lt : i < nodes_in ws) where
  entry-size : (sites ws xs i).size ≡ word_at ws i 0
  unfolding site_at
  entry-size = refl

  entry-flow : flow_of (sites ws xs i).label.style ≡ flow_at (word_at ws i 1)
  unfolding site_at style_at flow_of flow_at
  entry-flow = refl

  module _ (l : Site) (ks us : Forest Site) (entries : from (sites ws xs) i (nodes_in ws - i) ≡ flat_f entry_of (more (node l ks) us)) (total : needed (page_of ws xs []) ≡ count + needed_f (more (node l ks) us)) where
    one : nodes_in ws - i ≡ suc (nodes_in ws - (i + 1))
    one = omega arith

    split : sites ws xs i ∷ from (sites ws xs) (suc i) (nodes_in ws - (i + 1)) ≡ record { size = suc (count_f ks); label = l } ∷ (flat_f entry_of ks ++ flat_f entry_of us)
    split =
        sym (from_suc (sites ws xs) i (nodes_in ws - (i + 1))) ∙ ap (from (sites ws xs) i) (sym one) ∙ entries ∙ flat_f_more entry_of (node l ks) us
        ∙ ap (λ (x : List (Entry Site)). x ++ flat_f entry_of us) (flat_t_node entry_of l ks)

    rest : from (sites ws xs) (i + 1) (nodes_in ws - (i + 1)) ≡ flat_f entry_of ks ++ flat_f entry_of us
    rest =
        let q : i + 1 ≡ suc i = omega arith in
        rw q (ap (from (sites ws xs) (suc i)) (let z : nodes_in ws - suc i ≡ nodes_in ws - (i + 1) = omega arith in z) ∙ cons-rest (sites ws xs i) _ _ _ split)

    head : sites ws xs i ≡ record { size = suc (count_f ks); label = l }
    head = cons-first (sites ws xs i) _ _ _ split

    size_is : size ≡ suc (count_f ks)
    size_is = es ∙ sym entry-size ∙ ap (λ (x : Entry Site). x.size) head

    flow_is : flow_of l.style ≡ flow_at (word_at ws i 1)
    flow_is = sym (ap (λ (x : Entry Site). flow_of x.label.style) head) ∙ entry-flow

    long : nodes_in ws - (i + 1) ≡ count_f ks + count_f us
    long = sym (length_from (sites ws xs) (i + 1) (nodes_in ws - (i + 1))) ∙ ap length rest ∙ length-append (flat_f entry_of ks) (flat_f entry_of us) ∙ ap (λ (x : ℕ). x + length (flat_f entry_of us)) (entries_f ks) ∙ ap (λ (x : ℕ). count_f ks + x) (entries_f us)

    -- past the run of this node
    after : from (sites ws xs) (i + size) (nodes_in ws - (i + size)) ≡ flat_f entry_of us
    after =
        let n = long in
        let s = size_is in
        let q : nodes_in ws - (i + 1) ≡ count_f ks + (nodes_in ws - (i + size)) = omega arith in
        let z : i + 1 + count_f ks ≡ i + size = omega arith in
        let c : from (sites ws xs) (i + 1) (count_f ks) ++ from (sites ws xs) (i + size) (nodes_in ws - (i + size)) ≡ flat_f entry_of ks ++ flat_f entry_of us =
        ap (λ (x : ℕ). from (sites ws xs) (i + 1) (count_f ks) ++ from (sites ws xs) x (nodes_in ws - (i + size))) (sym z) ∙ sym (from-add (sites ws xs) (i + 1) (count_f ks) (nodes_in ws - (i + size))) ∙ ap (from (sites ws xs) (i + 1)) (sym q) ∙ rest in
        tails (from (sites ws xs) (i + 1) (count_f ks)) (flat_f entry_of ks) _ _ (length_from (sites ws xs) (i + 1) (count_f ks) ∙ sym (entries_f ks)) c

    sum : needed (page_of ws xs []) ≡ count + (needed_t (node l ks) + needed_f us)
    sum = total ∙ ap (λ (x : ℕ). count + x) (needed_f_more (node l ks) us)

    turn_at : (flow : Flow) → flow ≡ flow_at (word_at ws i 1) → Turn ws xs i count size flow
    unfolding passed_by counted_by
    turn_at Gone e =
        let n = long in
        let s = size_is in
        let z = needed_gone l ks (flow_is ∙ sym e) in
        let t = sum in
        record { on = omega arith; most = omega arith; within = omega arith; next = record { left = us; entries = after; total = omega arith } }
    turn_at Out e =
        let n = long in
        let s = size_is in
        let z = needed_out l ks (flow_is ∙ sym e) in
        let t = sum in
        record { on = omega arith; most = omega arith; within = omega arith; next = record { left = us; entries = after; total = omega arith } }
    turn_at In e =
        let n = long in
        let z = needed_in l ks (flow_is ∙ sym e) in
        let t = sum in
        let j = needed_join ks us in
        record { on = omega arith; most = omega arith; within = omega arith; next = record { left = join_f ks us; entries = rest ∙ sym (flat_join entry_of ks us); total = omega arith } }

  turn_of : (ts : Forest Site) → from (sites ws xs) i (nodes_in ws - i) ≡ flat_f entry_of ts → needed (page_of ws xs []) ≡ count + needed_f ts
      → (flow : Flow) → flow ≡ flow_at (word_at ws i 1) → Turn ws xs i count size flow
  turn_of none entries total flow e =
      let h : nodes_in ws - i ≡ 0 = sym (length_from (sites ws xs) i (nodes_in ws - i)) ∙ ap length (entries ∙ flat_f_none entry_of) in
      absurd (omega arith)
  turn_of (more (node l ks) us) entries total flow e = turn_at l ks us entries total flow e

  pub turn : Left ws xs i count → (flow : Flow) → flow ≡ flow_at (word_at ws i 1) → Turn ws xs i count size flow
  turn s flow e = turn_of s.left s.entries s.total flow e

pub end : (ws : List ℕ) (xs : List Float) (i count : ℕ) → nodes_in ws ≤ i → Left ws xs i count → count ≡ needed (page_of ws xs [])
end ws xs i count le s = go s.left s.entries s.total
  where
    go : (ts : Forest Site) → from (sites ws xs) i (nodes_in ws - i) ≡ flat_f entry_of ts → needed (page_of ws xs []) ≡ count + needed_f ts → count ≡ needed (page_of ws xs [])
    go none entries total = let z = needed_f_none in omega arith
    go (more (node l ks) us) entries total =
        let h : nodes_in ws - i ≡ count_f (more (node l ks) us) = sym (length_from (sites ws xs) i (nodes_in ws - i)) ∙ ap length entries ∙ entries_f (more (node l ks) us) in
        absurd (omega (arith, count_f_more (node l ks) us, count_t_node l ks))
