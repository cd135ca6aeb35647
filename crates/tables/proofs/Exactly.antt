-- Each answer of the tests is given exactly if what stands for it in `Refusals` holds: layout-exactly, relayout-exactly, size-exactly.
use Rattle.steps.specs.declared.Refusal.TheVariants.{Lengths, Tree, Codes, Numbers, Room, Edits, NotLaid, TooLarge}
use Rattle.steps.specs.declared.Refusal.{Refusal}
use Rattle.std.specs.Prelude.{Option, None, Some, Result, Ok, Err, ⊤}
use mathlib.Core.Path.{◌≡◌, refl, sym, ap, ◌∙◌, subst}
use mathlib.Core.Bool.{Bool, true, false, not}
use mathlib.Core.List.{List, []}
use Prim.Native.Nat.{ℕ, ◌≤◌, min}
use native.Mathlib.Omega.{arith}
use lib.ListN.{length, get_or}
use lib.Dec.{ltb}
use lib.Ieee.{Float}
use borrow.Author.Tests.{lt-ltb, le-ltb, ltb-true, ltb-false}
use Rattle.style.specs.Codes.{flag_at}
use Rattle.tree.specs.declared.NodeId.{NodeId}
use Rattle.steps.specs.Scan.{lowest, first_of}
use Rattle.steps.specs.Page.{nodes_in, page_of}
use Rattle.steps.specs.Candidates.{needed}
use Rattle.steps.specs.Noes.{bad_tables, bad_tree, bad_style, bad_numbers, bad_question, bad_edit, records_in, refuse_if, and_then, at_fault, at_spot, no2, no3_by, no3, no4, no5, no6, no7, page_tested, layout_tested, relayout_tested, size_tested}
use Rattle.steps.specs.declared.LayoutInput.{LayoutInput}
use Rattle.tables.specs.Refusals.{Lowest, Sound, NumbersAt, of_node, of_question, EditsAt, of_edit, too_many, PageSound, EditsSound, PageDue, SizeDue, misfit, Scarce, LayoutSound, LayoutRefused, LayoutDue, RelayoutDue}
use Rattle.tables.proofs.ScanLaws.{lowest-at, at-lowest, lowest-nowhere, nowhere-lowest, first-at, at_first, first-nowhere, nowhere-first}

-- one exactly if the other
pub record Exactly (A B : Type 0) : Type 0 where
  pub only : A → B
  pub given : B → A

-- an answer is settled by what holds of it and by what it is given for
pub settled : (t : Result ⊤ Refusal) (D : Result ⊤ Refusal → Type 0) → D t → ((u : Result ⊤ Refusal) → D u → t ≡ u) → (u : Result ⊤ Refusal) → Exactly (t ≡ u) (D u)
settled t D holds gives u = record { only = λ e. subst D e holds; given = gives u }

-- ---- each test by itself
module _ (ws : List ℕ) where
  pub tree-fault : (i : NodeId) → Lowest (bad_tree ws) (nodes_in ws) i.0 → no2 ws ≡ Err (Tree i)
  unfolding no2 at_fault
  tree-fault i h = rw (at-lowest (bad_tree ws) (nodes_in ws) i.0 h)

  pub tree-pass : Sound (bad_tree ws) (nodes_in ws) → no2 ws ≡ Ok tt
  unfolding no2 at_fault
  tree-pass h = rw (nowhere-lowest (bad_tree ws) (nodes_in ws) h)

  pub codes-fault : (p : ℕ → Bool) (i : NodeId) → Lowest p (nodes_in ws) i.0 → no3_by p ws ≡ Err (Codes i)
  unfolding at_fault
  codes-fault p i h = rw (at-lowest p (nodes_in ws) i.0 h)

  pub codes_pass : (p : ℕ → Bool) → Sound p (nodes_in ws) → no3_by p ws ≡ Ok tt
  unfolding at_fault
  codes_pass p h = rw (nowhere-lowest p (nodes_in ws) h)

  module _ (xs : List Float) (q : LayoutInput) where
    numbers-fault : (k : ℕ) → NumbersAt ws xs q k → no4 ws xs q ≡ Err (Numbers k)
    unfolding no4 at_fault and_then
    numbers-fault k (of_node h) = rw (at-lowest (bad_numbers ws xs) (nodes_in ws) k h)
    numbers-fault k (of_question h e p) = rw (nowhere-lowest (bad_numbers ws xs) (nodes_in ws) h, e, p)

    numbers-pass : Sound (bad_numbers ws xs) (nodes_in ws) → bad_question q ≡ false → no4 ws xs q ≡ Ok tt
    unfolding no4 at_fault and_then
    numbers-pass h e = rw (nowhere-lowest (bad_numbers ws xs) (nodes_in ws) h, e)

module _ (es : List ℕ) (n : ℕ) where
  edits-fault : (k : ℕ) → EditsAt es n k → no6 es n ≡ Err (Edits k)
  unfolding no6 at_spot and_then
  edits-fault k (of_edit h) = rw (at_first (bad_edit es n) (min 64 (length es)) k h)
  edits-fault k (too_many h l p) = rw (nowhere-first (bad_edit es n) (min 64 (length es)) h, lt-ltb 64 (length es) l, p)

  edits-pass : EditsSound es n → no6 es n ≡ Ok tt
  unfolding no6 at_spot and_then
  edits-pass h =
      let l = h.few in
      let q : min 64 (length es) ≡ length es = omega arith in
      rw (q, nowhere-first (bad_edit es n) (length es) h.named, le-ltb 64 (length es) l)

-- ---- 2 to 4 after 1, and what follows
module _ (bad : Bool) (ws : List ℕ) (xs : List Float) (q : LayoutInput) (rest : Result ⊤ Refusal) where
  abbrev tested : Result ⊤ Refusal
  tested = and_then (refuse_if bad Lengths) (and_then (page_tested ws xs q) rest)

  -- whatever holds of each answer with what it is given for, and of the rest of a sound page, holds
  module _ (D : Result ⊤ Refusal → Type 0) (refused : (a : Refusal) → PageDue bad ws xs q a → D (Err a)) (passed : bad ≡ false → PageSound ws xs q → D rest) where
    by-question : bad ≡ false → Sound (bad_tree ws) (nodes_in ws) → Sound (bad_style ws xs) (nodes_in ws) → Sound (bad_numbers ws xs) (nodes_in ws) → (b : Bool) → bad_question q ≡ b
        → D (and_then (refuse_if b (Numbers (nodes_in ws))) rest)
    unfolding and_then
    by-question m t c n true e = refused (Numbers (nodes_in ws)) (m, t, c, of_question n e refl)
    by-question m t c n false e = passed m (record { tree = t; codes = c; numbers = n; question = e })

    by_numbers : bad ≡ false → Sound (bad_tree ws) (nodes_in ws) → Sound (bad_style ws xs) (nodes_in ws) → (f : Option NodeId) → lowest (bad_numbers ws xs) (nodes_in ws) ≡ f
        → D (and_then (and_then (at_fault Numbers f) (refuse_if (bad_question q) (Numbers (nodes_in ws)))) rest)
    unfolding and_then at_fault
    by_numbers m t c (Some i) e = refused (Numbers i.0) (m, t, c, of_node (lowest-at (bad_numbers ws xs) (nodes_in ws) i.0 e))
    by_numbers m t c None e = by-question m t c (lowest-nowhere (bad_numbers ws xs) (nodes_in ws) e) (bad_question q) refl

    by_codes : bad ≡ false → Sound (bad_tree ws) (nodes_in ws) → (f : Option NodeId) → lowest (bad_style ws xs) (nodes_in ws) ≡ f
        → D (and_then (and_then (at_fault (λ i. Codes (record { 0 = i })) f) (no4 ws xs q)) rest)
    unfolding and_then at_fault no4
    by_codes m t (Some i) e = refused (Codes i) (m, t, lowest-at (bad_style ws xs) (nodes_in ws) i.0 e)
    by_codes m t None e = by_numbers m t (lowest-nowhere (bad_style ws xs) (nodes_in ws) e) (lowest (bad_numbers ws xs) (nodes_in ws)) refl

    by-tree : bad ≡ false → (f : Option NodeId) → lowest (bad_tree ws) (nodes_in ws) ≡ f
        → D (and_then (and_then (at_fault (λ i. Tree (record { 0 = i })) f) (and_then (no3 ws xs) (no4 ws xs q))) rest)
    unfolding and_then at_fault no3
    by-tree m (Some i) e = refused (Tree i) (m, lowest-at (bad_tree ws) (nodes_in ws) i.0 e)
    by-tree m None e = by_codes m (lowest-nowhere (bad_tree ws) (nodes_in ws) e) (lowest (bad_style ws xs) (nodes_in ws)) refl

    by_lengths : (b : Bool) → bad ≡ b → D (and_then (refuse_if b Lengths) (and_then (page_tested ws xs q) rest))
    unfolding and_then page_tested no2
    by_lengths true e = refused Lengths e
    by_lengths false e = by-tree e (lowest (bad_tree ws) (nodes_in ws)) refl

    page-cases : D tested
    page-cases = by_lengths bad refl

  page-refused : (a : Refusal) → PageDue bad ws xs q a → tested ≡ Err a
  unfolding page_tested no3 and_then
  page-refused Lengths e = rw e
  page-refused (Tree i) (m, h) = rw (m, tree-fault ws i h)
  page-refused (Codes i) (m, t, h) = rw (m, tree-pass ws t, codes-fault ws (bad_style ws xs) i h)
  page-refused (Numbers k) (m, t, c, h) = rw (m, tree-pass ws t, codes_pass ws (bad_style ws xs) c, numbers-fault ws xs q k h)
  page-refused Room e = absurd e
  page-refused (Edits k) e = absurd e
  page-refused NotLaid e = absurd e
  page-refused (TooLarge i) e = absurd e

  page_passed : bad ≡ false → PageSound ws xs q → tested ≡ rest
  unfolding page_tested no3 and_then
  page_passed m h = rw (m, tree-pass ws h.tree, codes_pass ws (bad_style ws xs) h.codes, numbers-pass ws xs q h.numbers h.question)

-- ---- the size question
then_pass : (t : Result ⊤ Refusal) → and_then t (Ok tt) ≡ t
unfolding and_then
then_pass (Ok _) = refl
then_pass (Err a) = refl

module _ (ws : List ℕ) (xs : List Float) (q : LayoutInput) where
  size_is : size_tested ws xs q ≡ and_then (refuse_if (bad_tables ws xs) Lengths) (and_then (page_tested ws xs q) (Ok tt))
  unfolding size_tested
  size_is = ap (and_then (refuse_if (bad_tables ws xs) Lengths)) (sym (then_pass (page_tested ws xs q)))

  size-gives : (u : Result ⊤ Refusal) → SizeDue ws xs q u → size_tested ws xs q ≡ u
  size-gives (Ok _) (m, h) = size_is ∙ page_passed (bad_tables ws xs) ws xs q (Ok tt) m h
  size-gives (Err a) h = size_is ∙ page-refused (bad_tables ws xs) ws xs q (Ok tt) a h

  pub size-exactly : (u : Result ⊤ Refusal) → Exactly (size_tested ws xs q ≡ u) (SizeDue ws xs q u)
  size-exactly = settled (size_tested ws xs q) (SizeDue ws xs q) (rw size_is (page-cases (bad_tables ws xs) ws xs q (Ok tt) (SizeDue ws xs q) (λ a h. h) (λ m h. (m, h)))) size-gives

-- ---- layout and relayout
module _ (ws : List ℕ) (xs rs : List Float) (ms cw : List ℕ) (cx : List Float) (q : LayoutInput) where
  abbrev bad : Bool
  bad = misfit ws xs rs ms cw cx

  layout_is : layout_tested ws xs rs ms cw cx q ≡ and_then (refuse_if bad Lengths) (and_then (page_tested ws xs q) (no5 ws xs cw cx))
  unfolding layout_tested
  layout_is = refl

  room-short : Scarce ws xs rs ms cw cx → no5 ws xs cw cx ≡ Err Room
  unfolding no5
  room-short h = rw (lt-ltb (records_in cw cx) (needed (page_of ws xs [])) h)

  room-pass : needed (page_of ws xs []) ≤ records_in cw cx → no5 ws xs cw cx ≡ Ok tt
  unfolding no5
  room-pass h = rw (le-ltb (records_in cw cx) (needed (page_of ws xs [])) h)

  from-page : (a : Refusal) → PageDue bad ws xs q a → LayoutRefused ws xs rs ms cw cx q a
  from-page Lengths h = h
  from-page (Tree i) h = h
  from-page (Codes i) h = h
  from-page (Numbers k) h = h
  from-page Room h = absurd h
  from-page (Edits k) h = h
  from-page NotLaid h = h
  from-page (TooLarge i) h = h

  by-room : bad ≡ false → PageSound ws xs q → (b : Bool) → ltb (records_in cw cx) (needed (page_of ws xs [])) ≡ b → LayoutDue ws xs rs ms cw cx q (refuse_if b Room)
  by-room m h true e = (m, h, ltb-true _ _ e)
  by-room m h false e = record { lengths = m; page = h; room = ltb-false _ _ e }

  room_due : bad ≡ false → PageSound ws xs q → LayoutDue ws xs rs ms cw cx q (no5 ws xs cw cx)
  unfolding no5
  room_due m h = by-room m h (ltb (records_in cw cx) (needed (page_of ws xs []))) refl

  layout-due : LayoutDue ws xs rs ms cw cx q (layout_tested ws xs rs ms cw cx q)
  layout-due = rw layout_is (page-cases bad ws xs q (no5 ws xs cw cx) (LayoutDue ws xs rs ms cw cx q) from-page room_due)

  layout-gives : (u : Result ⊤ Refusal) → LayoutDue ws xs rs ms cw cx q u → layout_tested ws xs rs ms cw cx q ≡ u
  layout-gives (Ok _) h = layout_is ∙ page_passed bad ws xs q (no5 ws xs cw cx) h.lengths h.page ∙ room-pass h.room
  layout-gives (Err Lengths) h = layout_is ∙ page-refused bad ws xs q (no5 ws xs cw cx) Lengths h
  layout-gives (Err (Tree i)) h = layout_is ∙ page-refused bad ws xs q (no5 ws xs cw cx) (Tree i) h
  layout-gives (Err (Codes i)) h = layout_is ∙ page-refused bad ws xs q (no5 ws xs cw cx) (Codes i) h
  layout-gives (Err (Numbers k)) h = layout_is ∙ page-refused bad ws xs q (no5 ws xs cw cx) (Numbers k) h
  layout-gives (Err Room) (m, h, s) = layout_is ∙ page_passed bad ws xs q (no5 ws xs cw cx) m h ∙ room-short s
  layout-gives (Err (Edits k)) h = absurd h
  layout-gives (Err NotLaid) h = absurd h
  layout-gives (Err (TooLarge i)) h = absurd h

  pub layout-exactly : (u : Result ⊤ Refusal) → Exactly (layout_tested ws xs rs ms cw cx q ≡ u) (LayoutDue ws xs rs ms cw cx q u)
  layout-exactly = settled (layout_tested ws xs rs ms cw cx q) (LayoutDue ws xs rs ms cw cx q) layout-due layout-gives

  module _ (es : List ℕ) where
    abbrev Due : Result ⊤ Refusal → Type 0
    Due u = RelayoutDue ws xs rs ms cw cx es q u

    by_row : LayoutSound ws xs rs ms cw cx q → EditsSound es (nodes_in ws) → (b : Bool) → flag_at (get_or ms 1 0) 0 ≡ b → Due (refuse_if (not b) NotLaid)
    by_row l s true e = (l, s, e)
    by_row l s false e = (l, s, e)

    row-due : LayoutSound ws xs rs ms cw cx q → EditsSound es (nodes_in ws) → Due (no7 ms)
    unfolding no7
    row-due l s = by_row l s (flag_at (get_or ms 1 0) 0) refl

    by_number : LayoutSound ws xs rs ms cw cx q → Sound (bad_edit es (nodes_in ws)) (min 64 (length es)) → (b : Bool) → ltb 64 (length es) ≡ b → Due (and_then (refuse_if b (Edits 64)) (no7 ms))
    unfolding and_then
    by_number l s true e = (l, too_many s (ltb-true 64 (length es) e) refl)
    by_number l s false e =
        let h : length es ≤ 64 = ltb-false 64 (length es) e in
        row-due l (record { named = λ j i. s j (omega arith); few = h })

    by-edits : LayoutSound ws xs rs ms cw cx q → (f : Option ℕ) → first_of (bad_edit es (nodes_in ws)) (min 64 (length es)) ≡ f
        → Due (and_then (and_then (at_spot f) (refuse_if (ltb 64 (length es)) (Edits 64))) (no7 ms))
    unfolding and_then at_spot
    by-edits l (Some k) e = (l, of_edit (first-at (bad_edit es (nodes_in ws)) (min 64 (length es)) k e))
    by-edits l None e = by_number l (first-nowhere (bad_edit es (nodes_in ws)) (min 64 (length es)) e) (ltb 64 (length es)) refl

    edits-due : LayoutSound ws xs rs ms cw cx q → Due (and_then (no6 es (nodes_in ws)) (no7 ms))
    unfolding no6
    edits-due l = by-edits l (first_of (bad_edit es (nodes_in ws)) (min 64 (length es))) refl

    after-layout : (t : Result ⊤ Refusal) → LayoutDue ws xs rs ms cw cx q t → Due (and_then t (and_then (no6 es (nodes_in ws)) (no7 ms)))
    unfolding and_then
    after-layout (Ok _) h = edits-due h
    after-layout (Err Lengths) h = h
    after-layout (Err (Tree i)) h = h
    after-layout (Err (Codes i)) h = h
    after-layout (Err (Numbers k)) h = h
    after-layout (Err Room) h = h
    after-layout (Err (Edits k)) h = absurd h
    after-layout (Err NotLaid) h = absurd h
    after-layout (Err (TooLarge i)) h = h

    relayout-is : relayout_tested ws xs rs ms cw cx es q ≡ and_then (layout_tested ws xs rs ms cw cx q) (and_then (no6 es (nodes_in ws)) (no7 ms))
    unfolding relayout_tested
    relayout-is = refl

    relayout-due : Due (relayout_tested ws xs rs ms cw cx es q)
    relayout-due = rw relayout-is (after-layout (layout_tested ws xs rs ms cw cx q) layout-due)

    row_laid : flag_at (get_or ms 1 0) 0 ≡ true → no7 ms ≡ Ok tt
    unfolding no7
    row_laid e = rw e

    row-not-laid : flag_at (get_or ms 1 0) 0 ≡ false → no7 ms ≡ Err NotLaid
    unfolding no7
    row-not-laid e = rw e

    -- a layout that is refused, and one that is not
    refused-first : (a : Refusal) → LayoutRefused ws xs rs ms cw cx q a → relayout_tested ws xs rs ms cw cx es q ≡ Err a
    unfolding and_then
    refused-first a h = relayout-is ∙ rw (layout-gives (Err a) h)

    then-edits : LayoutSound ws xs rs ms cw cx q → relayout_tested ws xs rs ms cw cx es q ≡ and_then (no6 es (nodes_in ws)) (no7 ms)
    unfolding and_then
    then-edits h = relayout-is ∙ rw (layout-gives (Ok tt) h)

    relayout-gives : (u : Result ⊤ Refusal) → Due u → relayout_tested ws xs rs ms cw cx es q ≡ u
    unfolding and_then
    relayout-gives (Ok _) (l, s, e) = then-edits l ∙ rw (edits-pass es (nodes_in ws) s) (row_laid e)
    relayout-gives (Err Lengths) h = refused-first Lengths h
    relayout-gives (Err (Tree i)) h = refused-first (Tree i) h
    relayout-gives (Err (Codes i)) h = refused-first (Codes i) h
    relayout-gives (Err (Numbers k)) h = refused-first (Numbers k) h
    relayout-gives (Err Room) h = refused-first Room h
    relayout-gives (Err (Edits k)) (l, h) = then-edits l ∙ rw (edits-fault es (nodes_in ws) k h)
    relayout-gives (Err NotLaid) (l, s, e) = then-edits l ∙ rw (edits-pass es (nodes_in ws) s) (row-not-laid e)
    relayout-gives (Err (TooLarge i)) h = absurd h

    pub relayout-exactly : (u : Result ⊤ Refusal) → Exactly (relayout_tested ws xs rs ms cw cx es q ≡ u) (RelayoutDue ws xs rs ms cw cx es q u)
    relayout-exactly = settled (relayout_tested ws xs rs ms cw cx es q) Due relayout-due relayout-gives
