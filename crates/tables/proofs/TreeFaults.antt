-- The place of refusal 2 means what it says: `bad_tree` takes, where no lower node is at fault, exactly the nodes at fault in plain words.
--     fault-is       one node
--     lowest-fault   the place: the lowest node at fault
use mathlib.Core.Path.{◌≡◌, refl, sym, ◌∙◌}
use mathlib.Core.Bool.{Bool, true, false, not, ◌&&◌, ◌||◌}
use mathlib.Core.List.{List}
use mathlib.Core.Logic.{⊎_elim}
use Prim.Native.Nat.{ℕ, zero, suc, ◌<◌, ◌≤◌}
use native.Mathlib.Omega.{arith}
use native.Mathlib.Nat.{eq-or-lt_of_le}
use lib.Dec.{eqb, ltb, leb}
use borrow.Author.Tests.{ltb-true, lt-ltb, leb-true, le-leb, eqb-true, eqb-false, eq-eqb, ne_eqb, not-true}
use Rattle.limits.specs.Bools.{and_fst, and_snd}
use Rattle.style.specs.Codes.{code_at}
use Rattle.style.specs.Style.{word_at}
use Rattle.steps.specs.Scan.{some, how_many}
use Rattle.steps.specs.Page.{nodes_in}
use Rattle.steps.specs.Noes.{end_at, holds, bad_tree}
use Rattle.tables.specs.Refusals.{Lowest}
use Rattle.tables.specs.Ancestors.{Ancestor, parent, further, TreeFault, root_size_lem, no_size, past_parent, leaf_size, too_deep, LowestFault}
use Rattle.scans.specs.Scans.{some_is, is_some_lem, never}
use Rattle.shape.proofs.Counting.{both}
use Rattle.shape.proofs.Fronts.{holds-yes, holds-true, nested}
use Rattle.tables.proofs.Ancestors.{Lower, child_in, child-after, ancestor-holds, holds-is, depth-counts, has-depth}
use Rattle.tables.proofs.Exactly.{Exactly}

-- one of five tests holds
by_five : {F : Type 0} (a b c d e : Bool) → (a ≡ true → F) → (b ≡ true → F) → (c ≡ true → F) → (d ≡ true → F) → (e ≡ true → F) → (a || (b || (c || (d || e)))) ≡ true → F
by_five true b c d e fa fb fc fd fe q = fa refl
by_five false true c d e fa fb fc fd fe q = fb refl
by_five false false true d e fa fb fc fd fe q = fc refl
by_five false false false true e fa fb fc fd fe q = fd refl
by_five false false false false e fa fb fc fd fe q = fe q

or_first : (a b : Bool) → a ≡ true → (a || b) ≡ true
or_first a b e = rw e

or_second : (a b : Bool) → b ≡ true → (a || b) ≡ true
or_second true b e = refl
or_second false b e = e

not_is : (t : Bool) → t ≡ false → not t ≡ true
not_is t e = rw e

module _ (ws : List ℕ) (i : ℕ) where
  -- the five tests of node i
  abbrev tests : Bool × Bool × Bool × Bool × Bool
  tests = (
    eqb i 0 && not (eqb (word_at ws i 0) (nodes_in ws)),
    eqb (word_at ws i 0) 0,
    some (λ j. holds ws i j && ltb (end_at ws j) (end_at ws i)) i,
    eqb (code_at (word_at ws i 1) 0) 1 && ltb 1 (word_at ws i 0),
    leb 32 (how_many (holds ws i) i),
  )

  bad_by_lem : bad_tree ws i ≡ (tests.0 || (tests.1 || (tests.2 || (tests.3 || tests.4))))
  unfolding bad_tree
  bad_by_lem = refl

  -- a node that runs past an ancestor's end runs past its parent's
  crossed : {j : ℕ} → Ancestor ws i j → Lower ws i → end_at ws j < end_at ws i → TreeFault ws i
  crossed (parent j c) low h = past_parent j c h
  crossed (further j k c a) low h =
      let x = ancestor-holds ws a low in
      let z = nested ws k j (let y = child-after ws c in omega arith) (low k x.0) (child-after ws c) (child_in ws c) in
      crossed a low (omega arith)

  module _ (h : i < nodes_in ws) (low : Lower ws i) where
    is-fault : bad_tree ws i ≡ true → TreeFault ws i
    is-fault q =
        by_five tests.0 tests.1 tests.2 tests.3 tests.4
        (λ e. root_size_lem (eqb-true _ _ (and_fst (eqb i 0) _ e)) (eqb-false _ _ (not-true _ (and_snd (eqb i 0) _ e))))
        (λ e. no_size (eqb-true _ _ e))
        (λ e.
        let t = is_some_lem _ i e in
        let l = t.within in
        let x = and_fst (holds ws i t.place) _ t.takes in
        let y = and_snd (holds ws i t.place) _ t.takes in
        crossed (holds-is ws i low t.place l (holds-true ws i t.place x)) low (ltb-true _ _ y))
        (λ e. leaf_size (eqb-true _ _ (and_fst (eqb (code_at (word_at ws i 1) 0) 1) _ e)) (ltb-true _ _ (and_snd (eqb (code_at (word_at ws i 1) 0) 1) _ e)))
        (λ e.
        let p = has-depth ws i h low in
        let x : 32 ≤ how_many (holds ws i) i = leb-true _ _ e in
        let y = depth-counts ws p.stands low in
        too_deep p.depth p.stands (omega arith))
        (sym bad_by_lem ∙ q)

    fault-bad : TreeFault ws i → bad_tree ws i ≡ true
    fault-bad (root_size_lem e o) = bad_by_lem ∙ or_first tests.0 _ (both _ _ (eq-eqb i 0 e) (not_is _ (ne_eqb _ _ o)))
    fault-bad (no_size e) = bad_by_lem ∙ or_second tests.0 _ (or_first tests.1 _ (eq-eqb _ _ e))
    fault-bad (past_parent j c l) =
        bad_by_lem ∙ or_second tests.0 _ (or_second tests.1 _ (or_first tests.2 _ (some_is _ i j (child-after ws c) (both _ _ (holds-yes ws i j (child_in ws c)) (lt-ltb _ _ l)))))
    fault-bad (leaf_size e l) = bad_by_lem ∙ or_second tests.0 _ (or_second tests.1 _ (or_second tests.2 _ (or_first tests.3 _ (both _ _ (eq-eqb _ _ e) (lt-ltb _ _ l)))))
    fault-bad (too_deep d p l) =
        let y = depth-counts ws p low in
        bad_by_lem ∙ or_second tests.0 _ (or_second tests.1 _ (or_second tests.2 _ (or_second tests.3 _ (le-leb 32 (how_many (holds ws i) i) (omega arith)))))

    pub fault-is : Exactly (bad_tree ws i ≡ true) (TreeFault ws i)
    fault-is = record { only = is-fault; given = fault-bad }

module _ (ws : List ℕ) where
  -- where no node below n is at fault, no test takes one
  none-lower : (n : ℕ) → n ≤ nodes_in ws → ((j : ℕ) → j < n → TreeFault ws j → ⊥) → Lower ws n
  none-lower zero h f m l = absurd (omega arith)
  none-lower (suc n) h f m l = last (none-lower n (omega arith) (λ j k. f j (omega arith)))
    where
      go : Lower ws n → (b : Bool) → bad_tree ws n ≡ b → bad_tree ws n ≡ false
      go low true e = absurd (f n (omega arith) (is-fault ws n (omega arith) low e))
      go low false e = e

      last : Lower ws n → bad_tree ws m ≡ false
      last low = ⊎_elim (λ (p : m ≡ n). rw p (go low (bad_tree ws n) refl)) (λ (p : m < n). low m p) (eq-or-lt_of_le (let y : m ≤ n = omega arith in y))

  pub lowest-fault : (i : ℕ) → Exactly (Lowest (bad_tree ws) (nodes_in ws) i) (LowestFault ws i)
  lowest-fault i =
      record {
        only = λ h. record { within = h.within; fault = is-fault ws i h.within h.lower h.fault; lower = λ j l f. let w = h.within in never (sym (fault-bad ws j (omega arith) (λ m k. h.lower m (omega arith)) f) ∙ h.lower j l) };
        given = λ h. let w = h.within in let low = none-lower i (omega arith) h.lower in record { within = w; fault = fault-bad ws i w low h.fault; lower = low };
      }
