-- Each answer of make_index is given exactly if it is due: index-exactly.
use Rattle.steps.specs.declared.Refusal.{Refusal}
use Rattle.index.specs.declared.IndexRefusal.TheVariants.{Plain, BadEntry}
use Rattle.index.specs.declared.IndexRefusal.{IndexRefusal}
use Rattle.std.specs.Prelude.{Option, None, Some, Result, Ok, Err, ⊤}
use mathlib.Core.Path.{◌≡◌, refl, subst}
use mathlib.Core.Bool.{Bool, true, false, cond}
use mathlib.Core.List.{List}
use Prim.Native.Nat.{ℕ, ◌≤◌, min}
use native.Mathlib.Omega.{arith}
use lib.ListN.{length}
use lib.Dec.{ltb}
use lib.Ieee.{Float}
use borrow.Author.Tests.{lt-ltb, le-ltb, ltb-true, ltb-false}
use Rattle.steps.specs.Scan.{first_of}
use Rattle.tables.specs.Refusals.{Sound}
use Rattle.tables.proofs.ScanLaws.{first-at, at_first, first-nowhere, nowhere-first}
use Rattle.tables.proofs.Exactly.{Exactly}
use Rattle.edges.specs.Tests.{laid_tested, LaidSound, LaidDue}
use Rattle.edges.proofs.Exact.{laid-due, laid-gives}
use Rattle.index.specs.Entries.{bad_entry}
use Rattle.index.specs.Index.{by_entry, list_answer, after_tests, index_misfit, index_answer}
use Rattle.index.specs.Due.{EntryAt, of_entry, too_many, ListSound, IndexDue}

module _ (bad : Bool) (ws ms list : List ℕ) where
  by_number : LaidSound bad ws ms → Sound (bad_entry ws ms list) (min 256 (length list)) → (b : Bool) → ltb 256 (length list) ≡ b → IndexDue bad ws ms list (cond b (Err (BadEntry 256)) (Ok tt))
  by_number l s true e = (l, too_many s (ltb-true 256 (length list) e) refl)
  by_number l s false e =
      let h : length list ≤ 256 = ltb-false 256 (length list) e in
      (l, record { each = λ j i. s j (omega arith); few = h })

  by-entry : LaidSound bad ws ms → (f : Option ℕ) → first_of (bad_entry ws ms list) (min 256 (length list)) ≡ f → IndexDue bad ws ms list (by_entry f (cond (ltb 256 (length list)) (Err (BadEntry 256)) (Ok tt)))
  unfolding by_entry
  by-entry l (Some k) e = (l, of_entry (first-at (bad_entry ws ms list) (min 256 (length list)) k e))
  by-entry l None e = by_number l (first-nowhere (bad_entry ws ms list) (min 256 (length list)) e) (ltb 256 (length list)) refl

  after : (t : Result ⊤ Refusal) → LaidDue bad ws ms t → IndexDue bad ws ms list (after_tests t (list_answer ws ms list))
  unfolding after_tests list_answer
  after (Ok _) h = by-entry h (first_of (bad_entry ws ms list) (min 256 (length list))) refl
  after (Err a) h = h

  list-fault : (k : ℕ) → EntryAt ws ms list k → list_answer ws ms list ≡ Err (BadEntry k)
  unfolding list_answer by_entry
  list-fault k (of_entry h) = rw (at_first (bad_entry ws ms list) (min 256 (length list)) k h)
  list-fault k (too_many h l p) = rw (nowhere-first (bad_entry ws ms list) (min 256 (length list)) h, lt-ltb 256 (length list) l, p)

  list-pass : ListSound ws ms list → list_answer ws ms list ≡ Ok tt
  unfolding list_answer by_entry
  list-pass h =
      let l = h.few in
      let q : min 256 (length list) ≡ length list = omega arith in
      rw (q, nowhere-first (bad_entry ws ms list) (length list) h.each, le-ltb 256 (length list) l)

  gives : (a : Result ⊤ IndexRefusal) → IndexDue bad ws ms list a → after_tests (laid_tested bad ws ms) (list_answer ws ms list) ≡ a
  unfolding after_tests
  gives (Ok _) h = rw (laid-gives bad ws ms (Ok tt) h.0) (list-pass h.1)
  gives (Err (Plain a)) h = rw (laid-gives bad ws ms (Err a) h)
  gives (Err (BadEntry k)) h = rw (laid-gives bad ws ms (Ok tt) h.0) (list-fault k h.1)

pub index_exactly : (ws : List ℕ) (rs : List Float) (ms list : List ℕ) (tops bottoms running : ℕ) (a : Result ⊤ IndexRefusal)
    → Exactly (index_answer ws rs ms list tops bottoms running ≡ a) (IndexDue (index_misfit ws rs ms (length list) tops bottoms running) ws ms list a)
unfolding index_answer
index_exactly ws rs ms list tops bottoms running a =
    let bad = index_misfit ws rs ms (length list) tops bottoms running in
    record { only = λ e. subst (IndexDue bad ws ms list) e (after bad ws ms list (laid_tested bad ws ms) (laid-due bad ws ms)); given = gives bad ws ms list a }
