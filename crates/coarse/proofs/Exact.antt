-- Each answer of coarse is given exactly if it is due: coarse-exactly.
use Rattle.steps.specs.declared.Refusal.{Refusal}
use Rattle.coarse.specs.declared.CoarseRefusal.TheVariants.{Plain, TooFar}
use Rattle.coarse.specs.declared.CoarseRefusal.{CoarseRefusal}
use Rattle.std.specs.Prelude.{Option, None, Some, Result, Ok, Err, ⊤}
use Rattle.tree.specs.declared.NodeId.{NodeId}
use mathlib.Core.Path.{◌≡◌, refl, subst}
use mathlib.Core.Bool.{Bool}
use mathlib.Core.List.{List}
use Prim.Native.Nat.{ℕ}
use lib.Ieee.{Float}
use Rattle.steps.specs.Page.{nodes_in}
use Rattle.steps.specs.Scan.{lowest}
use Rattle.tables.proofs.ScanLaws.{lowest-at, at-lowest, lowest-nowhere, nowhere-lowest}
use Rattle.tables.proofs.Exactly.{Exactly}
use Rattle.edges.specs.Tests.{laid_tested, LaidSound, LaidDue}
use Rattle.edges.proofs.Exact.{laid-due, laid-gives}
use Rattle.coarse.specs.Coarse.{by_edge, far_at, after_tests, coarse_misfit, coarse_answer}
use Rattle.coarse.specs.Due.{CoarseDue}

module _ (bad : Bool) (ws : List ℕ) (rs : List Float) (ms : List ℕ) where
  by-edge : LaidSound bad ws ms → (f : Option NodeId) → lowest (far_at ws rs ms) (nodes_in ws) ≡ f → CoarseDue bad ws rs ms (by_edge f)
  unfolding by_edge
  by-edge l (Some i) e = (l, lowest-at (far_at ws rs ms) (nodes_in ws) i.0 e)
  by-edge l None e = (l, lowest-nowhere (far_at ws rs ms) (nodes_in ws) e)

  after : (t : Result ⊤ Refusal) → LaidDue bad ws ms t → CoarseDue bad ws rs ms (after_tests t (by_edge (lowest (far_at ws rs ms) (nodes_in ws))))
  unfolding after_tests
  after (Ok _) h = by-edge h (lowest (far_at ws rs ms) (nodes_in ws)) refl
  after (Err a) h = h

  gives : (a : Result ⊤ CoarseRefusal) → CoarseDue bad ws rs ms a → after_tests (laid_tested bad ws ms) (by_edge (lowest (far_at ws rs ms) (nodes_in ws))) ≡ a
  unfolding after_tests by_edge
  gives (Ok _) h = rw (laid-gives bad ws ms (Ok tt) h.0, nowhere-lowest (far_at ws rs ms) (nodes_in ws) h.1)
  gives (Err (Plain a)) h = rw (laid-gives bad ws ms (Err a) h)
  gives (Err (TooFar i)) h = rw (laid-gives bad ws ms (Ok tt) h.0, at-lowest (far_at ws rs ms) (nodes_in ws) i.0 h.1)

pub coarse_exactly : (ws : List ℕ) (rs : List Float) (ms : List ℕ) (out : ℕ) (a : Result ⊤ CoarseRefusal) → Exactly (coarse_answer ws rs ms out ≡ a) (CoarseDue (coarse_misfit ws rs ms out) ws rs ms a)
unfolding coarse_answer
coarse_exactly ws rs ms out a =
    let bad = coarse_misfit ws rs ms out in
    record { only = λ e. subst (CoarseDue bad ws rs ms) e (after bad ws rs ms (laid_tested bad ws ms) (laid-due bad ws ms)); given = gives bad ws rs ms a }
