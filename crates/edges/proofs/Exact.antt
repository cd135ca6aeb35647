-- Each answer of the tests is given exactly if it is due.
use Rattle.steps.specs.declared.Refusal.TheVariants.{Lengths, Tree, Codes, Numbers, Room, Edits, NotLaid, TooLarge}
use Rattle.steps.specs.declared.Refusal.{Refusal}
use Rattle.std.specs.Prelude.{Option, None, Some, Result, Ok, Err, ⊤}
use Rattle.tree.specs.declared.NodeId.{NodeId}
use mathlib.Core.Path.{◌≡◌, refl}
use mathlib.Core.Bool.{Bool, true, false, not}
use mathlib.Core.List.{List}
use Prim.Native.Nat.{ℕ}
use lib.ListN.{get_or}
use Rattle.style.specs.Codes.{flag_at}
use Rattle.steps.specs.Scan.{lowest}
use Rattle.steps.specs.Page.{nodes_in}
use Rattle.steps.specs.Noes.{bad_tree, bad_codes, refuse_if, and_then, at_fault, no2, no3_by, no7}
use Rattle.tables.specs.Refusals.{Sound}
use Rattle.tables.proofs.ScanLaws.{lowest-at, lowest-nowhere}
use Rattle.tables.proofs.Exactly.{Exactly, settled, tree-fault, tree-pass, codes-fault, codes_pass}
use Rattle.edges.specs.Tests.{laid_tested, LaidDue}

module _ (bad : Bool) (ws ms : List ℕ) where
  abbrev Due : Result ⊤ Refusal → Type 0
  Due u = LaidDue bad ws ms u

  by-root : bad ≡ false → Sound (bad_tree ws) (nodes_in ws) → Sound (bad_codes ws) (nodes_in ws) → (b : Bool) → flag_at (get_or ms 1 0) 0 ≡ b → Due (refuse_if (not b) NotLaid)
  by-root m t c true e = record { lengths = m; tree = t; codes = c; root = e }
  by-root m t c false e = (m, t, c, e)

  by_codes : bad ≡ false → Sound (bad_tree ws) (nodes_in ws) → (f : Option NodeId) → lowest (bad_codes ws) (nodes_in ws) ≡ f → Due (and_then (at_fault (λ i. Codes (record { 0 = i })) f) (no7 ms))
  unfolding and_then at_fault no7
  by_codes m t (Some i) e = (m, t, lowest-at (bad_codes ws) (nodes_in ws) i.0 e)
  by_codes m t None e = by-root m t (lowest-nowhere (bad_codes ws) (nodes_in ws) e) (flag_at (get_or ms 1 0) 0) refl

  by-tree : bad ≡ false → (f : Option NodeId) → lowest (bad_tree ws) (nodes_in ws) ≡ f → Due (and_then (at_fault (λ i. Tree (record { 0 = i })) f) (and_then (no3_by (bad_codes ws) ws) (no7 ms)))
  unfolding and_then at_fault
  by-tree m (Some i) e = (m, lowest-at (bad_tree ws) (nodes_in ws) i.0 e)
  by-tree m None e = by_codes m (lowest-nowhere (bad_tree ws) (nodes_in ws) e) (lowest (bad_codes ws) (nodes_in ws)) refl

  by_lengths : (b : Bool) → bad ≡ b → Due (and_then (refuse_if b Lengths) (and_then (no2 ws) (and_then (no3_by (bad_codes ws) ws) (no7 ms))))
  unfolding and_then no2
  by_lengths true e = e
  by_lengths false e = by-tree e (lowest (bad_tree ws) (nodes_in ws)) refl

  pub laid-due : Due (laid_tested bad ws ms)
  unfolding laid_tested
  laid-due = by_lengths bad refl

  pub laid-gives : (u : Result ⊤ Refusal) → Due u → laid_tested bad ws ms ≡ u
  unfolding laid_tested and_then no7
  laid-gives (Ok _) h = rw (h.lengths, tree-pass ws h.tree, codes_pass ws (bad_codes ws) h.codes, h.root)
  laid-gives (Err Lengths) h = rw h
  laid-gives (Err (Tree i)) h = rw (h.0, tree-fault ws i h.1)
  laid-gives (Err (Codes i)) h = rw (h.0, tree-pass ws h.1, codes-fault ws (bad_codes ws) i h.2)
  laid-gives (Err NotLaid) h = rw (h.0, tree-pass ws h.1, codes_pass ws (bad_codes ws) h.2, h.3)
  laid-gives (Err (Numbers k)) h = absurd h
  laid-gives (Err Room) h = absurd h
  laid-gives (Err (Edits k)) h = absurd h
  laid-gives (Err (TooLarge i)) h = absurd h

  pub laid-exactly : (u : Result ⊤ Refusal) → Exactly (laid_tested bad ws ms ≡ u) (LaidDue bad ws ms u)
  laid-exactly = settled (laid_tested bad ws ms) Due laid-due laid-gives
