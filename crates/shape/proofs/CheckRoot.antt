-- The root's test, and the whole table from its root's and its children's.
use Rattle.std.specs.Prelude.{Option, None, Some}
use Rattle.tree.specs.declared.NodeId.{NodeId}
use mathlib.Core.Path.{◌≡◌, refl, sym, ap, ◌∙◌}
use mathlib.Core.Bool.{Bool, true, false, not, ◌&&◌, ◌||◌}
use mathlib.Core.List.{List}
use Prim.Native.Nat.{ℕ, suc, ◌+◌, ◌*◌, ◌-◌}
use native.Mathlib.Omega.{arith}
use lib.ListN.{take, drop}
use lib.Dec.{eqb, ltb}
use borrow.Author.Tests.{eq-eqb, ne_eqb, eqb-true, not-false}
use Rattle.limits.specs.Bools.{or_left, or_right}
use Rattle.style.specs.Codes.{code_at}
use Rattle.style.specs.Style.{word_at}
use Rattle.steps.specs.Scan.{scan, at_node, lowest, some, how_many}
use Rattle.steps.specs.Page.{nodes_in}
use Rattle.steps.specs.Noes.{end_at, holds, bad_tree}
use Rattle.shape.specs.TreeCheck.{PartOf, CheckedPart}
use Rattle.scans.specs.Scans.{next-yes, next-no, none_left}
use Rattle.shape.proofs.Counting.{count_none}
use Rattle.shape.proofs.Fronts.{below_root}
use Rattle.shape.proofs.Parts.{part-nodes, part_of}

or_false : (b : Bool) → (b || false) ≡ b
or_false true = refl
or_false false = refl

or_true : (b : Bool) → (b || true) ≡ true
or_true true = refl
or_true false = refl

module _ (ws : List ℕ) where
  -- no node stands before the root
  pub root-test : bad_tree ws 0 ≡ (not (eqb (word_at ws 0 0) (nodes_in ws)) || (eqb (word_at ws 0 0) 0 || (eqb (code_at (word_at ws 0 1) 0) 1 && ltb 1 (word_at ws 0 0))))
  unfolding bad_tree
  root-test =
      let a : some (λ j. holds ws 0 j && ltb (end_at ws j) (end_at ws 0)) 0 ≡ false = none_left (λ j. holds ws 0 j && ltb (end_at ws j) (end_at ws 0)) (λ _. true) false 0 in
      let b : how_many (holds ws 0) 0 ≡ 0 = count_none (holds ws 0) in
      rw (a, b, or_false (eqb (code_at (word_at ws 0 1) 0) 1 && ltb 1 (word_at ws 0 0)))

  pub check-none : nodes_in ws ≡ 0 → None ≡ lowest (bad_tree ws) (nodes_in ws)
  check-none e = rw e (sym (none_left (bad_tree ws) at_node None 0))

  at-root : (nodes_in ws ≡ 0 → ⊥) → bad_tree ws 0 ≡ true → Some (record { 0 = 0 }) ≡ lowest (bad_tree ws) (nodes_in ws)
  at-root some e =
      let q : nodes_in ws ≡ suc (nodes_in ws - 1) = omega arith in
      rw q (sym (next-yes (bad_tree ws) at_node None 0 (nodes_in ws - 1) e))

  pub root_size_lem : (nodes_in ws ≡ 0 → ⊥) → (word_at ws 0 0 ≡ nodes_in ws → ⊥) → Some (record { 0 = 0 }) ≡ lowest (bad_tree ws) (nodes_in ws)
  root_size_lem some e = at-root some (root-test ∙ rw (ne_eqb _ _ e))

  pub root-leaf : (nodes_in ws ≡ 0 → ⊥) → (eqb (code_at (word_at ws 0 1) 0) 1 && ltb 1 (word_at ws 0 0)) ≡ true → Some (record { 0 = 0 }) ≡ lowest (bad_tree ws) (nodes_in ws)
  root-leaf some e = at-root some (root-test ∙ rw (e, or_true (eqb (word_at ws 0 0) 0), or_true (not (eqb (word_at ws 0 0) (nodes_in ws)))))

  pub root-whole : bad_tree ws 0 ≡ false → word_at ws 0 0 ≡ nodes_in ws
  root-whole e = eqb-true _ _ (not-false _ (or_left (not (eqb (word_at ws 0 0) (nodes_in ws))) _ (sym root-test ∙ e)))

  pub root-no-leaf : bad_tree ws 0 ≡ false → (eqb (code_at (word_at ws 0 1) 0) 1 && ltb 1 (word_at ws 0 0)) ≡ false
  root-no-leaf e = or_right (eqb (word_at ws 0 0) 0) _ (or_right (not (eqb (word_at ws 0 0) (nodes_in ws))) _ (sym root-test ∙ e))

  module _ (some : nodes_in ws ≡ 0 → ⊥) (whole : word_at ws 0 0 ≡ nodes_in ws) where
    pub root-fine : (eqb (code_at (word_at ws 0 1) 0) 1 && ltb 1 (word_at ws 0 0)) ≡ false → bad_tree ws 0 ≡ false
    root-fine e = root-test ∙ rw (eq-eqb _ _ whole, ne_eqb (word_at ws 0 0) 0 (λ q. some (sym whole ∙ q)), e)

    -- the part below the root
    abbrev rest : List ℕ
    rest = take (4 * nodes_in ws - 4) (drop 4 ws)

    pub rest-nodes : nodes_in rest ≡ nodes_in ws - 1
    rest-nodes = part-nodes ws 1 (nodes_in ws) (omega arith) (omega arith)

    itself : PartOf ws 0 ws
    itself k m h g =
        let q : 0 + k ≡ k = omega arith in
        ap (λ (x : ℕ). word_at ws x m) (sym q)

    pub root-rest : (eqb (code_at (word_at ws 0 1) 0) 1 && ltb 1 (word_at ws 0 0)) ≡ false → (r : Option NodeId) → CheckedPart rest 1 31 r → r ≡ lowest (bad_tree ws) (nodes_in ws)
    root-rest e r answer =
        let q : nodes_in ws ≡ suc (nodes_in ws - 1) = omega arith in
        let n = rest-nodes in
        let z : 1 + nodes_in rest ≡ nodes_in ws = omega arith in
        let a : r ≡ scan (bad_tree ws) at_node None 1 (nodes_in rest) = answer ws (part_of ws 1 (nodes_in ws) (omega arith) (omega arith) ws 0 itself) (rw z (below_root ws (nodes_in ws) whole (omega arith))) in
        a ∙ rw n (sym (ap (λ (k : ℕ). scan (bad_tree ws) at_node None 0 k) q ∙ next-no (bad_tree ws) at_node None 0 (nodes_in ws - 1) (root-fine e)))
