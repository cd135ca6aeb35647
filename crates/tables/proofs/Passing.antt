-- What it says of the tables that a test passes, or that all of them do.
use Rattle.steps.specs.declared.Refusal.TheVariants.{Lengths, Tree, Codes, Numbers}
use Rattle.steps.specs.declared.Refusal.{Refusal}
use Rattle.std.specs.Prelude.{Option, None, Some, Result, Ok, Err, ⊤}
use Rattle.tree.specs.declared.NodeId.{NodeId}
use mathlib.Core.Path.{◌≡◌, refl}
use mathlib.Core.Bool.{Bool, true, false, not, ◌||◌}
use mathlib.Core.List.{List}
use Prim.Native.Nat.{ℕ, ◌*◌, ◌<◌, ◌≤◌}
use native.Mathlib.Omega.{arith}
use lib.ListN.{length}
use lib.Dec.{eqb, ltb}
use lib.Ieee.{Float}
use borrow.Author.Tests.{ltb-false, eqb-false, eqb-true, not-false}
use Rattle.limits.specs.Bools.{or_left, or_right}
use Rattle.steps.specs.Scan.{lowest}
use Rattle.steps.specs.Page.{nodes_in}
use Rattle.steps.specs.Noes.{bad_tables, bad_rows, bad_tree, bad_style, bad_numbers, bad_question, refuse_if, and_then, at_fault, no2, no3, no4, no5, page_tested, layout_tested}
use Rattle.steps.specs.declared.LayoutInput.{LayoutInput}
use Rattle.tables.specs.TreeCheck.{GoodTable}
use Rattle.tables.specs.Early.{early_tested}

pub no_pass : {A : Type 0} {a : Refusal} → ◌≡◌ {A = Result ⊤ Refusal} (Err a) (Ok tt) → A
no_pass e =
    let z : ◌≡◌ {A = ℕ} 0 1 = cc in
    absurd (omega arith)

pub then_pass_1 : (a b : Result ⊤ Refusal) → and_then a b ≡ Ok tt → a ≡ Ok tt
unfolding and_then
then_pass_1 (Ok _) b e = refl
then_pass_1 (Err a) b e = e

pub then_pass_2 : (a b : Result ⊤ Refusal) → and_then a b ≡ Ok tt → b ≡ Ok tt
unfolding and_then
then_pass_2 (Ok _) b e = e
then_pass_2 (Err a) b e = no_pass e

pub fault_pass : (a : ℕ → Refusal) (f : Option NodeId) → at_fault a f ≡ Ok tt → f ≡ None
unfolding at_fault
fault_pass a None e = refl
fault_pass a (Some i) e = no_pass e

pub if_pass : (b : Bool) (a : Refusal) → refuse_if b a ≡ Ok tt → b ≡ false
if_pass true a e = no_pass e
if_pass false a e = refl

-- refusal 1 is not due
pub record Sized (ws : List ℕ) (xs : List Float) : Type 0 where
  pub some : 0 < nodes_in ws
  pub few : nodes_in ws ≤ 1024
  pub words : length ws ≡ 4 * nodes_in ws
  pub numbers : length xs ≡ 28 * nodes_in ws

pub sized : (ws : List ℕ) (xs : List Float) → bad_tables ws xs ≡ false → Sized ws xs
unfolding bad_tables
sized ws xs e =
    let a = or_right (eqb (nodes_in ws) 0) _ e in
    let b = or_right (ltb 1024 (nodes_in ws)) _ a in
    let n : (nodes_in ws ≡ 0) → ⊥ = eqb-false _ _ (or_left (eqb (nodes_in ws) 0) _ e) in
    record {
      some = omega arith;
      few = ltb-false _ _ (or_left (ltb 1024 (nodes_in ws)) _ a);
      words = eqb-true _ _ (not-false _ (or_left (not (eqb (length ws) (4 * nodes_in ws))) _ b));
      numbers = eqb-true _ _ (not-false _ (or_right (not (eqb (length ws) (4 * nodes_in ws))) _ b));
    }

-- 2 to 4 are not due
pub record PagePasses (ws : List ℕ) (xs : List Float) (q : LayoutInput) : Type 0 where
  pub tree : lowest (bad_tree ws) (nodes_in ws) ≡ None
  pub codes : lowest (bad_style ws xs) (nodes_in ws) ≡ None
  pub numbers : lowest (bad_numbers ws xs) (nodes_in ws) ≡ None
  pub question : bad_question q ≡ false

pub page_passes : (ws : List ℕ) (xs : List Float) (q : LayoutInput) → page_tested ws xs q ≡ Ok tt → PagePasses ws xs q
unfolding page_tested no2 no3 no4
page_passes ws xs q e =
    let a = then_pass_2 (no2 ws) (and_then (no3 ws xs) (no4 ws xs q)) e in
    let b = then_pass_2 (no3 ws xs) (no4 ws xs q) a in
    record {
      tree = fault_pass (λ i. Tree (record { 0 = i })) _ (then_pass_1 (no2 ws) (and_then (no3 ws xs) (no4 ws xs q)) e);
      codes = fault_pass (λ i. Codes (record { 0 = i })) _ (then_pass_1 (no3 ws xs) (no4 ws xs q) a);
      numbers = fault_pass Numbers _ (then_pass_1 (at_fault Numbers (lowest (bad_numbers ws xs) (nodes_in ws))) _ b);
      question = if_pass (bad_question q) (Numbers (nodes_in ws)) (then_pass_2 (at_fault Numbers (lowest (bad_numbers ws xs) (nodes_in ws))) _ b);
    }

pub good_table : (ws : List ℕ) (xs : List Float) (q : LayoutInput) → bad_tables ws xs ≡ false → page_tested ws xs q ≡ Ok tt → GoodTable ws
good_table ws xs q e p =
    let s = sized ws xs e in
    record { some = s.some; few = s.few; sound = (page_passes ws xs q p).tree }

-- ---- 1 to 4, and then 5
pub then_then : (a b c : Result ⊤ Refusal) → and_then a (and_then b c) ≡ and_then (and_then a b) c
unfolding and_then
then_then (Ok _) b c = refl
then_then (Err x) b c = refl

module _ (ws : List ℕ) (xs rs : List Float) (ms : List ℕ) where
  pub early-then : (cw : List ℕ) (cx : List Float) (q : LayoutInput) → layout_tested ws xs rs ms cw cx q ≡ and_then (early_tested ws xs rs ms q) (no5 ws xs cw cx)
  unfolding layout_tested early_tested
  early-then cw cx q = then_then _ _ _

  pub early-sized : (q : LayoutInput) → early_tested ws xs rs ms q ≡ Ok tt → bad_tables ws xs ≡ false
  unfolding early_tested
  early-sized q e = or_left (bad_tables ws xs) _ (if_pass (bad_tables ws xs || bad_rows ws rs ms) Lengths (then_pass_1 (refuse_if (bad_tables ws xs || bad_rows ws rs ms) Lengths) _ e))

  pub early-good : (q : LayoutInput) → early_tested ws xs rs ms q ≡ Ok tt → GoodTable ws
  unfolding early_tested
  early-good q e = good_table ws xs q (early-sized q e) (then_pass_2 (refuse_if (bad_tables ws xs || bad_rows ws rs ms) Lengths) _ e)
