-- After an accepted relayout the index made again is the index made from fresh rows.
use Rattle.steps.specs.declared.Refusal.{Refusal}
use Rattle.index.specs.declared.IndexRefusal.{IndexRefusal}
use Rattle.std.specs.Prelude.{◌≡◌, refl, List, ℕ, Float, Result, Ok, ⊤}
use Rattle.std.proofs.Common.{sym, ap, ◌∙◌}
use Rattle.steps.specs.Noes.{relayout_tested}
use Rattle.steps.specs.Results.{layout_result, relayout_result}
use Rattle.steps.specs.declared.LayoutInput.{LayoutInput}
use Rattle.laws.specs.Tables.{SameShape, Named, Calls}
use Rattle.layout.specs.Public.{Replied}
use Rattle.claims.proofs.AtExit.{relayout_ends_as_layout}
use Rattle.index.specs.Index.{Index, index_result, Indexed}

-- two calls of make_index end alike: the answer and every entry
pub record SameIndex (a b : Result ⊤ IndexRefusal) (ts ts' bs bs' ls ls' : List Float) : Type 0 where
  pub answers : a ≡ b
  pub tops : ts ≡ ts'
  pub bottoms : bs ≡ bs'
  pub running : ls ≡ ls'

pub one_index : (x y : Index) (a b : Result ⊤ IndexRefusal) (ts ts' bs bs' ls ls' : List Float) → x ≡ y → Indexed x a ts bs ls → Indexed y b ts' bs' ls' → SameIndex a b ts ts' bs bs' ls ls'
one_index x y a b ts ts' bs bs' ls ls' e h k =
    record {
      answers = h.answer_is ∙ ap (λ (z : Index). z.answer) e ∙ sym k.answer_is;
      tops = h.tops_are ∙ ap (λ (z : Index). z.tops) e ∙ sym k.tops_are;
      bottoms = h.bottoms_are ∙ ap (λ (z : Index). z.bottoms) e ∙ sym k.bottoms_are;
      running = h.running_is ∙ ap (λ (z : Index). z.running) e ∙ sym k.running_is;
    }

-- one call has one outcome
pub one_outcome : (x : Index) (a b : Result ⊤ IndexRefusal) (ts ts' bs bs' ls ls' : List Float) → Indexed x a ts bs ls → Indexed x b ts' bs' ls' → SameIndex a b ts ts' bs bs' ls ls'
one_outcome x a b ts ts' bs bs' ls ls' h k = one_index x x a b ts ts' bs bs' ls ls' refl h k

-- Rows that calls left, the same shape, every changed node named: what make_index gives of the rows that the relayout left is what it gives of the rows that a layout leaves.
pub index_after_relayout : (ws : List ℕ) (xs : List Float) (q : LayoutInput) (rs : List Float) (ms : List ℕ) (ws' : List ℕ) (xs' : List Float) (cw : List ℕ) (cx : List Float) (es : List ℕ) (p : LayoutInput) (a b : Result ℕ Refusal) (r1 r2 : List Float) (m1 m2 w1 w2 : List ℕ) (x1 x2 : List Float)
    → Calls ws xs q rs ms → SameShape ws ws' → Named es ws xs ws' xs' → relayout_tested ws' xs' rs ms cw cx es p ≡ Ok tt → Replied (relayout_result ws' xs' rs ms cw cx es p) a r1 m1 w1 x1 → Replied (layout_result ws' xs' rs ms cw cx p) b r2 m2 w2 x2
    → (list : List ℕ) (ts bs ls : List Float) (i j : Result ⊤ IndexRefusal) (t1 t2 b1 b2 l1 l2 : List Float) → Indexed (index_result ws' r1 m1 list ts bs ls) i t1 b1 l1 → Indexed (index_result ws' r2 m2 list ts bs ls) j t2 b2 l2 → SameIndex i j t1 t2 b1 b2 l1 l2
index_after_relayout ws xs q rs ms ws' xs' cw cx es p a b r1 r2 m1 m2 w1 w2 x1 x2 calls shape named pass x y list ts bs ls i j t1 t2 b1 b2 l1 l2 h k =
    let s = relayout_ends_as_layout ws xs q rs ms ws' xs' cw cx es p a b r1 r2 m1 m2 w1 w2 x1 x2 calls shape named pass x y in
    let e : index_result ws' r1 m1 list ts bs ls ≡ index_result ws' r2 m2 list ts bs ls = ap (λ (r : List Float). index_result ws' r m1 list ts bs ls) s.rows ∙ ap (λ (m : List ℕ). index_result ws' r2 m list ts bs ls) s.marks in
    one_index _ _ i j t1 t2 b1 b2 l1 l2 e h k
