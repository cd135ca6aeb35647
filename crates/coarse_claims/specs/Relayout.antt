-- After an accepted relayout the coarse panel shows what it would show of fresh rows.
use Rattle.steps.specs.declared.Refusal.{Refusal}
use Rattle.coarse.specs.declared.CoarseRefusal.{CoarseRefusal}
use Rattle.std.specs.Prelude.{◌≡◌, refl, List, ℕ, ℤ, Float, Result, Ok, ⊤}
use Rattle.std.proofs.Common.{sym, ap, ◌∙◌}
use Rattle.steps.specs.Noes.{relayout_tested}
use Rattle.steps.specs.Results.{layout_result, relayout_result}
use Rattle.steps.specs.declared.LayoutInput.{LayoutInput}
use Rattle.laws.specs.Tables.{SameShape, Named, Calls}
use Rattle.layout.specs.Public.{Replied}
use Rattle.claims.proofs.AtExit.{relayout_ends_as_layout}
use Rattle.coarse.specs.Coarse.{Panel, coarse_result, Coarsened}

-- two calls of coarse end alike: the answer and every number
pub record SamePanel (a b : Result ⊤ CoarseRefusal) (out out' : List ℤ) : Type 0 where
  pub answers : a ≡ b
  pub outs : out ≡ out'

pub one_panel : (x y : Panel) (a b : Result ⊤ CoarseRefusal) (out out' : List ℤ) → x ≡ y → Coarsened x a out → Coarsened y b out' → SamePanel a b out out'
one_panel x y a b out out' e h k =
    record {
      answers = h.answer_is ∙ ap (λ (z : Panel). z.answer) e ∙ sym k.answer_is;
      outs = h.out_is ∙ ap (λ (z : Panel). z.out) e ∙ sym k.out_is;
    }

-- one call has one outcome
pub one_outcome : (x : Panel) (a b : Result ⊤ CoarseRefusal) (out out' : List ℤ) → Coarsened x a out → Coarsened x b out' → SamePanel a b out out'
one_outcome x a b out out' h k = one_panel x x a b out out' refl h k

-- Rows that calls left, the same shape, every changed node named: what coarse gives of the rows that the relayout left is what it gives of the rows that a layout leaves.
pub coarse_after_relayout : (ws : List ℕ) (xs : List Float) (q : LayoutInput) (rs : List Float) (ms : List ℕ) (ws' : List ℕ) (xs' : List Float) (cw : List ℕ) (cx : List Float) (es : List ℕ) (p : LayoutInput) (a b : Result ℕ Refusal) (r1 r2 : List Float) (m1 m2 w1 w2 : List ℕ) (x1 x2 : List Float)
    → Calls ws xs q rs ms → SameShape ws ws' → Named es ws xs ws' xs' → relayout_tested ws' xs' rs ms cw cx es p ≡ Ok tt → Replied (relayout_result ws' xs' rs ms cw cx es p) a r1 m1 w1 x1 → Replied (layout_result ws' xs' rs ms cw cx p) b r2 m2 w2 x2
    → (lent : List ℤ) (i j : Result ⊤ CoarseRefusal) (o1 o2 : List ℤ) → Coarsened (coarse_result ws' r1 m1 lent) i o1 → Coarsened (coarse_result ws' r2 m2 lent) j o2 → SamePanel i j o1 o2
coarse_after_relayout ws xs q rs ms ws' xs' cw cx es p a b r1 r2 m1 m2 w1 w2 x1 x2 calls shape named pass x y lent i j o1 o2 h k =
    let s = relayout_ends_as_layout ws xs q rs ms ws' xs' cw cx es p a b r1 r2 m1 m2 w1 w2 x1 x2 calls shape named pass x y in
    let e : coarse_result ws' r1 m1 lent ≡ coarse_result ws' r2 m2 lent = ap (λ (r : List Float). coarse_result ws' r m1 lent) s.rows ∙ ap (λ (m : List ℕ). coarse_result ws' r2 m lent) s.marks in
    one_panel _ _ i j o1 o2 e h k
