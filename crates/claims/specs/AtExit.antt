-- Demand 3 of the public functions: what their contracts promise at exit, put together.
use Rattle.steps.specs.declared.Refusal.{Refusal}
use Rattle.std.specs.Prelude.{◌≡◌, refl, List, ℕ, ◌<◌, Float, Result, Ok}
use Rattle.std.proofs.Common.{sym, ap, ◌∙◌}
use Rattle.steps.specs.Page.{nodes_in}
use Rattle.steps.specs.Noes.{relayout_tested}
use Rattle.steps.specs.Results.{Reply, relayout_result}
use Rattle.steps.specs.declared.LayoutInput.{LayoutInput}
use Rattle.laws.specs.Tables.{SameShape, AgreeAt, below_at}
use Rattle.layout.specs.Public.{Replied}
use Rattle.claims.specs.Claims.{relayouts_agree}

-- two calls end alike: answer and every lent word
pub record Alike (a b : Result ℕ Refusal) (rs rs' : List Float) (ms ms' cw cw' : List ℕ) (cx cx' : List Float) : Type 0 where
  pub answers : a ≡ b
  pub rows : rs ≡ rs'
  pub marks : ms ≡ ms'
  pub words : cw ≡ cw'
  pub numbers : cx ≡ cx'

pub one_reply : (r s : Reply) (a b : Result ℕ Refusal) (rs rs' : List Float) (ms ms' cw cw' : List ℕ) (cx cx' : List Float) → r ≡ s → Replied r a rs ms cw cx → Replied s b rs' ms' cw' cx' → Alike a b rs rs' ms ms' cw cw' cx cx'
one_reply r s a b rs rs' ms ms' cw cw' cx cx' e x y =
    record {
      answers = x.answer_is ∙ ap (λ (z : Reply). z.answer) e ∙ sym y.answer_is;
      rows = x.rows_are ∙ ap (λ (z : Reply). z.rows) e ∙ sym y.rows_are;
      marks = x.marks_are ∙ ap (λ (z : Reply). z.marks) e ∙ sym y.marks_are;
      words = x.words_are ∙ ap (λ (z : Reply). z.words) e ∙ sym y.words_are;
      numbers = x.numbers_are ∙ ap (λ (z : Reply). z.numbers) e ∙ sym y.numbers_are;
    }

-- one outcome: what is lent settles the answer and every lent word
pub one_outcome : (r : Reply) (a b : Result ℕ Refusal) (rs rs' : List Float) (ms ms' cw cw' : List ℕ) (cx cx' : List Float) → Replied r a rs ms cw cx → Replied r b rs' ms' cw' cx' → Alike a b rs rs' ms ms' cw cw' cx cx'
one_outcome r a b rs rs' ms ms' cw cw' cx cx' x y = one_reply r r a b rs rs' ms ms' cw cw' cx cx' refl x y

-- `relayout` of two pages that differ only below kept nodes: they end alike
pub relayouts_end_alike : (ws : List ℕ) (xs : List Float) (ws' : List ℕ) (xs' : List Float) (rs : List Float) (ms cw : List ℕ) (cx : List Float) (es : List ℕ) (q : LayoutInput) (a b : Result ℕ Refusal) (r1 r2 : List Float) (m1 m2 w1 w2 : List ℕ) (x1 x2 : List Float) → SameShape ws ws'
    → ((i : ℕ) → i < nodes_in ws → AgreeAt ws xs ws' xs' (below_at ws xs rs ms es q i) i) → relayout_tested ws xs rs ms cw cx es q ≡ Ok tt → relayout_tested ws' xs' rs ms cw cx es q ≡ Ok tt
    → Replied (relayout_result ws xs rs ms cw cx es q) a r1 m1 w1 x1 → Replied (relayout_result ws' xs' rs ms cw cx es q) b r2 m2 w2 x2 → Alike a b r1 r2 m1 m2 w1 w2 x1 x2
relayouts_end_alike ws xs ws' xs' rs ms cw cx es q a b r1 r2 m1 m2 w1 w2 x1 x2 shape agree pass pass' x y =
    one_reply _ _ a b r1 r2 m1 m2 w1 w2 x1 x2 (relayouts_agree ws xs ws' xs' rs ms cw cx es q shape agree pass pass') x y
