use borrow.Author.Rules.{rules}
use mathlib.Core.Path.{◌≡◌, refl, sym, subst, ◌∙◌}
use mathlib.Core.Bool.{Bool, false, not}
use lib.Dec.{T}
use lib.Ieee.{Float, ne, is_nan}
use Rattle.limits.specs.Limits.{same_of}
use Rattle.limits.specs.Laws.{ne_self}
use Rattle.limits.specs.Same.{by_bits}
use Rattle.limits.proofs.same_bits.Goals as goal

-- what does not differ from itself is a number
number : (x : Float) → ne x x ≡ false → T (not (is_nan x))
number x e = subst (λ (b : Bool). T (not b)) (sym e ∙ ne_self x) tt

pub returns-then-a : goal.returns-then-a
unfolding same_of
returns-then-a c = rw (← by_bits c.args.a c.args.b (search rules) (search rules), ← ne_self c.args.a, c.if-a.true)

pub returns-then-b : goal.returns-then-b
unfolding same_of
returns-then-b c = rw (← by_bits c.args.a c.args.b (search rules) (search rules), ← ne_self c.args.a, c.if-a.false, ← ne_self c.args.b, c.if-b.true)

pub float_to_bits-result : goal.float_to_bits-result
float_to_bits-result c = number _ c.if-a.false

pub float_to_bits-result-2 : goal.float_to_bits-result-2
float_to_bits-result-2 c = number _ c.if-b.false

pub returns : goal.returns
unfolding same_of
returns c = rw (← by_bits c.args.a c.args.b (search rules) (search rules), ← ne_self c.args.a, c.if-a.false, ← ne_self c.args.b, c.if-b.false)
