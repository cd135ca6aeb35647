use Rattle.std.proofs.Common.{◌≡◌, sym, ◌∙◌, refl, true, true≢false}
use Rattle.std.specs.Float.{binary32}
use Rattle.std.specs.Float.Ieee.{Float, nan, inf, fin, is_nan, to_bits}
use Rattle.text.proofs.bits_of.Goals as goal

nan_bits_of : (x : Float) → is_nan x ≡ true → 0x7fc0_0000 ≡ to_bits binary32 x
unfolding to_bits is_nan
nan_bits_of nan e = refl
nan_bits_of (inf s) e = absurd (true≢false (sym e))
nan_bits_of (fin s m k) e = absurd (true≢false (sym e))

pub returns-then-is_nan : goal.returns-then-is_nan
returns-then-is_nan c = nan_bits_of c.args.x (sym c.is_nan.ensures.value ∙ c.if-is_nan.true)
