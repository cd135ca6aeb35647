-- Each pair that `all` saw is of two equal numbers, so the lists are one.
use Rattle.std.proofs.Common.{◌≡◌, ℕ, ◌<◌, List, length, get_or, arith, rules}
use Rattle.std.specs.Float.{nan}
use Rattle.std.specs.Prelude.{Float}
use Rattle.std.specs.List.{AllWithin, zip}
use Rattle.std.proofs.lemmas.Iterator.{cases_from_all, YieldsList-from_slice, YieldsList-from_zip}
use Rattle.std.proofs.lemmas.Slice.Zip.{length-zip, get_or-zip}
use lib.Seq.{ext_get_or}
use Rattle.limits.specs.Same.{same_is}
use Rattle.same.proofs.numbers.Goals as goal

same_from_pairs : (xs ys : List Float) → length xs ≡ length ys → AllWithin (λ (p : Float × Float). p.0 ≡ p.1) (zip xs ys) 0 (length (zip xs ys)) → xs ≡ ys
same_from_pairs xs ys e h =
    let each : (k : ℕ) → k < length xs → get_or xs k nan ≡ get_or ys k nan = λ k below. let at = h k (nan, nan) (omega arith) (rw length-zip (omega arith)) in rw (get_or-zip xs ys k (nan, nan) below (omega arith)) at at in
    ext_get_or nan xs ys e each

pub returns-then-a-b : goal.returns-then-a-b
returns-then-a-b c e =
    let cases = cases_from_all c.all.new.self _ _ (λ (p : Float × Float). p.0 ≡ p.1) (λ p. Unit {0}) c.all.ensures.ran (YieldsList-from_zip (YieldsList-from_slice c.args.a.now cc) (YieldsList-from_slice c.args.b.now cc)) (λ x q k. search (rules, same_is)) (λ x q k. tt) in
    same_from_pairs c.args.a.now c.args.b.now c.if-a-b.true (rw e at cases)
