use mathlib.Core.Path.{◌≡◌, sym, subst, ◌∙◌}
use lib.Ieee.{Float}
use lib.IntN.{ℤ, ◌-ℤ◌}
use mir.Syntax.{w32}
use mir.Val.{SFits, to_z, of_z}
use mir.ValLaws.{to_z-of_z}
use borrow.Author.Rules.{rules}
use Rattle.pixel.specs.Pixel.{whole_pixel}
use Rattle.pixel.specs.Value.{Edge}
use Rattle.pixel.proofs.Value.{pixel_in}
use Rattle.pixel.proofs.Ranges.{sub_fits, read_back_lem}
use Rattle.pixel.proofs.pixels_between.Goals as goal

-- what the two calls gave, read back
both : (a b : Float) (m n : ℤ) → Edge a → Edge b → m ≡ whole_pixel a → n ≡ whole_pixel b → to_z w32 (of_z w32 n) -ℤ to_z w32 (of_z w32 m) ≡ whole_pixel b -ℤ whole_pixel a
both a b m n p q d e = rw (read_back_lem b n q e, read_back_lem a m p d)

fits : (a b : Float) → Edge a → Edge b → SFits w32 (whole_pixel b -ℤ whole_pixel a)
fits a b p q = sub_fits (whole_pixel b) (whole_pixel a) (pixel_in b q) (pixel_in a p)

pub overflow_sub-result : goal.overflow_sub-result
overflow_sub-result c =
    let p : Edge c.args.near = (search rules, c.requires.0) in
    let q : Edge c.args.far = (search rules, c.requires.1) in
    subst (λ (z : ℤ). SFits w32 z) (sym (both c.args.near c.args.far _ _ p q c.whole_pixel-a.ensures c.whole_pixel-b.ensures)) (fits c.args.near c.args.far p q)

pub returns : goal.returns
returns c =
    let p : Edge c.args.near = (search rules, c.requires.0) in
    let q : Edge c.args.far = (search rules, c.requires.1) in
    let e = both c.args.near c.args.far _ _ p q c.whole_pixel-a.ensures c.whole_pixel-b.ensures in
    to_z-of_z w32 _ (subst (λ (z : ℤ). SFits w32 z) (sym e) (fits c.args.near c.args.far p q)) ∙ e
