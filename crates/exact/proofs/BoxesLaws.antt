-- Steps A, B, D and E of a box of the profile are those over whole numbers. Assumes nothing.
use Rattle.style.specs.declared.Style.{Style}
use Rattle.steps.specs.Sizing.{gutter}
use Rattle.whole.specs.Range.{zero_is}
use Rattle.integers.specs.Boxes.{gutter_z}
use Rattle.profile.specs.Page.{InProfile}
use Rattle.exact.specs.Read.{style_z}
use Rattle.exact.specs.Boxes.{pixel_is, RectIs, bar_is, near_cond}

pub gutter_is : (s : Style) → InProfile s → RectIs (gutter s) (gutter_z (style_z s)) 0 1024 1024
unfolding gutter gutter_z style_z
gutter_is s p =
    let b = pixel_is s.scrollbar p.scrollbar in
    record {
      top = zero_is;
      right = near_cond s.rtl zero_is (bar_is s.overflow.y b);
      bottom = bar_is s.overflow.x b;
      left = near_cond s.rtl (bar_is s.overflow.y b) zero_is;
    }
