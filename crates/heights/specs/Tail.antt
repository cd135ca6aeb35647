-- What steps M and N ask of a style: read after the children are laid out, so that none is held.
use Rattle.length.specs.Length.{resolved_or_zero}
use Rattle.style.specs.declared.Style.{Style}
use Rattle.steps.specs.declared.LayoutInput.{LayoutInput}
use Rattle.heights.specs.declared.Tail.{Tail}

unfoldable pub tail_of : Style → LayoutInput → Tail
tail_of s q =
    record {
      align = s.align;
      safe = s.safe;
      contained = s.contained;
      top = resolved_or_zero s.margin.top q.parent;
      bottom = resolved_or_zero s.margin.bottom q.parent;
    }
