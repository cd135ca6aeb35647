-- What a caller asks of a page, as the root is asked it: with a parent width, no height basis, and not below anything.
use Rattle.std.specs.Prelude.{false, None, Some}
use Rattle.steps.specs.declared.Question.{Question}
use Rattle.steps.specs.declared.LayoutInput.{LayoutInput}

unfoldable pub root_input : Question → LayoutInput
root_input q =
    record {
      known = q.known;
      parent = Some q.parent;
      basis = None;
      definiteHeight = q.definiteHeight;
      available = q.available;
      collapseStart = q.collapseStart;
      collapseEnd = q.collapseEnd;
      nested = false;
    }
