-- What the stack leaves to steps L to N, of the frame that it was given and the cursor where it ended.
use Rattle.geometry.specs.Geometry.{down}
use Rattle.steps.specs.Height.{step_k}
use Rattle.steps.specs.declared.Frame.{Frame}
use Rattle.steps.specs.declared.Cursor.{Cursor}
use Rattle.heights.specs.declared.StackOutput.{StackOutput}

unfoldable pub stack_leaves : Frame → Cursor → StackOutput
stack_leaves f c =
    record {
      content = step_k f c;
      top = c.top;
      bottom = c.strut;
      allThrough = c.allThrough;
      baseline = c.baseline;
      width = f.width;
      height = f.height;
      insets = down f.inset;
      floor = f.floor;
      minHeight = f.minHeight;
      maxHeight = f.maxHeight;
      ownStart = f.ownStart;
      ownEnd = f.ownEnd;
      hollow = f.hollow;
    }
