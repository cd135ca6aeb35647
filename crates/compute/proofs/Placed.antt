-- One child of the stack, as its definition has it.
use Rattle.tree.specs.Tree.{Tree, root_t, on_root}
use Rattle.style.specs.Flow.{flow_of}
use Rattle.steps.specs.Stack.{item_of, question_to, place_of, stepped, line_of, edges_of, past_aside, past_hidden}
use Rattle.steps.specs.Row.{Row, hidden_row, aside_row, put_at}
use Rattle.steps.specs.Page.{Node}
use Rattle.steps.specs.Kept.{Laid, zeros_t}
use Rattle.steps.specs.Layout.{ask_t}
use Rattle.style.specs.declared.Flow.{Flow}
use Rattle.style.specs.declared.Flow.TheVariants.{Gone, Out, In}
use Rattle.steps.specs.declared.Frame.{Frame}
use Rattle.steps.specs.declared.Cursor.{Cursor}

-- the cursor past it, and its rows
pub record Placed : Type 0 where
  pub last : Cursor
  pub rows : Tree Row

unfoldable pub placed_in : Frame → Cursor → Tree Node → Laid → Placed
placed_in f c t a =
    record {
      last = stepped f c (item_of f (root_t t).site.style) a.out;
      rows = on_root (put_at (place_of f c (item_of f (root_t t).site.style) a.out) c.shown.0) a.rows;
    }

unfoldable pub placed_by : Flow → Frame → Cursor → Tree Node → Placed
placed_by Gone f c t = record { last = past_hidden c; rows = on_root (λ _. hidden_row c.count) (zeros_t t) }
placed_by Out f c t =
    record { last = past_aside c; rows = on_root (λ _. aside_row (edges_of f).start (line_of f c) (edges_of f).end c.shown.0) (zeros_t t) }
placed_by In f c t = placed_in f c t (ask_t t (question_to f (root_t t).site.style))

unfoldable pub placed_t : Frame → Cursor → Tree Node → Placed
placed_t f c t = placed_by (flow_of (root_t t).site.style) f c t
