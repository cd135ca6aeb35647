-- Kept nodes: when an old answer stands, and what a kept row and the rows below it hold.
use Rattle.std.specs.Prelude.{Bool, true, false, cond, not, ◌&&◌, ℕ, ◌+◌, ◌*◌, ◌/◌, ◌%◌, Float, is_some}
use Rattle.std.specs.Bool.{beq}
use Rattle.limits.specs.Limits.{same_f}
use Rattle.util.specs.Maybe.{or_zero}
use Rattle.style.specs.Codes.{flag_at}
use Rattle.tree.specs.Tree.{Tree, Forest, node, none, more, map_t, map_f, root_t}
use Rattle.style.specs.Flow.{flow_of}
use Rattle.steps.specs.Row.{Row, ProbeWords, is_laid, no_row, hidden_row, aside_row, noted, with_code, output_in}
use Rattle.steps.specs.Page.{Node, any_t}
use Rattle.style.specs.declared.Flow.{Flow}
use Rattle.style.specs.declared.Flow.TheVariants.{Gone, Out, In}
use Rattle.steps.specs.declared.LayoutInput.{LayoutInput}
use Rattle.steps.specs.declared.LayoutOutput.{LayoutOutput}

-- a final question stands answered in a row: numbers 8-10, 14 and bits 3, 8 with the same bits, bit 0 set
unfoldable pub final_stands : LayoutInput → Row → Bool
final_stands q r =
    is_laid r
    && (same_f r.asked.width (or_zero q.known.width)
    && (same_f r.asked.height (or_zero q.known.height)
    && (beq (flag_at r.bits 3) (is_some q.known.height)
    && (same_f r.asked.parent (or_zero q.parent)
    && (same_f r.asked.basis (or_zero q.basis) && beq (flag_at r.bits 8) (is_some q.basis))))))

unfoldable pub edited_node : Node → Bool
edited_node l = l.site.edit

-- kept: no edit at or below, and every question put to it this time stands (a probe that was put anew did not)
unfoldable pub kept : Tree Node → LayoutInput → Bool
kept t q = not (any_t edited_node t) && (not (root_t t).anew && final_stands q (root_t t).old)

-- of a kept row the probe words are new (and x, y, order, once it is placed)
unfoldable pub kept_row : Node → Row
kept_row l = noted l.old l.probe (with_code l.old.bits l.probe.code)

-- below: bit 0 set, bit 2 clear
unfoldable pub laid_bits : ℕ → ℕ → ℕ
laid_bits b code = 1 + 2 * (b / 2 % 2) + 8 * (b / 8 % 2) + 16 * code + 256 * (b / 256)

unfoldable pub below_row : Node → Row
below_row l = noted l.old l.probe (laid_bits l.old.bits l.probe.code)

-- rows of zeros
unfoldable pub zeros_t : {A : Type 0} → Tree A → Tree Row
zeros_t t = map_t (λ _. no_row) t

unfoldable pub zeros_f : {A : Type 0} → Forest A → Forest Row
zeros_f ts = map_f (λ _. no_row) ts

-- Below a kept node kind and position fix bits 0 and 2 and what is zero; the rest comes from the rows.
unfoldable mutual
  pub fix_t : Tree Node → Tree Row
  fix_t (node l ks) =
      elim (flow_of l.site.style) [
        | Gone ↦ node (hidden_row l.old.order) (zeros_f ks)
        | Out ↦ node (aside_row l.old.place.x l.old.place.y l.old.answer.size.width l.old.order) (zeros_f ks)
        | In ↦ node (below_row l) (fix_f ks)
      ]

  pub fix_f : Forest Node → Forest Row
  fix_f none = none
  fix_f (more t ts) = more (fix_t t) (fix_f ts)

-- an answer and the rows of a subtree, its root at 0, 0 until it is placed
pub record Laid : Type 0 where
  pub out : LayoutOutput
  pub rows : Tree Row

-- the answer of a kept node is its row
unfoldable pub keep : Tree Node → Laid
keep (node l ks) = record { out = output_in l.old; rows = node (kept_row l) (fix_f ks) }
