-- A page whose leaves have no baseline, and what of a row, an answer and a cursor does not speak of one.
use Rattle.std.specs.Option.{option_or}
use Rattle.geometry.specs.declared.Size.{Size}
use Rattle.std.specs.Prelude.{◌≡◌, refl, Bool, true, false, cond, ℕ, ◌+◌, ◌*◌, ◌/◌, ◌%◌, Float, Option, None, Some}
use Rattle.geometry.specs.Geometry.{zero_f}
use Rattle.util.specs.Maybe.{add_opt}
use Rattle.length.specs.declared.AvailableSpace.{AvailableSpace}
use Rattle.length.specs.declared.AvailableSpace.TheVariants.{Definite, MinContent, MaxContent}
use Rattle.style.specs.Flow.{flow_of, is_leaf}
use Rattle.style.specs.declared.Flow.{Flow}
use Rattle.style.specs.declared.Flow.TheVariants.{Gone, Out, In}
use Rattle.style.specs.declared.Measure.{Measure}
use Rattle.style.specs.declared.Style.{Style}
use Rattle.steps.specs.Sizing.{box_size, sized_by, sizing_of, step_a, step_d, known_of, gutter, insets}
use Rattle.steps.specs.Width.{side_margins, outer_width, want_in, want_of, leaf_width}
use Rattle.steps.specs.Probe.{space_in, found_width}
use Rattle.steps.specs.Context.{new_context, plain_block}
use Rattle.steps.specs.Edges.{adjoins, own_end_of, step_i, frame_of}
use Rattle.steps.specs.Through.{hollow_box, leaf_output}
use Rattle.steps.specs.Stack.{item_of, child_input, question_to}
use Rattle.steps.specs.Baseline.{at_place, baseline_past, shifted, block_baseline}
use Rattle.steps.specs.Row.{Row}
use Rattle.steps.specs.declared.LayoutInput.{LayoutInput}
use Rattle.steps.specs.declared.LayoutOutput.{LayoutOutput}
use Rattle.steps.specs.declared.Frame.{Frame}
use Rattle.steps.specs.declared.BlockItem.{BlockItem}
use Rattle.steps.specs.declared.Cursor.{Cursor}
use Rattle.laws.specs.Restyled.{Unseen}

-- a leaf's table without a baseline, and a style with such a table
abbrev pub unlined_table : Measure → Measure
unlined_table m = record { least = m.least; most = m.most; height = m.height; baseline = None }

abbrev pub unlined : Style → Style
unlined s =
    record {
      kind = s.kind;
      content = s.content;
      rtl = s.rtl;
      position = s.position;
      overflow = s.overflow;
      align = s.align;
      safe = s.safe;
      contained = s.contained;
      size = s.size;
      min = s.min;
      max = s.max;
      margin = s.margin;
      padding = s.padding;
      border = s.border;
      inset = s.inset;
      ratio = s.ratio;
      scrollbar = s.scrollbar;
      measure = unlined_table s.measure;
    }

-- a row without number 15 and bit 9
abbrev pub unsaid : Row → Row
unsaid r =
    record {
      place = r.place;
      answer = record { size = r.answer.size; top = r.answer.top; bottom = r.answer.bottom; baseline = zero_f };
      asked = r.asked;
      probe = r.probe;
      order = r.order;
      bits = r.bits % 512 + 1024 * (r.bits / 1024);
    }

-- an answer and a cursor without a baseline
abbrev pub quiet : LayoutOutput → LayoutOutput
quiet o = record { size = o.size; top = o.top; bottom = o.bottom; through = o.through; baseline = None }

abbrev pub still : Cursor → Cursor
still c =
    record { y = c.y; strut = c.strut; top = c.top; first = c.first; allThrough = c.allThrough; baseline = None; shown = c.shown; count = c.count }

-- ---- no step but the baseline's own reads it
same_table : (m : Measure) (a : AvailableSpace) → leaf_width (unlined_table m) a ≡ leaf_width m a
unfolding leaf_width
same_table m (Definite x) = refl
same_table m MinContent = refl
same_table m MaxContent = refl

same_a : (s : Style) (b h : Option Float) → sizing_of (unlined s) b h ≡ sizing_of s b h
unfolding sizing_of sized_by box_size
same_a s b h = refl

pub same_flow : (s : Style) → flow_of (unlined s) ≡ flow_of s
unfolding flow_of
same_flow s = refl

want_in_lem : (f : Flow) (s : Style) (a : AvailableSpace) → want_in f (unlined s) a ≡ want_in f s a
unfolding want_in side_margins step_a sizing_of sized_by box_size
want_in_lem Gone s a = refl
want_in_lem Out s a = refl
want_in_lem In s a = refl

same_want : (s : Style) (a : AvailableSpace) → want_of (unlined s) a ≡ want_of s a
unfolding want_of
same_want s a = rw (same_flow s) (want_in_lem (flow_of s) s a)

same_outer : (s : Style) (a : AvailableSpace) (w : Float) → outer_width (unlined s) a w ≡ outer_width s a w
unfolding outer_width side_margins step_a sizing_of sized_by box_size
same_outer s a w = refl

same_space : (s : Style) (p : Option Float) (a : AvailableSpace) → space_in (unlined s) p a ≡ space_in s p a
unfolding space_in insets gutter step_a sizing_of sized_by box_size
same_space s p a = refl

same_found : (s : Style) (p : Option Float) (m : Float) → found_width (unlined s) p m ≡ found_width s p m
unfolding found_width insets gutter step_a sizing_of sized_by box_size
same_found s p m = refl

same_known : (s : Style) (p : Option Float) (k : Size (Option Float)) → known_of (unlined s) (step_a (unlined s) p) k ≡ known_of s (step_a s p) k
unfolding known_of step_d step_a sizing_of sized_by box_size
same_known s p k = refl

pub unseen : Unseen unlined
unseen = record {
  leaf = λ s. refl;
  measure = λ s a. same_table s.measure a;
  want = same_want;
  outer = same_outer;
  space = same_space;
  found = same_found;
  known = same_known;
}

pub same_frame : (s : Style) (q : LayoutInput) (found : Float) → frame_of (unlined s) q found ≡ frame_of s q found
unfolding frame_of step_i known_of step_d insets gutter adjoins own_end_of hollow_box plain_block new_context flow_of sizing_of sized_by box_size
same_frame s q found = refl

pub same_item : (f : Frame) (s : Style) → item_of f (unlined s) ≡ item_of f s
unfolding item_of sizing_of sized_by box_size
same_item f s = refl

pub same_question : (f : Frame) (s : Style) → question_to f (unlined s) ≡ question_to f s
unfolding question_to child_input item_of plain_block new_context flow_of sizing_of sized_by box_size
same_question f s = refl

pub same_leaf : (m : Measure) (q : LayoutInput) → quiet (leaf_output m q) ≡ leaf_output (unlined_table m) q
unfolding leaf_output
same_leaf m q = rw (same_table m q.available)

-- where none was found none is passed out
pub none_past : (y : Float) → baseline_past None y None ≡ None
unfolding baseline_past at_place
none_past y = refl

shifted_none : (d : Option Float) → shifted None d ≡ None
unfolding shifted add_opt
shifted_none None = refl
shifted_none (Some d) = refl

pub none_out : (s : Style) (d : Option Float) → block_baseline s None d ≡ None
unfolding block_baseline
none_out s d = rw (shifted_none d) (go s.contained)
  where
    go : (b : Bool) → ◌≡◌ {A = Option Float} (cond b None None) None
    go true = refl
    go false = refl
