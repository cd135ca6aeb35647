-- Below a kept node: on the rows of a fresh layout of this page, what is fixed is what a layout with the new probe words gives.
use Rattle.std.specs.Prelude.{◌≡◌, ℕ, Option, Float}
use Rattle.std.proofs.Common.{sym, ◌∙◌}
use Rattle.std.proofs.Math.Path.{ap}
use Rattle.geometry.specs.Geometry.{zero_f}
use Rattle.geometry.specs.declared.Point.{Point}
use Rattle.tree.specs.Tree.{Tree, Forest, node, none, more, map_t, map_f, root_t, on_root}
use Rattle.tree.proofs.Laws.{map_t_node, on_root_node}
use Rattle.style.specs.Flow.{flow_of}
use Rattle.steps.specs.Row.{Row, laid_row, put_at, output_in}
use Rattle.steps.specs.Page.{Node}
use Rattle.steps.specs.Kept.{keep, fix_t, fix_f}
use Rattle.steps.specs.Layout.{lay_t}
use Rattle.style.specs.declared.Flow.TheVariants.{In}
use Rattle.steps.specs.declared.LayoutInput.{LayoutInput}
use Rattle.steps.specs.declared.Frame.{Frame}
use Rattle.steps.specs.declared.Cursor.{Cursor}
use Rattle.steps.proofs.Clauses.{keep_rows}
use Rattle.laws.specs.Trees.{kids_t}
use Rattle.laws.specs.Final.{Alike}
use Rattle.laws.specs.Bits.{kept_row_lem, out_row, row_small}
use Rattle.laws.specs.Pages.{LeavesT, LeavesF}
use Rattle.laws.specs.Along.{Full, RowsT, RowsF, own_row}
use Rattle.laws.specs.Fix.{now_f, old_words, again_n, site_f, seen_n, after_n, blind_t, FixedF, kids_fixed, root_after, fix_node, fixed_nothing, leaves_kids, keep_out, fix_more}

mutual
  unfolding LeavesT map_t root_t

  pub fix_t_lem : (t : Tree Full) → LeavesT (map_t site_f t) → (q : LayoutInput) (p : Point Float) (n : ℕ) → RowsT now_f old_words t q zero_f p n → flow_of (now_f (root_t t)) ≡ In
      → fix_t (map_t again_n t) ≡ on_root (put_at p n) (lay_t (map_t after_n t) q zero_f).rows
  fix_t_lem (node l ks) v q p n e w = fix_node l ks q zero_f p n e w (kids_fixed l ks q zero_f p n e v (λ d f c r. fix_f_lem ks v.1 d f c r))

  pub fix_f_lem : (ts : Forest Full) → LeavesF (map_f site_f ts) → (d : Option Float) (f : Frame) (c : Cursor) → RowsF now_f old_words ts d f c → FixedF ts d f c
  fix_f_lem none v d f c e = fixed_nothing d f c
  fix_f_lem (more t ts) v d f c e = fix_more t ts d f c e (λ q p n r w. fix_t_lem t v.0 q p n r w) (λ g r. fix_f_lem ts v.1 d f g r)

-- a kept node
pub keep_alike : (l : Full) (ks : Forest Full) (q : LayoutInput) (p : Point Float) (n : ℕ) → RowsT now_f old_words (node l ks) q zero_f p n → LeavesT (map_t site_f (node l ks))
    → Alike (keep (map_t again_n (node l ks))) (lay_t (map_t after_n (node l ks)) q zero_f)
keep_alike l ks q p n e v = record {
  same_out = ap (λ (t : Tree Node). (keep t).out) (map_t_node again_n l ks) ∙ kept_out ∙ blind_t (node l ks) q zero_f;
  same_rows = λ y m. ap (λ (t : Tree Node). on_root (put_at y m) (keep t).rows) (map_t_node again_n l ks) ∙ kept-rows y m;
}
  where
    own : l.both.old ≡ put_at p n (laid_row q (lay_t (map_t seen_n (node l ks)) q zero_f).out (old_words l))
    own = own_row now_f old_words l ks q zero_f p n e

    kept_out : (keep (node (again_n l) (map_f again_n ks))).out ≡ (lay_t (map_t seen_n (node l ks)) q zero_f).out
    kept_out = keep_out (again_n l) (map_f again_n ks) ∙ ap output_in own ∙ out_row q _ (old_words l) p n (row_small l.both.old)

    kids : fix_f (map_f again_n ks) ≡ kids_t (lay_t (node (after_n l) (map_f after_n ks)) q zero_f).rows
    kids = kids_fixed l ks q zero_f p n e v (λ d f c r. fix_f_lem ks (leaves_kids l ks v) d f c r)

    kept-rows : (y : Point Float) (m : ℕ) → on_root (put_at y m) (keep (node (again_n l) (map_f again_n ks))).rows ≡ on_root (put_at y m) (lay_t (map_t after_n (node l ks)) q zero_f).rows
    kept-rows y m =
        ap (on_root (put_at y m)) (keep_rows (again_n l) (map_f again_n ks)) ∙ on_root_node (put_at y m) _ _
        ∙ ap (λ (r : Row). node r (fix_f (map_f again_n ks))) (kept_row_lem (again_n l) (old_words l) q _ p y n m own (row_small l.both.old))
        ∙ ap (node (put_at y m (laid_row q (lay_t (map_t seen_n (node l ks)) q zero_f).out l.probe))) kids
        ∙ sym (ap (on_root (put_at y m)) (root_after l ks q zero_f) ∙ on_root_node (put_at y m) _ _)
