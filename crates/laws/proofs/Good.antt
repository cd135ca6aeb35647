-- The rows of a fresh layout are sound for a relayout of any later page with an honest edit list.
use Rattle.std.specs.Prelude.{◌≡◌, true, false, ℕ, Float, Option}
use Rattle.geometry.specs.Geometry.{zero_f}
use Rattle.geometry.specs.declared.Point.{Point}
use Rattle.limits.specs.Bools.{or_left, or_right}
use Rattle.tree.specs.Tree.{Tree, Forest, node, none, more, map_t, map_f, root_t}
use Rattle.steps.specs.Stack.{question_to}
use Rattle.steps.specs.Page.{any_t, any_f}
use Rattle.steps.specs.Kept.{kept, edited_node, keep}
use Rattle.steps.specs.Layout.{lay_t}
use Rattle.steps.specs.declared.LayoutInput.{LayoutInput}
use Rattle.steps.specs.declared.Frame.{Frame}
use Rattle.steps.specs.declared.Cursor.{Cursor}
use Rattle.laws.specs.Trees.{AllT, AllF}
use Rattle.laws.specs.Final.{Alike, SoundT, SoundF}
use Rattle.laws.specs.Bits.{final_is, row_small}
use Rattle.laws.specs.Pages.{LeavesT, LeavesF}
use Rattle.laws.specs.Along.{Full, RowsT, RowsF, own_row}
use Rattle.laws.specs.Fix.{now_f, was_f, old_words, again_n, after_n, site_f}
use Rattle.laws.proofs.Fix.{keep_alike}
use Rattle.laws.specs.Good.{HonestL, Same, clean_t, top_same, Rows, at_style, kept_parts, after_bare, none_sound, good_kids, good_more}

mutual
  unfolding AllT map_t any_t edited_node

  same_t : (t : Tree Full) → AllT HonestL t → any_t edited_node (map_t again_n t) ≡ false → AllT Same t
  same_t (node l ks) h e = (h.0 (or_left l.both.edit _ e), same_f_lem ks h.1 (or_right l.both.edit _ e))

  same_f_lem : (ts : Forest Full) → AllF HonestL ts → any_f edited_node (map_f again_n ts) ≡ false → AllF Same ts
  same_f_lem none h e = tt
  same_f_lem (more t ts) h e = (same_t t h.0 (or_left (any_t edited_node (map_t again_n t)) _ e), same_f_lem ts h.1 (or_right (any_t edited_node (map_t again_n t)) _ e))

sound_here : (l : Full) (ks : Forest Full) (g : Frame) (p : Point Float) (n : ℕ) → Rows (node l ks) was_f (question_to g (was_f l)) p n → AllT HonestL (node l ks) → LeavesT (map_t site_f (node l ks))
    → (f : Frame) → kept (map_t again_n (node l ks)) (question_to f (now_f l)) ≡ true → Alike (keep (map_t again_n (node l ks))) (lay_t (map_t after_n (node l ks)) (question_to f (now_f l)) zero_f)
sound_here l ks g p n e h v f k =
    let z = kept_parts l ks (question_to f (now_f l)) k in
    let s : AllT Same (node l ks) = same_t (node l ks) h z.0 in
    let e1 : Rows (node l ks) was_f (question_to g (now_f l)) p n = at_style _ _ g p n _ _ (top_same l ks s) e in
    let e2 : Rows (node l ks) now_f (question_to g (now_f l)) p n = rw (clean_t (node l ks) s) at e1 in
    let q : question_to f (now_f l) ≡ question_to g (now_f l) = final_is f g (now_f l) _ (old_words l) p n l.both.old (own_row now_f old_words l ks (question_to g (now_f l)) zero_f p n e2) (row_small l.both.old) z.1 in
    rw q (keep_alike l ks (question_to g (now_f l)) p n e2 v)

good_node : (l : Full) (ks : Forest Full) (g : Frame) (p : Point Float) (n : ℕ) → Rows (node l ks) was_f (question_to g (was_f l)) p n → AllT HonestL (node l ks) → LeavesT (map_t site_f (node l ks))
    → SoundF (map_f again_n ks) → SoundT (map_t again_n (node l ks))
unfolding SoundT map_t
good_node l ks g p n e h v s = ((λ f k. rw (after_bare l ks) (sound_here l ks g p n e h v f k)), s)

mutual
  unfolding AllT LeavesT map_t root_t

  good_t : (t : Tree Full) → AllT HonestL t → LeavesT (map_t site_f t) → (g : Frame) (p : Point Float) (n : ℕ) → Rows t was_f (question_to g (was_f (root_t t))) p n → SoundT (map_t again_n t)
  good_t (node l ks) h v g p n e = good_node l ks g p n e h v (good_kids l ks _ zero_f p n e (λ d f c r. good_f ks h.1 v.1 d f c r))

  pub good_f : (ts : Forest Full) → AllF HonestL ts → LeavesF (map_f site_f ts) → (d : Option Float) (f : Frame) (c : Cursor) → RowsF was_f old_words ts d f c → SoundF (map_f again_n ts)
  good_f none h v d f c e = none_sound
  good_f (more t ts) h v d f c e = good_more t ts d f c e (λ p n r. good_t t h.0 v.0 f p n r) (λ b r. good_f ts h.1 v.1 d f b r)

-- the page: the root itself is not kept
pub good_page : (l : Full) (ks : Forest Full) → AllT HonestL (node l ks) → LeavesT (map_t site_f (node l ks)) → (q : LayoutInput) (found : Float) (p : Point Float) (n : ℕ) → RowsT was_f old_words (node l ks) q found p n → SoundF (map_f again_n ks)
unfolding AllT LeavesT map_t
good_page l ks h v q found p n e = good_kids l ks q found p n e (λ d f c r. good_f ks h.1 v.1 d f c r)
