-- The rows of a fresh layout are sound for a relayout of any later page with an honest edit list.
use Rattle.std.specs.Prelude.{◌≡◌, refl, Bool, true, false, not, ℕ, Float, Option}
use Rattle.std.proofs.Common.{sym, ap, ◌∙◌}
use Rattle.geometry.specs.Geometry.{zero_f}
use Rattle.geometry.specs.declared.Point.{Point}
use Rattle.limits.specs.Bools.{and_fst, and_snd}
use Rattle.style.specs.declared.Style.{Style}
use Rattle.tree.specs.Tree.{Tree, Forest, node, none, more, map_t, map_f, root_t, on_root}
use Rattle.tree.proofs.Laws.{map_t_node, map_f_more, map_map_t}
use Rattle.style.specs.Flow.{is_leaf, flow_of}
use Rattle.steps.specs.Stack.{question_to}
use Rattle.steps.specs.Row.{Row, is_laid, no_row, put_at}
use Rattle.steps.specs.Page.{Node, any_t}
use Rattle.steps.specs.Kept.{kept, edited_node, final_stands, zeros_t, zeros_f}
use Rattle.steps.specs.Layout.{lay_t}
use Rattle.style.specs.declared.Flow.{Flow}
use Rattle.style.specs.declared.Flow.TheVariants.{Gone, Out, In}
use Rattle.steps.specs.declared.LayoutInput.{LayoutInput}
use Rattle.steps.specs.declared.Frame.{Frame}
use Rattle.steps.specs.declared.Cursor.{Cursor}
use Rattle.steps.proofs.Zeros.{no_row_lem}
use Rattle.laws.specs.Trees.{AllT, AllF, all-any-F, all-map-T, all-map-F, all-back-T, all-back-F, not_true}
use Rattle.laws.specs.Final.{bare_n, SoundT, SoundF, Unlaid, unlaid_t, unlaid_f}
use Rattle.laws.specs.Bits.{hidden_row_lem, aside_row_lem}
use Rattle.laws.specs.Pages.{site_by, Honest}
use Rattle.laws.specs.Along.{Full, old_f, view_n, RowsT, RowsF, down, down-leaf, along-gone, along-out, along-in}
use Rattle.laws.specs.Fix.{now_f, was_f, old_words, again_n, after_n, seen_n}

abbrev pub HonestL : Full → Type 0
HonestL l = Honest l.both

-- no edit at or below: this part of the page is as it was
abbrev pub Same : Full → Type 0
Same l = was_f l ≡ now_f l

abbrev pub before_n : Full → Node
before_n = view_n was_f old_words

same_view : (l : Full) → Same l → before_n l ≡ seen_n l
same_view l e = ap (λ (s : Style). record { site = site_by l.both.node s; old = no_row; probe = old_words l; anew = false }) e

mutual
  unfolding AllT map_t

  pub clean_t : (t : Tree Full) → AllT Same t → map_t before_n t ≡ map_t seen_n t
  clean_t (node l ks) h = rw (same_view l h.0, clean_f ks h.1)

  clean_f : (ts : Forest Full) → AllF Same ts → map_f before_n ts ≡ map_f seen_n ts
  clean_f none h = refl
  clean_f (more t ts) h = rw (clean_t t h.0, clean_f ts h.1)

-- a node that was laid
pub top_same : (l : Full) (ks : Forest Full) → AllT Same (node l ks) → was_f l ≡ now_f l
unfolding AllT
top_same l ks h = h.0

abbrev pub Rows : Tree Full → (Full → Style) → LayoutInput → Point Float → ℕ → Type 0
Rows t st q p n = RowsT st old_words t q zero_f p n

pub at_style : (m : Tree Row) (u : Tree Node) (g : Frame) (p : Point Float) (n : ℕ) (s z : Style) → s ≡ z → m ≡ on_root (put_at p n) (lay_t u (question_to g s) zero_f).rows → m ≡ on_root (put_at p n) (lay_t u (question_to g z) zero_f).rows
at_style m u g p n s z d e = rw d at e

pub kept_parts : (l : Full) (ks : Forest Full) (q : LayoutInput) → kept (map_t again_n (node l ks)) q ≡ true → (any_t edited_node (map_t again_n (node l ks)) ≡ false) × (final_stands q l.both.old ≡ true)
unfolding kept root_t map_t
kept_parts l ks q k =
    let a = not_true _ (and_fst (not (any_t edited_node (map_t again_n (node l ks)))) _ k) in
    (a, and_snd (not l.anew) _ (and_snd (not (any_t edited_node (map_t again_n (node l ks)))) _ k))

-- rows that are not laid
abbrev pub Off : Row → Type 0
Off r = is_laid r ≡ false

pub off_zeros_f : {A : Type 0} (ts : Forest A) → AllF Off (zeros_f ts)
unfolding zeros_f
off_zeros_f {A} ts = all-back-F (λ (_ : A). no_row) Off ts (all-any-F (λ (_ : A). Off no_row) (λ _. no_row_lem) ts)

off_zeros : (r : Row) → Off r → (t : Tree Full) → AllT Off (on_root (λ _. r) (zeros_t t))
unfolding AllT on_root zeros_t zeros_f map_t
off_zeros r h (node l ks) = (h, off_zeros_f ks)

off_sound_t : (t : Tree Full) (u : Tree Row) → map_t old_f t ≡ u → AllT Off u → SoundT (map_t again_n t)
off_sound_t t u e h =
    let z : AllT Off (map_t old_f t) = rw e h in
    unlaid_t _ (all-back-T again_n Unlaid t (all-map-T old_f Off t z))

off_sound_f : (ts : Forest Full) → map_f old_f ts ≡ zeros_f ts → SoundF (map_f again_n ts)
off_sound_f ts e =
    let z : AllF Off (map_f old_f ts) = rw e (off_zeros_f ts) in
    unlaid_f _ (all-back-F again_n Unlaid ts (all-map-F old_f Off ts z))

-- what is kept nowhere, and the after page
pub after_bare : (l : Full) (ks : Forest Full) → map_t bare_n (node (again_n l) (map_f again_n ks)) ≡ map_t after_n (node l ks)
after_bare l ks = ap (map_t bare_n) (sym (map_t_node again_n l ks)) ∙ map_map_t bare_n again_n (node l ks)

both_sound : (t : Tree Node) (ts : Forest Node) → SoundT t → SoundF ts → SoundF (more t ts)
unfolding SoundF
both_sound t ts a b = (a, b)

pub none_sound : SoundF (map_f again_n none)
unfolding SoundF map_f
none_sound = tt

-- down and along
pub good_kids : (l : Full) (ks : Forest Full) (q : LayoutInput) (found : Float) (p : Point Float) (n : ℕ) → RowsT was_f old_words (node l ks) q found p n
    → ((d : Option Float) (f : Frame) (c : Cursor) → RowsF was_f old_words ks d f c → SoundF (map_f again_n ks)) → SoundF (map_f again_n ks)
good_kids l ks q found p n e h = go (is_leaf (was_f l).kind) refl
  where
    go : (b : Bool) → is_leaf (was_f l).kind ≡ b → SoundF (map_f again_n ks)
    go true b = off_sound_f ks (down-leaf was_f old_words l ks q found p n e b)
    go false b = h _ _ _ (down was_f old_words l ks q found p n e b)

pub good_more : (t : Tree Full) (ts : Forest Full) (d : Option Float) (f : Frame) (c : Cursor) → RowsF was_f old_words (more t ts) d f c
    → ((p : Point Float) (n : ℕ) → Rows t was_f (question_to f (was_f (root_t t))) p n → SoundT (map_t again_n t)) → ((e : Cursor) → RowsF was_f old_words ts d f e → SoundF (map_f again_n ts))
    → SoundF (map_f again_n (more t ts))
good_more t ts d f c e ht hts = rw (map_f_more again_n t ts) (go (flow_of (was_f (root_t t))) refl)
  where
    go : (w : Flow) → flow_of (was_f (root_t t)) ≡ w → SoundF (more (map_t again_n t) (map_f again_n ts))
    go Gone w =
        let h = along-gone was_f old_words t ts d f c e w in
        both_sound _ _ (off_sound_t t _ h.rows (off_zeros _ (hidden_row_lem c.count) t)) (hts _ h.rest)
    go Out w =
        let h = along-out was_f old_words t ts d f c e w in
        both_sound _ _ (off_sound_t t _ h.rows (off_zeros _ (aside_row_lem _ _ _ c.shown.0) t)) (hts _ h.rest)
    go In w =
        let h = along-in was_f old_words t ts d f c e w in
        both_sound _ _ (ht _ _ h.rows) (hts _ h.rest)
