-- The final pass: where every kept node's rows are those it would be laid out with, nothing shows that rows were kept.
use Rattle.std.specs.Prelude.{◌≡◌, refl, Bool, true, false, ℕ, Float}
use Rattle.std.proofs.Common.{sym, ap, ◌∙◌}
use Rattle.geometry.specs.Geometry.{zero_f}
use Rattle.geometry.specs.declared.Point.{Point}
use Rattle.style.specs.declared.Style.{Style}
use Rattle.tree.specs.Tree.{Tree, Forest, node, none, more, map_t, map_f, root_t, on_root}
use Rattle.tree.proofs.Laws.{map_t_node, map_f_none, map_f_more, root_t_node, root_t_map}
use Rattle.style.specs.Flow.{is_leaf, flow_of}
use Rattle.steps.specs.Stack.{start_of, question_to, item_of, place_of, stepped, past_aside, past_hidden}
use Rattle.steps.specs.Row.{is_laid, no_row, put_at}
use Rattle.steps.specs.Page.{Site, Node}
use Rattle.steps.specs.Kept.{Laid, kept, keep, zeros_t}
use Rattle.steps.specs.Layout.{Stacked, lay_t, lay_f, ask_t, leaf_laid, block_laid, skip, aside, place}
use Rattle.style.specs.declared.Flow.{Flow}
use Rattle.style.specs.declared.Flow.TheVariants.{Gone, Out, In}
use Rattle.steps.specs.declared.LayoutInput.{LayoutInput}
use Rattle.steps.specs.declared.Frame.{Frame}
use Rattle.steps.specs.declared.Cursor.{Cursor}
use Rattle.steps.proofs.Clauses.{frame_at, style_t, lay_t_leaf, lay_t_block, lay_f_gone, lay_f_out, lay_f_in, ask_t_kept, ask_t_new}
use Rattle.steps.proofs.Zeros.{zeros_t_lem, zeros_f_lem, no_row_lem, unlaid_kept}
use Rattle.laws.specs.Trees.{AllT, AllF, kids_t, false_true}

-- a site without its edit mark; a node that keeps nothing
abbrev pub unmarked : Site → Site
unmarked s = record { node = s.node; style = s.style; edit = false }

abbrev pub bare_n : Node → Node
bare_n n = record { site = unmarked n.site; old = no_row; probe = n.probe; anew = false }

-- answers that differ in the place of the root's row alone
pub record Alike (a b : Laid) : Type 0 where
  pub same_out : a.out ≡ b.out
  pub same_rows : (p : Point Float) (order : ℕ) → on_root (put_at p order) a.rows ≡ on_root (put_at p order) b.rows

pub alike_same : (a b : Laid) → a ≡ b → Alike a b
alike_same a b e = record { same_out = ap (λ (l : Laid). l.out) e; same_rows = λ p o. ap (λ (l : Laid). on_root (put_at p o) l.rows) e }

-- a kept node's answer and rows are those that it would be laid out with, whatever its parent asks of it
unfoldable mutual
  pub SoundT : Tree Node → Type 0
  SoundT (node n ks) =
      ((f : Frame) → kept (node n ks) (question_to f n.site.style) ≡ true → Alike (keep (node n ks)) (lay_t (map_t bare_n (node n ks)) (question_to f n.site.style) zero_f)) × SoundF ks

  pub SoundF : Forest Node → Type 0
  SoundF none = Unit {0}
  SoundF (more t ts) = SoundT t × SoundF ts

kept_bare : (t : Tree Node) (q : LayoutInput) → kept (map_t bare_n t) q ≡ false
kept_bare t q = unlaid_kept (map_t bare_n t) q (ap (λ (n : Node). is_laid n.old) (root_t_map bare_n t) ∙ no_row_lem)

pub ask_bare : (t : Tree Node) (q : LayoutInput) → ask_t (map_t bare_n t) q ≡ lay_t (map_t bare_n t) q zero_f
ask_bare t q = ask_t_new (map_t bare_n t) q (kept_bare t q)

pub style_bare : (t : Tree Node) → style_t (map_t bare_n t) ≡ style_t t
style_bare t = ap (λ (n : Node). n.site.style) (root_t_map bare_n t)

sound_root : (t : Tree Node) → SoundT t → (f : Frame) → kept t (question_to f (style_t t)) ≡ true → Alike (keep t) (lay_t (map_t bare_n t) (question_to f (style_t t)) zero_f)
unfolding SoundT root_t
sound_root (node n ks) h f e = h.0 f e

ask_alike : (t : Tree Node) (f : Frame) → SoundT t → lay_t t (question_to f (style_t t)) zero_f ≡ lay_t (map_t bare_n t) (question_to f (style_t t)) zero_f
    → Alike (ask_t t (question_to f (style_t t))) (lay_t (map_t bare_n t) (question_to f (style_t t)) zero_f)
ask_alike t f h e = go (kept t (question_to f (style_t t))) refl
  where
    go : (b : Bool) → kept t (question_to f (style_t t)) ≡ b → Alike (ask_t t (question_to f (style_t t))) (lay_t (map_t bare_n t) (question_to f (style_t t)) zero_f)
    go true q = rw (ask_t_kept t (question_to f (style_t t)) q) (sound_root t h f q)
    go false q = alike_same _ _ (ask_t_new t (question_to f (style_t t)) q ∙ e)

-- the same child, then the same rest
pub placed : (f : Frame) (c : Cursor) (s : Style) (a b : Laid) (g h : Cursor → Stacked) → Alike a b → ((d : Cursor) → g d ≡ h d) → place f c s a g ≡ place f c s b h
unfolding place
placed f c s a b g h e r = rw (e.same_out, e.same_rows (place_of f c (item_of f s) b.out) c.shown.0, r (stepped f c (item_of f s) b.out))

pub skipped : (c : Cursor) (t u : Tree Node) (g h : Cursor → Stacked) → zeros_t t ≡ zeros_t u → ((d : Cursor) → g d ≡ h d) → skip c t g ≡ skip c u h
unfolding skip
skipped c t u g h e r = rw (e, r (past_hidden c))

pub asides : (f : Frame) (c : Cursor) (t u : Tree Node) (g h : Cursor → Stacked) → zeros_t t ≡ zeros_t u → ((d : Cursor) → g d ≡ h d) → aside f c t g ≡ aside f c u h
unfolding aside
asides f c t u g h e r = rw (e, r (past_aside c))

pub leaf_bare : (n : Node) (ks : Forest Node) (q : LayoutInput) → leaf_laid n q ks ≡ leaf_laid (bare_n n) q (map_f bare_n ks)
unfolding leaf_laid
leaf_bare n ks q = rw (zeros_f_lem bare_n ks)

pub block_bare : (n : Node) (q : LayoutInput) (f : Frame) (s : Stacked) → block_laid n q f s ≡ block_laid (bare_n n) q f s
unfolding block_laid
block_bare n q f s = refl

node_again : (n : Node) (ks : Forest Node) (q : LayoutInput) (found : Float) → ((f : Frame) (c : Cursor) → lay_f ks f c ≡ lay_f (map_f bare_n ks) f c)
    → lay_t (node n ks) q found ≡ lay_t (map_t bare_n (node n ks)) q found
node_again n ks q found h = go (is_leaf n.site.style.kind) refl
  where
    go : (b : Bool) → is_leaf n.site.style.kind ≡ b → lay_t (node n ks) q found ≡ lay_t (map_t bare_n (node n ks)) q found
    go true e = lay_t_leaf n ks q found e ∙ leaf_bare n ks q ∙ sym (ap (λ (t : Tree Node). lay_t t q found) (map_t_node bare_n n ks) ∙ lay_t_leaf (bare_n n) (map_f bare_n ks) q found e)
    go false e =
        lay_t_block n ks q found e ∙ block_bare n q (frame_at n q found) _
        ∙ ap (block_laid (bare_n n) q (frame_at n q found)) (h (frame_at n q found) (start_of (frame_at n q found)))
        ∙ sym (ap (λ (t : Tree Node). lay_t t q found) (map_t_node bare_n n ks) ∙ lay_t_block (bare_n n) (map_f bare_n ks) q found e)

more_again : (t : Tree Node) (ts : Forest Node) (f : Frame) (c : Cursor) → Alike (ask_t t (question_to f (style_t t))) (lay_t (map_t bare_n t) (question_to f (style_t t)) zero_f)
    → ((d : Cursor) → lay_f ts f d ≡ lay_f (map_f bare_n ts) f d) → lay_f (more t ts) f c ≡ lay_f (map_f bare_n (more t ts)) f c
more_again t ts f c a h = rw (map_f_more bare_n t ts) (go (flow_of (style_t t)) refl)
  where
    same : {w : Flow} → flow_of (style_t t) ≡ w → flow_of (style_t (map_t bare_n t)) ≡ w
    same e = ap flow_of (style_bare t) ∙ e

    go : (w : Flow) → flow_of (style_t t) ≡ w → lay_f (more t ts) f c ≡ lay_f (more (map_t bare_n t) (map_f bare_n ts)) f c
    go Gone e = lay_f_gone t ts f c e ∙ skipped c _ _ _ _ (sym (zeros_t_lem bare_n t)) h ∙ sym (lay_f_gone _ _ f c (same e))
    go Out e = lay_f_out t ts f c e ∙ asides f c _ _ _ _ (sym (zeros_t_lem bare_n t)) h ∙ sym (lay_f_out _ _ f c (same e))
    go In e =
        lay_f_in t ts f c e ∙ placed f c (style_t t) _ _ _ _ a h
        ∙ ap (λ (l : Laid). place f c (style_t t) l (lay_f (map_f bare_n ts) f)) (sym (ask_bare t (question_to f (style_t t))))
        ∙ ap (λ (s : Style). place f c s (ask_t (map_t bare_n t) (question_to f s)) (lay_f (map_f bare_n ts) f)) (sym (style_bare t))
        ∙ sym (lay_f_in _ _ f c (same e))

mutual
  unfolding SoundT

  sound_t : (t : Tree Node) → SoundT t → (q : LayoutInput) (found : Float) → lay_t t q found ≡ lay_t (map_t bare_n t) q found
  sound_t (node n ks) g q found = node_again n ks q found (λ f c. again_f_lem ks g.1 f c)

  pub again_f_lem : (ts : Forest Node) → SoundF ts → (f : Frame) (c : Cursor) → lay_f ts f c ≡ lay_f (map_f bare_n ts) f c
  again_f_lem none g f c = ap (λ (us : Forest Node). lay_f us f c) (sym (map_f_none bare_n))
  again_f_lem (more t ts) g f c = more_again t ts f c (ask_alike t f g.0 (sound_t t g.0 (question_to f (style_t t)) zero_f)) (λ d. again_f_lem ts g.1 f d)

-- the root is never kept: its own old row does not matter
pub again_t_lem : (t : Tree Node) → SoundF (kids_t t) → (q : LayoutInput) (found : Float) → lay_t t q found ≡ lay_t (map_t bare_n t) q found
again_t_lem (node n ks) g q found = node_again n ks q found (λ f c. again_f_lem ks g f c)

-- rows that are not laid are sound
abbrev pub Unlaid : Node → Type 0
Unlaid n = is_laid n.old ≡ false

unlaid_here : (n : Node) (ks : Forest Node) → Unlaid n → (q : LayoutInput) → kept (node n ks) q ≡ false
unlaid_here n ks e q = unlaid_kept (node n ks) q (ap (λ (m : Node). is_laid m.old) (root_t_node n ks) ∙ e)

mutual
  unfolding SoundT AllT

  pub unlaid_t : (t : Tree Node) → AllT Unlaid t → SoundT t
  unlaid_t (node n ks) h = ((λ f e. false_true (kept (node n ks) (question_to f n.site.style)) (unlaid_here n ks h.0 (question_to f n.site.style)) e), unlaid_f ks h.1)

  pub unlaid_f : (ts : Forest Node) → AllF Unlaid ts → SoundF ts
  unlaid_f none h = tt
  unlaid_f (more t ts) h = (unlaid_t t h.0, unlaid_f ts h.1)
