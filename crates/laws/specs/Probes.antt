-- The probe words of a fresh layout are true for a relayout of any later page with an honest edit list.
use Rattle.std.specs.Prelude.{◌≡◌, refl, Bool, true, false, not, Float, Option, None, Some}
use Rattle.std.proofs.Common.{sym, ap, ◌∙◌}
use Rattle.geometry.specs.Geometry.{zero_f}
use Rattle.limits.specs.Bools.{and_fst, and_snd}
use Rattle.length.specs.declared.AvailableSpace.{AvailableSpace}
use Rattle.style.specs.declared.Style.{Style}
use Rattle.tree.specs.Tree.{Tree, Forest, node, none, more, map_t, map_f, root_t}
use Rattle.tree.proofs.Laws.{map_t_node, map_f_more, map_map_t, map_map_f}
use Rattle.style.specs.Flow.{is_leaf}
use Rattle.steps.specs.Width.{want_of}
use Rattle.steps.specs.Row.{ProbeWords, no_row, no_probe, probe_of, probe_note}
use Rattle.steps.specs.Page.{Cell, Node, any_t, edits, cleared, staying, probed_anew}
use Rattle.steps.specs.Probe.{Probed, Widest, probe_stands, answered, stay, probe_t, probe_f, asked, block_probe, probe_known, space_in, widen, pass_by, ask_p}
use Rattle.steps.specs.declared.Want.{Want}
use Rattle.steps.specs.declared.Want.TheVariants.{Nothing, Outer}
use Rattle.steps.specs.declared.Want.TheVariants as want
use Rattle.steps.specs.declared.ProbeInput.{ProbeInput}
use Rattle.steps.proofs.Clauses.{style_c, probe_t_leaf, probe_t_block, probe_f_at}
use Rattle.laws.specs.Trees.{AllT, AllF, top_t, kids_t, first_f, rest_f, all-T, all-F, all-any-F, all-any-T, all-map-T, all-map-F, all-back-T, all-back-F, not_true}
use Rattle.laws.specs.Widths.{bare_c, probe_in, TrueT, TrueF, clear_t, clear_f, bare_reply, Unprobed, unprobed_t, unprobed_f}
use Rattle.laws.specs.Bits.{no_probe_lem}
use Rattle.laws.specs.Pages.{Both, site_by, now_site, was_site, again}

-- the words of the old rows; the two pages with nothing kept
abbrev pub words_of : Both → ProbeWords
words_of l = probe_of l.old

abbrev pub before_c : Both → Cell
before_c l = record { site = was_site l; old = no_row }

abbrev pub after_c : Both → Cell
after_c l = record { site = now_site l; old = no_row }

abbrev pub Same : Both → Type 0
Same l = l.was ≡ l.now

same_cell : (l : Both) → Same l → before_c l ≡ after_c l
same_cell l e = ap (λ (s : Style). record { site = site_by l.node s; old = no_row }) e

mutual
  unfolding AllT map_t

  pub clean_t : (t : Tree Both) → AllT Same t → map_t before_c t ≡ map_t after_c t
  clean_t (node l ks) h = rw (same_cell l h.0, clean_f ks h.1)

  clean_f : (ts : Forest Both) → AllF Same ts → map_f before_c ts ≡ map_f after_c ts
  clean_f none h = refl
  clean_f (more t ts) h = rw (clean_t t h.0, clean_f ts h.1)

-- a probed node notes the question and the answer
asked_top : (l : Cell) (q : ProbeInput) (a : Float) (us : Forest Node) → top_t (map_t probe_in (asked l q a us).nodes) ≡ probe_note q (asked l q a us).answer
unfolding asked probed_anew map_t
asked_top l q a us = refl

box_top : (l : Cell) (q : ProbeInput) (ks : Forest Cell) (w : Option Float) (r : Widest) → top_t (map_t probe_in (block_probe l q ks w r).nodes) ≡ probe_note q (block_probe l q ks w r).answer
unfolding block_probe
box_top l q ks None r = asked_top l q _ _
box_top l q ks (Some w) r = asked_top l q w _

pub probe_top : (t : Tree Cell) (q : ProbeInput) → top_t (map_t probe_in (probe_t t q).nodes) ≡ probe_note q (probe_t t q).answer
probe_top (node l ks) q = go (is_leaf l.site.style.kind) refl
  where
    go : (b : Bool) → is_leaf l.site.style.kind ≡ b → top_t (map_t probe_in (probe_t (node l ks) q).nodes) ≡ probe_note q (probe_t (node l ks) q).answer
    go true e = rw (probe_t_leaf l ks q e) (asked_top l q _ _)
    go false e = rw (probe_t_block l ks q e) (box_top l q ks (probe_known l.site.style q).width _)

-- the words of a subtree are those of a probe put to it as it was
abbrev pub WordsT : Tree Both → ProbeInput → Type 0
WordsT t g = map_t words_of t ≡ map_t probe_in (probe_t (map_t before_c t) g).nodes

abbrev pub WordsF : Forest Both → AvailableSpace → Float → Type 0
WordsF ts a m = map_f words_of ts ≡ map_f probe_in (probe_f (map_f before_c ts) a m).nodes

pub answered_parts : (l : Both) (ks : Forest Both) (q : ProbeInput) → answered (map_t again (node l ks)) q ≡ true → (any_t edits (map_t again (node l ks)) ≡ false) × (probe_stands q l.old ≡ true)
unfolding answered root_t map_t
answered_parts l ks q k = (not_true _ (and_fst (not (any_t edits (map_t again (node l ks)))) _ k), and_snd (not (any_t edits (map_t again (node l ks)))) _ k)

pub stay_words : (t : Tree Both) → map_t probe_in (stay (map_t again t)).nodes ≡ map_t words_of t
unfolding stay staying
stay_words t = map_map_t probe_in staying (map_t again t) ∙ map_map_t (λ (c : Cell). probe_of c.old) again t

pub stay_answer : (l : Both) (ks : Forest Both) → (stay (map_t again (node l ks))).answer ≡ (probe_of l.old).numbers.answer
unfolding stay root_t map_t probe_of
stay_answer l ks = refl

pub note_answer : (q : ProbeInput) (a : Float) → (probe_note q a).numbers.answer ≡ a
unfolding probe_note
note_answer q a = refl

-- words of zeros
quiet_t : (t : Tree Both) → map_t words_of t ≡ map_t (λ (_ : Both). no_probe) t → TrueT (map_t again t)
quiet_t t e =
    let z : AllT (λ (p : ProbeWords). p ≡ no_probe) (map_t words_of t) = rw e (all-back-T (λ (_ : Both). no_probe) (λ (p : ProbeWords). p ≡ no_probe) t (all-any-T _ (λ _. refl) t)) in
    unprobed_t _ (all-back-T again Unprobed t (mute t (all-map-T words_of (λ (p : ProbeWords). p ≡ no_probe) t z)))
  where
    mute : (t : Tree Both) → AllT (λ (l : Both). words_of l ≡ no_probe) t → AllT (λ (l : Both). Unprobed (again l)) t
    mute t h = all-T (λ (l : Both). words_of l ≡ no_probe) (λ (l : Both). Unprobed (again l)) (λ l e q. no_probe_lem q l.old e) t h

pub quiet_f : (ts : Forest Both) → map_f words_of ts ≡ map_f (λ (_ : Both). no_probe) ts → TrueF (map_f again ts)
quiet_f ts e =
    let z : AllF (λ (p : ProbeWords). p ≡ no_probe) (map_f words_of ts) = rw e (all-back-F (λ (_ : Both). no_probe) (λ (p : ProbeWords). p ≡ no_probe) ts (all-any-F _ (λ _. refl) ts)) in
    unprobed_f _ (all-back-F again Unprobed ts (mute ts (all-map-F words_of (λ (p : ProbeWords). p ≡ no_probe) ts z)))
  where
    mute : (ts : Forest Both) → AllF (λ (l : Both). words_of l ≡ no_probe) ts → AllF (λ (l : Both). Unprobed (again l)) ts
    mute ts h = all-F (λ (l : Both). words_of l ≡ no_probe) (λ (l : Both). Unprobed (again l)) (λ l e q. no_probe_lem q l.old e) ts h

quiet_cleared : (ts : Forest Both) → map_f words_of ts ≡ map_f probe_in (map_f cleared (map_f before_c ts)) → TrueF (map_f again ts)
quiet_cleared ts e = quiet_f ts (e ∙ clear_f (map_f before_c ts) ∙ map_map_f (λ (_ : Cell). no_probe) before_c ts)

-- the page with nothing kept
pub after_bare : (l : Both) (ks : Forest Both) → map_t bare_c (node (again l) (map_f again ks)) ≡ map_t after_c (node l ks)
after_bare l ks = ap (map_t bare_c) (sym (map_t_node again l ks)) ∙ map_map_t bare_c again (node l ks)

before_reply : (t : Tree Both) (q : ProbeInput) → ask_p (map_t before_c t) q ≡ probe_t (map_t before_c t) q
before_reply t q = ap (λ (u : Tree Cell). ask_p u q) (sym b) ∙ bare_reply (map_t before_c t) q ∙ ap (λ (u : Tree Cell). probe_t u q) b
  where
    b : map_t bare_c (map_t before_c t) ≡ map_t before_c t
    b = map_map_t bare_c before_c t

both_true : (t : Tree Cell) (ts : Forest Cell) → TrueT t → TrueF ts → TrueF (more t ts)
unfolding TrueF
both_true t ts a b = (a, b)

pub none_true : TrueF (map_f again none)
unfolding TrueF map_f
none_true = tt

-- down and along
asked_kids : (l : Cell) (q : ProbeInput) (a : Float) (us : Forest Node) → kids_t (map_t probe_in (asked l q a us).nodes) ≡ map_f probe_in us
unfolding asked map_t
asked_kids l q a us = refl

box_kids : (l : Cell) (g : ProbeInput) (ts : Forest Both) (w : Option Float) (r : Widest) (x : Forest ProbeWords) → map_f words_of ts ≡ kids_t (map_t probe_in (block_probe l g (map_f before_c ts) w r).nodes)
    → (map_f words_of ts ≡ map_f probe_in r.nodes → TrueF (map_f again ts)) → TrueF (map_f again ts)
unfolding block_probe
box_kids l g ts None r x e h = h (e ∙ asked_kids l g _ _)
box_kids l g ts (Some w) r x e h = quiet_cleared ts (e ∙ asked_kids l g w _)

pub good_kids : (l : Both) (ks : Forest Both) (g : ProbeInput) → WordsT (node l ks) g → ((a : AvailableSpace) (m : Float) → WordsF ks a m → TrueF (map_f again ks)) → TrueF (map_f again ks)
good_kids l ks g e h = go (is_leaf l.was.kind) refl
  where
    k : map_f words_of ks ≡ kids_t (map_t probe_in (probe_t (node (before_c l) (map_f before_c ks)) g).nodes)
    k = ap kids_t (sym (map_t_node words_of l ks) ∙ e) ∙ ap (λ (t : Tree Cell). kids_t (map_t probe_in (probe_t t g).nodes)) (map_t_node before_c l ks)

    go : (b : Bool) → is_leaf l.was.kind ≡ b → TrueF (map_f again ks)
    go true b = quiet_cleared ks (k ∙ ap (λ (p : Probed). kids_t (map_t probe_in p.nodes)) (probe_t_leaf (before_c l) (map_f before_c ks) g b) ∙ asked_kids (before_c l) g _ _)
    go false b =
        box_kids (before_c l) g ks (probe_known l.was g).width _ none (k ∙ ap (λ (p : Probed). kids_t (map_t probe_in p.nodes)) (probe_t_block (before_c l) (map_f before_c ks) g b))
        (λ r. h (space_in l.was None g.available) zero_f r)

widen_first : (m : Float) (t : Tree Node) (g : Float → Widest) → map_f probe_in (widen m t g).nodes ≡ more (map_t probe_in t) (map_f probe_in (g m).nodes)
unfolding widen map_f
widen_first m t g = refl

pub good_more : (t : Tree Both) (ts : Forest Both) (a : AvailableSpace) (m : Float) → WordsF (more t ts) a m → ((g : ProbeInput) → WordsT t g → TrueT (map_t again t)) → ((k : Float) → WordsF ts a k → TrueF (map_f again ts))
    → TrueF (map_f again (more t ts))
good_more t ts a m e ht hts = rw (map_f_more again t ts) (go (want_of (style_c (map_t before_c t)) a) refl)
  where
    e1 : more (map_t words_of t) (map_f words_of ts) ≡ map_f probe_in (probe_f (more (map_t before_c t) (map_f before_c ts)) a m).nodes
    e1 = sym (map_f_more words_of t ts) ∙ e ∙ ap (λ (us : Forest Cell). map_f probe_in (probe_f us a m).nodes) (map_f_more before_c t ts)

    at : (w : Want) (k : Float) (u : Tree Node) → probe_f (more (map_t before_c t) (map_f before_c ts)) a m ≡ widen k u (probe_f (map_f before_c ts) a)
        → more (map_t words_of t) (map_f words_of ts) ≡ more (map_t probe_in u) (map_f probe_in (probe_f (map_f before_c ts) a k).nodes)
    at w k u p = e1 ∙ ap (λ (x : Widest). map_f probe_in x.nodes) p ∙ widen_first k u (probe_f (map_f before_c ts) a)

    done : (k : Float) (u : Tree Node) → more (map_t words_of t) (map_f words_of ts) ≡ more (map_t probe_in u) (map_f probe_in (probe_f (map_f before_c ts) a k).nodes)
        → (map_t words_of t ≡ map_t probe_in u → TrueT (map_t again t)) → TrueF (more (map_t again t) (map_f again ts))
    done k u p f = both_true _ _ (f (ap (first_f (map_t words_of t)) p)) (hts k (ap rest_f p))

    quiet : map_t words_of t ≡ map_t probe_in (map_t cleared (map_t before_c t)) → TrueT (map_t again t)
    quiet p = quiet_t t (p ∙ clear_t (map_t before_c t) ∙ map_map_t (λ (_ : Cell). no_probe) before_c t)

    go : (w : Want) → want_of (style_c (map_t before_c t)) a ≡ w → TrueF (more (map_t again t) (map_f again ts))
    go Nothing p = done _ _ (at Nothing _ _ (probe_f_at (map_t before_c t) (map_f before_c ts) a m Nothing p)) quiet
    go (Outer v) p = done _ _ (at (Outer v) _ _ (probe_f_at (map_t before_c t) (map_f before_c ts) a m (Outer v) p)) quiet
    go (want.Probe g) p =
        done _ _ (at (want.Probe g) _ _ (probe_f_at (map_t before_c t) (map_f before_c ts) a m (want.Probe g) p)) (λ w. ht g (w ∙ ap (λ (x : Probed). map_t probe_in x.nodes) (before_reply t g)))

-- the page
pub page_true : (l : Both) (ks : Forest Both) (c : Cell) (w parent : Option Float) (r : Widest) → map_t words_of (node l ks) ≡ map_t probe_in (pass_by c (map_f before_c ks) w parent r).nodes
    → (map_f words_of ks ≡ map_f probe_in r.nodes → TrueF (map_f again ks)) → TrueF (map_f again ks)
unfolding pass_by cleared map_t
page_true l ks c None parent r e h = h (ap kids_t e)
page_true l ks c (Some w) parent r e h = quiet_cleared ks (ap kids_t e)
