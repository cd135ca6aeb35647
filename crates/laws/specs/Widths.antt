-- The width pass: where every probe that stands holds what it would find, nothing shows that probes stood.
use Rattle.std.specs.Prelude.{◌≡◌, refl, Bool, true, false, Float, Option, None, Some}
use Rattle.std.proofs.Common.{sym, ap, ◌∙◌}
use Rattle.geometry.specs.Geometry.{zero_f}
use Rattle.util.specs.Math.{larger}
use Rattle.length.specs.declared.AvailableSpace.{AvailableSpace}
use Rattle.style.specs.declared.Style.{Style}
use Rattle.tree.specs.Tree.{Tree, Forest, node, none, more, map_t, map_f}
use Rattle.tree.proofs.Laws.{map_t_node, map_f_none, map_f_more, root_t_node, root_t_map, map_map_t, map_map_f}
use Rattle.style.specs.Flow.{is_leaf}
use Rattle.steps.specs.Width.{want_of, outer_width}
use Rattle.steps.specs.Row.{ProbeWords, no_row, no_probe}
use Rattle.steps.specs.Page.{Cell, Node, cleared, probed_anew}
use Rattle.steps.specs.Probe.{Probed, Widest, Passed, probe_stands, answered, stay, probe_t, probe_f, asked, block_probe, probe_known, space_in, found_width, widen, pass_by, width_pass, ask_p}
use Rattle.steps.specs.declared.Want.{Want}
use Rattle.steps.specs.declared.Want.TheVariants.{Nothing, Outer}
use Rattle.steps.specs.declared.Want.TheVariants as want
use Rattle.steps.specs.declared.ProbeInput.{ProbeInput}
use Rattle.steps.specs.declared.LayoutInput.{LayoutInput}
use Rattle.steps.proofs.Clauses.{style_c, ask_p_stands, ask_p_anew, probe_t_leaf, probe_t_block, probe_f_at}
use Rattle.steps.proofs.Zeros.{unprobed, not_answered}
use Rattle.laws.specs.Trees.{AllT, AllF, false_true}
use Rattle.laws.specs.Final.{unmarked}

-- a cell without old row and mark; the parts of a node
abbrev pub bare_c : Cell → Cell
bare_c c = record { site = unmarked c.site; old = no_row }

abbrev pub probe_in : Node → ProbeWords
probe_in n = n.probe

-- the same answer and the same probe words
pub record AlikeP (a b : Probed) : Type 0 where
  pub same_answer : a.answer ≡ b.answer
  pub same_words : map_t probe_in a.nodes ≡ map_t probe_in b.nodes

pub record AlikeW (a b : Widest) : Type 0 where
  pub same_most : a.most ≡ b.most
  pub same_words : map_f probe_in a.nodes ≡ map_f probe_in b.nodes

-- a probe that stands is answered as if it were put anew
unfoldable mutual
  pub TrueT : Tree Cell → Type 0
  TrueT (node l ks) = ((q : ProbeInput) → answered (node l ks) q ≡ true → AlikeP (stay (node l ks)) (probe_t (map_t bare_c (node l ks)) q)) × TrueF ks

  pub TrueF : Forest Cell → Type 0
  TrueF none = Unit {0}
  TrueF (more t ts) = TrueT t × TrueF ts

-- the words of cleared nodes
pub clear_t : (t : Tree Cell) → map_t probe_in (map_t cleared t) ≡ map_t (λ (_ : Cell). no_probe) t
unfolding cleared
clear_t t = map_map_t probe_in cleared t

pub clear_f : (ts : Forest Cell) → map_f probe_in (map_f cleared ts) ≡ map_f (λ (_ : Cell). no_probe) ts
unfolding cleared
clear_f ts = map_map_f probe_in cleared ts

pub cleared_t : (f : Cell → Cell) (t : Tree Cell) → map_t probe_in (map_t cleared (map_t f t)) ≡ map_t probe_in (map_t cleared t)
cleared_t f t = clear_t (map_t f t) ∙ map_map_t (λ (_ : Cell). no_probe) f t ∙ sym (clear_t t)

pub cleared_f : (f : Cell → Cell) (ts : Forest Cell) → map_f probe_in (map_f cleared (map_f f ts)) ≡ map_f probe_in (map_f cleared ts)
cleared_f f ts = clear_f (map_f f ts) ∙ map_map_f (λ (_ : Cell). no_probe) f ts ∙ sym (clear_f ts)

pub bare_reply : (t : Tree Cell) (q : ProbeInput) → ask_p (map_t bare_c t) q ≡ probe_t (map_t bare_c t) q
bare_reply t q = ask_p_anew (map_t bare_c t) q (not_answered (map_t bare_c t) q (unprobed q _ (ap (λ (c : Cell). c.old) (root_t_map bare_c t))))

style_bare : (t : Tree Cell) → style_c (map_t bare_c t) ≡ style_c t
style_bare t = ap (λ (c : Cell). c.site.style) (root_t_map bare_c t)

true_root : (t : Tree Cell) → TrueT t → (q : ProbeInput) → answered t q ≡ true → AlikeP (stay t) (probe_t (map_t bare_c t) q)
unfolding TrueT
true_root (node l ks) h q e = h.0 q e

reply_alike : (t : Tree Cell) (q : ProbeInput) → TrueT t → AlikeP (probe_t t q) (probe_t (map_t bare_c t) q) → AlikeP (ask_p t q) (ask_p (map_t bare_c t) q)
reply_alike t q h e = rw (bare_reply t q) (go (answered t q) refl)
  where
    go : (b : Bool) → answered t q ≡ b → AlikeP (ask_p t q) (probe_t (map_t bare_c t) q)
    go true p = rw (ask_p_stands t q p) (true_root t h q p)
    go false p = rw (ask_p_anew t q p) e

-- a container put to a probe
asked_alike : (l : Cell) (q : ProbeInput) (a b : Float) (ks us : Forest Node) → a ≡ b → map_f probe_in ks ≡ map_f probe_in us → AlikeP (asked l q a ks) (asked (bare_c l) q b us)
unfolding asked probed_anew map_t
asked_alike l q a b ks us p e = record { same_answer = p; same_words = rw (p, e) }

box_alike : (l : Cell) (q : ProbeInput) (ks : Forest Cell) (w : Option Float) (r s : Widest) → AlikeW r s → AlikeP (block_probe l q ks w r) (block_probe (bare_c l) q (map_f bare_c ks) w s)
unfolding block_probe
box_alike l q ks None r s h = asked_alike l q _ _ _ _ (ap (found_width l.site.style None) h.same_most) h.same_words
box_alike l q ks (Some w) r s h = asked_alike l q w w _ _ refl (sym (cleared_f bare_c ks))

node_alike : (l : Cell) (ks : Forest Cell) (q : ProbeInput) → ((a : AvailableSpace) (m : Float) → AlikeW (probe_f ks a m) (probe_f (map_f bare_c ks) a m))
    → AlikeP (probe_t (node l ks) q) (probe_t (map_t bare_c (node l ks)) q)
node_alike l ks q h = rw (map_t_node bare_c l ks) (go (is_leaf l.site.style.kind) refl)
  where
    go : (b : Bool) → is_leaf l.site.style.kind ≡ b → AlikeP (probe_t (node l ks) q) (probe_t (node (bare_c l) (map_f bare_c ks)) q)
    go true e = rw (probe_t_leaf l ks q e, probe_t_leaf (bare_c l) (map_f bare_c ks) q e) (asked_alike l q _ _ _ _ refl (sym (cleared_f bare_c ks)))
    go false e =
        rw (probe_t_block l ks q e, probe_t_block (bare_c l) (map_f bare_c ks) q e)
        (box_alike l q ks (probe_known l.site.style q).width _ _ (h (space_in l.site.style None q.available) zero_f))

-- one child, and the rest
pub widen_alike : (m n : Float) (t u : Tree Node) (g h : Float → Widest) → m ≡ n → map_t probe_in t ≡ map_t probe_in u → ((k : Float) → AlikeW (g k) (h k)) → AlikeW (widen m t g) (widen n u h)
unfolding widen map_f
widen_alike m n t u g h p e r = record { same_most = rw p (r n).same_most; same_words = rw (p, e, (r n).same_words) }

more_alike : (t : Tree Cell) (ts : Forest Cell) (a : AvailableSpace) (m : Float) → ((q : ProbeInput) → AlikeP (ask_p t q) (ask_p (map_t bare_c t) q))
    → ((k : Float) → AlikeW (probe_f ts a k) (probe_f (map_f bare_c ts) a k)) → AlikeW (probe_f (more t ts) a m) (probe_f (map_f bare_c (more t ts)) a m)
more_alike t ts a m h r = rw (map_f_more bare_c t ts) (go (want_of (style_c t) a) refl)
  where
    same : {w : Want} → want_of (style_c t) a ≡ w → want_of (style_c (map_t bare_c t)) a ≡ w
    same e = ap (λ (s : Style). want_of s a) (style_bare t) ∙ e

    go : (w : Want) → want_of (style_c t) a ≡ w → AlikeW (probe_f (more t ts) a m) (probe_f (more (map_t bare_c t) (map_f bare_c ts)) a m)
    go Nothing e = rw (probe_f_at t ts a m Nothing e, probe_f_at (map_t bare_c t) (map_f bare_c ts) a m Nothing (same e)) (widen_alike _ _ _ _ _ _ refl (sym (cleared_t bare_c t)) r)
    go (Outer v) e = rw (probe_f_at t ts a m (Outer v) e, probe_f_at (map_t bare_c t) (map_f bare_c ts) a m (Outer v) (same e)) (widen_alike _ _ _ _ _ _ refl (sym (cleared_t bare_c t)) r)
    go (want.Probe q) e =
        rw (probe_f_at t ts a m (want.Probe q) e, probe_f_at (map_t bare_c t) (map_f bare_c ts) a m (want.Probe q) (same e), style_bare t)
        (widen_alike _ _ _ _ _ _ (ap (λ (v : Float). larger m (outer_width (style_c t) a v)) (h q).same_answer) (h q).same_words r)

mutual
  unfolding TrueT

  true_t : (t : Tree Cell) → TrueT t → (q : ProbeInput) → AlikeP (probe_t t q) (probe_t (map_t bare_c t) q)
  true_t (node l ks) h q = node_alike l ks q (λ a m. true_f ks h.1 a m)

  pub true_f : (ts : Forest Cell) → TrueF ts → (a : AvailableSpace) (m : Float) → AlikeW (probe_f ts a m) (probe_f (map_f bare_c ts) a m)
  true_f none h a m = rw (map_f_none bare_c) (record { same_most = refl; same_words = refl })
  true_f (more t ts) h a m = more_alike t ts a m (λ q. reply_alike t q h.0 (true_t t h.0 q)) (λ k. true_f ts h.1 a k)

-- the page: the width found and every node's probe words
pub record AlikeG (a b : Passed) : Type 0 where
  pub same_found : a.found ≡ b.found
  pub same_words : map_t probe_in a.nodes ≡ map_t probe_in b.nodes

page_alike : (l : Cell) (ks : Forest Cell) (w parent : Option Float) (r s : Widest) → AlikeW r s → AlikeG (pass_by l ks w parent r) (pass_by (bare_c l) (map_f bare_c ks) w parent s)
unfolding pass_by cleared map_t
page_alike l ks None parent r s h = record { same_found = rw h.same_most; same_words = rw h.same_words }
page_alike l ks (Some w) parent r s h = record { same_found = refl; same_words = ap (node no_probe) (sym (cleared_f bare_c ks)) }

pub pass_alike : (l : Cell) (ks : Forest Cell) (q : LayoutInput) → TrueF ks → AlikeG (width_pass (node l ks) q) (width_pass (map_t bare_c (node l ks)) q)
unfolding width_pass
pass_alike l ks q h = rw (map_t_node bare_c l ks) (page_alike l ks _ q.parent _ _ (true_f ks h _ zero_f))

-- probe words of zeros are true
abbrev pub Unprobed : Cell → Type 0
Unprobed c = (q : ProbeInput) → probe_stands q c.old ≡ false

unprobed_here : (l : Cell) (ks : Forest Cell) → Unprobed l → (q : ProbeInput) → answered (node l ks) q ≡ false
unprobed_here l ks e q = not_answered (node l ks) q (ap (λ (c : Cell). probe_stands q c.old) (root_t_node l ks) ∙ e q)

mutual
  unfolding TrueT AllT

  pub unprobed_t : (t : Tree Cell) → AllT Unprobed t → TrueT t
  unprobed_t (node l ks) h = ((λ q e. false_true (answered (node l ks) q) (unprobed_here l ks h.0 q) e), unprobed_f ks h.1)

  pub unprobed_f : (ts : Forest Cell) → AllF Unprobed ts → TrueF ts
  unprobed_f none h = tt
  unprobed_f (more t ts) h = (unprobed_t t h.0, unprobed_f ts h.1)
