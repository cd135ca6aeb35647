-- The probe words of a fresh layout are true for a relayout of any later page with an honest edit list.
use Rattle.std.specs.Prelude.{◌≡◌, true, false, Float}
use Rattle.std.proofs.Common.{sym, ap, ◌∙◌}
use Rattle.geometry.specs.Geometry.{zero_f}
use Rattle.limits.specs.Bools.{or_left, or_right}
use Rattle.length.specs.declared.AvailableSpace.{AvailableSpace}
use Rattle.tree.specs.Tree.{Tree, Forest, node, none, more, map_t, map_f}
use Rattle.tree.proofs.Laws.{map_t_node}
use Rattle.steps.specs.Row.{ProbeWords, probe_of, probe_note}
use Rattle.steps.specs.Page.{Cell, any_t, any_f, edits}
use Rattle.steps.specs.Probe.{answered, stay, probe_t, width_pass}
use Rattle.steps.specs.declared.ProbeInput.{ProbeInput}
use Rattle.steps.specs.declared.LayoutInput.{LayoutInput}
use Rattle.laws.specs.Trees.{AllT, AllF, top_t}
use Rattle.laws.specs.Widths.{probe_in, AlikeP, TrueT, TrueF}
use Rattle.laws.specs.Bits.{probe_is}
use Rattle.laws.specs.Pages.{Both, again, Honest}
use Rattle.laws.specs.Probes.{words_of, before_c, after_c, Same, clean_t, probe_top, WordsT, WordsF, answered_parts, stay_words, stay_answer, note_answer, after_bare, none_true, good_kids, good_more, page_true}

mutual
  unfolding AllT map_t any_t edits

  same_t : (t : Tree Both) → AllT Honest t → any_t edits (map_t again t) ≡ false → AllT Same t
  same_t (node l ks) h e = (h.0 (or_left l.edit _ e), same_f_lem ks h.1 (or_right l.edit _ e))

  same_f_lem : (ts : Forest Both) → AllF Honest ts → any_f edits (map_f again ts) ≡ false → AllF Same ts
  same_f_lem none h e = tt
  same_f_lem (more t ts) h e = (same_t t h.0 (or_left (any_t edits (map_t again t)) _ e), same_f_lem ts h.1 (or_right (any_t edits (map_t again t)) _ e))

true_here : (l : Both) (ks : Forest Both) (g : ProbeInput) → WordsT (node l ks) g → AllT Honest (node l ks) → (q : ProbeInput) → answered (map_t again (node l ks)) q ≡ true
    → AlikeP (stay (map_t again (node l ks))) (probe_t (map_t after_c (node l ks)) q)
true_here l ks g e h q k =
    let z = answered_parts l ks q k in
    let c : map_t before_c (node l ks) ≡ map_t after_c (node l ks) = clean_t (node l ks) (same_t (node l ks) h z.0) in
    let w : map_t words_of (node l ks) ≡ map_t probe_in (probe_t (map_t after_c (node l ks)) g).nodes = rw c at e in
    let n : probe_of l.old ≡ probe_note g (probe_t (map_t after_c (node l ks)) g).answer = ap top_t (sym (map_t_node words_of l ks) ∙ w) ∙ probe_top (map_t after_c (node l ks)) g in
    let p : q ≡ g = probe_is q g _ l.old n z.1 in
    rw p (record { same_answer = stay_answer l ks ∙ ap (λ (x : ProbeWords). x.numbers.answer) n ∙ note_answer g _; same_words = stay_words (node l ks) ∙ w })

good_node : (l : Both) (ks : Forest Both) (g : ProbeInput) → WordsT (node l ks) g → AllT Honest (node l ks) → TrueF (map_f again ks) → TrueT (map_t again (node l ks))
unfolding TrueT map_t
good_node l ks g e h s = ((λ q k. rw (after_bare l ks) (true_here l ks g e h q k)), s)

mutual
  unfolding AllT

  good_t : (t : Tree Both) → AllT Honest t → (g : ProbeInput) → WordsT t g → TrueT (map_t again t)
  good_t (node l ks) h g e = good_node l ks g e h (good_kids l ks g e (λ a m r. good_f ks h.1 a m r))

  pub good_f : (ts : Forest Both) → AllF Honest ts → (a : AvailableSpace) (m : Float) → WordsF ts a m → TrueF (map_f again ts)
  good_f none h a m e = none_true
  good_f (more t ts) h a m e = good_more t ts a m e (λ g r. good_t t h.0 g r) (λ k r. good_f ts h.1 a k r)

pub pass_true : (l : Both) (ks : Forest Both) (q : LayoutInput) → AllT Honest (node l ks) → map_t words_of (node l ks) ≡ map_t probe_in (width_pass (map_t before_c (node l ks)) q).nodes → TrueF (map_f again ks)
unfolding width_pass AllT
pass_true l ks q h e =
    page_true l ks (before_c l) _ q.parent _ (e ∙ ap (λ (t : Tree Cell). map_t probe_in (width_pass t q).nodes) (map_t_node before_c l ks)) (λ r. good_f ks h.1 _ zero_f r)
