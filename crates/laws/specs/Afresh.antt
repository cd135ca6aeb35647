-- Both passes: rows that are sound and probe words that are true give what a fresh layout gives. Rows of zeros are such.
use Rattle.std.specs.Prelude.{◌≡◌, refl, false}
use Rattle.std.proofs.Common.{sym, ap, ◌∙◌}
use Rattle.tree.specs.Tree.{Tree, node, map_t}
use Rattle.tree.proofs.Laws.{map_map_t}
use Rattle.steps.specs.Row.{ProbeWords, no_row, is_laid}
use Rattle.steps.specs.Page.{Site, Cell, Node, blank}
use Rattle.steps.specs.Probe.{width_pass}
use Rattle.steps.specs.Layout.{lay_t, relaid, fresh}
use Rattle.steps.specs.declared.LayoutInput.{LayoutInput}
use Rattle.steps.proofs.Zeros.{no_row_lem, unprobed}
use Rattle.steps.proofs.Cells.{pass_cells, cell_in}
use Rattle.laws.specs.Trees.{AllT, kids_t, all-T, all-any-T, all-kids, all-map-T, all-back-T, settle-T}
use Rattle.laws.specs.Final.{unmarked, bare_n, SoundF, again_t_lem, Unlaid, unlaid_f}
use Rattle.laws.specs.Widths.{bare_c, probe_in, TrueF, AlikeG, pass_alike, Unprobed, unprobed_f}

abbrev pub site_in : Cell → Site
site_in c = unmarked c.site

abbrev pub site_of : Node → Site
site_of n = unmarked n.site

same_bare : (m n : Node) → unmarked m.site ≡ unmarked n.site → m.probe ≡ n.probe → bare_n m ≡ bare_n n
same_bare m n p q = go (unmarked m.site) (unmarked n.site) m.probe n.probe p q
  where
    go : (a b : Site) (x y : ProbeWords) → a ≡ b → x ≡ y → ◌≡◌ {A = Node} (record { site = a; old = no_row; probe = x; anew = false }) (record { site = b; old = no_row; probe = y; anew = false })
    go a b x y p q = rw (p, q)

pub sites_t : (t : Tree Cell) (q : LayoutInput) → map_t site_of (width_pass t q).nodes ≡ map_t site_in t
sites_t t q = sym (map_map_t site_in cell_in (width_pass t q).nodes) ∙ ap (map_t site_in) (pass_cells t q)

-- two pages of the same sites with the same probe words are one page to the final pass, but for what it keeps
pub bare_same : (a b : Tree Node) → map_t site_of a ≡ map_t site_of b → map_t probe_in a ≡ map_t probe_in b → map_t bare_n a ≡ map_t bare_n b
bare_same a b p q = settle-T site_of site_of probe_in probe_in bare_n bare_n same_bare a b p q

-- every old row is a row of zeros
abbrev pub Zero : Cell → Type 0
Zero c = c.old ≡ no_row

pub zero_unlaid : (t : Tree Cell) (q : LayoutInput) → AllT Zero t → SoundF (kids_t (width_pass t q).nodes)
zero_unlaid t q h =
    let z : AllT Zero (map_t cell_in (width_pass t q).nodes) = rw (pass_cells t q) h in
    unlaid_f _ (all-kids Unlaid _ (all-T (λ (n : Node). n.old ≡ no_row) Unlaid (λ n e. ap is_laid e ∙ no_row_lem) _ (all-map-T cell_in Zero _ z)))

zero_true : (t : Tree Cell) → AllT Zero t → TrueF (kids_t t)
zero_true t h = unprobed_f _ (all-kids Unprobed t (all-T Zero Unprobed (λ c e q. unprobed q c.old e) t h))

zero_bare : (t : Tree Cell) → AllT Zero (map_t bare_c t)
zero_bare t = all-back-T bare_c Zero t (all-any-T (λ (c : Cell). Zero (bare_c c)) (λ c. refl) t)

pass_bare : (t : Tree Cell) (q : LayoutInput) → TrueF (kids_t t) → AlikeG (width_pass t q) (width_pass (map_t bare_c t) q)
pass_bare (node l ks) q h = pass_alike l ks q h

-- the final pass on bare nodes
pub bare_relaid : (t : Tree Cell) (q : LayoutInput) → SoundF (kids_t (width_pass t q).nodes) → relaid t q ≡ lay_t (map_t bare_n (width_pass t q).nodes) q (width_pass t q).found
unfolding relaid
bare_relaid t q h = again_t_lem (width_pass t q).nodes h q (width_pass t q).found

pub sound_relaid : (t : Tree Cell) (q : LayoutInput) → TrueF (kids_t t) → SoundF (kids_t (width_pass t q).nodes) → relaid t q ≡ relaid (map_t bare_c t) q
sound_relaid t q g h =
    let p = pass_bare t q g in
    let s : map_t site_of (width_pass t q).nodes ≡ map_t site_of (width_pass (map_t bare_c t) q).nodes = sites_t t q ∙ sym (sites_t (map_t bare_c t) q ∙ map_map_t site_in bare_c t) in
    bare_relaid t q h ∙ rw (bare_same _ _ s p.same_words, p.same_found) (sym (bare_relaid (map_t bare_c t) q (zero_unlaid (map_t bare_c t) q (zero_bare t))))

pub fresh_bare : (t : Tree Cell) (q : LayoutInput) → relaid (map_t bare_c t) q ≡ fresh (map_t site_in t) q
unfolding fresh blank
fresh_bare t q = ap (λ (u : Tree Cell). relaid u q) (sym (map_map_t blank site_in t))

-- from rows of zeros a relayout is a fresh layout, whatever the edit marks
pub zero_fresh : (t : Tree Cell) (q : LayoutInput) → AllT Zero t → relaid t q ≡ fresh (map_t site_in t) q
zero_fresh t q h = sound_relaid t q (zero_true t h) (zero_unlaid t q h) ∙ fresh_bare t q

pub unmarked_fresh : (t : Tree Site) (q : LayoutInput) → fresh t q ≡ fresh (map_t unmarked t) q
unfolding fresh blank
unmarked_fresh t q = zero_fresh (map_t blank t) q (all-back-T blank Zero t (all-any-T (λ (s : Site). Zero (blank s)) (λ s. refl) t)) ∙ ap (λ (u : Tree Site). fresh u q) (map_map_t site_in blank t)
