-- Relayout is fresh: from the rows of a fresh layout, any later page with an honest edit list, any question.
use Rattle.std.specs.Prelude.{◌≡◌, refl, Bool, true, false, Float}
use Rattle.std.proofs.Common.{sym, ◌∙◌}
use Rattle.std.proofs.Math.Path.{ap}
use Rattle.tree.specs.Tree.{Tree, Forest, node, map_t, map_f, root_t, on_root}
use Rattle.tree.proofs.Laws.{map_t_node, root_t_node, root_t_map, map_map_t, map_map_f}
use Rattle.style.specs.Flow.{is_leaf}
use Rattle.steps.specs.Row.{put_at, probe_of}
use Rattle.steps.specs.Page.{Site, Cell, Node, blank}
use Rattle.steps.specs.Probe.{width_pass}
use Rattle.steps.specs.Kept.{Laid, zeros_t, zeros_f}
use Rattle.steps.specs.Layout.{lay_t, relaid, fresh}
use Rattle.steps.specs.declared.LayoutInput.{LayoutInput}
use Rattle.steps.proofs.Clauses.{style_t}
use Rattle.steps.proofs.Zeros.{zeros_t_lem}
use Rattle.steps.proofs.Cells.{pass_cells, cell_in}
use Rattle.laws.specs.Trees.{AllT, AllF, kids_t, all-any-T, all-map-T, all-map-F, all-back-T, settle-T}
use Rattle.laws.specs.Final.{bare_n, SoundF, unlaid_f}
use Rattle.laws.specs.Widths.{bare_c, probe_in, TrueF}
use Rattle.laws.specs.Afresh.{site_in, site_of, sites_t, Zero, zero_unlaid, bare_relaid, sound_relaid, fresh_bare}
use Rattle.laws.specs.Pages.{Both, now_site, was_site, old_of, again, Honest, LeavesT}
use Rattle.laws.specs.Along.{Full, view_n, RowsT}
use Rattle.laws.specs.Fix.{was_f, old_words, again_n, site_f}
use Rattle.laws.specs.Good.{HonestL, Off, off_zeros_f}
use Rattle.laws.proofs.Good.{good_page}
use Rattle.laws.specs.Rides.{WellT, ride_t, pass_well}
use Rattle.laws.specs.Probes.{words_of, before_c, quiet_f}
use Rattle.laws.proofs.Probes.{pass_true}
use Rattle.laws.specs.Relayout.{home, at_home, both_in, full_t, same_seen, old_n, old_c, kids_map, zeros_kids, leaf_kids, zeros_quiet}

sound_kids : (j : Tree Full) (u : Tree Node) → map_t again_n j ≡ u → AllT HonestL j → LeavesT (map_t site_f j) → (q : LayoutInput) (found : Float) → RowsT was_f old_words j q found home 0 → SoundF (kids_t u)
sound_kids (node l ks) u e h v q found r = rw (← e, map_t_node again_n l ks) (good_page l ks h v q found home 0 r)

-- the page as it was, laid out at q
module _ (l : Both) (ks : Forest Both) (q : LayoutInput) where
  abbrev was : Tree Cell
  was = map_t before_c (node l ks)

  fresh-was : fresh (map_t was_site (node l ks)) q ≡ lay_t (map_t bare_n (width_pass was q).nodes) q (width_pass was q).found
  unfolding fresh blank
  fresh-was = ap (λ (u : Tree Cell). relaid u q) (map_map_t blank was_site (node l ks)) ∙ bare_relaid was q (zero_unlaid was q (all-back-T before_c Zero (node l ks) (all-any-T (λ (b : Both). Zero (before_c b)) (λ _. refl) (node l ks))))

  well-at : is_leaf l.was.kind ≡ false → WellT (width_pass (map_t bare_c was) q).nodes
  well-at b = rw (map_t_node before_c l ks) (pass_well (before_c l) (map_f before_c ks) q b)

  module _ (e : map_t old_of (node l ks) ≡ (fresh (map_t was_site (node l ks)) q).rows) (b : is_leaf l.was.kind ≡ false) where
    rows_are : map_t old_of (node l ks) ≡ (lay_t (map_t bare_n (width_pass was q).nodes) q (width_pass was q).found).rows
    rows_are = e ∙ ap (λ (x : Laid). x.rows) fresh-was

    well : WellT (width_pass was q).nodes
    well = rw (map_map_t bare_c before_c (node l ks)) at (well-at b)

    words_are : map_t words_of (node l ks) ≡ map_t probe_in (width_pass was q).nodes
    words_are = sym (map_map_t probe_of old_of (node l ks)) ∙ ap (map_t probe_of) rows_are ∙ ride_t _ well q _

    seen : (j : Tree Full) → map_t both_in j ≡ node l ks → map_t (view_n was_f old_words) j ≡ map_t bare_n (width_pass was q).nodes
    seen j f =
        let s : map_t (λ (x : Full). was_site x.both) j ≡ map_t site_of (width_pass was q).nodes = sym (map_map_t was_site both_in j) ∙ ap (map_t was_site) f ∙ sym (sites_t was q ∙ map_map_t site_in before_c (node l ks)) in
        let w : map_t old_words j ≡ map_t probe_in (width_pass was q).nodes = sym (map_map_t words_of both_in j) ∙ ap (map_t words_of) f ∙ words_are in
        settle-T (λ (x : Full). was_site x.both) site_of old_words probe_in (view_n was_f old_words) bare_n same_seen j _ s w

    rows-full : (j : Tree Full) → map_t both_in j ≡ node l ks → RowsT was_f old_words j q (width_pass was q).found home 0
    rows-full j f = sym (map_map_t old_of both_in j) ∙ ap (map_t old_of) f ∙ rows_are ∙ at_home _ q _ ∙ ap (λ (u : Tree Node). on_root (put_at home 0) (lay_t u q (width_pass was q).found).rows) (sym (seen j f))

    block-sound : (p : LayoutInput) → AllT Honest (node l ks) → LeavesT (map_t now_site (node l ks)) → SoundF (kids_t (width_pass (map_t again (node l ks)) p).nodes)
    block-sound p h v =
        let j = full_t (node l ks) (width_pass (map_t again (node l ks)) p).nodes (sym (pass_cells (map_t again (node l ks)) p)) in
        let h1 : AllT Honest (map_t both_in j.tree) = rw j.left h in
        let v1 : LeavesT (map_t site_f j.tree) = rw (← map_map_t now_site both_in j.tree, j.left) v in
        sound_kids j.tree _ j.right (all-map-T both_in Honest j.tree h1) v1 q _ (rows-full j.tree j.left)

    block-true : AllT Honest (node l ks) → TrueF (map_f again ks)
    block-true h = pass_true l ks q h words_are

  -- a root that was a leaf has rows of zeros below
  module _ (e : map_t old_of (node l ks) ≡ (fresh (map_t was_site (node l ks)) q).rows) (b : is_leaf l.was.kind ≡ true) where
    leaf-style : is_leaf (style_t (map_t bare_n (width_pass was q).nodes)).kind ≡ true
    leaf-style = ap (λ (n : Node). is_leaf n.site.style.kind) (root_t_map bare_n (width_pass was q).nodes) ∙ ap (λ (s : Site). is_leaf s.style.kind) (sym (root_t_map site_of (width_pass was q).nodes) ∙ ap root_t (sites_t was q ∙ map_map_t site_in before_c (node l ks) ∙ map_t_node was_site l ks) ∙ root_t_node (was_site l) _) ∙ b

    all-zeros : zeros_t (map_t bare_n (width_pass was q).nodes) ≡ zeros_t (node l ks)
    all-zeros = zeros_t_lem bare_n _ ∙ sym (zeros_t_lem cell_in (width_pass was q).nodes) ∙ ap zeros_t (pass_cells was q) ∙ zeros_t_lem before_c (node l ks)

    zeros-are : map_f old_of ks ≡ zeros_f ks
    zeros-are =
        ap kids_t (sym (map_t_node old_of l ks) ∙ e ∙ ap (λ (x : Laid). x.rows) fresh-was) ∙ leaf_kids _ q _ leaf-style ∙ ap kids_t all-zeros ∙ zeros_kids l ks

    leaf-true : TrueF (map_f again ks)
    leaf-true = quiet_f ks (sym (map_map_f probe_of old_of ks) ∙ ap (map_f probe_of) zeros-are ∙ zeros_quiet ks)

    leaf-sound : (p : LayoutInput) → SoundF (kids_t (width_pass (map_t again (node l ks)) p).nodes)
    leaf-sound p =
        let n = (width_pass (map_t again (node l ks)) p).nodes in
        let o : map_f old_n (kids_t n) ≡ zeros_f ks = sym (kids_map old_n n) ∙ ap kids_t (sym (map_map_t old_c cell_in n) ∙ ap (map_t old_c) (pass_cells (map_t again (node l ks)) p) ∙ map_map_t old_c again (node l ks) ∙ map_t_node old_of l ks) ∙ zeros-are in
        let z : AllF Off (map_f old_n (kids_t n)) = rw o (off_zeros_f ks) in
        unlaid_f _ (all-map-F old_n Off (kids_t n) z)

-- Relayout is fresh.
pub relayout_fresh : (t : Tree Both) (q p : LayoutInput) → map_t old_of t ≡ (fresh (map_t was_site t) q).rows → AllT Honest t → LeavesT (map_t now_site t) → relaid (map_t again t) p ≡ fresh (map_t now_site t) p
relayout_fresh (node l ks) q p e h v = rw (← map_map_t site_in again (node l ks), ← fresh_bare (map_t again (node l ks)) p) (go (is_leaf l.was.kind) refl)
  where
    true-kids : TrueF (map_f again ks) → TrueF (kids_t (map_t again (node l ks)))
    true-kids z = rw (kids_map again (node l ks)) z

    go : (b : Bool) → is_leaf l.was.kind ≡ b → relaid (map_t again (node l ks)) p ≡ relaid (map_t bare_c (map_t again (node l ks))) p
    go true b = sound_relaid (map_t again (node l ks)) p (true-kids (leaf-true l ks q e b)) (leaf-sound l ks q e b p)
    go false b = sound_relaid (map_t again (node l ks)) p (true-kids (block-true l ks q e b h)) (block-sound l ks q e b p h v)
