-- A change of styles that the width pass does not see: it gives every node of the changed page the same probe words.
use Rattle.geometry.specs.declared.Size.{Size}
use Rattle.std.specs.Prelude.{◌≡◌, refl, Bool, true, false, not, Float, Option, None, Some}
use Rattle.std.proofs.Math.Path.{sym}
use Rattle.std.proofs.Common.{ap, ◌∙◌}
use Rattle.geometry.specs.Geometry.{zero_f}
use Rattle.util.specs.Math.{larger}
use Rattle.length.specs.declared.AvailableSpace.{AvailableSpace}
use Rattle.style.specs.Flow.{is_leaf}
use Rattle.style.specs.declared.Style.{Style}
use Rattle.tree.specs.Tree.{Tree, Forest, node, none, more, map_t, map_f}
use Rattle.tree.proofs.Laws.{map_t_node, map_f_none, map_f_more, map_map_t, map_map_f, root_t_map}
use Rattle.steps.specs.Sizing.{step_a, known_of}
use Rattle.steps.specs.Width.{outer_width, want_of, leaf_width}
use Rattle.steps.specs.Page.{Site, Cell, Node, cleared, staying, probed_anew, edits}
use Rattle.steps.specs.Probe.{Probed, Widest, Passed, answered, stay, probe_t, probe_f, ask_p, asked, block_probe, probe_known, space_in, found_width, widen, pass_by, width_pass}
use Rattle.steps.specs.declared.LayoutInput.{LayoutInput}
use Rattle.steps.specs.declared.ProbeInput.{ProbeInput}
use Rattle.steps.specs.declared.Want.{Want}
use Rattle.steps.specs.declared.Want.TheVariants.{Nothing, Outer}
use Rattle.steps.specs.declared.Want.TheVariants as want
use Rattle.steps.proofs.Clauses.{style_c, ask_p_stands, ask_p_anew, probe_t_leaf, probe_t_block, probe_f_none, probe_f_at, any_map_t}

-- a page with other styles
abbrev pub site_by : (Style → Style) → Site → Site
site_by g s = record { node = s.node; style = g s.style; edit = s.edit }

abbrev pub cell_by : (Style → Style) → Cell → Cell
cell_by g c = record { site = site_by g c.site; old = c.old }

abbrev pub node_by : (Style → Style) → Node → Node
node_by g n = record { site = site_by g n.site; old = n.old; probe = n.probe; anew = n.anew }

abbrev on_probed : (Style → Style) → Probed → Probed
on_probed g p = record { answer = p.answer; nodes = map_t (node_by g) p.nodes }

abbrev on_widest : (Style → Style) → Widest → Widest
on_widest g w = record { most = w.most; nodes = map_f (node_by g) w.nodes }

abbrev pub on_passed : (Style → Style) → Passed → Passed
on_passed g p = record { found = p.found; nodes = map_t (node_by g) p.nodes }

-- what the pass reads of a style
pub record Unseen (g : Style → Style) : Type 0 where
  pub leaf : (s : Style) → is_leaf (g s).kind ≡ is_leaf s.kind
  pub measure : (s : Style) (a : AvailableSpace) → leaf_width (g s).measure a ≡ leaf_width s.measure a
  pub want : (s : Style) (a : AvailableSpace) → want_of (g s) a ≡ want_of s a
  pub outer : (s : Style) (a : AvailableSpace) (w : Float) → outer_width (g s) a w ≡ outer_width s a w
  pub space : (s : Style) (p : Option Float) (a : AvailableSpace) → space_in (g s) p a ≡ space_in s p a
  pub found : (s : Style) (p : Option Float) (m : Float) → found_width (g s) p m ≡ found_width s p m
  pub known : (s : Style) (p : Option Float) (k : Size (Option Float)) → known_of (g s) (step_a (g s) p) k ≡ known_of s (step_a s p) k

module _ (g : Style → Style) (unseen : Unseen g) where
  probe-known : (s : Style) (q : ProbeInput) → probe_known (g s) q ≡ probe_known s q
  unfolding probe_known
  probe-known s q = unseen.known s None _

  -- nodes that are not probed, and probes that stand
  clear_t : (t : Tree Cell) → map_t cleared (map_t (cell_by g) t) ≡ map_t (node_by g) (map_t cleared t)
  unfolding cleared
  clear_t t = map_map_t cleared (cell_by g) t ∙ sym (map_map_t (node_by g) cleared t)

  clear_f : (ts : Forest Cell) → map_f cleared (map_f (cell_by g) ts) ≡ map_f (node_by g) (map_f cleared ts)
  unfolding cleared
  clear_f ts = map_map_f cleared (cell_by g) ts ∙ sym (map_map_f (node_by g) cleared ts)

  stay_t : (t : Tree Cell) → stay (map_t (cell_by g) t) ≡ on_probed g (stay t)
  unfolding stay staying
  stay_t t =
      let e : map_t staying (map_t (cell_by g) t) ≡ map_t (node_by g) (map_t staying t) = map_map_t staying (cell_by g) t ∙ sym (map_map_t (node_by g) staying t) in
      rw (e, root_t_map (cell_by g) t)

  answered-T : (t : Tree Cell) (q : ProbeInput) → answered (map_t (cell_by g) t) q ≡ answered t q
  unfolding answered edits
  answered-T t q = rw (any_map_t edits (cell_by g) t, root_t_map (cell_by g) t)

  ask_by_lem : (t : Tree Cell) (q : ProbeInput) → probe_t (map_t (cell_by g) t) q ≡ on_probed g (probe_t t q) → ask_p (map_t (cell_by g) t) q ≡ on_probed g (ask_p t q)
  ask_by_lem t q h = go (answered t q) refl
    where
      go : (b : Bool) → answered t q ≡ b → ask_p (map_t (cell_by g) t) q ≡ on_probed g (ask_p t q)
      go true e = ask_p_stands (map_t (cell_by g) t) q (answered-T t q ∙ e) ∙ stay_t t ∙ sym (ap (on_probed g) (ask_p_stands t q e))
      go false e = ask_p_anew (map_t (cell_by g) t) q (answered-T t q ∙ e) ∙ h ∙ sym (ap (on_probed g) (ask_p_anew t q e))

  -- a probe put anew
  asked_by : (l : Cell) (q : ProbeInput) (w : Float) (us vs : Forest Node) → us ≡ map_f (node_by g) vs → asked (cell_by g l) q w us ≡ on_probed g (asked l q w vs)
  unfolding asked probed_anew map_t
  asked_by l q w us vs e = rw e

  block-by : (l : Cell) (q : ProbeInput) (ks : Forest Cell) (k : Option Float) (r : Widest) → block_probe (cell_by g l) q (map_f (cell_by g) ks) k (on_widest g r) ≡ on_probed g (block_probe l q ks k r)
  unfolding block_probe
  block-by l q ks (Some w) r = asked_by l q w _ _ (clear_f ks)
  block-by l q ks None r = rw (unseen.found l.site.style None r.most) (asked_by l q _ _ _ refl)

  node_by_lem : (l : Cell) (ks : Forest Cell) (q : ProbeInput) → ((a : AvailableSpace) (m : Float) → probe_f (map_f (cell_by g) ks) a m ≡ on_widest g (probe_f ks a m)) → probe_t (node (cell_by g l) (map_f (cell_by g) ks)) q ≡ on_probed g (probe_t (node l ks) q)
  node_by_lem l ks q h = go (is_leaf l.site.style.kind) refl
    where
      s : Style
      s = l.site.style

      go : (b : Bool) → is_leaf l.site.style.kind ≡ b → probe_t (node (cell_by g l) (map_f (cell_by g) ks)) q ≡ on_probed g (probe_t (node l ks) q)
      go true e = rw (probe_t_leaf (cell_by g l) (map_f (cell_by g) ks) q (unseen.leaf s ∙ e), probe_t_leaf l ks q e, unseen.measure s q.available) (asked_by l q _ _ _ (clear_f ks))
      go false e =
          rw (probe_t_block (cell_by g l) (map_f (cell_by g) ks) q (unseen.leaf s ∙ e), probe_t_block l ks q e, probe-known l.site.style q, unseen.space l.site.style None q.available, h (space_in l.site.style None q.available) zero_f)
          (block-by l q ks (probe_known l.site.style q).width (probe_f ks (space_in l.site.style None q.available) zero_f))

  -- the children of a container, one after the other
  widen-by : (m : Float) (t u : Tree Node) (a b : Float → Widest) → t ≡ map_t (node_by g) u → ((v : Float) → a v ≡ on_widest g (b v)) → widen m t a ≡ on_widest g (widen m u b)
  unfolding widen map_f
  widen-by m t u a b e r = rw (e, r m)

  style-by : (t : Tree Cell) → style_c (map_t (cell_by g) t) ≡ g (style_c t)
  style-by t = ap (λ (c : Cell). c.site.style) (root_t_map (cell_by g) t)

  more_by : (t : Tree Cell) (ts : Forest Cell) (a : AvailableSpace) (m : Float) → ((q : ProbeInput) → probe_t (map_t (cell_by g) t) q ≡ on_probed g (probe_t t q)) → ((v : Float) → probe_f (map_f (cell_by g) ts) a v ≡ on_widest g (probe_f ts a v))
      → probe_f (more (map_t (cell_by g) t) (map_f (cell_by g) ts)) a m ≡ on_widest g (probe_f (more t ts) a m)
  more_by t ts a m h k = go (want_of (style_c t) a) refl
    where
      wants : want_of (style_c (map_t (cell_by g) t)) a ≡ want_of (style_c t) a
      wants = ap (λ (s : Style). want_of s a) (style-by t) ∙ unseen.want (style_c t) a

      go : (w : Want) → want_of (style_c t) a ≡ w → probe_f (more (map_t (cell_by g) t) (map_f (cell_by g) ts)) a m ≡ on_widest g (probe_f (more t ts) a m)
      go Nothing e = rw (probe_f_at (map_t (cell_by g) t) (map_f (cell_by g) ts) a m Nothing (wants ∙ e), probe_f_at t ts a m Nothing e) (widen-by m _ _ _ _ (clear_t t) k)
      go (Outer v) e = rw (probe_f_at (map_t (cell_by g) t) (map_f (cell_by g) ts) a m (Outer v) (wants ∙ e), probe_f_at t ts a m (Outer v) e) (widen-by (larger m v) _ _ _ _ (clear_t t) k)
      go (want.Probe q) e =
          rw (probe_f_at (map_t (cell_by g) t) (map_f (cell_by g) ts) a m (want.Probe q) (wants ∙ e), probe_f_at t ts a m (want.Probe q) e, style-by t, ask_by_lem t q (h q), unseen.outer (style_c t) a (ask_p t q).answer) (widen-by _ _ _ _ _ refl k)

  mutual
    probe_t_lem : (t : Tree Cell) (q : ProbeInput) → probe_t (map_t (cell_by g) t) q ≡ on_probed g (probe_t t q)
    probe_t_lem (node l ks) q = ap (λ (u : Tree Cell). probe_t u q) (map_t_node (cell_by g) l ks) ∙ node_by_lem l ks q (λ a m. probe_f_lem ks a m)

    probe_f_lem : (ts : Forest Cell) (a : AvailableSpace) (m : Float) → probe_f (map_f (cell_by g) ts) a m ≡ on_widest g (probe_f ts a m)
    probe_f_lem none a m = rw (map_f_none (cell_by g), probe_f_none a m, map_f_none (node_by g))
    probe_f_lem (more t ts) a m = ap (λ (us : Forest Cell). probe_f us a m) (map_f_more (cell_by g) t ts) ∙ more_by t ts a m (λ q. probe_t_lem t q) (λ v. probe_f_lem ts a v)

  -- the whole pass
  pass_of : (l : Cell) (ks : Forest Cell) (k p : Option Float) (r : Widest) → pass_by (cell_by g l) (map_f (cell_by g) ks) k p (on_widest g r) ≡ on_passed g (pass_by l ks k p r)
  unfolding pass_by map_t cleared
  pass_of l ks (Some w) p r = rw (clear_f ks)
  pass_of l ks None p r = rw (unseen.found l.site.style p r.most)

  pass_node : (l : Cell) (ks : Forest Cell) (q : LayoutInput) → width_pass (node (cell_by g l) (map_f (cell_by g) ks)) q ≡ on_passed g (width_pass (node l ks) q)
  unfolding width_pass
  pass_node l ks q =
      rw (unseen.known l.site.style q.parent q.known, unseen.space l.site.style q.parent q.available, probe_f_lem ks (space_in l.site.style q.parent q.available) zero_f)
      (pass_of l ks (known_of l.site.style (step_a l.site.style q.parent) q.known).width q.parent (probe_f ks (space_in l.site.style q.parent q.available) zero_f))

  pub pass-restyled : (t : Tree Cell) (q : LayoutInput) → width_pass (map_t (cell_by g) t) q ≡ on_passed g (width_pass t q)
  pass-restyled (node l ks) q = ap (λ (u : Tree Cell). width_pass u q) (map_t_node (cell_by g) l ks) ∙ pass_node l ks q
