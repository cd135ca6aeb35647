-- A row's baseline, where it has one, is that of a leaf at or below it: of every node of a fresh layout.
use Rattle.std.specs.Prelude.{◌≡◌, refl, Bool, true, false, Float, None, Some}
use Rattle.std.proofs.Common.{sym, ap, ◌∙◌, inl, inr}
use Rattle.geometry.specs.Geometry.{zero_f}
use Rattle.style.specs.Flow.{is_leaf}
use Rattle.tree.specs.Tree.{Tree, Forest, node, none, more, map_t, map_f}
use Rattle.steps.specs.Row.{laid_row}
use Rattle.steps.specs.Page.{Site, Node, blank}
use Rattle.steps.specs.Stack.{start_of}
use Rattle.steps.specs.Probe.{width_pass}
use Rattle.steps.specs.Layout.{lay_t, lay_f, relaid, fresh}
use Rattle.steps.specs.declared.LayoutInput.{LayoutInput}
use Rattle.steps.specs.declared.LayoutOutput.{LayoutOutput}
use Rattle.steps.specs.declared.Frame.{Frame}
use Rattle.steps.specs.declared.Cursor.{Cursor}
use Rattle.steps.proofs.Clauses.{frame_at, stack_of, shift_of, leaf_rows, block_rows, block_out}
use Rattle.laws.specs.Trees.{AllT, AllF}
use Rattle.laws.specs.Bits.{lined_row}
use Rattle.laws.specs.Small.{Small}
use Rattle.baseline.specs.New.{New, new_root, new_nodes}
use Rattle.baseline.specs.Carried.{lined, line_in, SaysT, SaysF}
use Rattle.baseline.specs.Origins.{site_n, some_or, align_says}
use Rattle.baseline.proofs.Origins.{align_first}
use Rattle.baseline.specs.Found.{uncontained, finished_line, leaf_line, laid_line, start_none, FirstIn, zeros_below, more_says, more_first, kid, none_first, pass_sites}

lay_says : (l : Node) (ks : Forest Node) (q : LayoutInput) (found : Float) → Small l → ((f : Frame) (c : Cursor) → SaysF (map_f site_n ks) (lay_f ks f c).rows) → ((f : Frame) (c : Cursor) → c.baseline ≡ None → FirstIn ks f c)
    → SaysT (node (site_n l) (map_f site_n ks)) (lay_t (node l ks) q found).rows
lay_says l ks q found v h first = go (is_leaf l.site.style.kind) refl
  where
    o : LayoutOutput
    o = (lay_t (node l ks) q found).out

    has : lined (laid_row q o l.probe) ≡ true → o.baseline ≡ Some (line_in (laid_row q o l.probe))
    has e = some_or o.baseline (sym (lined_row q o l.probe v) ∙ e) ∙ ap Some (sym (laid_line q o l.probe))

    go : (b : Bool) → is_leaf l.site.style.kind ≡ b → SaysT (node (site_n l) (map_f site_n ks)) (lay_t (node l ks) q found).rows
    go true e = rw (leaf_rows l ks q found e) ((λ x. inl (record { leaf = e; own = sym (leaf_line l ks q found e) ∙ has x })), zeros_below ks)
    go false e =
        let f : Frame = frame_at l q found in
        let c : Cursor = (stack_of l ks q found).last in
        let d = shift_of l q found c in
        rw (block_rows l ks q found e) (
          (λ x. inr (align_first d c.baseline (map_f site_n ks) (stack_of l ks q found).rows _ (first f (start_of f) (start_none f)) (uncontained l.site.style c.baseline d _ (sym (ap (λ (z : LayoutOutput). z.baseline) (block_out l ks q found e) ∙ finished_line l.site.style q f c) ∙ has x)))),
          align_says d (map_f site_n ks) (stack_of l ks q found).rows (h f (start_of f)),
        )

mutual
  unfolding AllT map_t

  says_t : (t : Tree Node) → AllT New t → (q : LayoutInput) (found : Float) → SaysT (map_t site_n t) (lay_t t q found).rows
  says_t (node l ks) h q found = lay_says l ks q found h.0.small (λ f c. (both_f ks h.1 f c).0) (λ f c. (both_f ks h.1 f c).1)

  both_f : (ts : Forest Node) → AllF New ts → (f : Frame) (c : Cursor) → SaysF (map_f site_n ts) (lay_f ts f c).rows × (c.baseline ≡ None → FirstIn ts f c)
  both_f none h f c = (tt, none_first f c)
  both_f (more t ts) h f c =
      let n = new_root t h.0 in
      let k = kid t n (λ q. says_t t h.0 q zero_f) in
      (more_says t ts f c n k (λ d. (both_f ts h.1 f d).0), more_first t ts f c n k (λ d. (both_f ts h.1 f d).1))

-- ---- At every node of a fresh layout whose row has a baseline: it is that of a leaf at or below the node, moved by places.
pub from_a_leaf : (t : Tree Site) (q : LayoutInput) → SaysT t (fresh t q).rows
unfolding fresh relaid
from_a_leaf t q =
    let p = width_pass (map_t blank t) q in
    rw (pass_sites t q) at (says_t p.nodes (new_nodes t q) q p.found)
