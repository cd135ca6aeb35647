-- Relayout is fresh: from the rows of a fresh layout, any later page with an honest edit list, any question.
use Rattle.std.specs.Prelude.{◌≡◌, refl, true, false, Float}
use Rattle.std.proofs.Common.{sym, ◌∙◌}
use Rattle.std.proofs.Math.Path.{ap}
use Rattle.geometry.specs.Geometry.{zero_f}
use Rattle.geometry.specs.declared.Point.{Point}
use Rattle.tree.specs.Tree.{Tree, Forest, node, map_t, map_f, root_t, on_root}
use Rattle.tree.proofs.Laws.{map_map_f}
use Rattle.style.specs.Flow.{is_leaf}
use Rattle.steps.specs.Row.{Row, ProbeWords, no_row, no_probe, laid_row, put_at, probe_of}
use Rattle.steps.specs.Page.{Site, Cell, Node}
use Rattle.steps.specs.Kept.{zeros_t, zeros_f}
use Rattle.steps.specs.Layout.{lay_t}
use Rattle.steps.specs.declared.LayoutInput.{LayoutInput}
use Rattle.steps.specs.declared.LayoutOutput.{LayoutOutput}
use Rattle.steps.proofs.Clauses.{style_t, leaf_rows}
use Rattle.steps.proofs.Cells.{cell_in}
use Rattle.laws.specs.Trees.{kids_t, Joint, joint-T}
use Rattle.laws.specs.Final.{bare_n}
use Rattle.laws.specs.Afresh.{site_of}
use Rattle.laws.specs.Pages.{Both, was_site, again}
use Rattle.laws.specs.Along.{Full, view_n, root_row}
use Rattle.laws.specs.Fix.{was_f, old_words, again_n}
use Rattle.laws.specs.Rides.{zero_words}

-- a root row is at 0, 0 and first
abbrev pub home : Point Float
home = record { x = zero_f; y = zero_f }

home_row : (q : LayoutInput) (o : LayoutOutput) (p : ProbeWords) → laid_row q o p ≡ put_at home 0 (laid_row q o p)
unfolding laid_row put_at
home_row q o p = refl

home_on : (u : Tree Row) (r : Row) → root_t u ≡ r → r ≡ put_at home 0 r → u ≡ on_root (put_at home 0) u
unfolding root_t on_root
home_on (node s us) r e h = ap (λ (x : Row). node x us) (e ∙ h ∙ ap (put_at home 0) (sym e))

pub at_home : (t : Tree Node) (q : LayoutInput) (found : Float) → (lay_t t q found).rows ≡ on_root (put_at home 0) (lay_t t q found).rows
at_home (node n ks) q found = home_on _ _ (root_row n ks q found) (home_row q _ n.probe)

-- one tree of the page with its rows and of the nodes after the width pass
abbrev pub both_in : Full → Both
both_in l = l.both

abbrev full_of : Both → Node → Full
full_of l n = record { both = l; probe = n.probe; anew = n.anew }

again_is : (l : Both) (n : Node) → again l ≡ cell_in n → again_n (full_of l n) ≡ n
again_is l n e = ap (λ (c : Cell). record { site = c.site; old = c.old; probe = n.probe; anew = n.anew }) e

pub full_t : (t : Tree Both) (u : Tree Node) → map_t again t ≡ map_t cell_in u → Joint both_in again_n t u
full_t t u e = joint-T again cell_in full_of both_in again_n (λ l n _. refl) again_is t u e

pub same_seen : (l : Full) (n : Node) → was_site l.both ≡ site_of n → old_words l ≡ n.probe → view_n was_f old_words l ≡ bare_n n
same_seen l n p q = go (was_site l.both) (site_of n) (old_words l) n.probe p q
  where
    go : (a b : Site) (x y : ProbeWords) → a ≡ b → x ≡ y → ◌≡◌ {A = Node} (record { site = a; old = no_row; probe = x; anew = false }) (record { site = b; old = no_row; probe = y; anew = false })
    go a b x y p q = rw (p, q)

abbrev pub old_n : Node → Row
old_n n = n.old

abbrev pub old_c : Cell → Row
old_c c = c.old

pub kids_map : {A B : Type 0} (f : A → B) (t : Tree A) → kids_t (map_t f t) ≡ map_f f (kids_t t)
unfolding map_t
kids_map f (node a ks) = refl

pub zeros_kids : {A : Type 0} (a : A) (ks : Forest A) → kids_t (zeros_t (node a ks)) ≡ zeros_f ks
unfolding zeros_t zeros_f map_t
zeros_kids a ks = refl

pub leaf_kids : (u : Tree Node) (q : LayoutInput) (found : Float) → is_leaf (style_t u).kind ≡ true → kids_t (lay_t u q found).rows ≡ kids_t (zeros_t u)
unfolding root_t
leaf_kids (node n us) q found b = ap kids_t (leaf_rows n us q found b) ∙ sym (zeros_kids n us)

pub zeros_quiet : (ts : Forest Both) → map_f probe_of (zeros_f ts) ≡ map_f (λ (_ : Both). no_probe) ts
unfolding zeros_f
zeros_quiet ts = map_map_f probe_of (λ (_ : Both). no_row) ts ∙ ap (λ (p : ProbeWords). map_f (λ (_ : Both). p) ts) zero_words
