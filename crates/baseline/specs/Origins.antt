-- Rows that differ in their place alone say the same of baselines; the first child of a stack that has one, before and after M.
use Rattle.std.specs.Prelude.{◌≡◌, refl, true, false, ◌⊎◌, ℕ, Float, Option, None, Some, is_some}
use Rattle.std.proofs.Common.{sym, ap, ◌∙◌, inl, inr}
use Rattle.geometry.specs.Floats.{◌⊕◌}
use Rattle.geometry.specs.declared.Point.{Point}
use Rattle.util.specs.Maybe.{or_zero}
use Rattle.tree.specs.Tree.{Tree, Forest, node, none, more, map_t, map_f, root_t, on_root}
use Rattle.steps.specs.Row.{Row, is_laid, bare, no_row, hidden_row, aside_row, put_at, lowered}
use Rattle.steps.specs.Page.{Site, Node}
use Rattle.steps.specs.Kept.{zeros_t}
use Rattle.steps.specs.Layout.{place, lower_f, align_f}
use Rattle.laws.specs.Trees.{false_true}
use Rattle.baseline.specs.Carried.{lined, line_in, FromChild, CarriesT, FirstF, SaysT, SaysF}

abbrev pub site_n : Node → Site
site_n n = n.site

-- ---- numbers that may be absent
pub some_or : (o : Option Float) → is_some o ≡ true → o ≡ Some (or_zero o)
some_or None e = cc
some_or (Some x) e = refl

pub or_some : (o : Option Float) (x : Float) → o ≡ Some x → or_zero o ≡ x
or_some o x e = ap or_zero e

pub is_some_lem : (o : Option Float) (x : Float) → o ≡ Some x → is_some o ≡ true
is_some_lem o x e = ap is_some e

pub not_some : (o : Option Float) → o ≡ None → is_some o ≡ false
not_some o e = ap is_some e

pub some_some : (x y : Float) → Some x ≡ Some y → x ≡ y
some_some x y e = ap or_zero e

pub no_some : {A : Type 0} (x : Float) → None ≡ Some x → A
no_some x e = false_true (is_some (Some x)) (sym (ap is_some e)) refl

-- ---- rows without a baseline
pub zero_says : lined no_row ≡ false
unfolding no_row bare
zero_says = refl

pub hidden_says : (n : ℕ) → lined (hidden_row n) ≡ false
unfolding hidden_row bare
hidden_says n = refl

pub aside_says : (a l e : Float) (n : ℕ) → lined (aside_row a l e n) ≡ false
unfolding aside_row bare
aside_says a l e n = refl

mutual
  unfolding map_t

  pub zeros_t_lem : (t : Tree Node) → SaysT (map_t site_n t) (map_t (λ _. no_row) t)
  zeros_t_lem (node l ks) = ((λ e. false_true (lined no_row) zero_says e), zeros_f_lem ks)

  pub zeros_f_lem : (ts : Forest Node) → SaysF (map_f site_n ts) (map_f (λ _. no_row) ts)
  zeros_f_lem none = tt
  zeros_f_lem (more t ts) = (zeros_t_lem t, zeros_f_lem ts)

pub bare_says : (r : Row) → lined r ≡ false → (t : Tree Node) → SaysT (map_t site_n t) (on_root (λ _. r) (zeros_t t))
unfolding map_t zeros_t on_root
bare_says r z (node l ks) = ((λ e. false_true (lined r) z e), zeros_f_lem ks)

pub bare_root : (r : Row) → lined r ≡ false → (t : Tree Node) → lined (root_t (on_root (λ _. r) (zeros_t t))) ≡ false
unfolding map_t zeros_t on_root root_t
bare_root r z (node l ks) = z

-- ---- what is said of a row does not hang on its place
pub carries_any : (t : Tree Site) (u : Tree Row) (g : Row → Row) (b : Float) → CarriesT t u b → CarriesT t (on_root g u) b
unfolding on_root
carries_any (node s ks) (node r us) g b h = h

-- rows that differ in their place alone say the same
pub record Alike (g : Row → Row) : Type 0 where
  pub has : (r : Row) → lined (g r) ≡ lined r
  pub line : (r : Row) → line_in (g r) ≡ line_in r

pub says_on : (g : Row → Row) → Alike g → (t : Tree Site) (u : Tree Row) → SaysT t u → SaysT t (on_root g u)
unfolding on_root
says_on g a (node s ks) (node r us) h = ((λ e. rw (a.line r) (h.0 (sym (a.has r) ∙ e))), h.1)

pub put_alike : (p : Point Float) (n : ℕ) → Alike (put_at p n)
unfolding put_at
put_alike p n = record { has = λ r. refl; line = λ r. refl }

pub lower_alike : (d : Float) → Alike (lowered d)
unfolding lowered
lower_alike d = record { has = λ r. refl; line = λ r. refl }

-- ---- the first child of a stack that has one, before M
pub record OriginHere (r : Row) (from : Type 0) (b : Float) : Type 0 where
  pub laid : is_laid r ≡ true
  pub has : lined r ≡ true
  pub below : from
  pub at : b ≡ r.place.y ⊕ line_in r

abbrev mutual
  pub OriginF : Forest Site → Forest Row → Float → Type 0
  OriginF none us b = ⊥
  OriginF (more t ts) none b = ⊥
  OriginF (more t ts) (more u us) b = OriginHere (root_t u) (CarriesT t u (line_in (root_t u))) b ⊎ ((lined (root_t u) ≡ false) × OriginF ts us b)

-- ---- M
pub plain_first : (ks : Forest Site) (us : Forest Row) (b : Float) → OriginF ks us b → FirstF ks us b
plain_first none us b h = h
plain_first (more t ts) none b h = h
plain_first (more t ts) (more u us) b (inl h) = inl (record { laid = h.laid; has = h.has; below = h.below; moved = inl h.at })
plain_first (more t ts) (more u us) b (inr h) = inr (h.0, plain_first ts us b h.1)

pub root_on : (g : Row → Row) (u : Tree Row) → root_t (on_root g u) ≡ g (root_t u)
unfolding root_t on_root
root_on g (node r us) = refl

pub lower_laid : (d : Float) (r : Row) → is_laid (lowered d r) ≡ is_laid r
unfolding lowered is_laid
lower_laid d r = refl

pub lower_place : (d : Float) (r : Row) → is_laid r ≡ true → (lowered d r).place.y ≡ r.place.y ⊕ d
unfolding lowered
lower_place d r e = rw e

pub lower_here : (d : Float) (t : Tree Site) (u : Tree Row) (b : Float) → OriginHere (root_t u) (CarriesT t u (line_in (root_t u))) b
    → FromChild (root_t (on_root (lowered d) u)) (CarriesT t (on_root (lowered d) u) (line_in (root_t (on_root (lowered d) u)))) (b ⊕ d)
lower_here d t u b h =
    let r = root_t u in
    let a = lower_alike d in
    rw (root_on (lowered d) u)
    (record {
      laid = lower_laid d r ∙ h.laid;
      has = a.has r ∙ h.has;
      below = rw (a.line r) (carries_any t u (lowered d) (line_in r) h.below);
      moved = inr (record { before = r.place.y; d = d; place = lower_place d r h.laid; line = rw (a.line r) (ap (λ (x : Float). x ⊕ d) h.at) });
    })

pub lower_says : (d : Float) (ks : Forest Site) (us : Forest Row) → SaysF ks us → SaysF ks (lower_f d us)
unfolding lower_f
lower_says d none us h = tt
lower_says d (more t ts) none h = h
lower_says d (more t ts) (more u us) h = (says_on (lowered d) (lower_alike d) t u h.0, lower_says d ts us h.1)

pub align_says : (d : Option Float) (ks : Forest Site) (us : Forest Row) → SaysF ks us → SaysF ks (align_f d us)
unfolding align_f
align_says None ks us h = h
align_says (Some d) ks us h = lower_says d ks us h
