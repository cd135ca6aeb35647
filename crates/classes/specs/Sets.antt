-- What it is to be the largest positive and the smallest negative of a class: said of the values of its margins.
use Rattle.std.specs.Prelude.{◌≡◌, refl, ◌⊎◌, Bool, true, false, cond, Float}
use Rattle.std.proofs.Common.{sym, subst, inl, inr}
use Rattle.std.specs.Float.Ieee.{lt}
use Rattle.geometry.specs.Geometry.{zero_f}
use Rattle.util.specs.Math.{larger, smaller}
use Rattle.util.specs.Order.{lt_asym, lt_none}
use Rattle.margin.specs.Margin.{no_margins, set_of, joined}
use Rattle.margin.specs.Laws.{Made, Numbers, made_numbers}
use Rattle.margin.specs.declared.CollapsibleMarginSet.{CollapsibleMarginSet}
use Rattle.classes.specs.Margins.{Largest, Smallest}

-- the two of them, as a set of margins holds them
pub record Pair (C : Float → Type 0) (s : CollapsibleMarginSet) : Type 0 where
  pub most : Largest C s.positive
  pub least : Smallest C s.negative

plus_of : (C : Float → Type 0) (x : Float) → Largest C x → (x ≡ zero_f) ⊎ (lt zero_f x ≡ true)
plus_of C x l = go l.one
  where
    go : (x ≡ zero_f) ⊎ ((lt zero_f x ≡ true) × C x) → (x ≡ zero_f) ⊎ (lt zero_f x ≡ true)
    go (inl e) = inl e
    go (inr h) = inr h.0

minus_of : (C : Float → Type 0) (x : Float) → Smallest C x → (x ≡ zero_f) ⊎ (lt x zero_f ≡ true)
minus_of C x l = go l.one
  where
    go : (x ≡ zero_f) ⊎ ((lt x zero_f ≡ true) × C x) → (x ≡ zero_f) ⊎ (lt x zero_f ≡ true)
    go (inl e) = inl e
    go (inr h) = inr h.0

pub pair_made : (C : Float → Type 0) (s : CollapsibleMarginSet) → Pair C s → Made s
pair_made C s p = (plus_of C _ p.most, minus_of C _ p.least)

pub pair_numbers : (C : Float → Type 0) (s : CollapsibleMarginSet) → Pair C s → Numbers s
pair_numbers C s p = made_numbers s (pair_made C s p)

-- classes with the same values
pub pair_same : (C D : Float → Type 0) (s : CollapsibleMarginSet) → ((x : Float) → C x → D x) → ((x : Float) → D x → C x) → Pair C s → Pair D s
pair_same C D s f g p =
    record {
      most = record { none_above = λ y w. p.most.none_above y (g y w); one = over p.most.one };
      least = record { none_below = λ y w. p.least.none_below y (g y w); one = under p.least.one };
    }
  where
    over : (s.positive ≡ zero_f) ⊎ ((lt zero_f s.positive ≡ true) × C s.positive) → (s.positive ≡ zero_f) ⊎ ((lt zero_f s.positive ≡ true) × D s.positive)
    over (inl e) = inl e
    over (inr h) = inr (h.0, f _ h.1)

    under : (s.negative ≡ zero_f) ⊎ ((lt s.negative zero_f ≡ true) × C s.negative) → (s.negative ≡ zero_f) ⊎ ((lt s.negative zero_f ≡ true) × D s.negative)
    under (inl e) = inl e
    under (inr h) = inr (h.0, f _ h.1)

irreflexive : (x : Float) → lt x x ≡ false
irreflexive x = go (lt x x) refl
  where
    go : (t : Bool) → lt x x ≡ t → lt x x ≡ false
    go true e = lt_asym x x e
    go false e = e

-- an empty class
pub pair_none : (C : Float → Type 0) → ((x : Float) → C x → ⊥) → Pair C no_margins
unfolding no_margins
pair_none C h =
    record {
      most = record { none_above = λ y v. absurd (h y v); one = inl refl };
      least = record { none_below = λ y v. absurd (h y v); one = inl refl };
    }

-- one margin
pub pair_one : (C : Float → Type 0) (m : Float) → C m → ((x : Float) → C x → x ≡ m) → Pair C (set_of m)
unfolding set_of larger smaller
pair_one C m v h = record { most = over (lt zero_f m) refl; least = under (lt m zero_f) refl }
  where
    over : (t : Bool) → lt zero_f m ≡ t → Largest C (cond t m zero_f)
    over true e = record { none_above = λ y w. subst (λ (z : Float). lt m z ≡ false) (sym (h y w)) (irreflexive m); one = inr (e, v) }
    over false e = record { none_above = λ y w. subst (λ (z : Float). lt zero_f z ≡ false) (sym (h y w)) e; one = inl refl }

    under : (t : Bool) → lt m zero_f ≡ t → Smallest C (cond t m zero_f)
    under true e = record { none_below = λ y w. subst (λ (z : Float). lt z m ≡ false) (sym (h y w)) (irreflexive m); one = inr (e, v) }
    under false e = record { none_below = λ y w. subst (λ (z : Float). lt z zero_f ≡ false) (sym (h y w)) e; one = inl refl }

-- two classes made one
pub pair_join : (P Q R : Float → Type 0) (a b : CollapsibleMarginSet) → ((x : Float) → R x → P x ⊎ Q x) → ((x : Float) → P x → R x) → ((x : Float) → Q x → R x) → Pair P a → Pair Q b → Pair R (joined a b)
unfolding joined larger smaller
pair_join P Q R a b split f g p q = record { most = over (lt a.positive b.positive) refl; least = under (lt b.negative a.negative) refl }
  where
    some : {D : Type 0} (x : Float) (C : Float → Type 0) → (C x → R x) → (x ≡ zero_f) ⊎ (D × C x) → (x ≡ zero_f) ⊎ (D × R x)
    some x C h (inl e) = inl e
    some x C h (inr e) = inr (e.0, h e.1)

    na : Numbers a
    na = pair_numbers P a p

    nb : Numbers b
    nb = pair_numbers Q b q

    over : (t : Bool) → lt a.positive b.positive ≡ t → Largest R (cond t b.positive a.positive)
    over true e = record { none_above = λ y r. elim (split y r) [ inl h ↦ lt_none _ _ y na.0 (lt_asym _ _ e) (p.most.none_above y h) | inr h ↦ q.most.none_above y h ]; one = some _ Q (g _) q.most.one }
    over false e = record { none_above = λ y r. elim (split y r) [ inl h ↦ p.most.none_above y h | inr h ↦ lt_none _ _ y nb.0 e (q.most.none_above y h) ]; one = some _ P (f _) p.most.one }

    under : (t : Bool) → lt b.negative a.negative ≡ t → Smallest R (cond t b.negative a.negative)
    under true e = record { none_below = λ y r. elim (split y r) [ inl h ↦ lt_none y _ _ na.1 (p.least.none_below y h) (lt_asym _ _ e) | inr h ↦ q.least.none_below y h ]; one = some _ Q (g _) q.least.one }
    under false e = record { none_below = λ y r. elim (split y r) [ inl h ↦ p.least.none_below y h | inr h ↦ lt_none y _ _ nb.1 (q.least.none_below y h) e ]; one = some _ P (f _) p.least.one }

pub pair_or : (P Q : Float → Type 0) (a b : CollapsibleMarginSet) → Pair P a → Pair Q b → Pair (λ x. P x ⊎ Q x) (joined a b)
pair_or P Q a b p q = pair_join P Q (λ x. P x ⊎ Q x) a b (λ x r. r) (λ x r. inl r) (λ x r. inr r) p q
