-- Laws of joining margin sets. Assumes nothing.
use Rattle.std.specs.Prelude.{◌≡◌, refl, ◌⊎◌, Bool, true, false, cond, ℕ, zero, suc, ◌+◌, ◌*◌, T, ltb, Float}
use Rattle.std.proofs.Common.{sym, ap, ◌∙◌, inl, inr, zero-mul}
use Rattle.std.specs.Float.{nan, inf, fin, binary32}
use Rattle.std.specs.Float.Ieee.{up, down, lt, is_nan, fits, of_bits}
use Rattle.std.specs.Float.Ieee.Fits.{cond-fits}
use Rattle.std.specs.Float.Ieee.Bits.{of_bits-fits}
use Rattle.geometry.specs.Geometry.{zero_f}
use Rattle.util.specs.Math.{larger, smaller}
use Rattle.util.specs.Order.{Settled, lt_asym, larger_assoc, smaller_assoc, larger_comm, smaller_comm, larger_settled, smaller_settled}
use Rattle.util.specs.Written.{plain, settled}
use Rattle.margin.specs.Margin.{no_margins, set_of, joined, joined_with}
use Rattle.margin.specs.declared.CollapsibleMarginSet.{CollapsibleMarginSet}

-- ---- in which sequence sets are joined does not matter

-- neither part is a NaN
abbrev pub Numbers : CollapsibleMarginSet → Type 0
Numbers a = (is_nan a.positive ≡ false) × (is_nan a.negative ≡ false)

-- asked of the middle set only
pub joined_assoc : (a b c : CollapsibleMarginSet) → Numbers b → joined (joined a b) c ≡ joined a (joined b c)
unfolding joined
joined_assoc a b c n = rw (larger_assoc a.positive b.positive c.positive n.0, smaller_assoc a.negative b.negative c.negative n.1)

-- ---- which of two sets comes first does not matter, just where parts that compare equal are one
-- (Of +0 and -0 the first is kept, so there the sign would turn on the order.)

abbrev pub SettledSets : CollapsibleMarginSet → CollapsibleMarginSet → Type 0
SettledSets a b = Settled a.positive b.positive × Settled a.negative b.negative

pub joined_comm : (a b : CollapsibleMarginSet) → SettledSets a b → joined a b ≡ joined b a
unfolding joined
joined_comm a b s = rw (larger_comm a.positive b.positive s.0, smaller_comm a.negative b.negative s.1)

pub comm_settled : (a b : CollapsibleMarginSet) → joined a b ≡ joined b a → SettledSets a b
unfolding joined
comm_settled a b q = (
  larger_settled a.positive b.positive (ap (λ (s : CollapsibleMarginSet). s.positive) q),
  smaller_settled a.negative b.negative (ap (λ (s : CollapsibleMarginSet). s.negative) q),
)

-- ---- the sets that margins make: +0 or more, and +0 or less. No NaN and no -0 gets in.

abbrev pub Plus : Float → Type 0
Plus p = (p ≡ zero_f) ⊎ (lt zero_f p ≡ true)

abbrev pub Minus : Float → Type 0
Minus n = (n ≡ zero_f) ⊎ (lt n zero_f ≡ true)

abbrev pub Made : CollapsibleMarginSet → Type 0
Made a = Plus a.positive × Minus a.negative

pub none_made : Made no_margins
unfolding no_margins
none_made = (inl refl, inl refl)

-- of any float, a NaN or -0 too
pub set_made : (m : Float) → Made (set_of m)
unfolding set_of larger smaller
set_made m = (over (lt zero_f m) refl, under (lt m zero_f) refl)
  where
    over : (t : Bool) → lt zero_f m ≡ t → Plus (cond t m zero_f)
    over true e = inr e
    over false e = inl refl

    under : (t : Bool) → lt m zero_f ≡ t → Minus (cond t m zero_f)
    under true e = inr e
    under false e = inl refl

one_of : (P : Float → Type 0) (t : Bool) (x y : Float) → P x → P y → P (cond t x y)
one_of P true x y p q = p
one_of P false x y p q = q

pub joined_made : (a b : CollapsibleMarginSet) → Made a → Made b → Made (joined a b)
unfolding joined larger smaller
joined_made a b p q = (one_of Plus (lt a.positive b.positive) _ _ q.0 p.0, one_of Minus (lt b.negative a.negative) _ _ q.1 p.1)

pub joined_with_made : (a : CollapsibleMarginSet) (m : Float) → Made a → Made (joined_with a m)
unfolding joined_with
joined_with_made a m p = joined_made a (set_of m) p (set_made m)

plus_plain : (p : Float) → Plus p → plain p ≡ true
unfolding lt of_bits
plus_plain p (inl e) = ap plain e
plus_plain nan (inr e) = cc
plus_plain (inf s) (inr e) = refl
plus_plain (fin true m d) (inr e) = cc
plus_plain (fin false m d) (inr e) = refl

no_less : (a b : ℕ) → a ≡ 0 → b ≡ 0 → ltb 0 (a + b) ≡ false
no_less a b e d = rw (e, d)

minus_plain : (n : Float) → Minus n → plain n ≡ true
unfolding lt of_bits
minus_plain n (inl e) = ap plain e
minus_plain nan (inr e) = cc
minus_plain (inf s) (inr e) = refl
minus_plain (fin true zero d) (inr e) = sym (no_less (zero * up d * 1) (0 * 1 * down d) (rw (zero-mul (up d))) (zero-mul (down d))) ∙ e
minus_plain (fin true (suc m) d) (inr e) = refl
minus_plain (fin false m d) (inr e) = refl

plain_number : (x : Float) → plain x ≡ true → is_nan x ≡ false
unfolding is_nan
plain_number nan e = sym e
plain_number (inf s) e = refl
plain_number (fin s m d) e = refl

-- so such sets are joined in any sequence
pub made_numbers : (a : CollapsibleMarginSet) → Made a → Numbers a
made_numbers a p = (plain_number _ (plus_plain _ p.0), plain_number _ (minus_plain _ p.1))

-- both parts are written as 32 bits write them: so is every f32 that a function is handed
abbrev pub Fits : CollapsibleMarginSet → Type 0
Fits a = T (fits binary32 a.positive) × T (fits binary32 a.negative)

pub set_fits : (m : Float) → T (fits binary32 m) → Fits (set_of m)
unfolding set_of larger smaller
set_fits m h = (cond-fits binary32 (lt zero_f m) m zero_f h (of_bits-fits binary32 0), cond-fits binary32 (lt m zero_f) m zero_f h (of_bits-fits binary32 0))

pub joined_fits : (a b : CollapsibleMarginSet) → Fits a → Fits b → Fits (joined a b)
unfolding joined larger smaller
joined_fits a b h g = (cond-fits binary32 (lt a.positive b.positive) _ _ g.0 h.0, cond-fits binary32 (lt b.negative a.negative) _ _ g.1 h.1)

-- and in either order
pub made_comm : (a b : CollapsibleMarginSet) → Made a → Made b → Fits a → Fits b → joined a b ≡ joined b a
made_comm a b p q h g =
    joined_comm a b (
      settled binary32 a.positive b.positive h.0 g.0 (plus_plain _ p.0) (plus_plain _ q.0),
      settled binary32 a.negative b.negative h.1 g.1 (minus_plain _ p.1) (minus_plain _ q.1),
    )

-- ---- the empty set adds nothing to a set that margins made

alike : (t : Bool) (x : Float) → cond t x x ≡ x
alike true x = refl
alike false x = refl

pub none_joined : (a : CollapsibleMarginSet) → Made a → joined no_margins a ≡ a
unfolding no_margins joined larger smaller
none_joined a p = rw (over a.positive p.0, under a.negative p.1)
  where
    over : (x : Float) → Plus x → cond (lt zero_f x) x zero_f ≡ x
    over x (inl e) = rw (e) (alike (lt zero_f zero_f) zero_f)
    over x (inr e) = rw (e)

    under : (x : Float) → Minus x → cond (lt x zero_f) x zero_f ≡ x
    under x (inl e) = rw (e) (alike (lt zero_f zero_f) zero_f)
    under x (inr e) = rw (e)

pub joined_none : (a : CollapsibleMarginSet) → Made a → joined a no_margins ≡ a
unfolding no_margins joined larger smaller
joined_none a p = rw (over a.positive p.0, under a.negative p.1)
  where
    over : (x : Float) → Plus x → cond (lt x zero_f) zero_f x ≡ x
    over x (inl e) = rw (e) (alike (lt zero_f zero_f) zero_f)
    over x (inr e) = rw (lt_asym zero_f x e)

    under : (x : Float) → Minus x → cond (lt zero_f x) zero_f x ≡ x
    under x (inl e) = rw (e) (alike (lt zero_f zero_f) zero_f)
    under x (inr e) = rw (lt_asym x zero_f e)
