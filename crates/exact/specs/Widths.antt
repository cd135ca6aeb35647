-- Step F on a page of the profile: the width pass is that over whole numbers. Assumes nothing.
use Rattle.std.specs.Prelude.{◌≡◌, refl, ℕ, ◌+◌, ◌*◌, ◌^◌, ◌≤◌, ℤ, Float, Option, Some}
use Rattle.std.proofs.Common.{arith, lit≤}
use Rattle.util.specs.Math.{capped, floored, clamped}
use Rattle.length.specs.Available.{available_less, definite}
use Rattle.length.specs.declared.AvailableSpace.{AvailableSpace}
use Rattle.length.specs.declared.AvailableSpace.TheVariants.{Definite, MinContent, MaxContent}
use Rattle.style.specs.Flow.{flow_of}
use Rattle.style.specs.declared.Style.{Style}
use Rattle.steps.specs.Width.{outer_of, want_by, want_sized}
use Rattle.steps.specs.Row.{ProbeWords, no_probe, probe_note, probe_code, available_kind, bit}
use Rattle.steps.specs.declared.Sizing.{Sizing}
use Rattle.steps.specs.declared.ProbeInput.{ProbeInput}
use Rattle.steps.specs.declared.Want.{Want}
use Rattle.steps.specs.declared.Want.TheVariants.{Nothing, Outer}
use Rattle.steps.specs.declared.Want.TheVariants as want
use Rattle.whole.specs.Range.{wider, within_larger, within_smaller, zero_is}
use Rattle.integers.specs.Numbers.{MayZ, SomeZ, is_some_z, capped_z, floored_z, clamped_z}
use Rattle.integers.specs.Styles.{flow_z, AvailableZ, DefiniteZ, MinContentZ, MaxContentZ, available_less_z, definite_z, ProbeInputZ}
use Rattle.integers.specs.Boxes.{BoxZ}
use Rattle.integers.specs.Rows.{ProbeWordsZ, no_probe_z, available_kind_z, probe_note_z}
use Rattle.integers.specs.Widths.{outer_of_z, WantZ, NothingZ, OuterZ, ProbeZ, want_by_z, want_sized_z}
use Rattle.exact.specs.Near.{Near, wide, plus_is, minus_is, larger_is, MayIs, none_is, some_is, or_zero_is, is_some_is, clamp_opt_is}
use Rattle.exact.specs.Read.{style_z}
use Rattle.exact.specs.Boxes.{BoxIs, both_across}

-- a row number: the whole number k, and below 2 ^ 24 in size, so that refusal 8 does not see it
abbrev pub Holds : Float → ℤ → Type 0
Holds x k = Near x k 16777215

-- ---- the available width
pub data AvailableIs (n : ℕ) : AvailableSpace → AvailableZ → Type 0 where
  definite_is : {x : Float} {k : ℤ} → Near x k n → AvailableIs n (Definite x) (DefiniteZ k)
  min_is : AvailableIs n MinContent MinContentZ
  max_is : AvailableIs n MaxContent MaxContentZ

pub less_is : {n m : ℕ} {a : AvailableSpace} {b : AvailableZ} {x : Float} {k : ℤ} → AvailableIs n a b → Near x k m → n + m ≤ 2 ^ 24 → AvailableIs (n + m) (available_less a x) (available_less_z b k)
unfolding available_less available_less_z
less_is (definite_is p) q u = definite_is (minus_is p q u)
less_is min_is q u = min_is
less_is max_is q u = max_is

definite_may : {n : ℕ} {a : AvailableSpace} {b : AvailableZ} → AvailableIs n a b → MayIs n (definite a) (definite_z b)
unfolding definite definite_z
definite_may (definite_is p) = some_is p
definite_may min_is = none_is
definite_may max_is = none_is

kind_is : {n : ℕ} {a : AvailableSpace} {b : AvailableZ} → AvailableIs n a b → available_kind a ≡ available_kind_z b
unfolding available_kind available_kind_z
kind_is (definite_is p) = refl
kind_is min_is = refl
kind_is max_is = refl

-- a leaf's width lies between the two of its table
pub leaf_clamp : {x lo hi : Float} {k a b : ℤ} {n : ℕ} → Near x k n → Near lo a 1024 → Near hi b 1024 → Near (clamped x (Some lo) (Some hi)) (clamped_z k (SomeZ a) (SomeZ b)) 1024
unfolding clamped clamped_z capped capped_z floored floored_z
leaf_clamp p q r = wider (within_larger (within_smaller p r) q) (omega arith) (omega arith)

-- ---- what F wants of a child
pub record ProbeIs (n : ℕ) (q : ProbeInput) (z : ProbeInputZ) : Type 0 where
  pub height : MayIs 5120 q.height z.height
  pub available : AvailableIs n q.available z.available

pub data WantIs (n : ℕ) : Want → WantZ → Type 0 where
  nothing_is : WantIs n Nothing NothingZ
  outer_is : {x : Float} {k : ℤ} → Near x k 7168 → WantIs n (Outer x) (OuterZ k)
  probe_is : {q : ProbeInput} {z : ProbeInputZ} → ProbeIs n q z → WantIs n (want.Probe q) (ProbeZ z)

pub outer_of_is : {z : Sizing} {k : BoxZ} {m x : Float} {j l : ℤ} {n : ℕ} → BoxIs z k → Near m j 2048 → Near x l n → 4096 ≤ n → n + 2048 ≤ 2 ^ 24 → Near (outer_of z m x) (outer_of_z k j l) (n + 2048)
unfolding outer_of outer_of_z
outer_of_is p q r u v = plus_is (larger_is r (wide (both_across p.both) u)) q v

want_by_is : {z : Sizing} {k : BoxZ} {m : Float} {j : ℤ} {n : ℕ} {a : AvailableSpace} {b : AvailableZ} {o : Option Float} {c : MayZ} → BoxIs z k → Near m j 2048 → AvailableIs n a b → n + 2048 ≤ 2 ^ 24 → MayIs 5120 o c
    → WantIs (n + 2048) (want_by z m a o) (want_by_z k j b c)
unfolding want_by want_by_z
want_by_is p q r u none_is = probe_is (record { height = clamp_opt_is p.size.height p.min.height p.max.height; available = less_is r q u })
want_by_is p q r u (some_is w) = outer_is (outer_of_is p q w (lit≤ tt) (lit≤ tt))

pub want_sized_is : {z : Sizing} {k : BoxZ} {m : Float} {j : ℤ} {n : ℕ} {a : AvailableSpace} {b : AvailableZ} → BoxIs z k → Near m j 2048 → AvailableIs n a b → n + 2048 ≤ 2 ^ 24 → WantIs (n + 2048) (want_sized z m a) (want_sized_z k j b)
unfolding want_sized want_sized_z
want_sized_is p q r u = want_by_is p q r u (clamp_opt_is p.size.width p.min.width p.max.width)

pub flow_is : (s : Style) → flow_z (style_z s) ≡ flow_of s
unfolding flow_z flow_of style_z
flow_is s = refl

-- ---- probe words
pub record WordsAre (p : ProbeWords) (z : ProbeWordsZ) : Type 0 where
  pub width : Holds p.numbers.width z.width
  pub height : Holds p.numbers.height z.height
  pub answer : Holds p.numbers.answer z.answer
  pub code : p.code ≡ z.code

pub no_probe_is : WordsAre no_probe no_probe_z
unfolding no_probe no_probe_z
no_probe_is = record { width = zero_is; height = zero_is; answer = zero_is; code = refl }

code_is : {n : ℕ} {q : ProbeInput} {z : ProbeInputZ} → ProbeIs n q z → probe_code q ≡ 1 + 2 * available_kind_z z.available + 8 * bit (is_some_z z.height)
unfolding probe_code
code_is p = rw (kind_is p.available, is_some_is p.height)

pub note_is : {n m : ℕ} {q : ProbeInput} {z : ProbeInputZ} {x : Float} {k : ℤ} → ProbeIs n q z → Near x k m → n ≤ 16777215 → m ≤ 16777215 → WordsAre (probe_note q x) (probe_note_z z k)
unfolding probe_note probe_note_z
note_is p q u v = record { width = wide (or_zero_is (definite_may p.available)) u; height = wide (or_zero_is p.height) (lit≤ tt); answer = wide q v; code = code_is p }
