-- Margin sets of whole margins: each side of 0 within 1024. Assumes nothing.
use Rattle.std.specs.Prelude.{◌≡◌, Bool, true, false, cond, ℤ, Float}
use Rattle.std.proofs.Common.{lit≤}
use Rattle.margin.specs.Margin.{no_margins, set_of, joined, joined_with, sum_of}
use Rattle.margin.specs.declared.CollapsibleMarginSet.{CollapsibleMarginSet}
use Rattle.whole.specs.Range.{Within, within_add, within_larger, within_smaller, zero_is}
use Rattle.integers.specs.Numbers.{SetZ, no_margins_z, set_of_z, joined_z, joined_with_z, sum_of_z}
use Rattle.exact.specs.Near.{Near, nought}

pub record SetIs (a : CollapsibleMarginSet) (k : SetZ) : Type 0 where
  pub positive : Within a.positive k.positive 0 1024
  pub negative : Within a.negative k.negative 1024 0

pub no_margins_is : SetIs no_margins no_margins_z
unfolding no_margins no_margins_z
no_margins_is = record { positive = zero_is; negative = zero_is }

pub set_of_is : {m : Float} {k : ℤ} → Near m k 1024 → SetIs (set_of m) (set_of_z k)
unfolding set_of set_of_z
set_of_is p = record { positive = within_larger nought p; negative = within_smaller nought p }

pub joined_is : {a b : CollapsibleMarginSet} {j k : SetZ} → SetIs a j → SetIs b k → SetIs (joined a b) (joined_z j k)
unfolding joined joined_z
joined_is p q = record { positive = within_larger p.positive q.positive; negative = within_smaller p.negative q.negative }

pub joined_with_is : {a : CollapsibleMarginSet} {j : SetZ} {m : Float} {k : ℤ} → SetIs a j → Near m k 1024 → SetIs (joined_with a m) (joined_with_z j k)
unfolding joined_with joined_with_z
joined_with_is p q = joined_is p (set_of_is q)

pub sum_of_is : {a : CollapsibleMarginSet} {k : SetZ} → SetIs a k → Near (sum_of a) (sum_of_z k) 1024
unfolding sum_of sum_of_z
sum_of_is p = within_add p.positive p.negative (lit≤ tt) (lit≤ tt)

set_cond : (t : Bool) {a b : CollapsibleMarginSet} {j k : SetZ} → SetIs a j → SetIs b k → SetIs (cond t a b) (cond t j k)
set_cond true p q = p
set_cond false p q = q

pub set_test : {s t : Bool} {a b : CollapsibleMarginSet} {j k : SetZ} → s ≡ t → SetIs a j → SetIs b k → SetIs (cond s a b) (cond t j k)
set_test {s} {t} e p q = rw e (set_cond t p q)
