-- A turn of the loop that stores records. Assumes nothing.
use mathlib.Core.Path.{◌≡◌, refl, ◌∙◌}
use mathlib.Core.List.{List, ◌++◌, append_assoc}
use Prim.Native.Nat.{ℕ, zero, suc, ◌+◌, ◌<◌}
use native.Mathlib.Numerals.{add-one}
use native.Mathlib.Omega.{arith}
use lib.ListN.{length, set, drop, get_or, length-append, length-drop}
use lib.Ieee.{Float}
use lib.Seq.{drop-cons, set_at}
use Rattle.records.specs.Records.{record_at, records_from}
use Rattle.records.specs.declared.Record.{Record}

pub length_records : (ws : List ℕ) (xs : List Float) (n : ℕ) → length (records_from ws xs n) ≡ n
unfolding records_from
length_records ws xs zero = refl
length_records ws xs (suc n) = length-append (records_from ws xs n) _ ∙ (let e = length_records ws xs n in omega arith)

-- the list after k turns
abbrev pub after : List ℕ → List Float → List Record → ℕ → List Record
after ws xs ys k = records_from ws xs k ++ drop k ys

pub turn : (ws : List ℕ) (xs : List Float) (ys : List Record) (k : ℕ) → k < length ys → set (after ws xs ys k) k (record_at ws xs k) ≡ after ws xs ys (k + 1)
unfolding records_from
turn ws xs ys k h =
    rw (add-one k, drop-cons ys k (record_at ws xs k) h, append_assoc)
    (set_at (records_from ws xs k) (get_or ys k (record_at ws xs k)) (drop (suc k) ys) (record_at ws xs k) k (length_records ws xs k))

pub length_after : (ws : List ℕ) (xs : List Float) (ys : List Record) (k : ℕ) → k < suc (length ys) → length (after ws xs ys k) ≡ length ys
length_after ws xs ys k h = rw (length-append, length_records, length-drop) (omega arith)

pub start : (ws : List ℕ) (xs : List Float) (ys : List Record) → ys ≡ after ws xs ys 0
unfolding records_from
start ws xs ys = refl
