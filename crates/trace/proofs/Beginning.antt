-- Where the events start, byte by byte. Assumes nothing.
use mathlib.Core.Path.{◌≡◌, sym, ◌∙◌, ap}
use mathlib.Core.Bool.{Bool, true, false}
use mathlib.Core.List.{List, ◌∷◌}
use Prim.Native.Nat.{ℕ, suc, ◌+◌, ◌<◌, ◌≤◌}
use native.Mathlib.Numerals.{add-one}
use lib.ListN.{length, drop, get_or, drop_of_length-le}
use lib.Seq.{drop-cons}
use lib.Dec.{eqb}
use Rattle.text.specs.Pieces.{bit}
use Rattle.trace.specs.File.{starts_events, before_events}

none_before : (fresh : Bool) (b : ℕ) (s : List ℕ) → starts_events fresh (b ∷ s) ≡ true → before_events fresh (b ∷ s) ≡ (0, 0)
unfolding before_events
none_before fresh b s e = rw e

one_before : (fresh : Bool) (b : ℕ) (s : List ℕ) → starts_events fresh (b ∷ s) ≡ false → before_events fresh (b ∷ s) ≡ ((before_events (eqb b 10) s).0 + 1, bit fresh + (before_events (eqb b 10) s).1)
unfolding before_events
one_before fresh b s e = rw e

-- the line starts here
pub here : (fresh : Bool) (s : List ℕ) (i : ℕ) → i < length s → starts_events fresh (drop i s) ≡ true → before_events fresh (drop i s) ≡ (0, 0)
here fresh s i h e =
    let d = drop-cons s i 0 h in
    ap (before_events fresh) d ∙ none_before fresh (get_or s i 0) (drop (suc i) s) (ap (starts_events fresh) (sym d) ∙ e)

-- it does not: a byte more
pub further : (fresh : Bool) (s : List ℕ) (i : ℕ) → i < length s → starts_events fresh (drop i s) ≡ false
    → before_events fresh (drop i s) ≡ ((before_events (eqb (get_or s i 0) 10) (drop (i + 1) s)).0 + 1, bit fresh + (before_events (eqb (get_or s i 0) 10) (drop (i + 1) s)).1)
further fresh s i h e =
    let d = drop-cons s i 0 h in
    ap (before_events fresh) d ∙ one_before fresh (get_or s i 0) (drop (suc i) s) (ap (starts_events fresh) (sym d) ∙ e) ∙ rw (add-one i)

-- there is none
pub nowhere : (fresh : Bool) (s : List ℕ) (i : ℕ) → length s ≤ i → before_events fresh (drop i s) ≡ (0, 0)
unfolding before_events
nowhere fresh s i h = rw (drop_of_length-le s h)
