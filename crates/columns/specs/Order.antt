-- The two orders of the numbers, how one becomes the other, and the lookup: read field by field, a node has the number that it had node by node.
use Rattle.std.specs.Prelude.{◌≡◌, List, ◌++◌, ℕ, zero, suc, ◌+◌, ◌*◌, ◌-◌, ◌/◌, ◌%◌, ◌<◌, ◌≤◌, length, get_or, drop, Float}
use Rattle.std.proofs.Common.{ap, ◌∙◌, arith, length-append, length-drop, get_or-append-add, get_or-drop}
use Rattle.std.proofs.Math.Nat.{mul-div-le}
use Rattle.std.proofs.Math.ListN.{get_or-append}
use Rattle.std.proofs.Math.Arith.{digits_div, digits_mod}
use Rattle.geometry.specs.Geometry.{zero_f}
use Rattle.style.specs.Style.{plane_of, number_place, number_at}
use Rattle.tree.specs.Table.{from}
use Rattle.tree.proofs.Lists.{length_from}
use Rattle.columns.specs.Reader.{Reader}

-- number f of node i, node by node: 28 numbers of the first node, then 28 of the next; 0 past the end
abbrev pub by_row : List Float → ℕ → ℕ → Float
by_row os i f = get_or os (i * 28 + f) zero_f

-- readers of the two orders
abbrev pub rows : List Float → Reader
rows os = record { lent = length os; number = by_row os }

abbrev pub columns : List Float → Reader
columns xs = record { lent = length xs; number = number_at xs }

-- the first whole nodes' numbers by a rule of their place, and past them the table as it is
abbrev pub remade : (ℕ → Float) → List Float → List Float
remade look l = from look 0 (28 * plane_of l) ++ drop (28 * plane_of l) l

-- numbers that stood node by node, put field by field: of n nodes, place k gets number k / n of node k % n
abbrev pub field_at : List Float → ℕ → Float
field_at os k = by_row os (k % plane_of os) (k / plane_of os)

unfoldable pub by_column : List Float → List Float
by_column os = remade (field_at os) os

-- ---- what stands where in a table remade
pub remade_long : (look : ℕ → Float) (l : List Float) → length (remade look l) ≡ length l
remade_long look l = simp (length-append, length_from, length-drop) (omega (arith, mul-div-le (length l) 28))

from_at : (f : ℕ → Float) (i n k : ℕ) → k < n → get_or (from f i n) k zero_f ≡ f (i + k)
unfolding from
from_at f i zero k h = absurd (omega arith)
from_at f i (suc n) zero h = ap f (omega arith)
from_at f i (suc n) (suc k) h = from_at f (suc i) n k (omega arith) ∙ ap f (omega arith)

pub remade_in : (look : ℕ → Float) (l : List Float) (k : ℕ) → k < 28 * plane_of l → get_or (remade look l) k zero_f ≡ look k
remade_in look l k h =
    let m = 28 * plane_of l in
    get_or-append (from look 0 m) (drop m l) zero_f k (rw (length_from look 0 m) h) ∙ from_at look 0 m k h ∙ ap look (omega arith)

pub remade_past : (look : ℕ → Float) (l : List Float) (k : ℕ) → 28 * plane_of l ≤ k → get_or (remade look l) k zero_f ≡ get_or l k zero_f
remade_past look l k h =
    let m = 28 * plane_of l in
    let p : k ≡ length (from look 0 m) + (k - m) = rw (length_from look 0 m) (omega arith) in
    let q : m + (k - m) ≡ k = omega arith in
    ap (λ (j : ℕ). get_or (remade look l) j zero_f) p ∙ get_or-append-add (from look 0 m) (drop m l) (k - m) zero_f ∙ get_or-drop m l (k - m) zero_f ∙ ap (λ (j : ℕ). get_or l j zero_f) q

-- what stands at the place of number f of node i
pub at_place : (os : List Float) (i f : ℕ) → i < plane_of os → field_at os (number_place (plane_of os) i f) ≡ by_row os i f
at_place os i f h = cc (digits_mod f h, digits_div f h)
