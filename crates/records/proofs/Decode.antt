-- The records read back from the plain slices are the list's.
use mathlib.Core.Path.{◌≡◌, refl, ap, ◌∙◌}
use mathlib.Core.List.{List, [], ◌∷◌, ◌++◌, map}
use Prim.Native.Nat.{ℕ, zero, suc, ◌+◌, ◌*◌}
use native.Mathlib.Omega.{arith}
use lib.ListN.{length, drop, get_or}
use lib.Ieee.{Float}
use Rattle.geometry.specs.Geometry.{zero_f}
use Rattle.steps.specs.Candidates.{Candidate, candidate_words, candidate_numbers}
use Rattle.steps.specs.Results.{listed, on_front}
use Rattle.records.specs.Records.{record_of, record_at, records_from}
use Rattle.records.specs.declared.Record.{Record}

-- past one record the next stands first
next_at : (a b : ℕ) (ws : List ℕ) (x y z : Float) (xs : List Float) (k : ℕ) → record_at (a ∷ b ∷ ws) (x ∷ y ∷ z ∷ xs) (suc k) ≡ record_at ws xs k
next_at a b ws x y z xs k =
    let e : suc k * 2 ≡ suc (suc (k * 2)) = omega arith in
    let f : suc k * 2 + 1 ≡ suc (suc (k * 2 + 1)) = omega arith in
    let g : suc k * 3 ≡ suc (suc (suc (k * 3))) = omega arith in
    let h : suc k * 3 + 1 ≡ suc (suc (suc (k * 3 + 1))) = omega arith in
    let i : suc k * 3 + 2 ≡ suc (suc (suc (k * 3 + 2))) = omega arith in
    λ t. record {
      node = record { 0 = get_or (a ∷ b ∷ ws) (e t) 0 };
      order = record { 0 = get_or (a ∷ b ∷ ws) (f t) 0 };
      start = get_or (x ∷ y ∷ z ∷ xs) (g t) zero_f;
      end = get_or (x ∷ y ∷ z ∷ xs) (h t) zero_f;
      line = get_or (x ∷ y ∷ z ∷ xs) (i t) zero_f;
    }

first_of : (a b : ℕ) (ws : List ℕ) (x y z : Float) (xs : List Float) (n : ℕ)
    → records_from (a ∷ b ∷ ws) (x ∷ y ∷ z ∷ xs) (suc n) ≡ record { node = record { 0 = a }; order = record { 0 = b }; start = x; end = y; line = z } ∷ records_from ws xs n
unfolding records_from
first_of a b ws x y z xs zero = refl
first_of a b ws x y z xs (suc n) = rw (first_of a b ws x y z xs n, next_at a b ws x y z xs n)

pub read_back_lem : (l : List Candidate) (ws : List ℕ) (xs : List Float) → records_from (listed candidate_words l ++ ws) (listed candidate_numbers l ++ xs) (length l) ≡ map record_of l
unfolding listed records_from
read_back_lem [] ws xs = refl
read_back_lem (c ∷ l) ws xs =
    first_of c.node c.order (listed candidate_words l ++ ws) c.start c.end c.line (listed candidate_numbers l ++ xs) (length l) ∙ ap (λ (r : List Record). record_of c ∷ r) (read_back_lem l ws xs)

pub read_front : (l : List Candidate) (cw : List ℕ) (cx : List Float) → records_from (on_front (listed candidate_words l) cw) (on_front (listed candidate_numbers l) cx) (length l) ≡ map record_of l
unfolding on_front
read_front l cw cx = read_back_lem l (drop (length (listed candidate_words l)) cw) (drop (length (listed candidate_numbers l)) cx)
