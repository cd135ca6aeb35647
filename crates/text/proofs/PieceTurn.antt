-- What the library's count, first place and prefix say of pieces. Assumes nothing.
use Rattle.std.proofs.Common.{◌≡◌, refl, sym, ◌∙◌, ap, Bool, true, false, cond, not, ◌&&◌, List, [], ◌∷◌, ℕ, zero, suc, ◌+◌, ◌-◌, ◌<◌, ◌≤◌, Option, None, Some, length, take, drop, get_or, eqb, ltb, arith, count_by, zero-add, length-drop, MatchOption}
use Rattle.std.specs.List.{position_or_len, position, starts_with as begins}
use Rattle.std.specs.Cmp.Lexicographic.{pointwise}
use Rattle.std.proofs.lemmas.Bool.Decides.{nat_tests}
use Rattle.std.proofs.Math.ListN.{drop_of_length-le}
use Rattle.std.proofs.Math.Seq.{drop-cons}
use Rattle.std.proofs.Common.{add-one, drop-drop, ltb-false}
use Rattle.std.proofs.lemmas.List.Recursion.{is_count_by}
use Rattle.std.proofs.lemmas.List.Sums.{prefix_len-le-length}
use Rattle.std.proofs.Math.Dec.{eqb-suc-zero}
use Rattle.text.specs.Laws.{past_none, piece_is, line_is, piece-between}
use Rattle.text.specs.Pieces.{longer, split, lines_of, piece_at, starts_with, same, up_to, past, Starts, Ends}

-- the text from place i on is its byte and what follows
pub step : (s : List ℕ) (i : ℕ) → i < length s → drop i s ≡ get_or s i 0 ∷ drop (i + 1) s
step s i h = rw (add-one i) (drop-cons s i 0 h)

longer_length : (b : ℕ) (ps : List (List ℕ)) → length (longer b ps) ≡ length ps
unfolding longer
longer_length b [] = refl
longer_length b (p ∷ ps) = refl

abbrev seps : ℕ → List ℕ → ℕ
seps c [] = 0
seps c (b ∷ s) = cond (eqb b c) (1 + seps c s) (seps c s)

count_cons : (c b : ℕ) (s : List ℕ) (e : Bool) → eqb b c ≡ e → length (split c s) ≡ seps c s + 1 → length (split c (b ∷ s)) ≡ seps c (b ∷ s) + 1
unfolding split
count_cons c b s true q h = rw q (omega arith)
count_cons c b s false q h = rw q (longer_length b (split c s) ∙ h)

count_is : (c : ℕ) (s : List ℕ) → length (split c s) ≡ seps c s + 1
unfolding split
count_is c [] = refl
count_is c (b ∷ s) = count_cons c b s (eqb b c) refl (count_is c s)

-- a piece for each separator, and one more
pub split_count : (c : ℕ) (s : List ℕ) → length (split c s) ≡ count_by (λ b. eqb b c) s + 1
split_count c s = count_is c s ∙ ap (λ n. n + 1) (is_count_by (seps c) (λ b. eqb b c) refl (λ _ _. refl) s)

-- the first separator's place, or the length
abbrev first : ℕ → List ℕ → ℕ
first c s = position_or_len (λ b. eqb b c) s

up_cons : (c b : ℕ) (s : List ℕ) (e : Bool) → eqb b c ≡ e → take (first c s) s ≡ up_to c s → take (first c (b ∷ s)) (b ∷ s) ≡ up_to c (b ∷ s)
unfolding up_to
up_cons c b s true q h = rw q
up_cons c b s false q h =
    let z : 1 + first c s ≡ suc (first c s) = omega arith in
    rw (q, z, h)

up_first : (c : ℕ) (s : List ℕ) → take (first c s) s ≡ up_to c s
unfolding up_to
up_first c [] = refl
up_first c (b ∷ s) = up_cons c b s (eqb b c) refl (up_first c s)

past_cons : (c b : ℕ) (s : List ℕ) (e : Bool) → eqb b c ≡ e → drop (first c s + 1) s ≡ past c 1 s → drop (first c (b ∷ s) + 1) (b ∷ s) ≡ past c 1 (b ∷ s)
unfolding past
past_cons c b s true q h = rw q
past_cons c b s false q h =
    let z : 1 + first c s + 1 ≡ suc (first c s + 1) = omega arith in
    rw (q, z, h)

past_first : (c : ℕ) (s : List ℕ) → drop (first c s + 1) s ≡ past c 1 s
unfolding past
past_first c [] = refl
past_first c (b ∷ s) = past_cons c b s (eqb b c) refl (past_first c s)

-- the piece that starts at `from` ends at the first separator past it
ends_first : (c from : ℕ) (s : List ℕ) → from ≤ length s → Ends c from s (from + first c (drop from s))
ends_first c from s h =
    let t = drop from s in
    let w : first c t ≤ length s - from = rw (← length-drop from s) (prefix_len-le-length (λ b. not (eqb b c)) t) in
    let z : from + first c t - from ≡ first c t = omega arith in
    let y : from + first c t + 1 ≡ from + (first c t + 1) = omega arith in
    record { after = omega arith; within = omega arith; piece = rw z (up_first c t); rest = rw y (sym (drop-drop (first c t + 1) from s) ∙ past_first c t) }

by_position : (c from : ℕ) (s : List ℕ) (r : Option ℕ) → from ≤ length s → (b : Bool) → ltb (first c (drop from s)) (length (drop from s)) ≡ b → r ≡ cond (ltb (first c (drop from s)) (length (drop from s))) (Some (first c (drop from s))) None → MatchOption r (Ends c from s (length s)) (λ k. Ends c from s (from + k))
by_position c from s r h true q e = rw (e, q) (ends_first c from s h)
by_position c from s r h false q e =
    let l : length s - from ≤ first c (drop from s) = rw (← length-drop from s) (ltb-false _ _ q) in
    let w : first c (drop from s) ≤ length s - from = rw (← length-drop from s) (prefix_len-le-length (λ b. not (eqb b c)) (drop from s)) in
    let z : length s ≡ from + first c (drop from s) = omega arith in
    rw (e, q, z) (ends_first c from s h)

-- where a piece ends, by the first separator past its start
pub ends_at : (c from : ℕ) (s : List ℕ) (r : Option ℕ) → from ≤ length s → r ≡ position (λ b. eqb b c) (drop from s) → MatchOption r (Ends c from s (length s)) (λ k. Ends c from s (from + k))
ends_at c from s r h e = by_position c from s r h (ltb (first c (drop from s)) (length (drop from s))) refl e

plus_by : (c i j b : ℕ) (s : List ℕ) (e : Bool) → eqb b c ≡ e → past c j (past c i s) ≡ past c (i + j) s → past c j (past c (suc i) s) ≡ past c (suc i + j) s → past c j (past c (suc i) (b ∷ s)) ≡ past c (suc i + j) (b ∷ s)
unfolding past
plus_by c i j b s true q h k =
    let z : suc i + j ≡ suc (i + j) = omega arith in
    rw (z, q) h
plus_by c i j b s false q h k =
    let z : suc i + j ≡ suc (i + j) = omega arith in
    rw (z, q) (k ∙ ap (λ n. past c n s) z)

-- i separators and j more
pub past_plus : (c i j : ℕ) (s : List ℕ) → past c j (past c i s) ≡ past c (i + j) s
unfolding past
past_plus c zero j s = ap (λ n. past c n s) (sym (zero-add j))
past_plus c (suc i) j [] = past_none c j ∙ sym (past_none c (suc i + j))
past_plus c (suc i) j (b ∷ s) = plus_by c i j b s (eqb b c) refl (past_plus c i j s) (past_plus c (suc i) j s)

eqb_turned : (a b : ℕ) → eqb a b ≡ eqb b a
eqb_turned a b = grind (arith, nat_tests)

-- the next piece starts past the separator
pub next_start : (c i : ℕ) (s : List ℕ) (a e : ℕ) → drop a s ≡ past c i s → Ends c a s e → drop (e + 1) s ≡ past c (i + 1) s
next_start c i s a e h ends = ends.rest ∙ ap (past c 1) h ∙ past_plus c i 1 s

-- past the last piece nothing starts
pub no_start : (c i k : ℕ) (s : List ℕ) (a e : ℕ) → i < k → drop a s ≡ past c i s → Ends c a s e → e ≡ length s → Starts c k s e
no_start c i k s a e l h ends z =
    let y : i + 1 + (k - (i + 1)) ≡ k = omega arith in
    let none : drop (e + 1) s ≡ [] = drop_of_length-le s (omega arith) in
    record {
      within = ends.within;
      rest =
          drop_of_length-le s (omega arith)
          ∙ sym (past_none c (k - (i + 1)))
          ∙ ap (past c (k - (i + 1))) (sym none ∙ next_start c i s a e h ends)
          ∙ past_plus c (i + 1) (k - (i + 1)) s
          ∙ ap (λ n. past c n s) y;
    }

pub past_zero : (c : ℕ) (s : List ℕ) → s ≡ past c 0 s
unfolding past
past_zero c s = refl

-- a key at the start, by the library's test
begins_by : (key s : List ℕ) → pointwise eqb key (take (length key) s) ≡ starts_with key s
unfolding starts_with
begins_by [] s = refl
begins_by (k ∷ key) [] = refl
begins_by (k ∷ key) (b ∷ s) = ap (λ t. eqb k b && t) (begins_by key s) ∙ ap (λ t. t && starts_with key s) (eqb_turned k b)

pub begins_is : (key s : List ℕ) → begins eqb s key ≡ starts_with key s
begins_is key s = begins_by key s

pub prefix_is : (key s : List ℕ) → pointwise eqb (take (length key) s) key ≡ starts_with key s
unfolding starts_with
prefix_is [] s = refl
prefix_is (k ∷ key) [] = refl
prefix_is (k ∷ key) (b ∷ s) = ap (λ t. eqb b k && t) (prefix_is key s)

zero_long : (k : ℕ) (key : List ℕ) → eqb 0 (length (k ∷ key)) ≡ false
zero_long k key = grind (arith, nat_tests)

length_suc : (a b : ℕ) (l m : List ℕ) → eqb (length (a ∷ l)) (length (b ∷ m)) ≡ eqb (length l) (length m)
length_suc a b l m = grind (arith, nat_tests)

swap_ands : (x y z : Bool) → x && (y && z) ≡ y && (x && z)
swap_ands x y z = grind arith

pub same_is : (key s : List ℕ) → pointwise eqb s key ≡ same key s
unfolding same starts_with
same_is [] [] = refl
same_is [] (b ∷ s) = rw eqb-suc-zero
same_is (k ∷ key) [] = rw (zero_long k key)
same_is (k ∷ key) (b ∷ s) =
    ap (λ t. eqb b k && t) (same_is key s) ∙ rw (length_suc b k s key) (swap_ands (eqb b k) (eqb (length s) (length key)) (starts_with key s))

pub line_piece : (k : ℕ) (s : List ℕ) → piece_at (split 10 s) k ≡ piece_at (lines_of s) k
line_piece k s = piece_is 10 k s ∙ sym (line_is k s)

-- what lies between the two ends of a piece
pub between : (c k : ℕ) (s : List ℕ) (a e : ℕ) → Starts c k s a → Ends c a s e → take (e - a) (drop a s) ≡ piece_at (split c s) k
between c k s a e starts ends = piece-between c k s a e starts ends
