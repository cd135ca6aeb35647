-- The profile of a node by its 28 numbers, in one run, and that this is of_profile. Assumes nothing.
use Rattle.std.specs.Prelude.{◌≡◌, refl, Bool, true, false, cond, not, ◌&&◌, ◌||◌, List, ℕ, zero, suc, ◌+◌, ◌<◌, ◌≤◌, eqb, ltb, Float, is_some}
use Rattle.std.proofs.Math.Bool.{and_assoc}
use Rattle.length.specs.Length.{is_auto}
use Rattle.length.specs.declared.Length.{Length}
use Rattle.style.specs.Codes.{align_at, unit_of, length_of, ratio_of}
use Rattle.style.specs.Style.{word_at, plane_of, number_at, length_at, size_at, rect_at, measure_at, style_at}
use Rattle.steps.specs.Page.{nodes_in}
use Rattle.steps.specs.Scan.{scan, some}
use Rattle.profile.specs.Profile.{whole_length, whole_sizes, whole_sides, centers, plain_style, profile_style, of_profile}

-- tables of at most 1,024 nodes, each with its place in the planes
pub record Placed (ws : List ℕ) (xs : List Float) : Type 0 where
  pub few : nodes_in ws ≤ 1024
  pub planes : nodes_in ws ≡ plane_of xs

-- node i is one of n, whose numbers stand in planes of n
abbrev pub NodeOf : List Float → ℕ → ℕ → Type 0
NodeOf xs n i = (n ≡ plane_of xs) × (i < n)

-- the unit of number f: a field has its own, the ratio has none, and what is no length counts as pixels
unfoldable pub unit_at : ℕ → ℕ → ℕ → ℕ
unit_at u v f = cond (ltb f 22) (unit_of u v f) (cond (eqb f 22) 0 1)

-- number f of node i as a length
unfoldable pub as_length : ℕ → ℕ → List Float → ℕ → ℕ → Length
as_length u v xs i f = length_of (unit_at u v f) (number_at xs i f)

-- and whether it breaks the list
unfoldable pub broken : ℕ → ℕ → List Float → ℕ → ℕ → Bool
broken u v xs i f = not (whole_length (as_length u v xs i f))

-- both side margins are auto: numbers 9 and 7
unfoldable pub sides_auto : ℕ → ℕ → List Float → ℕ → Bool
sides_auto u v xs i = is_auto (as_length u v xs i 9) && is_auto (as_length u v xs i 7)

-- a node, by its style word, its unit words and its numbers
unfoldable pub in_numbers : ℕ → ℕ → ℕ → List Float → ℕ → Bool
in_numbers w u v xs i =
    not (some (broken u v xs i) 28) && (not (is_some (ratio_of (number_at xs i 22))) && (not (centers (align_at w)) && (eqb i 0 || not (sides_auto u v xs i))))

-- ---- p at each of n places from i on
unfoldable all : (ℕ → Bool) → ℕ → ℕ → Bool
all p i zero = true
all p i (suc n) = p i && all p (i + 1) n

none_fails : (p : ℕ → Bool) (n i : ℕ) → not (scan (λ f. not (p f)) (λ _. true) false i n) ≡ all p i n
unfolding scan all
none_fails p zero i = refl
none_fails p (suc n) i = go (p i) (none_fails p n (i + 1))
  where
    go : (b : Bool) → not (scan (λ f. not (p f)) (λ _. true) false (i + 1) n) ≡ all p (i + 1) n → not (elim (not b) [ true ↦ true | false ↦ scan (λ f. not (p f)) (λ _. true) false (i + 1) n ]) ≡ (b && all p (i + 1) n)
    go true e = e
    go false e = refl

-- a later one of three first
swap : (a b c : Bool) → (a && (b && c)) ≡ (b && (a && c))
swap true b c = refl
swap false true c = refl
swap false false c = refl

-- the tests of of_profile, in the order of the numbers: 24 to 26 stand there before the ratio, 23, the alignment and 27
in_order : (p : ℕ → Bool) (r c t : Bool) → p 22 ≡ true → (all p 0 28 && (r && (c && t))) ≡ ((((p 0 && p 1) && ((p 2 && p 3) && (p 4 && p 5))) && (((p 6 && (p 7 && (p 8 && p 9))) && ((p 10 && (p 11 && (p 12 && p 13))) && ((p 14 && (p 15 && (p 16 && p 17))) && (p 18 && (p 19 && (p 20 && p 21)))))) && ((p 24 && (p 25 && p 26)) && (r && (p 23 && c))))) && (p 27 && t))
unfolding all
in_order p r c t e = rw e (simp and_assoc (rw (swap r (p 23) _, swap (p 26) (p 23) _, swap (p 25) (p 23) _, swap (p 24) (p 23) _, swap c (p 27) t, swap r (p 27) _)))

-- a node is of the profile exactly if its words and numbers are
pub by_numbers : (ws : List ℕ) (xs : List Float) (i : ℕ) → in_numbers (word_at ws i 1) (word_at ws i 2) (word_at ws i 3) xs i ≡ of_profile ws xs i
unfolding in_numbers broken sides_auto as_length unit_at of_profile profile_style whole_sizes whole_sides plain_style style_at size_at rect_at length_at measure_at length_of
by_numbers ws xs i =
    let u = word_at ws i 2 in
    let v = word_at ws i 3 in
    let p : ℕ → Bool = λ f. whole_length (as_length u v xs i f) in
    let one = eqb i 0 || not (sides_auto u v xs i) in
    rw (none_fails p 28 0) (in_order p (not (is_some (ratio_of (number_at xs i 22)))) (not (centers (align_at (word_at ws i 1)))) one refl)
