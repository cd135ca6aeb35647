-- The loop of `move_records`: what is done and what is left, and one turn.
use mathlib.Core.Path.{◌≡◌, refl, sym, ap, ◌∙◌}
use mathlib.Core.List.{List, [], ◌∷◌, ◌++◌, append_assoc, append-nil, map}
use Prim.Native.Nat.{ℕ, ◌+◌, ◌*◌, ◌<◌, ◌≤◌}
use native.Mathlib.Omega.{arith}
use lib.ListN.{length, get_or, set, length-append}
use lib.Ieee.{Float, add, nan, binary32}
use Rattle.tree.proofs.Lists.{getD-in, set-in}
use Rattle.steps.specs.Results.{listed}
use Rattle.steps.specs.Candidates.{Candidate, candidate_numbers}
use Rattle.steps.proofs.Listed.{listed_nil, listed_cons, listed_append, length_listed}
use Rattle.candidates.specs.Gathered.{shifted}

pub record Rest (xs : List Float) (x y : Float) (l : List Candidate) (z : List Float) (i : ℕ) : Type 0 where
  pub done : List Candidate
  pub left : List Candidate
  pub whole : map (shifted x y) l ≡ done ++ map (shifted x y) left
  pub long : length done ≡ i
  pub total : length l ≡ i + length left
  pub is : xs ≡ listed candidate_numbers done ++ (listed candidate_numbers left ++ z)

pub begin : (xs : List Float) (x y : Float) (l : List Candidate) (z : List Float) → xs ≡ listed candidate_numbers l ++ z → Rest xs x y l z 0
unfolding listed
begin xs x y l z e = record { done = []; left = l; whole = refl; long = refl; total = omega arith; is = e }

-- three sums in place
abbrev pub Summed : List Float → ℕ → Float → Float → List Float
Summed xs k x y =
    let a = set xs k (add binary32 (get_or xs k nan) x) in
    let b = set a (k + 1) (add binary32 (get_or a (k + 1) nan) x) in
    set b (k + 2) (add binary32 (get_or b (k + 2) nan) y)

stored : (c : Candidate) (q z : List Float) (k : ℕ) (x y : Float) → length q ≡ k → Summed (q ++ (candidate_numbers c ++ z)) k x y ≡ q ++ (candidate_numbers (shifted x y c) ++ z)
unfolding shifted
stored c q z k x y e =
    let s1 = add binary32 c.start x in
    let s2 = add binary32 c.end x in
    let g1 : get_or (q ++ (candidate_numbers c ++ z)) k nan ≡ c.start = getD-in q [] c.start (c.end ∷ c.line ∷ z) nan k (omega arith) in
    let a1 : set (q ++ (candidate_numbers c ++ z)) k s1 ≡ q ++ (s1 ∷ c.end ∷ c.line ∷ z) = set-in q [] c.start (c.end ∷ c.line ∷ z) s1 k (omega arith) in
    let g2 : get_or (q ++ (s1 ∷ c.end ∷ c.line ∷ z)) (k + 1) nan ≡ c.end = getD-in q (s1 ∷ []) c.end (c.line ∷ z) nan (k + 1) (ap (λ (n : ℕ). n + 1) e) in
    let a2 : set (q ++ (s1 ∷ c.end ∷ c.line ∷ z)) (k + 1) s2 ≡ q ++ (s1 ∷ s2 ∷ c.line ∷ z) = set-in q (s1 ∷ []) c.end (c.line ∷ z) s2 (k + 1) (ap (λ (n : ℕ). n + 1) e) in
    let g3 : get_or (q ++ (s1 ∷ s2 ∷ c.line ∷ z)) (k + 2) nan ≡ c.line = getD-in q (s1 ∷ s2 ∷ []) c.line z nan (k + 2) (ap (λ (n : ℕ). n + 2) e) in
    rw (g1, a1, g2, a2, g3) (set-in q (s1 ∷ s2 ∷ []) c.line z (add binary32 c.line y) (k + 2) (ap (λ (n : ℕ). n + 2) e))

turn_of : (xs : List Float) (x y : Float) (l : List Candidate) (z : List Float) (i n : ℕ) (done left : List Candidate) → map (shifted x y) l ≡ done ++ map (shifted x y) left → length done ≡ i → length l ≡ i + length left
    → xs ≡ listed candidate_numbers done ++ (listed candidate_numbers left ++ z) → length l ≡ n → i < n → Rest (Summed xs (3 * i) x y) x y l z (i + 1)
turn_of xs x y l z i n done [] w lg tl e hn lt = absurd (omega arith)
turn_of xs x y l z i n done (c ∷ us) w lg tl e hn lt =
    let q : length (listed candidate_numbers done) ≡ 3 * i = length_listed candidate_numbers 3 (λ _. refl) done ∙ ap (λ (k : ℕ). 3 * k) lg in
    let e2 : xs ≡ listed candidate_numbers done ++ (candidate_numbers c ++ (listed candidate_numbers us ++ z)) = e ∙ rw (listed_cons candidate_numbers c us) refl in
    record {
      done = done ++ (shifted x y c ∷ []);
      left = us;
      whole = w ∙ sym (append_assoc done (shifted x y c ∷ []) (map (shifted x y) us));
      long = simp length-append (omega arith);
      total = omega arith;
      is = ap (λ (v : List Float). Summed v (3 * i) x y) e2 ∙ stored c (listed candidate_numbers done) (listed candidate_numbers us ++ z) (3 * i) x y q
          ∙ sym (rw (listed_append candidate_numbers done (shifted x y c ∷ []), listed_cons candidate_numbers (shifted x y c) [], listed_nil candidate_numbers) (append_assoc (listed candidate_numbers done) _ _));
    }

pub turn : (xs : List Float) (x y : Float) (l : List Candidate) (z : List Float) (i n : ℕ) → Rest xs x y l z i → length l ≡ n → i < n → Rest (Summed xs (3 * i) x y) x y l z (i + 1)
turn xs x y l z i n s = turn_of xs x y l z i n s.done s.left s.whole s.long s.total s.is

end_of : (xs : List Float) (x y : Float) (l : List Candidate) (z : List Float) (i n : ℕ) (done left : List Candidate) → map (shifted x y) l ≡ done ++ map (shifted x y) left → length l ≡ i + length left
    → xs ≡ listed candidate_numbers done ++ (listed candidate_numbers left ++ z) → length l ≡ n → n ≤ i → xs ≡ listed candidate_numbers (map (shifted x y) l) ++ z
end_of xs x y l z i n done [] w tl e hn le = e ∙ rw (listed_nil candidate_numbers, w, append-nil) refl
end_of xs x y l z i n done (c ∷ us) w tl e hn le = absurd (omega arith)

pub end : (xs : List Float) (x y : Float) (l : List Candidate) (z : List Float) (i n : ℕ) → Rest xs x y l z i → length l ≡ n → n ≤ i → xs ≡ listed candidate_numbers (map (shifted x y) l) ++ z
end xs x y l z i n s = end_of xs x y l z i n s.done s.left s.whole s.total s.is
