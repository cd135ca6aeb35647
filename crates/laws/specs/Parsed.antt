-- Trees parsed from tables: labels changed after or before, entries that agree, and what holds of every entry.
use Rattle.std.specs.Prelude.{◌≡◌, take, drop}
use Rattle.std.proofs.Math.Path.{refl, ap}
use Rattle.std.proofs.Common.{◌∙◌, arith}
use mathlib.Core.List.{List, [], ◌∷◌, map}
use Prim.Native.Nat.{ℕ, zero, suc, ◌+◌, ◌-◌, ◌<◌}
use Rattle.tree.specs.Tree.{node, map_t, map_f}
use Rattle.tree.specs.Table.{Entry, from, parse_f, parse_t}
use Rattle.tree.proofs.Laws.{map_t_node}
use Rattle.tree.proofs.Lists.{map_from}
use Rattle.laws.specs.Trees.{AllT, AllF}

-- an entry with its label changed
abbrev pub on_label : {A B : Type 0} → (A → B) → Entry A → Entry B
on_label g e = record { size = e.size; label = g e.label }

module _ {A B : Type 0} (g : A → B) where
  map-take : (n : ℕ) (l : List (Entry A)) → map (on_label g) (take n l) ≡ take n (map (on_label g) l)
  map-take zero l = refl
  map-take (suc n) [] = refl
  map-take (suc n) (e ∷ l) = ap (λ (x : List (Entry B)). on_label g e ∷ x) (map-take n l)

  map-drop : (n : ℕ) (l : List (Entry A)) → map (on_label g) (drop n l) ≡ drop n (map (on_label g) l)
  map-drop zero l = refl
  map-drop (suc n) [] = refl
  map-drop (suc n) (e ∷ l) = map-drop n l

  parse-mapF : (k : ℕ) (l : List (Entry A)) → map_f g (parse_f k l) ≡ parse_f k (map (on_label g) l)
  unfolding parse_f map_t
  parse-mapF zero l = refl
  parse-mapF (suc k) [] = refl
  parse-mapF (suc k) (e ∷ l) = rw (parse-mapF k (take (e.size - 1) l), parse-mapF k (drop (e.size - 1) l), map-take (e.size - 1) l, map-drop (e.size - 1) l)

  pub parse-map : (f : ℕ → Entry A) (n : ℕ) → map_t g (parse_t f n) ≡ parse_t (λ (k : ℕ). on_label g (f k)) n
  unfolding parse_t
  parse-map f n = map_t_node g _ _ ∙ ap (node (g (f 0).label)) (parse-mapF (n - 1) (from f 1 (n - 1)) ∙ ap (parse_f (n - 1)) (map_from (on_label g) f 1 (n - 1)))

module _ {A : Type 0} where
  pub from-same : (f g : ℕ → A) (i n : ℕ) → ((k : ℕ) → k < i + n → f k ≡ g k) → from f i n ≡ from g i n
  unfolding from
  from-same f g i zero h = refl
  from-same f g i (suc n) h = rw (h i (omega arith)) (ap (λ (l : List A). g i ∷ l) (from-same f g (suc i) n (λ k p. h k (omega arith))))

-- entries that agree
module _ {A : Type 0} where
  pub parse-same : (f g : ℕ → Entry A) (n : ℕ) → 0 < n → ((k : ℕ) → k < n → f k ≡ g k) → parse_t f n ≡ parse_t g n
  unfolding parse_t
  parse-same f g n p h = rw (h 0 p, from-same f g 1 (n - 1) (λ k q. h k (omega arith)))

-- what holds of every entry
module _ {A : Type 0} (P : A → Type 0) where
  unfoldable AllL : List (Entry A) → Type 0
  AllL [] = Unit {0}
  AllL (e ∷ l) = P e.label × AllL l

  all_take : (n : ℕ) (l : List (Entry A)) → AllL l → AllL (take n l)
  unfolding AllL
  all_take zero l h = tt
  all_take (suc n) [] h = tt
  all_take (suc n) (e ∷ l) h = (h.0, all_take n l h.1)

  all_drop : (n : ℕ) (l : List (Entry A)) → AllL l → AllL (drop n l)
  unfolding AllL
  all_drop zero l h = h
  all_drop (suc n) [] h = tt
  all_drop (suc n) (e ∷ l) h = all_drop n l h.1

  all_from : (f : ℕ → Entry A) (i n : ℕ) → ((k : ℕ) → k < i + n → P (f k).label) → AllL (from f i n)
  unfolding AllL from
  all_from f i zero h = tt
  all_from f i (suc n) h = (h i (omega arith), all_from f (suc i) n (λ k p. h k (omega arith)))

  all-parseF : (k : ℕ) (l : List (Entry A)) → AllL l → AllF P (parse_f k l)
  unfolding AllL AllF parse_f
  all-parseF zero l h = tt
  all-parseF (suc k) [] h = tt
  all-parseF (suc k) (e ∷ l) h = ((h.0, all-parseF k (take (e.size - 1) l) (all_take (e.size - 1) l h.1)), all-parseF k (drop (e.size - 1) l) (all_drop (e.size - 1) l h.1))

  pub all_parse : (f : ℕ → Entry A) (n : ℕ) → 0 < n → ((k : ℕ) → k < n → P (f k).label) → AllT P (parse_t f n)
  unfolding AllT parse_t
  all_parse f n p h = (h 0 p, all-parseF (n - 1) (from f 1 (n - 1)) (all_from f 1 (n - 1) (λ k q. h k (omega arith))))
