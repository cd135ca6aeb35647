-- Laws of lists that are put together, by places that are sums of lengths, and of `from`.
--     getD-in, set-in           the element behind q and x
--     part_in, before-in, after-in, post_in   the part behind q that is as long as x, and what stands around it
--     tail-part, tail-put       `&s[k..]`, and a `&mut s[k..]` that came back
--     cons-first, cons-rest     a list that begins
--     from-*                    lists that are made of their places
--     map_from, map_append      each element changed
use mathlib.Core.Path.{◌≡◌, refl, sym, ap, ◌∙◌}
use mathlib.Core.List.{List, [], ◌∷◌, ◌++◌, map, append_assoc, append-nil}
use Prim.Native.Nat.{ℕ, zero, suc, ◌+◌, ◌-◌, ◌≤◌, ◌<◌}
use native.Mathlib.Omega.{arith}
use native.Mathlib.Nat.{add-zero}
use lib.ListN.{length, get_or, set, take, drop, length-append, length-drop, drop_of_length-le}
use lib.Seq.{get_or_at, set_at, take_at, drop_at, take_all}
use borrow.Rule.Slice.PartMut.{put_mid, post_of}
use Rattle.tree.specs.Table.{from}

module _ {A : Type 0} where
  pub getD-in : (q x : List A) (y : A) (ys : List A) (d : A) (n : ℕ) → length q + length x ≡ n → get_or (q ++ (x ++ y ∷ ys)) n d ≡ y
  getD-in q x y ys d n e = rw (← append_assoc q x (y ∷ ys)) (get_or_at (q ++ x) y ys d n (length-append q x ∙ e))

  pub set-in : (q x : List A) (y : A) (ys : List A) (a : A) (n : ℕ) → length q + length x ≡ n → set (q ++ (x ++ y ∷ ys)) n a ≡ q ++ (x ++ a ∷ ys)
  set-in q x y ys a n e = rw (← append_assoc q x (y ∷ ys)) (set_at (q ++ x) y ys a n (length-append q x ∙ e) ∙ append_assoc q x (a ∷ ys))

  pub part_in : (q x y : List A) (a e : ℕ) → length q ≡ a → length q + length x ≡ e → take (e - a) (drop a (q ++ (x ++ y))) ≡ x
  part_in q x y a e pa pe =
      let n : length x ≡ e - a = omega arith in
      rw (drop_at q (x ++ y) a pa) (take_at x y (e - a) n)

  pub post_in : (q x y : List A) (a e : ℕ) → length q ≡ a → length q + length x ≡ e → post_of a (e - a) (q ++ (x ++ y)) ≡ y
  post_in q x y a e pa pe =
      let n : length x ≡ e - a = omega arith in
      rw (drop_at q (x ++ y) a pa) (drop_at x y (e - a) n)

  pub tail-part : (k : ℕ) (l : List A) → take (length l - k) (drop k l) ≡ drop k l
  tail-part k l = take_all (length l - k) (drop k l) (simp length-drop (omega arith))

  pub tail-put : (k : ℕ) (l ys : List A) → put_mid k (length l - k) l ys ≡ take k l ++ ys
  tail-put k l ys =
      let h : length (drop k l) ≤ length l - k = simp length-drop (omega arith) in
      rw (drop_of_length-le (drop k l) h, append-nil)

  -- two lists that begin alike and are as long there
  pub heads : (p q x y : List A) → length p ≡ length q → p ++ x ≡ q ++ y → p ≡ q
  heads p q x y h e = sym (take_at p x (length p) refl) ∙ ap (take (length p)) e ∙ take_at q y (length p) (sym h)

  pub tails : (p q x y : List A) → length p ≡ length q → p ++ x ≡ q ++ y → x ≡ y
  tails p q x y h e = sym (drop_at p x (length p) refl) ∙ ap (drop (length p)) e ∙ drop_at q y (length p) (sym h)

  -- a list that begins
  pub cons-first : (x y : A) (l m : List A) → x ∷ l ≡ y ∷ m → x ≡ y
  cons-first x y l m e = cc

  pub cons-rest : (x y : A) (l m : List A) → x ∷ l ≡ y ∷ m → l ≡ m
  cons-rest x y l m e = cc

  pub from_zero : (f : ℕ → A) (i : ℕ) → from f i 0 ≡ []
  unfolding from
  from_zero f i = refl

  pub from_suc : (f : ℕ → A) (i n : ℕ) → from f i (suc n) ≡ f i ∷ from f (suc i) n
  unfolding from
  from_suc f i n = refl

  pub length_from : (f : ℕ → A) (i n : ℕ) → length (from f i n) ≡ n
  unfolding from
  length_from f i zero = refl
  length_from f i (suc n) = ap suc (length_from f (suc i) n)

  -- n and then m more
  pub from-add : (f : ℕ → A) (i n m : ℕ) → from f i (n + m) ≡ from f i n ++ from f (i + n) m
  from-add f i zero m = rw (from_zero f i) (ap (from f i) z ∙ ap (λ (k : ℕ). from f k m) (sym (add-zero i)))
    where
      z : 0 + m ≡ m
      z = omega arith
  from-add f i (suc n) m =
      let p : suc n + m ≡ suc (n + m) = omega arith in
      let q : suc i + n ≡ i + suc n = omega arith in
      ap (from f i) p ∙ from_suc f i (n + m) ∙ ap (λ (l : List A). f i ∷ l) (from-add f (suc i) n m ∙ ap (λ (k : ℕ). from f (suc i) n ++ from f k m) q)
      ∙ ap (λ (l : List A). l ++ from f (i + suc n) m) (sym (from_suc f i n))

  -- what agrees at each place, moved by a
  pub from-shift : (f g : ℕ → A) (a i n : ℕ) → ((k : ℕ) → k < i + n → f k ≡ g (a + k)) → from f i n ≡ from g (a + i) n
  unfolding from
  from-shift f g a i zero h = refl
  from-shift f g a i (suc n) h =
      let p : suc (a + i) ≡ a + suc i = omega arith in
      rw (h i (omega arith), p) (ap (λ (l : List A). g (a + i) ∷ l) (from-shift f g a (suc i) n (λ k q. h k (omega arith))))

  pub from_next : (f : ℕ → A) (i n : ℕ) → from f (suc i) n ≡ from (λ (k : ℕ). f (suc k)) i n
  unfolding from
  from_next f i zero = refl
  from_next f i (suc n) = ap (λ (l : List A). f (suc i) ∷ l) (from_next f (suc i) n)

pub map_from : {A B : Type 0} (g : A → B) (f : ℕ → A) (i n : ℕ) → map g (from f i n) ≡ from (λ (k : ℕ). g (f k)) i n
unfolding from
map_from g f i zero = refl
map_from {B = B} g f i (suc n) = ap (λ (l : List B). g (f i) ∷ l) (map_from g f (suc i) n)

pub map_append : {A B : Type 0} (g : A → B) (l m : List A) → map g (l ++ m) ≡ map g l ++ map g m
map_append g [] m = refl
map_append {B = B} g (x ∷ l) m = ap (λ (z : List B). g x ∷ z) (map_append g l m)
