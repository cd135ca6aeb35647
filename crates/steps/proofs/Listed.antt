-- Laws of lists of rows that are written out.
use mathlib.Core.Path.{◌≡◌, refl, sym}
use mathlib.Core.List.{List, [], ◌∷◌, ◌++◌, append_assoc}
use Prim.Native.Nat.{ℕ, ◌*◌}
use native.Mathlib.Omega.{arith}
use native.Mathlib.Nat.{mul-zero, mul-suc}
use lib.ListN.{length, length-append}
use Rattle.steps.specs.Results.{listed}

pub listed_nil : {A B : Type 0} (f : A → List B) → listed f [] ≡ []
unfolding listed
listed_nil f = refl

pub listed_cons : {A B : Type 0} (f : A → List B) (a : A) (l : List A) → listed f (a ∷ l) ≡ f a ++ listed f l
unfolding listed
listed_cons f a l = refl

pub listed_append : {A B : Type 0} (f : A → List B) (l m : List A) → listed f (l ++ m) ≡ listed f l ++ listed f m
unfolding listed
listed_append f [] m = refl
listed_append f (a ∷ l) m = rw (listed_append f l m) (sym (append_assoc (f a) (listed f l) (listed f m)))

pub length_listed : {A B : Type 0} (f : A → List B) (k : ℕ) → ((a : A) → length (f a) ≡ k) → (l : List A) → length (listed f l) ≡ k * length l
unfolding listed
length_listed f k each [] = sym (mul-zero k)
length_listed f k each (a ∷ l) = simp (length-append, each a, length_listed f k each l, mul-suc) (omega arith)
