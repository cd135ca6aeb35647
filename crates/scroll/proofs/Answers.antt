-- The three ways that `scroll` returns, and that no two answers look alike on paper: scroll-settles.
use Rattle.scroll.specs.declared.ScrollRefusal.TheVariants.{NotFinite}
use Rattle.std.specs.Prelude.{Option, Result, Ok, Err, Some, None}
use Rattle.scroll.specs.declared.ScrollRefusal.{ScrollRefusal}
use mathlib.Core.Path.{◌≡◌, refl, ap}
use mathlib.Core.Bool.{true, false}
use mathlib.Core.List.{List}
use Prim.Native.Nat.{ℕ, ◌<◌, ◌≤◌}
use lib.ListN.{length}
use lib.Ieee.{Float}
use borrow.Author.Tests.{lt-ltb, le-ltb}
use Rattle.scroll.specs.Halving.{beyond, halved}
use Rattle.scroll.specs.Scroll.{is_finite, position, scroll_answer, scroll_paper, ScrollReplied}

module _ (l : List Float) (y : Float) where
  pub refused : is_finite y ≡ false → Err NotFinite ≡ scroll_answer l y
  unfolding scroll_answer
  refused e = rw e

  module _ (k : ℕ) (e : is_finite y ≡ true) (found : k ≡ halved (beyond l y) (length l) 0 (length l)) where
    pub some : k < length l → Ok (Some k) ≡ scroll_answer l y
    unfolding scroll_answer position
    some h = rw (e, ← found, lt-ltb k (length l) h)

    pub none : length l ≤ k → Ok None ≡ scroll_answer l y
    unfolding scroll_answer position
    none h = rw (e, ← found, le-ltb k (length l) h)

pub replied : {a b : Result (Option ℕ) ScrollRefusal} → a ≡ b → ScrollReplied b a
replied e = record { answer_is = e; paper_is = ap scroll_paper e }

-- number, place and position settle the answer
settle : (a b : Result (Option ℕ) ScrollRefusal) → (scroll_paper a).0.0 ≡ (scroll_paper b).0.0 → (scroll_paper a).1 ≡ (scroll_paper b).1 → a ≡ b
unfolding scroll_paper
settle (Ok a) (Ok b) n f = ap Ok f
settle (Ok a) (Err NotFinite) n f = cc
settle (Err NotFinite) (Ok b) n f = cc
settle (Err NotFinite) (Err NotFinite) n f = refl

pub scroll-settles : (a b : Result (Option ℕ) ScrollRefusal) → scroll_paper a ≡ scroll_paper b → a ≡ b
scroll-settles a b e = settle a b (ap (λ (p : (ℕ × ℕ) × Option ℕ). p.0.0) e) (ap (λ (p : (ℕ × ℕ) × Option ℕ). p.1) e)
