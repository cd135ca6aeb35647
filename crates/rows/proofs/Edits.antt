-- Laws of the edit list.
use mathlib.Core.Path.{◌≡◌, refl, sym, ap, ◌∙◌}
use mathlib.Core.Bool.{Bool, true, false, cond, not, ◌&&◌, ◌||◌}
use mathlib.Core.List.{List, [], ◌∷◌, ◌++◌}
use Prim.Native.Nat.{ℕ, zero, suc, ◌+◌, ◌*◌, ◌-◌, ◌<◌, ◌≤◌}
use native.Mathlib.Omega.{arith}
use lib.Dec.{ltb, leb}
use lib.ListN.{length, get_or, drop, drop_of_length-le}
use borrow.Author.Tests.{lt-ltb, le-ltb, ltb-true, ltb-false, leb-true, leb-false, le-leb, lt-leb}
use Rattle.rows.specs.Edited.{in_run, touched}

pub in_run_lem : (e b n : ℕ) → b ≤ e → ltb (e - b) n ≡ in_run e b n
unfolding in_run
in_run_lem e b n h = rw (le-leb _ _ h) (go (ltb (e - b) n) refl)
  where
    go : (t : Bool) → ltb (e - b) n ≡ t → t ≡ ltb e (b + n)
    go true q =
        let p : e - b < n = ltb-true _ _ q in
        let r : e < b + n = omega arith in
        sym (lt-ltb _ _ r)
    go false q =
        let p : n ≤ e - b = ltb-false _ _ q in
        let r : b + n ≤ e = omega arith in
        sym (le-ltb _ _ r)

pub not_in_run : (e b n : ℕ) → e < b → false ≡ in_run e b n
unfolding in_run
not_in_run e b n h = rw (lt-leb _ _ h)

next : (i : ℕ) → suc (i + 1) ≡ suc i + 1
next i = omega arith

drop_one : (l : List ℕ) (i : ℕ) → i < length l → drop i l ≡ get_or l i 0 ∷ drop (i + 1) l
drop_one [] i h = absurd (omega arith)
drop_one (x ∷ l) zero h = refl
drop_one (x ∷ l) (suc i) h = drop_one l i (omega arith) ∙ ap (λ (n : ℕ). get_or l i 0 ∷ drop n (x ∷ l)) (next i)

pub touched_here : (es : List ℕ) (i b n : ℕ) → i < length es → in_run (get_or es i 0) b n ≡ true → touched (drop i es) b n ≡ true
unfolding touched
touched_here es i b n h e = rw (drop_one es i h, e)

pub touched_pass : (es : List ℕ) (i b n : ℕ) → i < length es → in_run (get_or es i 0) b n ≡ false → touched (drop i es) b n ≡ touched (drop (i + 1) es) b n
unfolding touched
touched_pass es i b n h e = rw (drop_one es i h, e)

pub touched_over : (es : List ℕ) (i b n : ℕ) → length es ≤ i → touched (drop i es) b n ≡ false
unfolding touched
touched_over es i b n h = rw (drop_of_length-le es h)

-- a run in two parts
run_add : (e b n m : ℕ) → in_run e b (n + m) ≡ (in_run e b n || in_run e (b + n) m)
unfolding in_run
run_add e b n m = go (leb b e) refl (ltb e (b + n)) refl
  where
    go : (p : Bool) → leb b e ≡ p → (q : Bool) → ltb e (b + n) ≡ q → (leb b e && ltb e (b + (n + m))) ≡ ((leb b e && ltb e (b + n)) || (leb (b + n) e && ltb e (b + n + m)))
    go false p q _ =
        let f : e < b = leb-false _ _ p in
        let g : e < b + n = omega arith in
        rw (p, lt-leb _ _ g)
    go true p true q =
        let f : e < b + n = ltb-true _ _ q in
        let g : e < b + (n + m) = omega arith in
        rw (p, q, lt-ltb _ _ g)
    go true p false q =
        let f : b + n ≤ e = ltb-false _ _ q in
        let g : b + (n + m) ≡ b + n + m = omega arith in
        rw (p, q, le-leb _ _ f, g)

or_swap : (a b c d : Bool) → ((a || b) || (c || d)) ≡ ((a || c) || (b || d))
or_swap true b c d = refl
or_swap false true true d = refl
or_swap false true false d = refl
or_swap false false c d = refl

pub touched_add : (es : List ℕ) (b n m : ℕ) → touched es b (n + m) ≡ (touched es b n || touched es (b + n) m)
unfolding touched
touched_add [] b n m = refl
touched_add (e ∷ es) b n m = rw (run_add e b n m, touched_add es b n m) (or_swap (in_run e b n) (in_run e (b + n) m) (touched es b n) (touched es (b + n) m))

none_in : (e b : ℕ) → in_run e b 0 ≡ false
unfolding in_run
none_in e b = go (leb b e) refl
  where
    go : (p : Bool) → leb b e ≡ p → (leb b e && ltb e (b + 0)) ≡ false
    go false p = rw p
    go true p =
        let f : b ≤ e = leb-true _ _ p in
        let g : b + 0 ≤ e = omega arith in
        rw (p, le-ltb _ _ g)

pub touched_none : (es : List ℕ) (b : ℕ) → touched es b 0 ≡ false
unfolding touched
touched_none [] b = refl
touched_none (e ∷ es) b = rw (none_in e b, touched_none es b)

-- a subtree has a mark where the list names a node of its run
