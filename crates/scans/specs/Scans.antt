-- Laws of `scan`: how a loop passes i, finds at i, or ends; and what its answer says, exactly.
--     pass, here, over, start        a loop's turn, its find, its end and its beginning, at a fixed end n
--     is-hit, is_none                the answer, from what p says
--     hit-is, none_is                and back, for a hit that is injective and never none
--     some-*, is-some, not_some      the same for `some`
--     some-two, some_same, some_or   places in two parts; a test that says the same there; one of two tests
use Rattle.tree.specs.declared.NodeId.{NodeId}
use Rattle.std.specs.Prelude.{◌≡◌, Bool, true, false, ◌||◌, ℕ, zero, suc, ◌+◌, ◌-◌, ◌<◌, ◌≤◌, Option, None, Some}
use Rattle.std.proofs.Math.Path.{refl}
use Rattle.std.proofs.Common.{sym, ◌∙◌, ap, ⊎_elim, arith, eq-or-lt_of_le}
use Rattle.steps.specs.Scan.{scan, at_node, some}

module _ {A : Type 0} (p : ℕ → Bool) (hit : ℕ → A) (none : A) where
  pub none_left : (i : ℕ) → scan p hit none i 0 ≡ none
  unfolding scan
  none_left i = refl

  pub next-no : (i n : ℕ) → p i ≡ false → scan p hit none i (suc n) ≡ scan p hit none (i + 1) n
  unfolding scan
  next-no i n e = rw (e, scan)

  pub next-yes : (i n : ℕ) → p i ≡ true → scan p hit none i (suc n) ≡ hit i
  unfolding scan
  next-yes i n e = rw (e, scan)

  pub pass : (n i : ℕ) → i < n → p i ≡ false → scan p hit none i (n - i) ≡ scan p hit none (i + 1) (n - (i + 1))
  pass n i h e =
      let q : n - i ≡ suc (n - (i + 1)) = omega arith in
      rw q (next-no i (n - (i + 1)) e)

  pub here : (n i : ℕ) → i < n → p i ≡ true → scan p hit none i (n - i) ≡ hit i
  here n i h e =
      let q : n - i ≡ suc (n - (i + 1)) = omega arith in
      rw q (next-yes i (n - (i + 1)) e)

  pub over : (n i : ℕ) → n ≤ i → scan p hit none i (n - i) ≡ none
  over n i h =
      let q : n - i ≡ 0 = omega arith in
      rw q (none_left i)

  pub start : (n : ℕ) → scan p hit none 0 n ≡ scan p hit none 0 (n - 0)
  start n =
      let q : n - 0 ≡ n = omega arith in
      rw q

-- k is the first of the n places from i on that p takes
pub record Hit (p : ℕ → Bool) (i n k : ℕ) : Type 0 where
  pub low : i ≤ k
  pub high : k < i + n
  pub takes : p k ≡ true
  pub first : (j : ℕ) → i ≤ j → j < k → p j ≡ false

-- p takes none of them
abbrev pub Clear : (ℕ → Bool) → ℕ → ℕ → Type 0
Clear p i n = (j : ℕ) → i ≤ j → j < i + n → p j ≡ false

-- one of the two
pub data Scanned (p : ℕ → Bool) (i n : ℕ) : Type 0 where
  found : (k : ℕ) → Hit p i n k → Scanned p i n
  clear : Clear p i n → Scanned p i n

pub never : {A : Type 0} → true ≡ false → A
never e =
    let z : ◌≡◌ {A = ℕ} 0 1 = cc in
    absurd (omega arith)

module _ (p : ℕ → Bool) where
  -- nothing at i, and nothing from i + 1 up to k: nothing from i up to k
  longer : (i k : ℕ) → p i ≡ false → ((j : ℕ) → i + 1 ≤ j → j < k → p j ≡ false) → (j : ℕ) → i ≤ j → j < k → p j ≡ false
  longer i k e f j g h = ⊎_elim (λ q. rw (← q) e) (λ l. f j (omega arith) h) (eq-or-lt_of_le g)

  -- one place more in front
  wider : (i n : ℕ) → p i ≡ false → Scanned p (i + 1) n → Scanned p i (suc n)
  wider i n e (found k h) =
      found k (record { low = let a = h.low in omega arith; high = let a = h.high in omega arith; takes = h.takes; first = longer i k e h.first })
  wider i n e (clear c) = clear (λ j g h. longer i (i + suc n) e (λ m a b. c m a (omega arith)) j g h)

  pub scanned : (n i : ℕ) → Scanned p i n
  scanned zero i = clear (λ j g h. absurd (omega arith))
  scanned (suc n) i = go (p i) refl (scanned n (i + 1))
    where
      go : (b : Bool) → p i ≡ b → Scanned p (i + 1) n → Scanned p i (suc n)
      go true e s = found i (record { low = omega arith; high = omega arith; takes = e; first = λ j g h. absurd (omega arith) })
      go false e s = wider i n e s

module _ {A : Type 0} (p : ℕ → Bool) (hit : ℕ → A) (none : A) where
  pub is_none : (n i : ℕ) → Clear p i n → scan p hit none i n ≡ none
  is_none zero i c = none_left p hit none i
  is_none (suc n) i c = next-no p hit none i n (c i (omega arith) (omega arith)) ∙ is_none n (i + 1) (λ j g h. c j (omega arith) (omega arith))

  pub is-hit : (n i k : ℕ) → Hit p i n k → scan p hit none i n ≡ hit k
  is-hit zero i k h = let a = h.low in let b = h.high in absurd (omega arith)
  is-hit (suc n) i k h = ⊎_elim (λ q. next-yes p hit none i n (rw q h.takes) ∙ ap hit q) (λ l. next-no p hit none i n (h.first i (omega arith) l) ∙ is-hit n (i + 1) k (shorter l)) (eq-or-lt_of_le h.low)
    where
      shorter : i < k → Hit p (i + 1) n k
      shorter l = let b = h.high in record { low = omega arith; high = omega arith; takes = h.takes; first = λ j g m. h.first j (omega arith) m }

  module _ (inj : (a b : ℕ) → hit a ≡ hit b → a ≡ b) (apart : (a : ℕ) → hit a ≡ none → ⊥) where
    pub hit-is : (n i k : ℕ) → scan p hit none i n ≡ hit k → Hit p i n k
    hit-is n i k e = go (scanned p n i)
      where
        go : Scanned p i n → Hit p i n k
        go (found m h) =
            let q : m ≡ k = inj m k (sym (is-hit n i m h) ∙ e) in
            rw (← q) h
        go (clear c) = absurd (apart k (sym e ∙ is_none n i c))

    pub none_is : (n i : ℕ) → scan p hit none i n ≡ none → Clear p i n
    none_is n i e = go (scanned p n i)
      where
        go : Scanned p i n → Clear p i n
        go (found m h) = absurd (apart m (sym (is-hit n i m h) ∙ e))
        go (clear c) = c

-- m places, and what is left of n more
pub scan_skip : {A : Type 0} (p : ℕ → Bool) (hit : ℕ → A) (none : A) (m n i : ℕ) → Clear p i m → scan p hit none i (m + n) ≡ scan p hit none (i + m) n
scan_skip p hit none zero n i c =
    let a : 0 + n ≡ n = omega arith in
    let b : i + 0 ≡ i = omega arith in
    rw (a, b)
scan_skip p hit none (suc m) n i c =
    let a : suc m + n ≡ suc (m + n) = omega arith in
    let b : i + suc m ≡ i + 1 + m = omega arith in
    rw (a, b) (next-no p hit none i (m + n) (c i (omega arith) (omega arith)) ∙ scan_skip p hit none m n (i + 1) (λ j g h. c j (omega arith) (omega arith)))

-- ---- `some`

module _ (p : ℕ → Bool) (n : ℕ) where
  pub some_is : (k : ℕ) → k < n → p k ≡ true → some p n ≡ true
  some_is k h e = go (scanned p n 0)
    where
      go : Scanned p 0 n → some p n ≡ true
      go (found m q) = is-hit p (λ _. true) false n 0 m q
      go (clear c) = never (sym e ∙ c k (omega arith) (omega arith))

  pub not_some : some p n ≡ false → (j : ℕ) → j < n → p j ≡ false
  not_some e j h = go (p j) refl
    where
      go : (b : Bool) → p j ≡ b → p j ≡ false
      go true q = never (sym (some_is j h q) ∙ e)
      go false q = q

-- ---- some of the places from i on

module _ (p : ℕ → Bool) where
  -- in m places and then in n more
  pub some-two : (m n i : ℕ) → scan p (λ _. true) false i (m + n) ≡ (scan p (λ _. true) false i m || scan p (λ _. true) false (i + m) n)
  some-two m n i = go (scanned p m i)
    where
      go : Scanned p i m → scan p (λ _. true) false i (m + n) ≡ (scan p (λ _. true) false i m || scan p (λ _. true) false (i + m) n)
      go (found k h) =
          let a = h.high in
          rw (is-hit p (λ _. true) false m i k h) (is-hit p (λ _. true) false (m + n) i k (record { low = h.low; high = omega arith; takes = h.takes; first = h.first }))
      go (clear c) = rw (is_none p (λ _. true) false m i c) (scan_skip p (λ _. true) false m n i c)

  -- another test that says the same of them
  pub some_same : (q : ℕ → Bool) (n i : ℕ) → ((j : ℕ) → i ≤ j → j < i + n → p j ≡ q j) → scan p (λ _. true) false i n ≡ scan q (λ _. true) false i n
  some_same q n i s = go (scanned p n i)
    where
      go : Scanned p i n → scan p (λ _. true) false i n ≡ scan q (λ _. true) false i n
      go (found k h) =
          let l = h.low in
          let g = h.high in
          is-hit p (λ _. true) false n i k h ∙ sym (is-hit q (λ _. true) false n i k (record { low = l; high = g; takes = sym (s k l g) ∙ h.takes; first = λ j a b. sym (s j a (omega arith)) ∙ h.first j a b }))
      go (clear c) = is_none p (λ _. true) false n i c ∙ sym (is_none q (λ _. true) false n i (λ j a b. sym (s j a b) ∙ c j a b))

pub or_yes : (b : Bool) → (b || true) ≡ true
or_yes true = refl
or_yes false = refl

pub or_no : (b : Bool) → (b || false) ≡ b
or_no true = refl
or_no false = refl

-- one of two tests takes some of them
module _ (p q : ℕ → Bool) where
  abbrev either : ℕ → Bool
  either j = p j || q j

  pub some_or : (n i : ℕ) → scan either (λ _. true) false i n ≡ (scan p (λ _. true) false i n || scan q (λ _. true) false i n)
  some_or zero i = none_left either (λ _. true) false i ∙ sym (rw (none_left p (λ _. true) false i, none_left q (λ _. true) false i))
  some_or (suc n) i = go (p i) (q i) refl refl (some_or n (i + 1))
    where
      Said : ℕ → ℕ → Type 0
      Said m j = scan either (λ _. true) false j m ≡ (scan p (λ _. true) false j m || scan q (λ _. true) false j m)

      go : (s t : Bool) → p i ≡ s → q i ≡ t → Said n (i + 1) → Said (suc n) i
      go true t e d h = next-yes either (λ _. true) false i n (rw e) ∙ sym (rw (next-yes p (λ _. true) false i n e))
      go false true e d h = next-yes either (λ _. true) false i n (rw (e, d)) ∙ sym (rw (next-yes q (λ _. true) false i n d) (or_yes (scan p (λ _. true) false i (suc n))))
      go false false e d h = next-no either (λ _. true) false i n (rw (e, d)) ∙ h ∙ sym (rw (next-no p (λ _. true) false i n e, next-no q (λ _. true) false i n d))

-- some place that is taken
pub record Taken (p : ℕ → Bool) (n : ℕ) : Type 0 where
  pub place : ℕ
  pub within : place < n
  pub takes : p place ≡ true

pub is_some_lem : (p : ℕ → Bool) (n : ℕ) → some p n ≡ true → Taken p n
is_some_lem p n e = go (scanned p n 0)
  where
    go : Scanned p 0 n → Taken p n
    go (found m q) = let a = q.high in record { place = m; within = omega arith; takes = q.takes }
    go (clear c) = never (sym e ∙ is_none p (λ _. true) false n 0 c)

-- ---- a node found
abbrev place_of : Option NodeId → ℕ
place_of None = 0
place_of (Some i) = i.0

pub at_inj : (a b : ℕ) → at_node a ≡ at_node b → a ≡ b
at_inj a b e = ap place_of e

pub at_apart : (a : ℕ) → at_node a ≡ None → ⊥
at_apart a e =
    let z : ◌≡◌ {A = ℕ} 0 1 = cc in
    omega arith
