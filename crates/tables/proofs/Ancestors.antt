-- Where no lower node is at fault, the nodes whose runs hold node i are its ancestors, and with itself they are as many as its depth.
--     holds-ancestor   `holds ws i j` exactly if j is an ancestor of i
--     depth_is         d is the depth of i exactly if it is one more than `how_many (holds ws i) i`
use mathlib.Core.Path.{◌≡◌, refl, sym, ap, ◌∙◌}
use mathlib.Core.Bool.{Bool, true, false, not, ◌&&◌}
use mathlib.Core.List.{List}
use mathlib.Core.Logic.{⊎_elim}
use Prim.Native.Nat.{ℕ, zero, suc, ◌+◌, ◌-◌, ◌<◌, ◌≤◌}
use native.Mathlib.Omega.{arith}
use native.Mathlib.Nat.{eq-or-lt_of_le}
use lib.Dec.{eqb, ltb}
use borrow.Author.Tests.{ltb-true, ltb-false, eqb-true, eqb-false, not-false}
use Rattle.limits.specs.Bools.{or_left, or_right, one_test}
use Rattle.style.specs.Style.{word_at}
use Rattle.steps.specs.Scan.{how_many}
use Rattle.steps.specs.Page.{nodes_in}
use Rattle.steps.specs.Noes.{end_at, holds, bad_tree}
use Rattle.tables.specs.Ancestors.{Child, first, next, Ancestor, parent, further, Depth, root, below}
use Rattle.shape.proofs.Fronts.{holds-yes, holds-no, holds-true, nested}
use Rattle.shape.proofs.Counting.{count_none, count_yes, count-more, count_same}
use Rattle.tables.proofs.Exactly.{Exactly}

-- no node below i is at fault
abbrev pub Lower : List ℕ → ℕ → Type 0
Lower ws i = (m : ℕ) → m < i → bad_tree ws m ≡ false

-- a sound node has a size
has_size : (ws : List ℕ) (k : ℕ) → bad_tree ws k ≡ false → k < end_at ws k
unfolding bad_tree
has_size ws k e =
    let z : (word_at ws k 0 ≡ 0) → ⊥ = eqb-false _ _ (or_left (eqb (word_at ws k 0) 0) _ (or_right (eqb k 0 && not (eqb (word_at ws k 0) (nodes_in ws))) _ e)) in
    omega arith

-- a sound root has all nodes in its run
whole : (ws : List ℕ) → bad_tree ws 0 ≡ false → word_at ws 0 0 ≡ nodes_in ws
unfolding bad_tree
whole ws e = eqb-true _ _ (not-false _ (or_left (not (eqb (word_at ws 0 0) (nodes_in ws))) _ e))

module _ (ws : List ℕ) where
  pub child_in : {j i : ℕ} → Child ws j i → i < end_at ws j
  child_in (first i e h) = h
  child_in (next i k c e h) = h

  pub child-after : {j i : ℕ} → Child ws j i → j < i
  child-after (first i e h) = omega arith
  child-after (next i k c e h) = let a = child-after c in omega arith

  -- what lies between a node and its child are runs that end at or before the child
  between : {j i : ℕ} → Child ws j i → Lower ws i → (m : ℕ) → j < m → m < i → end_at ws m ≤ i
  between (first i e h) low m a b = absurd (omega arith)
  between (next i k c e h) low m a b = go (ltb m k) refl (between c (λ n l. low n (omega arith)) m a)
    where
      go : (t : Bool) → ltb m k ≡ t → (m < k → end_at ws m ≤ k) → end_at ws m ≤ i
      go true q f = let x = f (ltb-true _ _ q) in omega arith
      go false q f =
          let y : k ≤ m = ltb-false _ _ q in
          ⊎_elim (λ (p : k ≡ m). let z : end_at ws k ≡ end_at ws m = ap (end_at ws) p in omega arith) (λ (p : k < m). let z = nested ws m k (omega arith) (low m b) p (omega arith) in omega arith) (eq-or-lt_of_le y)

  -- an ancestor's run holds the node
  pub ancestor-holds : {i j : ℕ} → Ancestor ws i j → Lower ws i → (j < i) × (i < end_at ws j)
  ancestor-holds (parent j c) low = (child-after c, child_in c)
  ancestor-holds (further j k c a) low =
      let h = ancestor-holds a low in
      let x = child-after c in
      let y = child_in c in
      let z = nested ws k j (omega arith) (low k h.0) x y in
      (omega arith, omega arith)

  -- from a child c of j on, one turn: c is i, or its run holds i, or the next child is nearer
  turn : (i j c : ℕ) → Lower ws i → Child ws j c → c ≤ i → i < end_at ws j → ((k d : ℕ) → c < d → Child ws k d → d ≤ i → i < end_at ws k → Ancestor ws i k) → Ancestor ws i j
  turn i j c low ch a h nearer = ⊎_elim (λ (p : c ≡ i). parent j (rw p at ch)) (λ (p : c < i). go p (ltb i (end_at ws c)) refl) (eq-or-lt_of_le a)
    where
      go : c < i → (t : Bool) → ltb i (end_at ws c) ≡ t → Ancestor ws i j
      go p true q =
          let x : i < end_at ws c = ltb-true _ _ q in
          further j c ch (nearer c (suc c) (omega arith) (first (suc c) refl (omega arith)) p x)
      go p false q =
          let x : end_at ws c ≤ i = ltb-false _ _ q in
          nearer j (end_at ws c) (has_size ws c (low c p)) (next (end_at ws c) c ch refl (omega arith)) x h

  reach : (n i j c : ℕ) → Lower ws i → Child ws j c → c ≤ i → i ≤ c + n → i < end_at ws j → Ancestor ws i j
  reach zero i j c low ch a b h =
      let p : c ≡ i = omega arith in
      parent j (rw p at ch)
  reach (suc n) i j c low ch a b h = turn i j c low ch a h (λ k d l g u v. reach n i k d low g u (omega arith) v)

  module _ (i : ℕ) (low : Lower ws i) where
    -- a run that holds i is an ancestor's
    pub holds-is : (j : ℕ) → j < i → i < end_at ws j → Ancestor ws i j
    holds-is j l h = reach i i j (suc j) low (first (suc j) refl (omega arith)) (omega arith) (omega arith) h

    pub holds-ancestor : (j : ℕ) → j < i → Exactly (holds ws i j ≡ true) (Ancestor ws i j)
    holds-ancestor j l = record { only = λ e. holds-is j l (holds-true ws i j e); given = λ a. holds-yes ws i j (ancestor-holds a low).1 }

  -- one level down, one more run holds the node
  one_more : {j i : ℕ} → Child ws j i → Lower ws i → how_many (holds ws i) i ≡ suc (how_many (holds ws j) j)
  one_more {j} {i} c low =
      let a = child-after c in
      let e : i ≡ suc j + (i - suc j) = omega arith in
      let none : how_many (holds ws i) (suc j + (i - suc j)) ≡ how_many (holds ws i) (suc j) = count-more (holds ws i) (suc j) (i - suc j) (λ m u v. holds-no ws i m (between c low m (omega arith) (omega arith))) in
      ap (how_many (holds ws i)) e ∙ none ∙ count_yes (holds ws i) j (holds-yes ws i j (child_in c)) ∙ ap suc (count_same (holds ws i) (holds ws j) j alike)
    where
      alike : (m : ℕ) → m < j → holds ws i m ≡ holds ws j m
      alike m l =
          let a = child-after c in
          let b = child_in c in
          one_test _ _
          (λ q. let x = holds-true ws i m q in holds-yes ws j m (omega arith))
          (λ q. let x = holds-true ws j m q in let y = nested ws j m (omega arith) (low j a) l x in holds-yes ws i m (omega arith))

  -- a depth is one more than the runs that hold the node
  pub depth-counts : {i d : ℕ} → Depth ws i d → Lower ws i → d ≡ suc (how_many (holds ws i) i)
  depth-counts root low = ap suc (sym (count_none (holds ws 0)))
  depth-counts (below j i d p c) low =
      let a = child-after c in
      ap suc (depth-counts p (λ m l. low m (omega arith)) ∙ sym (one_more c low))

  -- a node in the root's run has a depth
  pub record Deep (i : ℕ) : Type 0 where
    pub depth : ℕ
    pub stands : Depth ws i depth

  down : {i j : ℕ} (d : ℕ) → Depth ws j d → Ancestor ws i j → Deep i
  down {i} d p (parent j c) = record { depth = suc d; stands = below j i d p c }
  down d p (further j k c a) = down (suc d) (below j k d p c) a

  pub has-depth : (i : ℕ) → i < nodes_in ws → Lower ws i → Deep i
  has-depth zero h low = record { depth = 1; stands = root }
  has-depth (suc i) h low = let z = whole ws (low 0 (omega arith)) in down 1 root (holds-is (suc i) low 0 (omega arith) (omega arith))

  pub depth_is : (i : ℕ) → i < nodes_in ws → Lower ws i → (d : ℕ) → Exactly (Depth ws i d) (d ≡ suc (how_many (holds ws i) i))
  depth_is i h low d =
      let p = has-depth i h low in
      record { only = λ q. depth-counts q low; given = λ e. rw (e ∙ sym (depth-counts p.stands low)) p.stands }
