-- The tree check from node to node. Where no lower node is at fault, the runs that hold a node are those of its ancestors: `Front` says so, and these laws carry it into a node's run and past it.
--     bad-is       at a front, a node is at fault exactly if `node_fault` says so
--     inside       a sound node's children start at a front
--     beyond       and so does what follows its run, if nothing in the run is at fault
--     below_root   the root's children
use mathlib.Core.Path.{◌≡◌, refl, sym, ap, ◌∙◌}
use mathlib.Core.Bool.{Bool, true, false, ◌&&◌, ◌||◌}
use mathlib.Core.List.{List}
use mathlib.Core.Logic.{⊎_elim}
use Prim.Native.Nat.{ℕ, suc, ◌+◌, ◌-◌, ◌<◌, ◌≤◌}
use native.Mathlib.Omega.{arith}
use native.Mathlib.Nat.{eq-or-lt_of_le}
use lib.Dec.{eqb, ltb, leb}
use borrow.Author.Tests.{ltb-true, ltb-false, lt-ltb, le-ltb, leb-true, le-leb, eqb-true, eqb-false, eq-eqb, ne_eqb}
use Rattle.limits.specs.Bools.{or_left, or_right, and_fst, and_snd, one_test}
use Rattle.style.specs.Codes.{code_at}
use Rattle.style.specs.Style.{word_at}
use Rattle.steps.specs.Scan.{some, how_many}
use Rattle.steps.specs.Noes.{end_at, holds, bad_tree}
use Rattle.shape.specs.TreeCheck.{Front, node_fault}
use Rattle.scans.specs.Scans.{Clear, some_is, is_some_lem, not_some}
use Rattle.shape.proofs.Counting.{both, count_none, count_yes, count-more, count_same}

-- a node that is not at fault
pub record Fine (size style room depth : ℕ) : Type 0 where
  pub has : 0 < size
  pub fits : size ≤ room
  pub deep : 0 < depth
  pub leaf : (eqb (code_at style 0) 1 && ltb 1 size) ≡ false

pub fine : (size style room depth : ℕ) → node_fault size style room depth ≡ false → Fine size style room depth
unfolding node_fault
fine size style room depth e =
    let a = or_right (eqb size 0) _ e in
    let b = or_right (ltb room size) _ a in
    let x : (size ≡ 0) → ⊥ = eqb-false _ _ (or_left (eqb size 0) _ e) in
    let y : size ≤ room = ltb-false _ _ (or_left (ltb room size) _ a) in
    let z : (depth ≡ 0) → ⊥ = eqb-false _ _ (or_right (eqb (code_at style 0) 1 && ltb 1 size) _ b) in
    record { has = omega arith; fits = y; deep = omega arith; leaf = or_left (eqb (code_at style 0) 1 && ltb 1 size) _ b }

module _ (ws : List ℕ) where
  pub holds-yes : (i j : ℕ) → i < end_at ws j → holds ws i j ≡ true
  unfolding holds
  holds-yes i j h = lt-ltb _ _ h

  pub holds-no : (i j : ℕ) → end_at ws j ≤ i → holds ws i j ≡ false
  unfolding holds
  holds-no i j h = le-ltb _ _ h

  pub holds-true : (i j : ℕ) → holds ws i j ≡ true → i < end_at ws j
  unfolding holds
  holds-true i j h = ltb-true _ _ h

  holds-false : (i j : ℕ) → holds ws i j ≡ false → end_at ws j ≤ i
  unfolding holds
  holds-false i j h = ltb-false _ _ h

  -- j's run holds i and ends before i's does
  abbrev crosses : ℕ → ℕ → Bool
  crosses i j = holds ws i j && ltb (end_at ws j) (end_at ws i)

  -- the parts of the test of a node below the root
  bad-parts : (i : ℕ) → 0 < i
      → bad_tree ws i ≡ (eqb (word_at ws i 0) 0 || (some (crosses i) i || ((eqb (code_at (word_at ws i 1) 0) 1 && ltb 1 (word_at ws i 0)) || leb 32 (how_many (holds ws i) i))))
  unfolding bad_tree
  bad-parts i h = rw (ne_eqb i 0 (λ q. omega arith))

  -- a sound node's run ends within each run that holds it
  pub nested : (i j : ℕ) → 0 < i → bad_tree ws i ≡ false → j < i → i < end_at ws j → end_at ws i ≤ end_at ws j
  nested i j pos e l h =
      let a = or_right (eqb (word_at ws i 0) 0) _ (sym (bad-parts i pos) ∙ e) in
      let b : crosses i j ≡ false = not_some (crosses i) i (or_left (some (crosses i) i) _ a) j l in
      let c : (true && ltb (end_at ws j) (end_at ws i)) ≡ false = ap (λ (x : Bool). x && ltb (end_at ws j) (end_at ws i)) (sym (holds-yes i j h)) ∙ b in
      ltb-false _ _ c

  module _ (i e d : ℕ) (f : Front ws i e d) (lt : i < e) where
    past : some (crosses i) i ≡ ltb (e - i) (word_at ws i 0)
    past = one_test _ _ there back
      where
        there : some (crosses i) i ≡ true → ltb (e - i) (word_at ws i 0) ≡ true
        there q =
            let t = is_some_lem (crosses i) i q in
            let h : i < end_at ws t.place = holds-true i t.place (and_fst (holds ws i t.place) _ t.takes) in
            let g : end_at ws t.place < end_at ws i = ltb-true _ _ (and_snd (holds ws i t.place) _ t.takes) in
            let a : e ≤ end_at ws t.place = f.around t.place t.within h in
            lt-ltb (e - i) (word_at ws i 0) (omega arith)

        back : ltb (e - i) (word_at ws i 0) ≡ true → some (crosses i) i ≡ true
        back q =
            let h : e - i < word_at ws i 0 = ltb-true _ _ q in
            let g : end_at ws f.parent ≡ e = f.ends in
            some_is (crosses i) i f.parent f.before (both (holds ws i f.parent) (ltb (end_at ws f.parent) (end_at ws i)) (holds-yes i f.parent (omega arith)) (lt-ltb (end_at ws f.parent) (end_at ws i) (omega arith)))

    deep : leb 32 (how_many (holds ws i) i) ≡ eqb d 0
    deep =
        let h : how_many (holds ws i) i + d ≡ 32 = f.levels lt in
        one_test _ _
        (λ q. let g : 32 ≤ how_many (holds ws i) i = leb-true _ _ q in eq-eqb d 0 (omega arith))
        (λ q. let g : d ≡ 0 = eqb-true _ _ q in le-leb 32 (how_many (holds ws i) i) (omega arith))

    above : 0 < i
    above = let g = f.before in omega arith

    pub bad-is : bad_tree ws i ≡ node_fault (word_at ws i 0) (word_at ws i 1) (e - i) d
    unfolding node_fault
    bad-is = bad-parts i above ∙ rw (past, deep)

    -- what holds a later place of the parent's run, of the nodes before i, is what holds i
    same : (k j : ℕ) → i ≤ k → k < e → j < i → holds ws k j ≡ holds ws i j
    same k j g h l = go (holds ws i j) refl
      where
        go : (b : Bool) → holds ws i j ≡ b → holds ws k j ≡ holds ws i j
        go true q = let a : e ≤ end_at ws j = f.around j l (holds-true i j q) in holds-yes k j (omega arith) ∙ sym q
        go false q = let a : end_at ws j ≤ i = holds-false i j q in holds-no k j (omega arith) ∙ sym q

    module _ (ok : node_fault (word_at ws i 0) (word_at ws i 1) (e - i) d ≡ false) where
      good : Fine (word_at ws i 0) (word_at ws i 1) (e - i) d
      good = fine _ _ _ _ ok

      pub inside : Front ws (i + 1) (end_at ws i) (d - 1)
      inside =
          let g = good in
          let a = g.has in
          let b = g.fits in
          let c = g.deep in
          record {
            around = λ j l h. ⊎_elim
                (λ (q : j ≡ i). let z : end_at ws j ≡ end_at ws i = ap (end_at ws) q in omega arith)
                (λ (q : j < i). let z : e ≤ end_at ws j = f.around j q (omega arith) in omega arith)
                (eq-or-lt_of_le (let y : j ≤ i = omega arith in y));
            parent = i;
            before = omega arith;
            ends = refl;
            levels = λ h.
                let z : how_many (holds ws (i + 1)) (suc i) ≡ suc (how_many (holds ws (i + 1)) i) = count_yes (holds ws (i + 1)) i (holds-yes (i + 1) i h) in
                let y : how_many (holds ws (i + 1)) i ≡ how_many (holds ws i) i = count_same (holds ws (i + 1)) (holds ws i) i (λ j l. same (i + 1) j (omega arith) (omega arith) l) in
                let x : how_many (holds ws i) i + d ≡ 32 = f.levels lt in
                let w : i + 1 ≡ suc i = omega arith in
                ap (λ (k : ℕ). how_many (holds ws (i + 1)) k + (d - 1)) w ∙ omega arith;
          }

      pub beyond : Clear (bad_tree ws) (i + 1) (word_at ws i 0 - 1) → Front ws (end_at ws i) e d
      beyond clear =
          let g = good in
          let a = g.has in
          let b = g.fits in
          let p = f.before in
          record {
            around = λ j l h. around-of j l h (ltb j i) refl;
            parent = f.parent;
            before = omega arith;
            ends = f.ends;
            levels = λ h.
                let z : how_many (holds ws (end_at ws i)) (end_at ws i) ≡ how_many (holds ws (end_at ws i)) i = count-more (holds ws (end_at ws i)) i (word_at ws i 0) (λ j u v. holds-no (end_at ws i) j (within j u v)) in
                let y : how_many (holds ws (end_at ws i)) i ≡ how_many (holds ws i) i = count_same (holds ws (end_at ws i)) (holds ws i) i (λ j l. same (end_at ws i) j (omega arith) h l) in
                let x : how_many (holds ws i) i + d ≡ 32 = f.levels lt in
                omega arith;
          }
        where
          within : (j : ℕ) → i ≤ j → j < end_at ws i → end_at ws j ≤ end_at ws i
          within j u v = ⊎_elim
              (λ (q : i ≡ j). let z : end_at ws i ≡ end_at ws j = ap (end_at ws) q in omega arith)
              (λ (q : i < j). nested j i (omega arith) (clear j (omega arith) (let h = good in let a = h.has in omega arith)) q v)
              (eq-or-lt_of_le u)

          around-of : (j : ℕ) → j < end_at ws i → end_at ws i < end_at ws j → (b : Bool) → ltb j i ≡ b → e ≤ end_at ws j
          around-of j l h true q = f.around j (ltb-true _ _ q) (let g = good in let a = g.has in omega arith)
          around-of j l h false q =
              let z : end_at ws j ≤ end_at ws i = within j (ltb-false _ _ q) l in
              absurd (omega arith)

-- the root's children
pub below_root : (ws : List ℕ) (n : ℕ) → word_at ws 0 0 ≡ n → 0 < n → Front ws 1 n 31
below_root ws n e h =
    record {
      around = λ j l g.
          let q : j ≡ 0 = omega arith in
          let z : end_at ws j ≡ end_at ws 0 = ap (end_at ws) q in
          omega arith;
      parent = 0;
      before = omega arith;
      ends = omega arith;
      levels = λ g.
          let z : how_many (holds ws 1) 1 ≡ suc (how_many (holds ws 1) 0) = count_yes (holds ws 1) 0 (holds-yes ws 1 0 (omega arith)) in
          let y = count_none (holds ws 1) in
          omega arith;
    }
