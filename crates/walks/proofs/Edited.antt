-- An edit at or below a node is one in its run.
use mathlib.Core.Path.{◌≡◌, refl, sym, ap, ◌∙◌}
use mathlib.Core.Bool.{Bool, true, false, ◌&&◌, ◌||◌}
use mathlib.Core.List.{List, [], ◌∷◌, ◌++◌}
use Prim.Native.Nat.{ℕ, zero, suc, ◌+◌, ◌<◌, ◌≤◌}
use native.Mathlib.Omega.{arith}
use native.Mathlib.Nat.{add-zero}
use lib.Dec.{eqb, ltb, leb}
use lib.Ieee.{Float}
use borrow.Author.Tests.{eqb-true, eqb-false, lt-ltb, le-ltb, le-leb, leb-true}
use Rattle.tree.specs.Tree.{Tree, Forest, node, none, more, count_t, flat_t, flat_f, map_t}
use Rattle.tree.specs.Table.{Entry, from}
use Rattle.tree.proofs.Laws.{flat_t_node, flat_f_none, flat_f_more}
use Rattle.tree.proofs.Lists.{from_zero, from_suc}
use Rattle.steps.specs.Page.{Site, Cell, named, any_t, any_f, site_at, edits, staying}
use Rattle.steps.specs.Kept.{edited_node}
use Rattle.steps.proofs.Clauses.{any_map_t}
use Rattle.walks.specs.Tables.{site_entry}
use Rattle.rows.specs.Edited.{in_run, touched}
use Rattle.rows.proofs.Edits.{touched_add, touched_none}

-- some entry of a list is edited
unfoldable any_l : List (Entry Site) → Bool
any_l [] = false
any_l (e ∷ l) = e.label.edit || any_l l

or_assoc : (a b c : Bool) → ((a || b) || c) ≡ (a || (b || c))
or_assoc true b c = refl
or_assoc false b c = refl

any_l_append : (l m : List (Entry Site)) → any_l (l ++ m) ≡ (any_l l || any_l m)
unfolding any_l
any_l_append [] m = refl
any_l_append (e ∷ l) m = rw (any_l_append l m) (sym (or_assoc e.label.edit (any_l l) (any_l m)))

any_node : (l : Cell) (ks : Forest Cell) → any_f edits ks ≡ any_l (flat_f site_entry ks) → any_t edits (node l ks) ≡ any_l (flat_t site_entry (node l ks))
unfolding any_t any_l edits
any_node l ks h = rw (flat_t_node) (ap (λ (b : Bool). l.site.edit || b) h)

any_f_none : {A : Type 0} (p : A → Bool) → any_f p none ≡ false
unfolding any_f
any_f_none p = refl

any_f_more : {A : Type 0} (p : A → Bool) (t : Tree A) (ts : Forest A) → any_f p (more t ts) ≡ (any_t p t || any_f p ts)
unfolding any_f
any_f_more p t ts = refl

any_l_nil : any_l [] ≡ false
unfolding any_l
any_l_nil = refl

mutual
  any_t_lem : (t : Tree Cell) → any_t edits t ≡ any_l (flat_t site_entry t)
  any_t_lem (node l ks) = any_node l ks (any_f_lem ks)

  any_f_lem : (ts : Forest Cell) → any_f edits ts ≡ any_l (flat_f site_entry ts)
  any_f_lem none = rw (flat_f_none, any_f_none, any_l_nil)
  any_f_lem (more t ts) = rw (flat_f_more, any_f_more, any_t_lem t, any_f_lem ts) (sym (any_l_append (flat_t site_entry t) (flat_f site_entry ts)))

-- a run of one node
run_one : (e b : ℕ) → in_run e b 1 ≡ eqb e b
unfolding in_run
run_one e b = go (eqb e b) refl
  where
    go : (v : Bool) → eqb e b ≡ v → (leb b e && ltb e (b + 1)) ≡ v
    go true q =
        let h : e ≡ b = eqb-true e b q in
        let x : b ≤ e = omega arith in
        let y : e < b + 1 = omega arith in
        rw (le-leb b e x, lt-ltb e (b + 1) y)
    go false q = go2 (leb b e) refl
      where
        go2 : (u : Bool) → leb b e ≡ u → (leb b e && ltb e (b + 1)) ≡ false
        go2 false p = rw p
        go2 true p =
            let x : b ≤ e = leb-true b e p in
            let n : e ≡ b → ⊥ = eqb-false e b q in
            rw (p, le-ltb e (b + 1) (past e b x n))
          where
            past : (e b : ℕ) → b ≤ e → (e ≡ b → ⊥) → b + 1 ≤ e
            past e b x n = omega arith

touched_one : (es : List ℕ) (b : ℕ) → touched es b 1 ≡ named es b
unfolding touched named
touched_one [] b = refl
touched_one (e ∷ es) b = rw (run_one e b, touched_one es b)

edit_at : (ws : List ℕ) (xs : List Float) (es : List ℕ) (b k : ℕ) (l : List (Entry Site)) → any_l (site_at ws xs es b k ∷ l) ≡ (named es (b + k) || any_l l)
unfolding any_l site_at
edit_at ws xs es b k l = refl

any_from : (ws : List ℕ) (xs : List Float) (es : List ℕ) (b i n : ℕ) → any_l (from (site_at ws xs es b) i n) ≡ touched es (b + i) n
any_from ws xs es b i zero = rw (from_zero, any_l_nil) (sym (touched_none es (b + i)))
any_from ws xs es b i (suc n) =
    let p : b + suc i ≡ b + i + 1 = omega arith in
    let q : suc n ≡ 1 + n = omega arith in
    rw (from_suc, edit_at ws xs es b i (from (site_at ws xs es b) (suc i) n), any_from ws xs es b (suc i) n, p, q, touched_add es (b + i) 1 n, touched_one es (b + i))

-- edited at or below, of a tree that has these tables
pub edited_run : (ws : List ℕ) (xs : List Float) (es : List ℕ) (b : ℕ) (t : Tree Cell) → from (site_at ws xs es b) 0 (count_t t) ≡ flat_t site_entry t → any_t edits t ≡ touched es b (count_t t)
edited_run ws xs es b t e = any_t_lem t ∙ ap any_l (sym e) ∙ any_from ws xs es b 0 (count_t t) ∙ ap (λ (k : ℕ). touched es k (count_t t)) (add-zero b)

pub edited_stays : (ws : List ℕ) (xs : List Float) (es : List ℕ) (b : ℕ) (t : Tree Cell) → from (site_at ws xs es b) 0 (count_t t) ≡ flat_t site_entry t → any_t edited_node (map_t staying t) ≡ touched es b (count_t t)
unfolding edited_node staying edits
edited_stays ws xs es b t e = any_map_t edited_node staying t ∙ edited_run ws xs es b t e
