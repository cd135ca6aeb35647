-- From what the tests and the two loops leave to what make_index promises.
use Rattle.std.specs.Prelude.{Result, Ok, Err}
use Rattle.steps.specs.declared.Refusal.{Refusal}
use Rattle.index.specs.declared.IndexRefusal.{IndexRefusal}
use mathlib.Core.Path.{◌≡◌, refl, ap, ◌∙◌}
use mathlib.Core.Bool.{false, not}
use mathlib.Core.List.{List, [], ◌∷◌, map}
use Prim.Native.Nat.{ℕ, suc, ◌<◌}
use native.Mathlib.Omega.{arith}
use lib.ListN.{length, get_or}
use lib.Dec.{eqb, ltb}
use lib.Ieee.{Float}
use borrow.Author.Tests.{ltb-true, eqb-true, not-false}
use Rattle.limits.specs.Bools.{or_left, or_right}
use Rattle.steps.specs.Page.{nodes_in}
use Rattle.steps.specs.Noes.{bad_rows}
use Rattle.tables.specs.TreeCheck.{GoodTable}
use Rattle.edges.specs.Edges.{edge_at}
use Rattle.edges.specs.Tests.{bad_words}
use Rattle.edges.proofs.OfTree.{edge_is}
use Rattle.edges.proofs.Words.{good_words}
use Rattle.scroll.specs.Running.{running_of}
use Rattle.index.specs.Entries.{not_above, no_laid_leaf, bad_entry}
use Rattle.index.specs.Loops.{top_by, bottom_by, Edged}
use Rattle.index.specs.Index.{top_at, bottom_at, index_of, uneven, index_misfit, index_answer, by_answer, index_result, Indexed}
use Rattle.index.proofs.Exact.{index_exactly}

-- the lengths of slices that are not uneven
pub record Even (n tops bottoms running : ℕ) : Type 0 where
  pub tops_long : tops ≡ n
  pub bottoms_long : bottoms ≡ n
  pub running_long : running ≡ n

even : (n tops bottoms running : ℕ) → uneven n tops bottoms running ≡ false → Even n tops bottoms running
unfolding uneven
even n tops bottoms running e =
    let a = or_right (not (eqb tops n)) _ e in
    record {
      tops_long = eqb-true _ _ (not-false _ (or_left (not (eqb tops n)) _ e));
      bottoms_long = eqb-true _ _ (not-false _ (or_left (not (eqb bottoms n)) _ a));
      running_long = eqb-true _ _ (not-false _ (or_right (not (eqb bottoms n)) _ a));
    }

-- an entry that is not at fault is a node
entry_below : (ws ms list : List ℕ) (k : ℕ) → bad_entry ws ms list k ≡ false → get_or list k 0 < nodes_in ws
unfolding bad_entry no_laid_leaf
entry_below ws ms list k e = ltb-true _ _ (not-false _ (or_left (not (ltb (get_or list k 0) (nodes_in ws))) _ (or_right (not_above list k) _ e)))

-- two functions that agree on each element
pub map_same : (f g : ℕ → Float) (l : List ℕ) → ((k : ℕ) → k < length l → f (get_or l k 0) ≡ g (get_or l k 0)) → map f l ≡ map g l
map_same f g [] h = refl
map_same f g (x ∷ l) h = rw (h 0 (omega arith)) (ap (λ (r : List Float). g x ∷ r) (map_same f g l (λ k q. h (suc k) (omega arith))))

module _ (ws : List ℕ) (rs : List Float) (ms list : List ℕ) (ts bs ls : List Float) where
  -- what an accepted call knows
  pub record Accepted : Type 0 where
    pub long : Even (length list) (length ts) (length bs) (length ls)
    pub good : GoodTable ws
    pub nodes : (k : ℕ) → k < length list → get_or list k 0 < nodes_in ws

  pub accepted : index_answer ws rs ms list (length ts) (length bs) (length ls) ≡ Ok tt → Accepted
  unfolding index_misfit
  accepted e =
      let d = (index_exactly ws rs ms list (length ts) (length bs) (length ls) (Ok tt)).only e in
      let m = d.0.lengths in
      let w = or_left (bad_words ws) (bad_rows ws rs ms) (or_right (uneven (length list) (length ts) (length bs) (length ls)) _ m) in
      record {
        long = even (length list) (length ts) (length bs) (length ls) (or_left (uneven (length list) (length ts) (length bs) (length ls)) _ m);
        good = good_words ws w d.0.tree;
        nodes = λ k h. entry_below ws ms list k (d.1.each k h);
      }

  tops-same : Accepted → map (top_by ws rs) list ≡ map (top_at ws rs) list
  unfolding top_at
  tops-same a = map_same (top_by ws rs) (λ (i : ℕ). edge_at ws rs 1 i) list (λ k h. edge_is ws rs 1 (get_or list k 0) a.good (a.nodes k h))

  bottoms-same : Accepted → map (bottom_by ws rs) list ≡ map (bottom_at ws rs) list
  unfolding bottom_at top_at
  bottoms-same a = map_same (bottom_by ws rs) _ list (λ k h. rw (edge_is ws rs 1 (get_or list k 0) a.good (a.nodes k h)))

  pub made : index_answer ws rs ms list (length ts) (length bs) (length ls) ≡ Ok tt → (ts' bs' ls' : List Float) → Edged ws rs list ts' bs' → ls' ≡ running_of bs' → Indexed (index_result ws rs ms list ts bs ls) (Ok tt) ts' bs' ls'
  unfolding index_result by_answer index_of
  made e ts' bs' ls' h q =
      let a = accepted e in
      let t = h.tops_are ∙ tops-same a in
      let b = h.bottoms_are ∙ bottoms-same a in
      rw e (record { answer_is = refl; paper_is = refl; tops_are = t; bottoms_are = b; running_is = q ∙ ap running_of b })

  pub refused : (a : IndexRefusal) → index_answer ws rs ms list (length ts) (length bs) (length ls) ≡ Err a → Indexed (index_result ws rs ms list ts bs ls) (Err a) ts bs ls
  unfolding index_result by_answer
  refused a e = rw e (record { answer_is = refl; paper_is = refl; tops_are = refl; bottoms_are = refl; running_is = refl })
