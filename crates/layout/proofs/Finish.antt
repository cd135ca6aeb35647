-- Refusal 8 or the candidates, in plain terms.
use Rattle.steps.specs.declared.Refusal.TheVariants.{TooLarge}
use Rattle.std.specs.Prelude.{Option, None, Some, Ok, Err}
use mathlib.Core.Path.{◌≡◌, refl, sym, ap, ◌∙◌}
use mathlib.Core.Bool.{Bool, true, false, cond}
use mathlib.Core.List.{List, [], ◌∷◌, ◌++◌, map}
use Prim.Native.Nat.{ℕ, suc, ◌+◌, ◌*◌, ◌-◌, ◌/◌, ◌≤◌}
use native.Mathlib.Omega.{arith}
use lib.ListN.{length, take, drop, replicate, length-append, length-map}
use lib.Ieee.{Float}
use Rattle.geometry.specs.Geometry.{zero_f}
use Rattle.tree.specs.declared.NodeId.{NodeId}
use Rattle.tree.specs.Tree.{Tree, Forest, node, none, more, count_t, count_f, flat_t}
use Rattle.tree.proofs.Laws.{count_t_node, count_f_none, count_f_more, length-flatT}
use Rattle.steps.specs.Row.{Row, is_laid, is_out}
use Rattle.steps.specs.Scan.{lowest}
use Rattle.steps.specs.Noes.{paper, bad_row}
use Rattle.steps.specs.Candidates.{Candidate, candidate_words, candidate_numbers, candidate_of, moved_by, candidates_at, candidates, candidates_t, candidates_f}
use Rattle.steps.specs.Results.{rows_out, marks_out, listed, on_front, accepted, over_limit, replied}
use Rattle.steps.proofs.Listed.{length_listed}
use Rattle.walks.specs.Tables.{new_numbers, new_words}
use Rattle.candidates.specs.Gathered.{RowsOfT, RoomFor, GivenF, GathersF, Fronts}
use Rattle.candidates.proofs.RowParts.{facts}
use Rattle.candidates.proofs.GatherLoop.{cand_f_none, cand_f_more, cand_t_node}
use Rattle.layout.specs.Public.{Replied, IsPage, Finishes}

cands_node : (r : Row) (ks : Forest Row) → candidates (node r ks) ≡ candidates_f 1 ks
unfolding candidates
cands_node r ks = refl

rows_out_lem : (t : Tree Row) → rows_out t ≡ flat_t new_numbers t
unfolding rows_out
rows_out_lem t = refl

marks_out_lem : (t : Tree Row) → marks_out t ≡ flat_t new_words t
unfolding marks_out
marks_out_lem t = refl

nodes_of_lem : (ws : List ℕ) (rs : List Float) (ms : List ℕ) (t : Tree Row) → RowsOfT ws rs ms t → length ws / 4 ≡ count_t t
nodes_of_lem ws rs ms t h = omega (arith, h.words_long)

found_of : (ws : List ℕ) (rs : List Float) (ms : List ℕ) (found : Option NodeId) (t : Tree Row) → RowsOfT ws rs ms t → found ≡ lowest (bad_row rs) (length ws / 4) → lowest (bad_row (rows_out t)) (count_t t) ≡ found
found_of ws rs ms found t h e = rw (rows_out_lem t, ← h.rows_are, ← nodes_of_lem ws rs ms t h) (sym e)

replied_at : (ws : List ℕ) (rs : List Float) (ms : List ℕ) (pairs : List ℕ) (triples : List Float) (found f : Option NodeId) (t : Tree Row) → RowsOfT ws rs ms t → found ≡ lowest (bad_row rs) (length ws / 4) → found ≡ f
    → replied (count_t t) t rs ms pairs triples ≡ over_limit f t rs ms pairs triples
unfolding replied
replied_at ws rs ms pairs triples found f t h e k = ap (λ (z : Option NodeId). over_limit z t rs ms pairs triples) (found_of ws rs ms found t h e ∙ k)

pub too_large : (ws : List ℕ) (rs : List Float) (ms : List ℕ) (pairs : List ℕ) (triples : List Float) (found : Option NodeId) (i : NodeId) (rs' : List Float) (ms' : List ℕ) → found ≡ lowest (bad_row rs) (length ws / 4) → found ≡ Some i
    → rs' ≡ replicate (length rs) zero_f → ms' ≡ replicate (length ms) 0 → Finishes ws rs ms pairs triples (Err (TooLarge i)) rs' ms' pairs triples
unfolding over_limit
too_large ws rs ms pairs triples found i rs' ms' e k hr hm t h room =
    rw (replied_at ws rs ms pairs triples found (Some i) t h e k) (record { answer_is = refl; paper_is = refl; rows_are = hr; marks_are = hm; words_are = refl; numbers_are = refl })

front_of : {B : Type 0} (f : Candidate → List B) (k : ℕ) → ((c : Candidate) → length (f c) ≡ k) → (l : List Candidate) (lent : List B) → listed f l ++ drop (k * length l) lent ≡ on_front (listed f l) lent
unfolding on_front
front_of f k each l lent = rw (length_listed f k each l)

gathered : (ws : List ℕ) (rs : List Float) (ms : List ℕ) (pairs : List ℕ) (triples : List Float) (n : ℕ) (pairs' : List ℕ) (triples' : List Float) (t : Tree Row) → RowsOfT ws rs ms t → Fronts (candidates t) n pairs triples pairs' triples'
    → Replied (accepted t pairs triples) (Ok n) rs ms pairs' triples'
unfolding accepted
gathered ws rs ms pairs triples n pairs' triples' t h f =
    record {
      answer_is = ap Ok f.count;
      paper_is = ap (λ (k : ℕ). paper (Ok k)) f.count;
      rows_are = h.rows_are ∙ sym (rows_out_lem t);
      marks_are = h.marks_are ∙ sym (marks_out_lem t);
      words_are = f.pairs_are ∙ front_of candidate_words 2 (λ _. refl) (candidates t) pairs;
      numbers_are = f.triples_are ∙ front_of candidate_numbers 3 (λ _. refl) (candidates t) triples;
    }

pub all_done : (ws : List ℕ) (rs : List Float) (ms : List ℕ) (pairs : List ℕ) (triples : List Float) (found : Option NodeId) (n : ℕ) (pairs' : List ℕ) (triples' : List Float) → found ≡ lowest (bad_row rs) (length ws / 4) → found ≡ None
    → GathersF (take (length ws - 4) (drop 4 ws)) (take (length rs - 16) (drop 16 rs)) (take (length ms - 2) (drop 2 ms)) 1 pairs triples n pairs' triples' → Finishes ws rs ms pairs triples (Ok n) rs ms pairs' triples'
unfolding over_limit
all_done ws rs ms pairs triples found n pairs' triples' e k g (node r ks) h room =
    let f : Fronts (candidates (node r ks)) n pairs triples pairs' triples' = rw (cands_node r ks) (g ks (facts ws rs ms r ks h).kids (rw (cands_node r ks) at room)) in
    rw (replied_at ws rs ms pairs triples found None (node r ks) h e k) (gathered ws rs ms pairs triples n pairs' triples' (node r ks) h f)

-- what is known of a page
pub record Page-facts (ws : List ℕ) (rs : List Float) (ms : List ℕ) (pairs : List ℕ) (triples : List Float) : Type 0 where
  pub words_some : 4 ≤ length ws
  pub rows_some : 16 ≤ length rs
  pub marks_some : 2 ≤ length ms
  pub few : length ws / 4 ≤ 1024
  pub rows_long : 16 * (length ws / 4) ≤ length rs
  pub kids : GivenF (take (length ws - 4) (drop 4 ws)) (take (length rs - 16) (drop 16 rs)) (take (length ms - 2) (drop 2 ms)) 1 pairs triples

pub page_facts : (ws : List ℕ) (rs : List Float) (ms : List ℕ) (pairs : List ℕ) (triples : List Float) → IsPage ws rs ms pairs triples → Page-facts ws rs ms pairs triples
page_facts ws rs ms pairs triples p = go p.tree p.rows_of p.few p.room
  where
    go : (t : Tree Row) → RowsOfT ws rs ms t → count_t t ≤ 1024 → RoomFor (candidates t) pairs triples → Page-facts ws rs ms pairs triples
    go (node r ks) h few room =
        let f = facts ws rs ms r ks h in
        let n = nodes_of_lem ws rs ms (node r ks) h in
        let l : length rs ≡ 16 * count_t (node r ks) = ap length h.rows_are ∙ length-rows (node r ks) in
        record {
          words_some = f.words_some;
          rows_some = f.rows_some;
          marks_some = f.marks_some;
          few = omega arith;
          rows_long = omega arith;
          kids = record { forest = ks; rows_of = f.kids; fit = omega (arith, count_t_node r ks); room = rw (cands_node r ks) at room };
        }
      where
        length-rows : (t : Tree Row) → length (flat_t new_numbers t) ≡ 16 * count_t t
        length-rows t = length-flatT new_numbers 16 (λ _ _. refl) t

-- no more candidates than nodes
few_at : (b : ℕ) (r : Row) (l : List Candidate) (n : ℕ) → length l ≤ n → length (candidates_at b r l) ≤ suc n
unfolding candidates_at
few_at b r l n h = go (is_laid r) (is_out r)
  where
    go : (x y : Bool) → length (cond x (map (moved_by r) l) (cond y (candidate_of b r ∷ []) [])) ≤ suc n
    go true y = rw (length-map l (moved_by r)) (omega arith)
    go false true = omega arith
    go false false = omega arith

mutual
  few_t : (b : ℕ) (t : Tree Row) → length (candidates_t b t) ≤ count_t t
  few_t b (node r ks) = rw (cand_t_node, count_t_node) (few_at b r (candidates_f (suc b) ks) (count_f ks) (few_f (suc b) ks))

  few_f : (b : ℕ) (ts : Forest Row) → length (candidates_f b ts) ≤ count_f ts
  few_f b none = rw (cand_f_none, count_f_none) (omega arith)
  few_f b (more t ts) = let x = few_t b t in let y = few_f (b + count_t t) ts in rw (cand_f_more, count_f_more) (simp length-append (omega arith))

-- the count fits a word
pub few_records : (ws : List ℕ) (rs : List Float) (ms : List ℕ) (pairs : List ℕ) (triples : List Float) (n : ℕ) (pairs' : List ℕ) (triples' : List Float) → IsPage ws rs ms pairs triples
    → GathersF (take (length ws - 4) (drop 4 ws)) (take (length rs - 16) (drop 16 rs)) (take (length ms - 2) (drop 2 ms)) 1 pairs triples n pairs' triples' → n ≤ 1024
few_records ws rs ms pairs triples n pairs' triples' p g =
    let k = (page_facts ws rs ms pairs triples p).kids in
    let c = (g k.forest k.rows_of k.room).count in
    omega (arith, k.fit, few_f 1 k.forest)
