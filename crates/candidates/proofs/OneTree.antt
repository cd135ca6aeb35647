-- One tree of the list: a record put at the front, the records below moved by a place, or none.
use mathlib.Core.Path.{◌≡◌, refl, sym, ap, ◌∙◌}
use mathlib.Core.Bool.{true, false}
use mathlib.Core.List.{List, [], ◌∷◌, ◌++◌, map}
use Prim.Native.Nat.{ℕ, suc, ◌+◌, ◌*◌, ◌-◌, ◌≤◌}
use native.Mathlib.Omega.{arith}
use native.Mathlib.Numerals.{add-one}
use lib.ListN.{length, get_or, set, take, drop, length-drop, length-map}
use lib.Ieee.{Float, nan}
use Rattle.style.specs.Codes.{flag_at}
use Rattle.tree.specs.Tree.{Tree, Forest, node, count_t}
use Rattle.tree.proofs.Laws.{count_t_node}
use Rattle.tree.proofs.Lists.{tail-part}
use Rattle.steps.specs.Row.{Row, is_laid, is_out}
use Rattle.steps.specs.Results.{listed}
use Rattle.steps.specs.Candidates.{Candidate, candidate_words, candidate_numbers, candidate_of, moved_by, candidates_at, candidates_t, candidates_f}
use Rattle.steps.proofs.Listed.{listed_nil, listed_cons}
use Rattle.candidates.specs.Gathered.{shifted, AllMoved, RowsOfT, RoomFor, RoomOne, RecordPut, GivenT, GivenF, GathersT, GathersF}
use Rattle.candidates.proofs.RowParts.{facts}
use Rattle.candidates.proofs.GatherLoop.{cand_t_node}

pub pair_put : (l : List ℕ) (a b : ℕ) → 2 ≤ length l → set (set l 0 a) 1 b ≡ a ∷ b ∷ drop 2 l
pair_put [] a b h = absurd (omega arith)
pair_put (x ∷ []) a b h = absurd (omega arith)
pair_put (x ∷ y ∷ l) a b h = refl

pub triple_put : (l : List Float) (a b c : Float) → 3 ≤ length l → set (set (set l 0 a) 1 b) 2 c ≡ a ∷ b ∷ c ∷ drop 3 l
triple_put [] a b c h = absurd (omega arith)
triple_put (x ∷ []) a b c h = absurd (omega arith)
triple_put (x ∷ y ∷ []) a b c h = absurd (omega arith)
triple_put (x ∷ y ∷ z ∷ l) a b c h = refl

at_out : (b : ℕ) (r : Row) (l : List Candidate) → flag_at r.bits 0 ≡ false → flag_at r.bits 2 ≡ true → candidates_at b r l ≡ candidate_of b r ∷ []
unfolding candidates_at is_out is_laid
at_out b r l h e = rw (h, e)

at_laid : (b : ℕ) (r : Row) (l : List Candidate) → flag_at r.bits 0 ≡ true → candidates_at b r l ≡ map (moved_by r) l
unfolding candidates_at is_laid
at_laid b r l h = rw h

at_none : (b : ℕ) (r : Row) (l : List Candidate) → flag_at r.bits 0 ≡ false → flag_at r.bits 2 ≡ false → candidates_at b r l ≡ []
unfolding candidates_at is_out is_laid
at_none b r l h e = rw (h, e)

-- what the first row of a tree's table says
pub bits_of : (ws : List ℕ) (rs : List Float) (ms : List ℕ) (r : Row) (ks : Forest Row) → RowsOfT ws rs ms (node r ks) → get_or ms 1 0 ≡ r.bits
bits_of ws rs ms r ks h = ap (λ (z : List ℕ). get_or z 1 0) (facts ws rs ms r ks h).marks_head

one_record : (b : ℕ) (r : Row) → (listed candidate_words (candidate_of b r ∷ []) ≡ b ∷ r.order ∷ []) × (listed candidate_numbers (candidate_of b r ∷ []) ≡ r.place.x ∷ r.answer.size.width ∷ r.place.y ∷ [])
unfolding listed candidate_of
one_record b r = (refl, refl)

pub out_gathered : (ws : List ℕ) (rs : List Float) (ms : List ℕ) (b : ℕ) (pairs : List ℕ) (triples : List Float) (pairs' : List ℕ) (triples' : List Float) → flag_at (get_or ms 1 0) 0 ≡ false → flag_at (get_or ms 1 0) 2 ≡ true
    → RecordPut pairs triples b (get_or ms 0 0) (get_or rs 0 nan) (get_or rs 2 nan) (get_or rs 1 nan) pairs' triples' → GathersT ws rs ms b pairs triples 1 pairs' triples'
out_gathered ws rs ms b pairs triples pairs' triples' z e p (node r ks) h room =
    let f = facts ws rs ms r ks h in
    let bits = bits_of ws rs ms r ks h in
    let o : get_or ms 0 0 ≡ r.order = ap (λ (z : List ℕ). get_or z 0 0) f.marks_head in
    let x : get_or rs 0 nan ≡ r.place.x = ap (λ (z : List Float). get_or z 0 nan) f.rows_head in
    let y : get_or rs 1 nan ≡ r.place.y = ap (λ (z : List Float). get_or z 1 nan) f.rows_head in
    let w : get_or rs 2 nan ≡ r.answer.size.width = ap (λ (z : List Float). get_or z 2 nan) f.rows_head in
    let l : candidates_t b (node r ks) ≡ candidate_of b r ∷ [] = cand_t_node b r ks ∙ at_out b r _ (ap (λ (n : ℕ). flag_at n 0) (sym bits) ∙ z) (ap (λ (n : ℕ). flag_at n 2) (sym bits) ∙ e) in
    let one = one_record b r in
    rw l (record {
      count = refl;
      pairs_are = p.pairs_are ∙ rw (o) (ap (λ (z : List ℕ). z ++ drop 2 pairs) (sym one.0));
      triples_are = p.triples_are ∙ rw (x, y, w) (ap (λ (z : List Float). z ++ drop 3 triples) (sym one.1));
    })

pub none_gathered : (ws : List ℕ) (rs : List Float) (ms : List ℕ) (b : ℕ) (pairs : List ℕ) (triples : List Float) → flag_at (get_or ms 1 0) 0 ≡ false → flag_at (get_or ms 1 0) 2 ≡ false → GathersT ws rs ms b pairs triples 0 pairs triples
none_gathered ws rs ms b pairs triples z e (node r ks) h room =
    let bits = bits_of ws rs ms r ks h in
    let l : candidates_t b (node r ks) ≡ [] = cand_t_node b r ks ∙ at_none b r _ (ap (λ (n : ℕ). flag_at n 0) (sym bits) ∙ z) (ap (λ (n : ℕ). flag_at n 2) (sym bits) ∙ e) in
    rw l (record { count = refl; pairs_are = sym (ap (λ (v : List ℕ). v ++ pairs) (listed_nil candidate_words)); triples_are = sym (ap (λ (v : List Float). v ++ triples) (listed_nil candidate_numbers)) })

-- moving by a row's place
moved_is : (r : Row) (c : Candidate) → moved_by r c ≡ shifted r.place.x r.place.y c
unfolding moved_by shifted
moved_is r c = refl

map_moved : (r : Row) (l : List Candidate) → map (moved_by r) l ≡ map (shifted r.place.x r.place.y) l
map_moved r [] = refl
map_moved r (c ∷ l) = rw (moved_is r c, map_moved r l)

shift_words : (x y : Float) (c : Candidate) → candidate_words (shifted x y c) ≡ candidate_words c
unfolding shifted
shift_words x y c = refl

words_stay : (x y : Float) (l : List Candidate) → listed candidate_words (map (shifted x y) l) ≡ listed candidate_words l
words_stay x y [] = refl
words_stay x y (c ∷ l) = listed_cons candidate_words (shifted x y c) (map (shifted x y) l) ∙ ap (λ (z : List ℕ). candidate_words (shifted x y c) ++ z) (words_stay x y l)
    ∙ ap (λ (z : List ℕ). z ++ listed candidate_words l) (shift_words x y c) ∙ sym (listed_cons candidate_words c l)

-- what the kids are given
pub kids_room : (ws : List ℕ) (rs : List Float) (ms : List ℕ) (b : ℕ) (pairs : List ℕ) (triples : List Float) (r : Row) (ks : Forest Row) → RowsOfT ws rs ms (node r ks) → flag_at (get_or ms 1 0) 0 ≡ true
    → RoomFor (candidates_t b (node r ks)) pairs triples → RoomFor (candidates_f (b + 1) ks) pairs triples
kids_room ws rs ms b pairs triples r ks h z room =
    let bits = bits_of ws rs ms r ks h in
    let l : candidates_t b (node r ks) ≡ map (moved_by r) (candidates_f (suc b) ks) = cand_t_node b r ks ∙ at_laid b r _ (ap (λ (n : ℕ). flag_at n 0) (sym bits) ∙ z) in
    let n : length (candidates_t b (node r ks)) ≡ length (candidates_f (b + 1) ks) = ap length l ∙ length-map (candidates_f (suc b) ks) (moved_by r) ∙ ap (λ (k : ℕ). length (candidates_f k ks)) (sym (add-one b)) in
    record { pairs_room = omega (arith, room.pairs_room); triples_room = omega (arith, room.triples_room) }

pub kids_given : (ws : List ℕ) (rs : List Float) (ms : List ℕ) (b : ℕ) (pairs : List ℕ) (triples : List Float) → flag_at (get_or ms 1 0) 0 ≡ true → GivenT ws rs ms b pairs triples
    → GivenF (take (length ws - 4) (drop 4 ws)) (take (length rs - 16) (drop 16 rs)) (take (length ms - 2) (drop 2 ms)) (b + 1) pairs triples
kids_given ws rs ms b pairs triples z g = go g.tree g.rows_of g.fit g.room
  where
    go : (t : Tree Row) → RowsOfT ws rs ms t → b + count_t t ≤ 1024 → RoomFor (candidates_t b t) pairs triples → GivenF (take (length ws - 4) (drop 4 ws)) (take (length rs - 16) (drop 16 rs)) (take (length ms - 2) (drop 2 ms)) (b + 1) pairs triples
    go (node r ks) h fit room =
        record { forest = ks; rows_of = (facts ws rs ms r ks h).kids; fit = omega (arith, fit, count_t_node r ks); room = kids_room ws rs ms b pairs triples r ks h z room }

pub laid_gathered : (ws : List ℕ) (rs : List Float) (ms : List ℕ) (b n : ℕ) (pairs : List ℕ) (triples : List Float) (pairs1 : List ℕ) (triples1 triples2 : List Float) → flag_at (get_or ms 1 0) 0 ≡ true
    → GathersF (take (length ws - 4) (drop 4 ws)) (take (length rs - 16) (drop 16 rs)) (take (length ms - 2) (drop 2 ms)) (b + 1) pairs triples n pairs1 triples1
    → AllMoved triples1 n (get_or rs 0 nan) (get_or rs 1 nan) triples2 → GathersT ws rs ms b pairs triples n pairs1 triples2
laid_gathered ws rs ms b n pairs triples pairs1 triples1 triples2 z g mv (node r ks) h room =
    let f = facts ws rs ms r ks h in
    let bits = bits_of ws rs ms r ks h in
    let x : get_or rs 0 nan ≡ r.place.x = ap (λ (v : List Float). get_or v 0 nan) f.rows_head in
    let y : get_or rs 1 nan ≡ r.place.y = ap (λ (v : List Float). get_or v 1 nan) f.rows_head in
    let k = candidates_f (b + 1) ks in
    let p = g ks f.kids (kids_room ws rs ms b pairs triples r ks h z room) in
    let l : candidates_t b (node r ks) ≡ map (shifted r.place.x r.place.y) k =
    cand_t_node b r ks ∙ at_laid b r _ (ap (λ (i : ℕ). flag_at i 0) (sym bits) ∙ z) ∙ map_moved r (candidates_f (suc b) ks) ∙ ap (λ (i : ℕ). map (shifted r.place.x r.place.y) (candidates_f i ks)) (sym (add-one b)) in
    let m = mv k (drop (3 * length k) triples) p.triples_are (sym p.count) in
    let c : length (map (shifted r.place.x r.place.y) k) ≡ length k = length-map k (shifted r.place.x r.place.y) in
    let m2 : triples2 ≡ listed candidate_numbers (map (shifted r.place.x r.place.y) k) ++ drop (3 * length k) triples = rw (x, y) at m in
    rw l (record {
      count = p.count ∙ sym c;
      pairs_are = p.pairs_are ∙ ap (λ (v : List ℕ). v ++ drop (2 * length k) pairs) (sym (words_stay r.place.x r.place.y k)) ∙ ap (λ (i : ℕ). listed candidate_words (map (shifted r.place.x r.place.y) k) ++ drop (2 * i) pairs) (sym c);
      triples_are = m2 ∙ ap (λ (i : ℕ). listed candidate_numbers (map (shifted r.place.x r.place.y) k) ++ drop (3 * i) triples) (sym c);
    })

-- the lengths of a tree's tables
pub record Given-facts (ws : List ℕ) (rs : List Float) (ms : List ℕ) (b : ℕ) : Type 0 where
  pub words_some : 4 ≤ length ws
  pub rows_some : 16 ≤ length rs
  pub marks_some : 2 ≤ length ms
  pub fit : b ≤ 1024
  pub tail_long : length (take (length ws - 4) (drop 4 ws)) ≡ length ws - 4

pub given : (ws : List ℕ) (rs : List Float) (ms : List ℕ) (b : ℕ) (pairs : List ℕ) (triples : List Float) → GivenT ws rs ms b pairs triples → Given-facts ws rs ms b
given ws rs ms b pairs triples g = go g.tree g.rows_of g.fit
  where
    go : (t : Tree Row) → RowsOfT ws rs ms t → b + count_t t ≤ 1024 → Given-facts ws rs ms b
    go (node r ks) h fit =
        let f = facts ws rs ms r ks h in
        record { words_some = f.words_some; rows_some = f.rows_some; marks_some = f.marks_some; fit = omega arith; tail_long = rw (tail-part 4 ws) (simp length-drop) }

-- room for one record, and for those that are moved
pub one_room : (ws : List ℕ) (rs : List Float) (ms : List ℕ) (b : ℕ) (pairs : List ℕ) (triples : List Float) → flag_at (get_or ms 1 0) 0 ≡ false → flag_at (get_or ms 1 0) 2 ≡ true → GivenT ws rs ms b pairs triples → RoomOne pairs triples
one_room ws rs ms b pairs triples z e g = go g.tree g.rows_of g.room
  where
    go : (t : Tree Row) → RowsOfT ws rs ms t → RoomFor (candidates_t b t) pairs triples → RoomOne pairs triples
    go (node r ks) h room =
        let bits = bits_of ws rs ms r ks h in
        let n : length (candidates_t b (node r ks)) ≡ 1 = ap length (cand_t_node b r ks ∙ at_out b r (candidates_f (suc b) ks) (ap (λ (i : ℕ). flag_at i 0) (sym bits) ∙ z) (ap (λ (i : ℕ). flag_at i 2) (sym bits) ∙ e)) in
        record { pairs_room = omega (arith, room.pairs_room); triples_room = omega (arith, room.triples_room) }

pub moved_room : (ws : List ℕ) (rs : List Float) (ms : List ℕ) (b : ℕ) (pairs : List ℕ) (triples : List Float) (n : ℕ) (pairs1 : List ℕ) (triples1 : List Float) → flag_at (get_or ms 1 0) 0 ≡ true
    → GivenT ws rs ms b pairs triples → GathersF (take (length ws - 4) (drop 4 ws)) (take (length rs - 16) (drop 16 rs)) (take (length ms - 2) (drop 2 ms)) (b + 1) pairs triples n pairs1 triples1 → length triples1 ≡ length triples → 3 * n ≤ length triples1
moved_room ws rs ms b pairs triples n pairs1 triples1 z g f len = go g.tree g.rows_of g.room
  where
    go : (t : Tree Row) → RowsOfT ws rs ms t → RoomFor (candidates_t b t) pairs triples → 3 * n ≤ length triples1
    go (node r ks) h room =
        let k = kids_room ws rs ms b pairs triples r ks h z room in
        omega (arith, (f ks (facts ws rs ms r ks h).kids k).count, k.triples_room)
