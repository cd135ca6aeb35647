-- What is above a node, for every table that passes 1 and 2.
--     trim-is       of what may be above a node, those that hold it are left by trimming
--     not-deep      there are at most 31
--     climb_is      the sum of their places is the edge
use mathlib.Core.Path.{◌≡◌, refl, sym, ap, ◌∙◌}
use mathlib.Core.Bool.{Bool, true, false, cond, ◌&&◌, true≢false}
use mathlib.Core.List.{List, [], ◌∷◌}
use Prim.Native.Nat.{ℕ, zero, suc, ◌+◌, ◌-◌, ◌<◌, ◌≤◌}
use native.Mathlib.Numerals.{add-one}
use native.Mathlib.Omega.{arith}
use lib.Dec.{eqb, ltb}
use lib.ListN.{length, get_or, set}
use lib.Seq.{get_or-set_same, get_or-set_other}
use lib.Ieee.{Float, add, binary32}
use borrow.Author.Tests.{leb-false}
use Rattle.limits.specs.Bools.{or_right, one_test}
use Rattle.style.specs.Codes.{code_at}
use Rattle.style.specs.Style.{word_at}
use Rattle.steps.specs.Page.{nodes_in}
use Rattle.steps.specs.Scan.{some, how_many}
use Rattle.steps.specs.Noes.{end_at, holds, bad_tree}
use Rattle.tables.specs.Refusals.{Sound}
use Rattle.shape.proofs.Fronts.{holds-yes, holds-no, holds-true, nested}
use Rattle.edges.specs.Edges.{row_number, outward, edge_by}
use Rattle.coarse.specs.Panel.{span_of, far_node, box_of}
use Rattle.coarse.specs.Spans.{seen_of}
use Rattle.coarse.specs.Above.{chosen, above, before, trimmed, stacked, climb, climbed}

-- ---- the clauses
chosen_none : (h : ℕ → Bool) → chosen h 0 ≡ []
unfolding chosen
chosen_none h = refl

chosen_next : (h : ℕ → Bool) (j : ℕ) → chosen h (suc j) ≡ cond (h j) (j ∷ chosen h j) (chosen h j)
unfolding chosen
chosen_next h j = refl

chosen_yes : (h : ℕ → Bool) (j : ℕ) → h j ≡ true → chosen h (suc j) ≡ j ∷ chosen h j
chosen_yes h j e = chosen_next h j ∙ ap (λ (b : Bool). cond b (j ∷ chosen h j) (chosen h j)) e

chosen_no : (h : ℕ → Bool) (j : ℕ) → h j ≡ false → chosen h (suc j) ≡ chosen h j
chosen_no h j e = chosen_next h j ∙ ap (λ (b : Bool). cond b (j ∷ chosen h j) (chosen h j)) e

trimmed_none : (p : ℕ → Bool) → trimmed p [] ≡ []
unfolding trimmed
trimmed_none p = refl

pub trimmed_yes : (p : ℕ → Bool) (k : ℕ) (ks : List ℕ) → p k ≡ true → trimmed p (k ∷ ks) ≡ k ∷ ks
unfolding trimmed
trimmed_yes p k ks e = ap (λ (b : Bool). cond b (k ∷ ks) (trimmed p ks)) e

pub trimmed_no : (p : ℕ → Bool) (k : ℕ) (ks : List ℕ) → p k ≡ false → trimmed p (k ∷ ks) ≡ trimmed p ks
unfolding trimmed
trimmed_no p k ks e = ap (λ (b : Bool). cond b (k ∷ ks) (trimmed p ks)) e

-- ---- two tests that agree choose the same
chosen_same : (p q : ℕ → Bool) (j : ℕ) → ((k : ℕ) → k < j → p k ≡ q k) → chosen p j ≡ chosen q j
chosen_same p q zero h = chosen_none p ∙ sym (chosen_none q)
chosen_same p q (suc j) h =
    chosen_next p j
    ∙ ap (λ (b : Bool). cond b (j ∷ chosen p j) (chosen p j)) (h j (omega arith))
    ∙ ap (λ (l : List ℕ). cond (q j) (j ∷ l) l) (chosen_same p q j (λ k l. h k (omega arith)))
    ∙ sym (chosen_next q j)

-- p takes no more than q, and whatever lies below what p takes: p's are what trimming leaves of q's
trim_chosen : (p q : ℕ → Bool) (j : ℕ) → ((k : ℕ) → k < j → p k ≡ true → q k ≡ true) → ((k m : ℕ) → k < m → m < j → q k ≡ true → p m ≡ true → p k ≡ true) → trimmed p (chosen q j) ≡ chosen p j
trim_chosen p q zero less down = ap (trimmed p) (chosen_none q) ∙ trimmed_none p ∙ sym (chosen_none p)
trim_chosen p q (suc j) less down = go (q j) (p j) refl refl (trim_chosen p q j (λ k l. less k (omega arith)) (λ k m l n. down k m l (omega arith)))
  where
    alike : p j ≡ true → (k : ℕ) → k < j → q k ≡ p k
    alike e k l = one_test (q k) (p k) (λ t. down k j l (omega arith) t e) (less k (omega arith))

    go : (a b : Bool) → q j ≡ a → p j ≡ b → trimmed p (chosen q j) ≡ chosen p j → trimmed p (chosen q (suc j)) ≡ chosen p (suc j)
    go true true e f r = ap (trimmed p) (chosen_yes q j e) ∙ trimmed_yes p j (chosen q j) f ∙ ap (λ (l : List ℕ). j ∷ l) (chosen_same q p j (alike f)) ∙ sym (chosen_yes p j f)
    go true false e f r = ap (trimmed p) (chosen_yes q j e) ∙ trimmed_no p j (chosen q j) f ∙ r ∙ sym (chosen_no p j f)
    go false true e f r = absurd (true≢false (sym (less j (omega arith) f) ∙ e))
    go false false e f r = ap (trimmed p) (chosen_no q j e) ∙ r ∙ sym (chosen_no p j f)

-- ---- a table that is a tree's
module _ (ws : List ℕ) (sound : Sound (bad_tree ws) (nodes_in ws)) where
  pub trim-is : (i : ℕ) → i < nodes_in ws → trimmed (holds ws i) (before ws i) ≡ above ws i
  trim-is zero n = trimmed_none (holds ws 0) ∙ sym (chosen_none (holds ws 0))
  trim-is (suc i) n = go (holds ws (suc i) i) refl
    where
      less : (k : ℕ) → k < i → holds ws (suc i) k ≡ true → holds ws i k ≡ true
      less k l e =
          let h = holds-true ws (suc i) k e in
          holds-yes ws i k (omega arith)

      down : (k m : ℕ) → k < m → m < i → holds ws i k ≡ true → holds ws (suc i) m ≡ true → holds ws (suc i) k ≡ true
      down k m l g e f =
          let a = holds-true ws i k e in
          let b = holds-true ws (suc i) m f in
          let c = nested ws m k (omega arith) (sound m (omega arith)) l (omega arith) in
          holds-yes ws (suc i) k (omega arith)

      alike : holds ws (suc i) i ≡ true → (k : ℕ) → k < i → holds ws i k ≡ holds ws (suc i) k
      alike e k l =
          one_test (holds ws i k) (holds ws (suc i) k)
          (λ t.
          let b = holds-true ws (suc i) i e in
          let c = nested ws i k (omega arith) (sound i (omega arith)) l (holds-true ws i k t) in
          holds-yes ws (suc i) k (omega arith))
          (less k l)

      go : (b : Bool) → holds ws (suc i) i ≡ b → trimmed (holds ws (suc i)) (i ∷ above ws i) ≡ above ws (suc i)
      go true e = trimmed_yes (holds ws (suc i)) i (above ws i) e ∙ ap (λ (l : List ℕ). i ∷ l) (chosen_same (holds ws i) (holds ws (suc i)) i (alike e)) ∙ sym (chosen_yes (holds ws (suc i)) i e)
      go false e = trimmed_no (holds ws (suc i)) i (above ws i) e ∙ trim_chosen (holds ws (suc i)) (holds ws i) i less down ∙ sym (chosen_no (holds ws (suc i)) i e)

  length-chosen : (h : ℕ → Bool) (j : ℕ) → length (chosen h j) ≡ how_many h j
  unfolding how_many
  length-chosen h zero = ap length (chosen_none h)
  length-chosen h (suc j) = go (h j) refl (length-chosen h j)
    where
      go : (b : Bool) → h j ≡ b → length (chosen h j) ≡ how_many h j → length (chosen h (suc j)) ≡ cond (h j) (suc (how_many h j)) (how_many h j)
      go true e r = ap length (chosen_yes h j e) ∙ ap suc r ∙ sym (ap (λ (b : Bool). cond b (suc (how_many h j)) (how_many h j)) e)
      go false e r = ap length (chosen_no h j e) ∙ r ∙ sym (ap (λ (b : Bool). cond b (suc (how_many h j)) (how_many h j)) e)

  pub not-deep : (i : ℕ) → i < nodes_in ws → length (above ws i) < 32
  unfolding bad_tree
  not-deep i n =
      let b = sound i n in
      let c = or_right (eqb (word_at ws i 0) 0) _ (or_right (eqb i 0 && _) _ b) in
      let d = or_right (some (λ j. holds ws i j && ltb (end_at ws j) (end_at ws i)) i) _ c in
      let e = or_right (eqb (code_at (word_at ws i 1) 0) 1 && ltb 1 (word_at ws i 0)) _ d in
      let h : how_many (holds ws i) i < 32 = leb-false 32 (how_many (holds ws i) i) e in
      let q = length-chosen (holds ws i) i in
      omega arith

-- ---- the sum
climb_none : (place : ℕ → Float) (e : Float) → climb place [] e ≡ e
unfolding climb
climb_none place e = refl

pub climb_next : (place : ℕ → Float) (k : ℕ) (ks : List ℕ) (e : Float) → climb place (k ∷ ks) e ≡ climb place ks (add binary32 e (place k))
unfolding climb
climb_next place k ks e = refl

outward_climb : (h : ℕ → Bool) (place : ℕ → Float) (j : ℕ) (e : Float) → outward h place j e ≡ climb place (chosen h j) e
unfolding outward
outward_climb h place zero e = sym (ap (λ (l : List ℕ). climb place l e) (chosen_none h) ∙ climb_none place e)
outward_climb h place (suc j) e = outward_climb h place j (cond (h j) (add binary32 e (place j)) e) ∙ go (h j) refl
  where
    go : (b : Bool) → h j ≡ b → climb place (chosen h j) (cond (h j) (add binary32 e (place j)) e) ≡ climb place (chosen h (suc j)) e
    go true q = ap (λ (b : Bool). climb place (chosen h j) (cond b (add binary32 e (place j)) e)) q ∙ sym (ap (λ (l : List ℕ). climb place l e) (chosen_yes h j q) ∙ climb_next place j (chosen h j) e)
    go false q = ap (λ (b : Bool). climb place (chosen h j) (cond b (add binary32 e (place j)) e)) q ∙ sym (ap (λ (l : List ℕ). climb place l e) (chosen_no h j q))

pub climb_is : (ws : List ℕ) (rs : List Float) (f i : ℕ) → climbed rs (above ws i) f i ≡ edge_by ws rs f i
unfolding climbed edge_by
climb_is ws rs f i = sym (outward_climb (holds ws i) (λ (j : ℕ). row_number rs j f) i (row_number rs i f))

-- ---- the array
pub stacked_none : (up : List ℕ) → stacked up 0 ≡ []
unfolding stacked
stacked_none up = refl

one_more : (up : List ℕ) (d : ℕ) → stacked up (suc d) ≡ get_or up d 0 ∷ stacked up d
unfolding stacked
one_more up d = refl

pub stacked_next : (up : List ℕ) (d : ℕ) → 0 < d → stacked up d ≡ get_or up (d - 1) 0 ∷ stacked up (d - 1)
stacked_next up d h =
    let q : d ≡ suc (d - 1) = omega arith in
    ap (stacked up) q ∙ one_more up (d - 1)

pub length_stacked : (up : List ℕ) (d : ℕ) → length (stacked up d) ≡ d
unfolding stacked
length_stacked up zero = refl
length_stacked up (suc d) = ap suc (length_stacked up d)

-- ---- the two loops over the array
pub climb_start : (rs : List Float) (l : List ℕ) (f i : ℕ) (e : Float) → e ≡ row_number rs i f → climbed rs l f i ≡ climb (λ (j : ℕ). row_number rs j f) l e
unfolding climbed
climb_start rs l f i e q = ap (climb (λ (j : ℕ). row_number rs j f) l) (sym q)

pub climb_turn : (place : ℕ → Float) (up : List ℕ) (k : ℕ) (e v : Float) → 0 < k → v ≡ place (get_or up (k - 1) 0) → climb place (stacked up k) e ≡ climb place (stacked up (k - 1)) (add binary32 e v)
climb_turn place up k e v h q =
    ap (λ (l : List ℕ). climb place l e) (stacked_next up k h)
    ∙ climb_next place (get_or up (k - 1) 0) (stacked up (k - 1)) e
    ∙ ap (λ (x : Float). climb place (stacked up (k - 1)) (add binary32 e x)) (sym q)

pub climb_end : (place : ℕ → Float) (up : List ℕ) (k : ℕ) (e : Float) → k ≤ 0 → climb place (stacked up k) e ≡ e
climb_end place up k e h =
    let q : k ≡ 0 = omega arith in
    ap (λ (j : ℕ). climb place (stacked up j) e) q ∙ ap (λ (l : List ℕ). climb place l e) (stacked_none up) ∙ climb_none place e

pub trim_turn : (p : ℕ → Bool) (up : List ℕ) (k : ℕ) → 0 < k → p (get_or up (k - 1) 0) ≡ false → trimmed p (stacked up k) ≡ trimmed p (stacked up (k - 1))
trim_turn p up k h e = ap (trimmed p) (stacked_next up k h) ∙ trimmed_no p (get_or up (k - 1) 0) (stacked up (k - 1)) e

pub trim_stop : (p : ℕ → Bool) (up : List ℕ) (k : ℕ) → 0 < k → p (get_or up (k - 1) 0) ≡ true → trimmed p (stacked up k) ≡ stacked up k
trim_stop p up k h e = ap (trimmed p) (stacked_next up k h) ∙ trimmed_yes p (get_or up (k - 1) 0) (stacked up (k - 1)) e ∙ sym (stacked_next up k h)

pub trim_end : (p : ℕ → Bool) (up : List ℕ) (k : ℕ) → k ≤ 0 → trimmed p (stacked up k) ≡ stacked up k
trim_end p up k h =
    let q : k ≡ 0 = omega arith in
    ap (λ (j : ℕ). trimmed p (stacked up j)) q ∙ ap (trimmed p) (stacked_none up) ∙ trimmed_none p ∙ sym (stacked_none up) ∙ sym (ap (stacked up) q)

-- node g, read as j, with its size s
module _ (ws : List ℕ) (i g j s : ℕ) (node : j ≡ g) (size : s ≡ word_at ws j 0) where
  ends_at : end_at ws g ≡ j + s
  ends_at = ap (λ (n : ℕ). n + word_at ws n 0) (sym node) ∙ ap (λ (n : ℕ). j + n) (sym size)

  pub runs_past : i < j + s → holds ws i g ≡ true
  runs_past h = let e = ends_at in holds-yes ws i g (omega arith)

  pub runs-out : j + s ≤ i → holds ws i g ≡ false
  runs-out h = let e = ends_at in holds-no ws i g (omega arith)

-- ---- a turn of the walk: up has what may be above node i, r of its entries are left by trimming
stacked_set : (up : List ℕ) (r v k : ℕ) → k ≤ r → stacked (set up r v) k ≡ stacked up k
stacked_set up r v zero h = stacked_none (set up r v) ∙ sym (stacked_none up)
stacked_set up r v (suc k) h =
    one_more (set up r v) k
    ∙ ap (λ (x : ℕ). x ∷ stacked (set up r v) k) (get_or-set_other up r k v 0 (λ q. omega (arith, q)))
    ∙ ap (λ (l : List ℕ). get_or up k 0 ∷ l) (stacked_set up r v k (omega arith))
    ∙ sym (one_more up k)

module _ (ws : List ℕ) (n : ℕ) (all : nodes_in ws ≡ n) (sound : Sound (bad_tree ws) n) (up : List ℕ) (d r i : ℕ) (lower : i < n) (stack : stacked up d ≡ before ws i) (left : stacked up r ≡ trimmed (holds ws i) (stacked up d)) where
  pub are-above : stacked up r ≡ above ws i
  are-above = left ∙ ap (trimmed (holds ws i)) stack ∙ trim-is ws (λ j l. sound j (omega arith)) i (omega arith)

  pub room : r < 32
  room =
      let a = ap length are-above in
      let b = length_stacked up r in
      let c = not-deep ws (λ j l. sound j (omega arith)) i (omega arith) in
      omega arith

  pub pushed : length up ≡ 32 → stacked (set up r i) (r + 1) ≡ before ws (i + 1)
  pushed h =
      let q = room in
      ap (stacked (set up r i)) (add-one r)
      ∙ one_more (set up r i) r
      ∙ ap (λ (x : ℕ). x ∷ stacked (set up r i) r) (get_or-set_same up r i 0 (omega arith))
      ∙ ap (λ (l : List ℕ). i ∷ l) (stacked_set up r i r (omega arith) ∙ are-above)
      ∙ ap (before ws) (sym (add-one i))

  module _ (rs : List Float) where
    edge-too : (f : ℕ) → climbed rs (stacked up r) f i ≡ edge_by ws rs f i
    edge-too f = ap (λ (l : List ℕ). climbed rs l f i) are-above ∙ climb_is ws rs f i

    pub seen-too : (ms : List ℕ) → seen_of (climbed rs (stacked up r)) rs ms i ≡ seen_of (edge_by ws rs) rs ms i
    unfolding seen_of far_node box_of span_of
    seen-too ms = rw (edge-too 0, edge-too 1)
