-- The output filled from the front, a box at a time.
--     put-box      one box more
--     all_put      no box is left
use mathlib.Core.Path.{◌≡◌, refl, sym, ap, ◌∙◌}
use mathlib.Core.List.{List, [], ◌∷◌, ◌++◌, append_assoc, append-nil}
use Prim.Native.Nat.{ℕ, zero, suc, ◌+◌, ◌*◌, ◌<◌, ◌≤◌}
use native.Mathlib.Numerals.{add-one}
use native.Mathlib.Omega.{arith}
use lib.IntN.{ℤ, pos}
use lib.ListN.{length, get_or, set, drop, length-set, drop_of_length-le}
use lib.Seq.{drop-cons}
use Rattle.tree.proofs.Lists.{set-in}
use Rattle.coarse.specs.Panel.{boxes_of}
use Rattle.coarse.specs.Spans.{box_put}
use Rattle.coarse.specs.declared.PixelBox.{PixelBox}

-- four numbers taken off a list
drop_four : (l : List ℤ) (k : ℕ) (d : ℤ) → k + 4 ≤ length l → drop k l ≡ get_or l k d ∷ get_or l (suc k) d ∷ get_or l (suc (suc k)) d ∷ get_or l (suc (suc (suc k))) d ∷ drop (suc (suc (suc (suc k)))) l
drop_four l k d h =
    drop-cons l k d (omega arith)
    ∙ ap (λ (r : List ℤ). get_or l k d ∷ r) (drop-cons l (suc k) d (omega arith)
    ∙ ap (λ (r : List ℤ). get_or l (suc k) d ∷ r) (drop-cons l (suc (suc k)) d (omega arith)
    ∙ ap (λ (r : List ℤ). get_or l (suc (suc k)) d ∷ r) (drop-cons l (suc (suc (suc k))) d (omega arith))))

-- and others put in their place, behind p
set_four : (p r : List ℤ) (a b c d : ℤ) (box : PixelBox) (k : ℕ) → length p ≡ k
    → set (set (set (set (p ++ a ∷ b ∷ c ∷ d ∷ r) k box.x) (k + 1) box.y) (k + 2) box.width) (k + 3) box.height ≡ p ++ box.x ∷ box.y ∷ box.width ∷ box.height ∷ r
set_four p r a b c d box k h =
    ap (λ (l : List ℤ). set (set (set l (k + 1) box.y) (k + 2) box.width) (k + 3) box.height) (set-in p [] a (b ∷ c ∷ d ∷ r) box.x k (omega arith))
    ∙ ap (λ (l : List ℤ). set (set l (k + 2) box.width) (k + 3) box.height) (set-in p (box.x ∷ []) b (c ∷ d ∷ r) box.y (k + 1) (omega arith))
    ∙ ap (λ (l : List ℤ). set l (k + 3) box.height) (set-in p (box.x ∷ box.y ∷ []) c (d ∷ r) box.width (k + 2) (omega arith))
    ∙ set-in p (box.x ∷ box.y ∷ box.width ∷ []) d r box.height (k + 3) (omega arith)

module _ (box : ℕ → PixelBox) where
  pub no-boxes : (j : ℕ) → boxes_of box j 0 ≡ []
  unfolding boxes_of
  no-boxes j = refl

  pub more-boxes : (j n : ℕ) → boxes_of box j (suc n) ≡ (box j).x ∷ (box j).y ∷ (box j).width ∷ (box j).height ∷ boxes_of box (j + 1) n
  unfolding boxes_of
  more-boxes j n = refl

  pub length-boxes : (j n : ℕ) → length (boxes_of box j n) ≡ 4 * n
  length-boxes j zero = ap length (no-boxes j)
  length-boxes j (suc n) =
      let e = ap length (more-boxes j n) in
      let h = length-boxes (j + 1) n in
      omega arith

  last-box : (j n : ℕ) → boxes_of box j (suc n) ≡ boxes_of box j n ++ (box (j + n)).x ∷ (box (j + n)).y ∷ (box (j + n)).width ∷ (box (j + n)).height ∷ []
  last-box j zero =
      let q : j ≡ j + 0 = omega arith in
      more-boxes j 0
      ∙ ap (λ (r : List ℤ). (box j).x ∷ (box j).y ∷ (box j).width ∷ (box j).height ∷ r) (no-boxes (j + 1))
      ∙ ap (λ (i : ℕ). (box i).x ∷ (box i).y ∷ (box i).width ∷ (box i).height ∷ []) q
      ∙ ap (λ (r : List ℤ). r ++ (box (j + 0)).x ∷ (box (j + 0)).y ∷ (box (j + 0)).width ∷ (box (j + 0)).height ∷ []) (sym (no-boxes j))
  last-box j (suc n) =
      let q : j + 1 + n ≡ j + suc n = omega arith in
      more-boxes j (suc n)
      ∙ ap (λ (r : List ℤ). (box j).x ∷ (box j).y ∷ (box j).width ∷ (box j).height ∷ r) (last-box (j + 1) n ∙ ap (λ (i : ℕ). boxes_of box (j + 1) n ++ (box i).x ∷ (box i).y ∷ (box i).width ∷ (box i).height ∷ []) q)
      ∙ ap (λ (r : List ℤ). r ++ (box (j + suc n)).x ∷ (box (j + suc n)).y ∷ (box (j + suc n)).width ∷ (box (j + suc n)).height ∷ []) (sym (more-boxes j n))

  pub put-box : (lent out : List ℤ) (n i : ℕ) → length lent ≡ 4 * n → i < n → out ≡ boxes_of box 0 i ++ drop (4 * i) lent
      → box_put out i (box i) ≡ boxes_of box 0 (i + 1) ++ drop (4 * (i + 1)) lent
  put-box lent out n i h l e =
      let k = 4 * i in
      let g : ℕ → ℤ = λ j. get_or lent j (pos 0) in
      let r = drop (suc (suc (suc (suc k)))) lent in
      let q : suc (suc (suc (suc k))) ≡ 4 * (i + 1) = omega arith in
      let z : 0 + i ≡ i = omega arith in
      ap (λ (o : List ℤ). set (set (set (set o k (box i).x) (k + 1) (box i).y) (k + 2) (box i).width) (k + 3) (box i).height) (e ∙ ap (λ (d : List ℤ). boxes_of box 0 i ++ d) (drop_four lent k (pos 0) (omega arith)))
      ∙ set_four (boxes_of box 0 i) r (g k) (g (suc k)) (g (suc (suc k))) (g (suc (suc (suc k)))) (box i) k (length-boxes 0 i)
      ∙ sym (append_assoc (boxes_of box 0 i) ((box i).x ∷ (box i).y ∷ (box i).width ∷ (box i).height ∷ []) r)
      ∙ ap (λ (j : ℕ). (boxes_of box 0 i ++ (box j).x ∷ (box j).y ∷ (box j).width ∷ (box j).height ∷ []) ++ r) (sym z)
      ∙ ap (λ (b : List ℤ). b ++ r) (sym (last-box 0 i))
      ∙ ap (λ (j : ℕ). boxes_of box 0 j ++ r) (sym (add-one i))
      ∙ ap (λ (j : ℕ). boxes_of box 0 (i + 1) ++ drop j lent) q

  pub all_put : (lent : List ℤ) (n i : ℕ) → length lent ≡ 4 * n → i ≡ n → boxes_of box 0 i ++ drop (4 * i) lent ≡ boxes_of box 0 n
  all_put lent n i h e = ap (λ (d : List ℤ). boxes_of box 0 i ++ d) (drop_of_length-le lent {i = 4 * i} (omega arith)) ∙ append-nil (boxes_of box 0 i) ∙ ap (boxes_of box 0) e

pub length_put : (out : List ℤ) (i : ℕ) (b : PixelBox) → length (box_put out i b) ≡ length out
length_put out i b = simp length-set

-- boxes that agree below n
pub boxes_same : (f g : ℕ → PixelBox) (j n : ℕ) → ((i : ℕ) → j ≤ i → i < j + n → f i ≡ g i) → boxes_of f j n ≡ boxes_of g j n
boxes_same f g j zero h = no-boxes f j ∙ sym (no-boxes g j)
boxes_same f g j (suc n) h =
    more-boxes f j n
    ∙ ap (λ (b : PixelBox). b.x ∷ b.y ∷ b.width ∷ b.height ∷ boxes_of f (j + 1) n) (h j (omega arith) (omega arith))
    ∙ ap (λ (r : List ℤ). (g j).x ∷ (g j).y ∷ (g j).width ∷ (g j).height ∷ r) (boxes_same f g (j + 1) n (λ i a b. h i (omega arith) (omega arith)))
    ∙ sym (more-boxes g j n)
