-- What is known of the output that an accepted coarse left.
--     on-pixel       each edge of a laid node stands at the whole pixel of its edge on the page
--     half_at_most   so no further than half a pixel from it, and a half below it: 2 ^ 149 is a pixel, and both numbers are whole
--     one-edge       edges that are equal numbers on the page are one here, whatever boxes they belong to
--     in_order       an edge that is not beyond another on the page is not so here
--     size-stays     a box whose far edge is not below its near edge has no negative size
--     size-kept-on   nor has a box whose size in the row is not below 0
--     not-laid       a node that is not laid has zeros
use Rattle.std.specs.Prelude.{Result, Ok, ⊤, Err}
use Rattle.coarse.specs.declared.CoarseRefusal.{CoarseRefusal}
use mathlib.Core.Path.{◌≡◌, refl, sym, ap, subst, ◌∙◌}
use mathlib.Core.Bool.{true, false}
use mathlib.Core.List.{List, [], ◌∷◌}
use Prim.Native.Nat.{ℕ, zero, suc, ◌+◌, ◌*◌, ◌^◌, ◌<◌}
use native.Mathlib.Omega.{arith}
use lib.IntN.{ℤ, pos, ◌+ℤ◌, ◌-ℤ◌, ◌*ℤ◌, +ℤ_comm, -ℤ-+ℤ_cancel}
use lib.ListN.{length, get_or}
use lib.Signed.{◌≤ℤ◌}
use lib.Dec.{T}
use lib.Ieee.{Float, eq, le, lt, fits, binary32}
use Rattle.geometry.specs.Geometry.{zero_f}
use Rattle.geometry.specs.declared.Line.{Line}
use Rattle.limits.specs.Limits.{too_large}
use Rattle.limits.specs.Laws.{small_finite}
use Rattle.steps.specs.Page.{nodes_in}
use Rattle.edges.specs.Edges.{row_number, edge_at}
use Rattle.pixel.specs.Pixel.{scaled, whole_pixel, Near}
use Rattle.pixel.specs.Laws.{equal_alike}
use Rattle.pixel.proofs.Laws.{monotone, size_not_negative}
use Rattle.pixel.proofs.Laws as pixel
use Rattle.pixel.proofs.Sizes.{size_kept}
use Rattle.coarse.specs.Panel.{laid_at, span_of, too_far, far_node, on_pixels, boxes_of}
use Rattle.coarse.specs.Coarse.{Panel, box_at, coarse_answer, by_answer, coarse_result, Coarsened}
use Rattle.coarse.specs.Sides.{Axis, across, down, Side, near, far, axis_no, edge_on, size_on, pixel_on}
use Rattle.coarse.specs.declared.PixelBox.{PixelBox}
use Rattle.coarse.proofs.Spans.{near_in, far_in, across-in, down-in, box-laid, box_none}
use Rattle.coarse.proofs.Filling.{more-boxes}
use Rattle.coarse.proofs.Making.{accepted}

-- ---- the numbers of box i
four_of : (box : ℕ → PixelBox) (j n i k : ℕ) (d : ℤ) → i < n → k < 4 → get_or (boxes_of box j n) (4 * i + k) d ≡ get_or ((box (j + i)).x ∷ (box (j + i)).y ∷ (box (j + i)).width ∷ (box (j + i)).height ∷ []) k d
four_of box j zero i k d h l = absurd (omega arith)
four_of box j (suc n) zero k d h l =
    let q : j + 0 ≡ j = omega arith in
    let z : 0 + k ≡ k = omega arith in
    rw (q, z, more-boxes box j n) (go k l)
  where
    rest : List ℤ
    rest = boxes_of box (j + 1) n

    go : (k : ℕ) → k < 4 → get_or ((box j).x ∷ (box j).y ∷ (box j).width ∷ (box j).height ∷ rest) k d ≡ get_or ((box j).x ∷ (box j).y ∷ (box j).width ∷ (box j).height ∷ []) k d
    go zero l = refl
    go (suc zero) l = refl
    go (suc (suc zero)) l = refl
    go (suc (suc (suc zero))) l = refl
    go (suc (suc (suc (suc k)))) l = absurd (omega arith)
four_of box j (suc n) (suc i) k d h l =
    let q : 4 * suc i + k ≡ suc (suc (suc (suc (4 * i + k)))) = omega arith in
    let z : j + 1 + i ≡ j + suc i = omega arith in
    rw (q, more-boxes box j n, ← z) (four_of box (j + 1) n i k d (omega arith) l)

-- only an accepted call answers Shown
only_shown : (a : Result ⊤ CoarseRefusal) (new lent : List ℤ) → Ok tt ≡ (by_answer a new lent).answer → a ≡ Ok tt
unfolding by_answer
only_shown (Ok _) new lent e = refl
only_shown (Err a) new lent e = sym e

module _ (ws : List ℕ) (rs : List Float) (ms : List ℕ) (lent : List ℤ) where
  -- what was lent does not matter
  pub lent-aside : coarse_answer ws rs ms (length lent) ≡ Ok tt → coarse_result ws rs ms lent ≡ record { answer = Ok tt; out = boxes_of (box_at ws rs ms) 0 (nodes_in ws) }
  unfolding coarse_result by_answer
  lent-aside e = rw e

  module _ (out : List ℤ) (call : Coarsened (coarse_result ws rs ms lent) (Ok tt) out) where
    was-shown : coarse_answer ws rs ms (length lent) ≡ Ok tt
    unfolding coarse_result
    was-shown = only_shown (coarse_answer ws rs ms (length lent)) _ lent call.answer_is

    pub out-left : out ≡ boxes_of (box_at ws rs ms) 0 (nodes_in ws)
    out-left = call.out_is ∙ ap (λ (x : Panel). x.out) (lent-aside was-shown)

    module _ (i : ℕ) (node : i < nodes_in ws) where
      abbrev box : PixelBox
      box = box_at ws rs ms i

      number-left : (k : ℕ) → k < 4 → get_or out (4 * i + k) (pos 0) ≡ get_or (box.x ∷ box.y ∷ box.width ∷ box.height ∷ []) k (pos 0)
      number-left k h =
          let q : 0 + i ≡ i = omega arith in
          ap (λ (l : List ℤ). get_or l (4 * i + k) (pos 0)) out-left ∙ four_of (box_at ws rs ms) 0 (nodes_in ws) i k (pos 0) node h ∙ ap (λ (j : ℕ). get_or ((box_at ws rs ms j).x ∷ (box_at ws rs ms j).y ∷ (box_at ws rs ms j).width ∷ (box_at ws rs ms j).height ∷ []) k (pos 0)) q

      pub not-laid : laid_at ms i ≡ false → (k : ℕ) → k < 4 → get_or out (4 * i + k) (pos 0) ≡ pos 0
      not-laid e k h = number-left k h ∙ ap (λ (b : PixelBox). get_or (b.x ∷ b.y ∷ b.width ∷ b.height ∷ []) k (pos 0)) (box_none (edge_at ws rs) rs ms i e) ∙ zeros k h
        where
          zeros : (k : ℕ) → k < 4 → get_or (pos 0 ∷ pos 0 ∷ pos 0 ∷ pos 0 ∷ []) k (pos 0) ≡ pos 0
          zeros zero l = refl
          zeros (suc zero) l = refl
          zeros (suc (suc zero)) l = refl
          zeros (suc (suc (suc zero))) l = refl
          zeros (suc (suc (suc (suc k)))) l = absurd (omega arith)

      module _ (laid : laid_at ms i ≡ true) where
        abbrev span : ℕ → Line
        span f = span_of (edge_at ws rs) rs f i

        laid-number : (k : ℕ) → k < 4 → get_or out (4 * i + k) (pos 0) ≡ get_or ((on_pixels (span 0) (span 1)).x ∷ (on_pixels (span 0) (span 1)).y ∷ (on_pixels (span 0) (span 1)).width ∷ (on_pixels (span 0) (span 1)).height ∷ []) k (pos 0)
        laid-number k h = number-left k h ∙ ap (λ (b : PixelBox). get_or (b.x ∷ b.y ∷ b.width ∷ b.height ∷ []) k (pos 0)) (box-laid (edge_at ws rs) rs ms i laid)

        near-pixel : (a : Axis) → pixel_on out a near i ≡ whole_pixel (edge_on ws rs a near i)
        unfolding on_pixels
        near-pixel across = laid-number 0 (omega arith)
        near-pixel down = laid-number 1 (omega arith)

        size_is : (a : Axis) → size_on out a i ≡ whole_pixel (edge_on ws rs a far i) -ℤ whole_pixel (edge_on ws rs a near i)
        unfolding on_pixels
        size_is across =
            let q : 4 * i + 2 + 0 ≡ 4 * i + 2 = omega arith in
            ap (λ (k : ℕ). get_or out k (pos 0)) q ∙ laid-number 2 (omega arith)
        size_is down =
            let q : 4 * i + 2 + 1 ≡ 4 * i + 3 = omega arith in
            ap (λ (k : ℕ). get_or out k (pos 0)) q ∙ laid-number 3 (omega arith)

        pub on-pixel : (a : Axis) (s : Side) → pixel_on out a s i ≡ whole_pixel (edge_on ws rs a s i)
        on-pixel a near = near-pixel a
        on-pixel a far =
            let n = whole_pixel (edge_on ws rs a near i) in
            let m = whole_pixel (edge_on ws rs a far i) in
            ap (λ (z : ℤ). z +ℤ size_on out a i) (near-pixel a) ∙ ap (λ (z : ℤ). n +ℤ z) (size_is a) ∙ +ℤ_comm n (m -ℤ n) ∙ -ℤ-+ℤ_cancel m n

        pub half_at_most : (a : Axis) (s : Side) → Near (pixel_on out a s i *ℤ pos (2 ^ 149) -ℤ scaled (edge_on ws rs a s i)) (2 ^ 149)
        half_at_most a s = subst (λ (z : ℤ). Near (z *ℤ pos (2 ^ 149) -ℤ scaled (edge_on ws rs a s i)) (2 ^ 149)) (sym (on-pixel a s)) (pixel.near (edge_on ws rs a s i))

        within : far_node (edge_at ws rs) rs ms i ≡ false
        within = (accepted ws rs ms lent was-shown).near i node

        span-in : (a : Axis) → too_far (span (axis_no a)) ≡ false
        span-in across = across-in (edge_at ws rs) rs ms i laid within
        span-in down = down-in (edge_at ws rs) rs ms i laid within

        pub edge_in : (a : Axis) (s : Side) → too_large (edge_on ws rs a s i) ≡ false
        edge_in a near = near_in (span (axis_no a)) (span-in a)
        edge_in a far = far_in (span (axis_no a)) (span-in a)

        pub size-stays : (a : Axis) → le (edge_on ws rs a near i) (edge_on ws rs a far i) ≡ true → pos 0 ≤ℤ size_on out a i
        size-stays a q =
            subst (λ (z : ℤ). pos 0 ≤ℤ z) (sym (size_is a))
            (size_not_negative (edge_on ws rs a near i) (edge_on ws rs a far i) (small_finite _ (edge_in a near)) (small_finite _ (edge_in a far)) q)

        -- the near edge is an f32, as each sum and each number of a row is
        pub size-kept-on : (a : Axis) → T (fits binary32 (edge_on ws rs a near i)) → lt (row_number rs i (2 + axis_no a)) zero_f ≡ false → pos 0 ≤ℤ size_on out a i
        unfolding span_of
        size-kept-on a t h =
            subst (λ (z : ℤ). pos 0 ≤ℤ z) (sym (size_is a))
            (size_kept (edge_on ws rs a near i) (row_number rs i (2 + axis_no a)) t (small_finite _ (edge_in a near)) (small_finite _ (edge_in a far)) h)

    -- two laid nodes, or one of them twice
    module _ (i j : ℕ) (first : i < nodes_in ws) (second : j < nodes_in ws) (laid : laid_at ms i ≡ true) (laid' : laid_at ms j ≡ true) (a : Axis) (s t : Side) where
      pub one-edge : eq (edge_on ws rs a s i) (edge_on ws rs a t j) ≡ true → pixel_on out a s i ≡ pixel_on out a t j
      one-edge q = on-pixel i first laid a s ∙ equal_alike (edge_on ws rs a s i) (edge_on ws rs a t j) q ∙ sym (on-pixel j second laid' a t)

      pub in_order : le (edge_on ws rs a s i) (edge_on ws rs a t j) ≡ true → pixel_on out a s i ≤ℤ pixel_on out a t j
      in_order q =
          subst (λ (z : ℤ). z ≤ℤ pixel_on out a t j) (sym (on-pixel i first laid a s))
          (subst (λ (z : ℤ). whole_pixel (edge_on ws rs a s i) ≤ℤ z) (sym (on-pixel j second laid' a t))
          (monotone (edge_on ws rs a s i) (edge_on ws rs a t j) (small_finite _ (edge_in i first laid a s)) (small_finite _ (edge_in j second laid' a t)) q))
