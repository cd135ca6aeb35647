-- A run of nodes as a part of the words.
use mathlib.Core.Path.{◌≡◌, ap, ◌∙◌}
use mathlib.Core.List.{List}
use Prim.Native.Nat.{ℕ, ◌+◌, ◌*◌, ◌-◌, ◌<◌, ◌≤◌}
use native.Mathlib.Omega.{arith}
use lib.ListN.{length, take, drop, length-take, length-drop}
use lib.Seq.{get_or-take, get_or-drop}
use Rattle.style.specs.Style.{word_at}
use Rattle.steps.specs.Page.{nodes_in}
use Rattle.shape.specs.TreeCheck.{PartOf}

module _ (words : List ℕ) (b e : ℕ) (le : b ≤ e) (fit : e ≤ nodes_in words) where
  part_length : length (take (4 * e - 4 * b) (drop (4 * b) words)) ≡ 4 * (e - b)
  part_length = simp (length-take, length-drop) (omega arith)

  pub part-nodes : nodes_in (take (4 * e - 4 * b) (drop (4 * b) words)) ≡ e - b
  part-nodes = rw part_length (omega arith)

  pub part-word : (k m : ℕ) → k < e - b → m < 4 → word_at (take (4 * e - 4 * b) (drop (4 * b) words)) k m ≡ word_at words (b + k) m
  unfolding word_at
  part-word k m h g =
      let q : 4 * b + (k * 4 + m) ≡ (b + k) * 4 + m = omega arith in
      let l : k * 4 + m < 4 * e - 4 * b = omega arith in
      rw (get_or-take, get_or-drop, q)

  pub part_of : (ws : List ℕ) (base : ℕ) → PartOf ws base words → PartOf ws (base + b) (take (4 * e - 4 * b) (drop (4 * b) words))
  part_of ws base p k m h g =
      let n = part-nodes in
      let q : base + (b + k) ≡ base + b + k = omega arith in
      part-word k m (omega arith) g ∙ p (b + k) m (omega arith) g ∙ ap (λ (x : ℕ). word_at ws x m) q
