-- Steps L to N in plain terms: the container's own row, then the shift of the rows below it.
use Rattle.std.specs.Prelude.{Option, None, Some}
use mathlib.Core.Path.{◌≡◌, refl, sym, ap, ◌∙◌}
use mathlib.Core.List.{List, ◌++◌}
use Prim.Native.Nat.{ℕ, ◌+◌, ◌-◌}
use native.Mathlib.Omega.{arith}
use lib.ListN.{length, take, drop, length-append, length-drop}
use lib.Ieee.{Float}
use borrow.Rule.Slice.PartMut.{put_mid}
use Rattle.style.specs.Style.{style_at}
use Rattle.tree.specs.Tree.{Tree, Forest, node, none, more, flat_t, flat_f, on_root}
use Rattle.tree.proofs.Laws.{flat_t_node, flat_f_more, on_root_node}
use Rattle.tree.proofs.Lists.{tail-part, tail-put}
use Rattle.steps.specs.Through.{finished}
use Rattle.steps.specs.Row.{Row, row_numbers, row_words, laid_row, probe_of, lowered}
use Rattle.steps.specs.Layout.{align_f, lower_f}
use Rattle.steps.specs.declared.LayoutInput.{LayoutInput}
use Rattle.steps.specs.declared.Frame.{Frame}
use Rattle.steps.specs.declared.Cursor.{Cursor}
use Rattle.steps.specs.declared.Finished.{Finished}
use Rattle.walks.specs.Tables.{new_numbers, new_words, RowsOf, IsRows}
use Rattle.walks.proofs.LowerLoop.{lower_f_none, lower_f_more}
use Rattle.rows.specs.Store.{Becomes, OneRow}
use Rattle.heights.specs.Leaves.{stack_leaves}
use Rattle.heights.specs.declared.StackOutput.{StackOutput}
use Rattle.compute.specs.Contract.{HeadedBy, ShapedAs, IsBlock, Ended, Aligned}

-- step M leaves the words
lower_words : (d : Float) (r : Row) → row_words (lowered d r) ≡ row_words r
unfolding lowered
lower_words d r = refl

lower_root : (d : Float) (t : Tree Row) → flat_t new_words (on_root (lowered d) t) ≡ flat_t new_words t
lower_root d (node r ks) = rw (on_root_node, flat_t_node, flat_t_node) (ap (λ (z : List ℕ). z ++ flat_f new_words ks) (lower_words d r))

marks_lower : (d : Float) (ts : Forest Row) → flat_f new_words (lower_f d ts) ≡ flat_f new_words ts
marks_lower d none = rw (lower_f_none d)
marks_lower d (more t ts) = rw (lower_f_more, flat_f_more, flat_f_more, lower_root d t, marks_lower d ts)

marks_align : (s : Option Float) (ts : Forest Row) → flat_f new_words (align_f s ts) ≡ flat_f new_words ts
unfolding align_f
marks_align None ts = refl
marks_align (Some d) ts = marks_lower d ts

-- a container has a row of its own
pub one_row : (ws : List ℕ) (xs rs : List Float) (ms : List ℕ) (b : ℕ) → IsBlock ws xs rs ms b → OneRow rs ms
one_row ws xs rs ms b h =
    let er : length rs ≡ 16 + length (flat_f new_numbers h.children) = ap length h.headed.0 ∙ length-append (row_numbers h.own) (flat_f new_numbers h.children) in
    let em : length ms ≡ 2 + length (flat_f new_words h.children) = ap length h.headed.1 ∙ length-append (row_words h.own) (flat_f new_words h.children) in
    record { rows_some = omega arith; marks_some = omega arith }

module _ (ws : List ℕ) (xs rs : List Float) (ms : List ℕ) (b : ℕ) (q : LayoutInput) (stack : StackOutput) (d : Finished) (rs1 : List Float) (ms1 : List ℕ)
    (hd : (f : Frame) (c : Cursor) → stack ≡ stack_leaves f c → d ≡ finished (style_at ws 0 xs b) q f c) (headed : Becomes rs ms rs1 ms1 (λ r. laid_row q d.output (probe_of r)))
  where
    -- what step M is given
    rows-given : (l : Row) (ts : Forest Row) → HeadedBy l ts rs ms → ShapedAs ws ts → RowsOf (take (length ws - 4) (drop 4 ws)) (take (length rs1 - 16) (drop 16 rs1)) (take (length ms1 - 2) (drop 2 ms1)) ts
    rows-given l ts h k =
        let p = headed l _ _ h.0 h.1 in
        record {
          words_long = rw (tail-part 4 ws) (simp length-drop (omega (arith, k.words_long)));
          sizes_are = rw (tail-part 4 ws) k.sizes_are;
          rows_are = tail-part 16 rs1 ∙ ap (drop 16) p.0;
          marks_are = tail-part 2 ms1 ∙ ap (drop 2) p.1;
        }

    pub align-given : IsBlock ws xs rs ms b → IsRows (take (length ws - 4) (drop 4 ws)) (take (length rs1 - 16) (drop 16 rs1)) (take (length ms1 - 2) (drop 2 ms1))
    align-given h = record { forest = h.children; rows_of = rows-given h.own h.children h.headed h.shaped; fit = rw (tail-part 4 ws) (simp length-drop (omega (arith, h.fit))) }

    pub ended : (nr : List Float) → Aligned (take (length ws - 4) (drop 4 ws)) (take (length rs1 - 16) (drop 16 rs1)) (take (length ms1 - 2) (drop 2 ms1)) d.shift nr
        → Ended ws xs rs ms b q stack d.output (put_mid 16 (length rs1 - 16) rs1 nr) ms1
    ended nr ha f c l ts e h k =
        let p = headed l _ _ h.0 h.1 in
        let a = ha ts (rows-given l ts h k) in
        let own = laid_row q d.output (probe_of l) in
        let h16 : take 16 rs1 ≡ row_numbers own = ap (take 16) p.0 in
        rw (← hd f c e) (refl, (tail-put 16 rs1 nr ∙ ap (λ (z : List Float). z ++ nr) h16 ∙ ap (λ (z : List Float). row_numbers own ++ z) a, p.1 ∙ ap (λ (z : List ℕ). row_words own ++ z) (sym (marks_align d.shift ts))))
