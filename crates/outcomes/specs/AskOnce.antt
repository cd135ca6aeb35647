-- Ask once, trust it: of one page and one question the both-axes size question gives numbers 2 and 3 of the root's row that a layout leaves.
use Rattle.steps.specs.declared.Refusal.TheVariants.{Lengths, Tree, Codes, Numbers, Room, Edits, NotLaid, TooLarge}
use Rattle.steps.specs.declared.Refusal.{Refusal}
use Rattle.std.specs.Prelude.{◌≡◌, not, ◌&&◌, ℕ, ◌-◌, ◌/◌, ◌^◌, get_or, eqb, Float, None, Result, Ok, Err}
use Rattle.std.proofs.Math.Path.{refl}
use Rattle.std.proofs.Common.{ap, arith, eqb-true}
use Rattle.std.proofs.Math.Bool.{false}
use mathlib.Core.List.{List, [], ◌∷◌}
use Rattle.std.proofs.lemmas.Bool.{not-false}
use Rattle.geometry.specs.Geometry.{zero_f}
use Rattle.geometry.specs.declared.Size.{Size}
use Rattle.limits.specs.Bools.{or_right}
use Rattle.style.specs.Codes.{code_at, clear_from, unit_of}
use Rattle.style.specs.Style.{word_at}
use Rattle.tree.specs.Tree.{Forest, node}
use Rattle.tree.proofs.Laws.{flat_t_node}
use Rattle.steps.specs.Scan.{some}
use Rattle.steps.specs.Row.{Row, row_numbers, laid_row}
use Rattle.steps.specs.Question.{root_input}
use Rattle.steps.specs.SizeQuestion.{axes}
use Rattle.steps.specs.Noes.{bad_unit, bad_align, bad_codes, ratio_beside_fraction, bad_style, paper, refusal_paper}
use Rattle.steps.specs.Results.{Reply, rows_out, size_paper}
use Rattle.steps.specs.declared.LayoutInput.{LayoutInput}
use Rattle.steps.specs.declared.LayoutOutput.{LayoutOutput}
use Rattle.steps.specs.declared.Question.{Question}
use Rattle.tables.specs.Leaves.{leaf_word}
use Rattle.layout.specs.Public.{Replied}
use Rattle.measure.specs.Public.{SizeReplied}
use Rattle.face.specs.Answered as face

-- numbers 2 and 3 of row 0
abbrev pub root_size : List Float → Size Float
root_size rs = axes (get_or rs 2 zero_f) (get_or rs 3 zero_f)

-- ---- the root of a page that passes 3 is a block
root_code : (c : ℕ) → (eqb 0 0 && not (eqb c 0)) ≡ false → eqb c 1 ≡ false
root_code c e =
    let z : c ≡ 0 = eqb-true c 0 (not-false (eqb c 0) e) in
    ap (λ (k : ℕ). eqb k 1) z

pub root_block : (ws : List ℕ) (xs : List Float) → bad_style ws xs 0 ≡ false → leaf_word (word_at ws 0 1) ≡ false
unfolding bad_style bad_codes
root_block ws xs e =
    let a = or_right (ratio_beside_fraction ws xs 0) _ e in
    let b = or_right (eqb (code_at (word_at ws 0 1) 0) 3) _ a in
    let c = or_right (eqb (code_at (word_at ws 0 1) 2) 3) _ b in
    let d = or_right (bad_align (word_at ws 0 1)) _ c in
    let f = or_right (not (clear_from (word_at ws 0 2) 28)) _ d in
    let g = or_right (not (clear_from (word_at ws 0 3) 16)) _ f in
    let h = or_right (some (λ f. bad_unit f (unit_of (word_at ws 0 2) (word_at ws 0 3) f)) 22) _ g in
    root_code (code_at (word_at ws 0 1) 0) h

pub no_basis_lem : (q : Question) → (root_input q).basis ≡ None
unfolding root_input
no_basis_lem q = refl

-- numbers 2 and 3 of the row that a laid root has
pub first_row : (q : LayoutInput) (o : LayoutOutput) (p : _) (ks : Forest Row) → root_size (rows_out (node (laid_row q o p) ks)) ≡ o.size
unfolding rows_out laid_row axes
first_row q o p ks = ap root_size (flat_t_node (λ _ r. row_numbers r) (laid_row q o p) ks)

-- ---- from C
pub itself : (r : Reply) → Replied r r.answer r.rows r.marks r.words r.numbers
itself r = record { answer_is = refl; paper_is = refl; rows_are = refl; marks_are = refl; words_are = refl; numbers_are = refl }

pub itself_sized : (r : Result (Size Float) Refusal) → SizeReplied r r
itself_sized r = record { answer_is = refl; paper_is = refl }

pub done_number : (a : Result ℕ Refusal) → (paper a).0 ≡ 0 → a ≡ Ok (paper a).1
unfolding paper refusal_paper
done_number (Ok k) e = refl
done_number (Err Lengths) e = absurd (omega (arith, e))
done_number (Err (Tree i)) e = absurd (omega (arith, e))
done_number (Err (Codes i)) e = absurd (omega (arith, e))
done_number (Err (Numbers k)) e = absurd (omega (arith, e))
done_number (Err Room) e = absurd (omega (arith, e))
done_number (Err (Edits k)) e = absurd (omega (arith, e))
done_number (Err NotLaid) e = absurd (omega (arith, e))
done_number (Err (TooLarge i)) e = absurd (omega (arith, e))

-- number 0, and the two floats
pub record AskedAlike (word : ℕ) (size rows : List Float) : Type 0 where
  pub answered : word / 2 ^ 32 ≡ 0
  pub same : size ≡ get_or rows 2 zero_f ∷ get_or rows 3 zero_f ∷ []

pub sized_word : (want : Result (Size Float) Refusal) (rows : List Float) (word : ℕ) (size : List Float) → want ≡ Ok (root_size rows) → face.Sized want word size → AskedAlike word size rows
unfolding size_paper axes
sized_word want rows word size e h =
    let g : face.Sized (Ok (root_size rows)) word size = rw e at h in
    record { answered = g.answer_is.number_is; same = g.size_is }
