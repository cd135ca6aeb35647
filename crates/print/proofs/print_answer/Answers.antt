use Rattle.std.proofs.Common.{◌≡◌, refl, false, eqb, append-nil, Err}
use Rattle.steps.specs.declared.Refusal.{Refusal}
use Rattle.steps.specs.declared.Refusal.TheVariants.{Lengths, Tree, Codes, Numbers, Room, Edits, NotLaid, TooLarge}
use Rattle.steps.specs.Noes.{paper, refusal_paper}
use Rattle.print.specs.Text.{page_text}
use Rattle.print.proofs.print_answer.Goals as goal

-- a refusal's number is not 0
refused : (r : Refusal) → eqb (paper (Err r)).0 0 ≡ false
unfolding paper refusal_paper
refused Lengths = refl
refused (Tree i) = refl
refused (Codes i) = refl
refused (Numbers k) = refl
refused Room = refl
refused (Edits k) = refl
refused NotLaid = refl
refused (TooLarge i) = refl

pub returns-in-Err : goal.returns-in-Err
unfolding page_text
returns-in-Err c =
    let e : eqb (paper c.args.answer).0 0 ≡ false = rw c.in-Err.is (refused c.in-Err.field-0) in
    rw (e, append-nil, ← c.number_of.ensures, ← c.place_of.ensures) c.put_answer-at.ensures
