use mathlib.Core.Path.{◌∙◌, ap}
use mathlib.Core.List.{List}
use Prim.Native.Nat.{ℕ}
use Rattle.print.specs.Pen.{pen, put_all}
use Rattle.steps.specs.Question.{root_input}
use Rattle.steps.specs.Results.{layout_result}
use Rattle.pages.proofs.PageText.{reply_text_lem}
use Rattle.pages.proofs.lay_cut.Goals as goal

pub returns : goal.returns
returns c = let a = c.args in
    let want = layout_result a.words.now a.numbers.now a.rows.now a.marks.now a.pairs.now a.triples.now (root_input a.q) in
    c.print_answer.ensures ∙ ap (λ (t : List ℕ). put_all t (pen a.out.now 0)) (reply_text_lem a.n want c.layout-answer.result c.layout-answer.new.rows c.layout-answer.new.marks c.layout-answer.new.pairs c.layout-answer.new.triples c.layout-answer.ensures)
