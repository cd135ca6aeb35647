use mathlib.Core.Path.{sym, ◌∙◌, ap}
use mathlib.Core.List.{List}
use Prim.Native.Nat.{ℕ}
use Rattle.print.specs.Pen.{pen, put_all}
use Rattle.pages.proofs.PageText.{fits_in, bad-output, page-output, shown}
use Rattle.pages.specs.Output.{output_text}
use borrow.Author.Rules.{rules}
use Rattle.pages.proofs.page_output.Goals as goal

pub lay-requires : goal.lay-requires
lay-requires c = let a = c.args in
    fits_in a.text.now c.in-Ok.h c.read_page.new.words c.read_page.new.numbers (sym c.read_page.ensures.file_is ∙ c.in-Ok.is) (search rules) (search rules)

pub returns-in-Err : goal.returns-in-Err
returns-in-Err c = let a = c.args in
    shown (output_text a.text.now) a.out.now c.print_error.new.out c.print_error.result (c.print_error.ensures ∙ ap (λ (t : List ℕ). put_all t (pen a.out.now 0)) (bad-output a.text.now c.read_page.result c.read_page.new.words c.read_page.new.numbers c.read_page.ensures c.in-Err.bad c.in-Err.is))

pub returns-in-Ok : goal.returns-in-Ok
returns-in-Ok c = let a = c.args in
    shown (output_text a.text.now) a.out.now c.lay.new.out c.lay.result (c.lay.ensures ∙ ap (λ (t : List ℕ). put_all t (pen a.out.now 0)) (page-output a.text.now c.read_page.result c.read_page.new.words c.read_page.new.numbers c.read_page.ensures c.in-Ok.h c.in-Ok.is))
