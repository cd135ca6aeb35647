use mathlib.Core.Path.{sym, ◌∙◌, ap}
use mathlib.Core.List.{List}
use Prim.Native.Nat.{ℕ}
use Rattle.print.specs.Pen.{pen, put_all}
use Rattle.pages.proofs.PageText.{shown}
use Rattle.replays.specs.Output.{replay_text}
use Rattle.replays.proofs.Start.{fits_in, bad-output, day-output}
use borrow.Author.Rules.{rules}
use Rattle.replays.proofs.replay_output.Goals as goal

pub replay_part-requires : goal.replay_part-requires
replay_part-requires c = let a = c.args in
    fits_in a.text.now c.in-Ok.h _ _ (sym c.read_trace.ensures.file_is ∙ c.in-Ok.is) (search rules) (search rules)

pub returns-in-Err : goal.returns-in-Err
returns-in-Err c = let a = c.args in
    shown (replay_text a.text.now) a.out.now c.print_error.new.out c.print_error.result (c.print_error.ensures ∙ ap (λ (t : List ℕ). put_all t (pen a.out.now 0)) (bad-output a.text.now c.read_trace.result _ _ c.read_trace.ensures c.in-Err.bad c.in-Err.is))

pub returns-in-Ok : goal.returns-in-Ok
returns-in-Ok c = let a = c.args in
    shown (replay_text a.text.now) a.out.now c.replay_part.new.out c.replay_part.result (c.replay_part.ensures ∙ ap (λ (t : List ℕ). put_all t (pen a.out.now 0)) (day-output a.text.now c.read_trace.result _ _ c.read_trace.ensures c.in-Ok.h c.in-Ok.is))
