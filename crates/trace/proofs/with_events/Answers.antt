use Rattle.std.proofs.Common.{ap, ℕ, ◌-◌, List, length, take, drop, length-take, arith}
use Rattle.std.proofs.lemmas.Result.{err_from_is_err_and}
use Rattle.text.specs.Pieces.{lines_of}
use Rattle.text.specs.Laws.{from_on}
use Rattle.trace.specs.File.{bad_in}
use Rattle.trace.proofs.Whole.{page-bad, events-good, events-bad}
use Rattle.trace.proofs.with_events.Goals as goal

pub slice_bounds-read_page-end : goal.slice_bounds-read_page-end
slice_bounds-read_page-end c = rw (length-take c.args.s.at c.args.text.now) (omega (arith, c.requires.begins.within))

pub returns-in_err-h : goal.returns-in_err-h
returns-in_err-h c = let a = c.args in
    let p = err_from_is_err_and c.from_residual.result c.from_residual.ensures.1 in
    rw (p.1, p.2) (page-bad a.whole (length a.words.now) (length a.numbers.now) a.text.now a.s c.read_page.result _ _ c.requires.begins c.read_page.ensures c.in_err-h.field-0.0 c.in_err-h.was)

pub returns-in_err-check_events : goal.returns-in_err-check_events
returns-in_err-check_events c = let a = c.args in
    let l = take (length a.text.now - a.s.at) (drop a.s.at a.text.now) in
    let e = c.in_err-check_events.ensures in
    let p = err_from_is_err_and c.from_residual-in_err-check_events.result c.from_residual-in_err-check_events.ensures.1 in
    rw (p.1, p.2, e.0)
    (events-bad a.whole (length a.words.now) (length a.numbers.now) a.text.now a.s c.read_page.result _ _ c.requires.begins c.read_page.ensures c.in_ok-h.h c.in_ok-h.was (bad_in a.whole c.in_ok-h.h.count a.s.line (lines_of l)) (ap (λ (l : List ℕ). bad_in a.whole c.in_ok-h.h.count a.s.line (lines_of l)) (from_on a.s.at a.text.now))
    (λ z. absurd (omega (arith, z, e.1, c.requires.begins.number))))

pub returns : goal.returns
returns c = let a = c.args in
    let l = take (length a.text.now - a.s.at) (drop a.s.at a.text.now) in
    events-good a.whole (length a.words.now) (length a.numbers.now) a.text.now a.s c.read_page.result _ _ c.requires.begins c.read_page.ensures c.in_ok-h.h c.in_ok-h.was (bad_in a.whole c.in_ok-h.h.count a.s.line (lines_of l))
    (ap (λ (l : List ℕ). bad_in a.whole c.in_ok-h.h.count a.s.line (lines_of l)) (from_on a.s.at a.text.now)) c.in_ok-check_events.ensures
