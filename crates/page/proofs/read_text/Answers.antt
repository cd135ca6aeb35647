use Rattle.std.proofs.Common.{sym, ◌∙◌, ap, ℕ, length}
use Rattle.std.proofs.lemmas.Result.{err_from_is_err_and}
use Rattle.text.specs.Pieces.{lines_of}
use Rattle.page.specs.Head.{head_of}
use Rattle.page.specs.File.{node_limit}
use Rattle.page.proofs.WholeFile.{cleared_blank, text-bad, text-good}
use Rattle.page.proofs.HeadFits.{head_fits}
use Rattle.page.proofs.read_text.Goals as goal

pub read_nodes-requires : goal.read_nodes-requires
read_nodes-requires c = let a = c.args in
    record {
      short = c.requires;
      blank = cleared_blank (length a.words.now) (length a.numbers.now) c.clear_marks.new.marks c.clear.new.rows c.clear_marks.ensures c.clear.ensures;
      room = head_fits (node_limit (length c.clear_marks.new.marks) (length c.clear.new.rows)) (lines_of a.text.now) c.in_ok-h.h (ap (λ (n : ℕ). head_of n (lines_of a.text.now)) (sym c.node_limit-limit.ensures) ∙ sym c.read_head.ensures ∙ c.in_ok-h.was);
    }

pub returns-in_err-h : goal.returns-in_err-h
returns-in_err-h c = let a = c.args in
    let p = err_from_is_err_and c.from_residual.result c.from_residual.ensures.1 in
    rw (p.1, p.2) (text-bad a.whole a.text.now (length a.words.now) (length a.numbers.now) c.clear_marks.new.marks c.clear.new.rows c.clear_marks.ensures c.clear.ensures c.in_err-h.field-0.0 (ap (λ (n : ℕ). head_of n (lines_of a.text.now)) (sym c.node_limit-limit.ensures) ∙ sym c.read_head.ensures ∙ c.in_err-h.was))

pub returns : goal.returns
returns c = let a = c.args in
    text-good a.whole a.text.now (length a.words.now) (length a.numbers.now) c.clear_marks.new.marks c.clear.new.rows c.clear_marks.ensures c.clear.ensures c.in_ok-h.h c.read_nodes.result c.read_nodes.new.words c.read_nodes.new.numbers (ap (λ (n : ℕ). head_of n (lines_of a.text.now)) (sym c.node_limit-limit.ensures) ∙ sym c.read_head.ensures ∙ c.in_ok-h.was) c.read_nodes.ensures
