use Rattle.std.proofs.Common.{rules, ◌+◌, ◌<◌, ◌≡◌, refl, sym, subst, ℕ, List, [], ◌++◌, length, take, IsTrue, ap, ◌∙◌, arith, eq-eqb, ne_eqb}
use Rattle.std.proofs.lemmas.List.{nil_from_length}
use Rattle.std.proofs.lemmas.Bool.Decides.{nat_tests}
use Rattle.std.proofs.Math.Bool.{false≢true}
use Rattle.console.proofs.Files.{none_yet, one_more, all_done, said_by, nothing, in_turn}
use Rattle.console.proofs.answer_files.Goals as goal

pub loop-rest-init : goal.loop-rest-init
loop-rest-init g c = λ ok. (0, [], none_yet _ c.args.room.now c.args.text.now, nothing (g.W.Write.contents c.args.to.now))

pub loop-rest-preserved-then-answer_file : goal.loop-rest-preserved-then-answer_file
loop-rest-preserved-then-answer_file g c = λ ok.
    let i = c.loop-rest.invariant ok in
    let e = c.answer_file.ensures c.if-answer_file.true in
    let said = said_by (λ f r n r'. g.F.Fn.post c.args.answer (f, (r, tt)) (n, (r', tt))) e.0 (record { ref_ptr = e.1.ref_ptr; ghost_name = e.4.0; now = e.1.now }) e.2 (record { ref_ptr = e.1.ref_ptr; ghost_name = e.4.0; now = e.3.now }) _ _ _ e.4.1 e.5 e.6 e.7 in
    let there : 0 < length c.loop-rest.rest.now = search (rules, nat_tests) in
    (i.0 + 1, _, one_more _ _ _ _ _ _ _ _ _ _ _ i.2 there c.split_at_mark.ensures said, in_turn _ _ _ _ _ i.3 e.8)

pub loop-rest-preserved : goal.loop-rest-preserved
loop-rest-preserved g c = λ ok. absurd (false≢true (sym c.if-answer_file.false ∙ ok))

pub returns : goal.returns
returns g c = λ ok.
    let i = c.loop-rest.invariant ok in
    let end : length c.loop-rest.rest.now ≡ 0 = search (rules, nat_tests) in
    (i.0, i.1, all_done _ c.args.room.now c.args.text.now _ c.loop-rest.rest.now i.1 i.0 (nil_from_length _ end) i.2, i.3)
