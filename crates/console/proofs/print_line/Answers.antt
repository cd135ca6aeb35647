use Rattle.std.proofs.Common.{rules, ◌≡◌, refl, sym, subst, ℕ, List, [], ◌∷◌, ◌++◌, take, length, IsTrue, ap, ◌∙◌}
use Rattle.std.proofs.Math.Bool.{false≢true}
use Rattle.console.proofs.Files.{nothing, in_turn}
use Rattle.std.proofs.lemmas.List.{take_all}
use Rattle.std.specs.Io.KnownBytes.{Appends}
use Rattle.console.specs.Lines.{Worded}
use Rattle.console.proofs.Lines.{one_word, word_behind, next_of}
use Rattle.console.proofs.print_line.Goals as goal
use Rattle.console.proofs.print_line.Goals.{then-print_word, else-print_word, then-write_all, else-write_all}

pub loop-number-init : goal.loop-number-init
loop-number-init g c = λ ok. ([], tt, nothing (g.W.Write.contents c.args.to.now))

pub loop-number-preserved : goal.loop-number-preserved
loop-number-preserved g c = λ ok.
    elim c.if-print_word.branch [
      | then-print_word w ↦
          let i = c.loop-number.invariant (sym w.written-is ∙ ok) in
          let ws = i.0 in
          let word = c.word.result in
          let xs = c.args.numbers.now in
          let j = c.loop-number.number-index in (
            ws ++ (word ∷ []),
            subst (λ l. Worded (λ x w. g.F.Fn.post c.args.word (x, tt) w) l (ws ++ (word ∷ []))) (next_of xs j c.number-item.result c.loop-number-test.true c.number-item.is) (one_word _ (take j xs) ws c.number-item.result word i.1 c.word.ensures),
            subst (λ l. Appends (g.W.Write.contents c.args.to.now) (g.W.Write.contents c.print_word.new.to) l) (sym (word_behind ws word)) (in_turn _ _ _ _ _ i.2 (c.print_word.ensures w.if-print_word.true)),
          )
      | else-print_word w ↦ absurd (false≢true (sym w.if-print_word.false ∙ (sym w.written-is ∙ ok)))
    ]

pub returns : goal.returns
returns g c = λ ok.
    elim c.if-write_all.branch [
      | then-write_all w ↦
          let i = c.loop-number.invariant (sym w.result-is ∙ ok) in
          (i.0, subst (λ l. Worded (λ x w. g.F.Fn.post c.args.word (x, tt) w) l i.0) (take_all c.loop-number.number-index c.args.numbers.now c.loop-number-test.false) i.1, in_turn _ _ _ _ _ i.2 (c.write_all.ensures w.if-write_all.true))
      | else-write_all w ↦ absurd (false≢true (sym w.if-write_all.false ∙ (sym w.result-is ∙ ok)))
    ]
