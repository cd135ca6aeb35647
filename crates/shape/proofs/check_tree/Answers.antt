use mathlib.Core.Path.{sym, ◌∙◌}
use native.Mathlib.Omega.{arith}
use Rattle.shape.proofs.CheckRoot.{check-none, root_size_lem, root-leaf, root-rest, rest-nodes}
use borrow.Author.Rules.{rules}
use Rattle.shape.proofs.check_tree.Goals as goal

pub returns-then-n-eq0 : goal.returns-then-n-eq0
returns-then-n-eq0 c = check-none c.args.words.now c.if-n-eq0.true

pub returns-then-size-n : goal.returns-then-size-n
returns-then-size-n c = let a = c.args in
    root_size_lem a.words.now c.if-n-eq0.false (λ q. c.if-size-n.true (c.word-size.ensures ∙ q))

pub returns-then-long_leaf : goal.returns-then-long_leaf
returns-then-long_leaf c = let a = c.args in
    root-leaf a.words.now c.if-n-eq0.false (rw (← c.word-size.ensures, ← c.word.ensures) (sym c.long_leaf.ensures ∙ c.if-long_leaf.true))

pub below-requires : goal.below-requires
below-requires c = let a = c.args in
    let k = rest-nodes a.words.now c.if-n-eq0.false (sym c.word-size.ensures ∙ c.if-size-n.false) in
    omega arith

pub returns : goal.returns
returns c = let a = c.args in
    root-rest a.words.now c.if-n-eq0.false (sym c.word-size.ensures ∙ c.if-size-n.false)
    (rw (← c.word-size.ensures, ← c.word.ensures) (sym c.long_leaf.ensures ∙ c.if-long_leaf.false)) _ c.below.ensures
