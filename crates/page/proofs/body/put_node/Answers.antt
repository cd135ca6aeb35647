use Rattle.std.proofs.Common.{refl, ap, ℕ, ◌+◌, ◌*◌, List, length-set, arith}
use Rattle.page.specs.Body.{tables}
use Rattle.page.proofs.BodyTurn.{four, node_stop, node_go}
use Rattle.page.proofs.body.put_node.Goals as goal

pub returns-then-n-count : goal.returns-then-n-count
returns-then-n-count c = let a = c.args in
    rw (node_stop a.n (tables a.count a.words.now a.numbers.now) a.w c.if-n-count.true) (omega arith, refl, refl)

pub returns : goal.returns
returns c = let a = c.args in (
  omega arith,
  rw (node_go a.n (tables a.count a.words.now a.numbers.now) a.w c.if-n-count.false)
      (omega arith, ap (λ (l : List ℕ). tables (a.count + 1) l a.numbers.now) (four a.words.now (4 * a.count) a.w.size a.w.style a.w.low a.w.high), simp length-set, refl),
)
