use Rattle.std.proofs.Common.{◌≡◌, refl, ap, ◌-◌, length-set, arith}
use Rattle.std.proofs.Math.Seq.{set_out}
use Rattle.style.specs.Style.{number_place}
use Rattle.page.specs.Body.{tables}
use Rattle.page.proofs.BodyTurn.{num_stop, num_go}
use Rattle.page.proofs.body.put_number.Goals as goal

pub returns-then-count-eq0 : goal.returns-then-count-eq0
returns-then-count-eq0 c = let a = c.args in
    rw (num_stop a.n (tables a.count a.words.now a.numbers.now) a.x c.if-count-eq0.true) (omega arith, refl, refl)

pub returns-then-at-numbers : goal.returns-then-at-numbers
returns-then-at-numbers c = let a = c.args in
    let at : c.number_place-at.result ≡ number_place a.n (a.count - 1) a.x.field = c.number_place-at.ensures in
    (c.requires.so_far, rw (num_go a.n (tables a.count a.words.now a.numbers.now) a.x (omega arith), ← at) (c.requires.so_far, refl, refl, simp length-set))

pub returns-else-at-numbers : goal.returns-else-at-numbers
returns-else-at-numbers c = let a = c.args in
    let at : c.number_place-at.result ≡ number_place a.n (a.count - 1) a.x.field = c.number_place-at.ensures in
    let o = set_out a.numbers.now (number_place a.n (a.count - 1) a.x.field) a.x.value (omega (arith, at, c.if-at-numbers.false)) in
    (c.requires.so_far, rw (num_go a.n (tables a.count a.words.now a.numbers.now) a.x (omega arith)) (c.requires.so_far, ap (tables a.count a.words.now) o, refl, refl))
