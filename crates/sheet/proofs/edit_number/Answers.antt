use native.Mathlib.Omega.{arith}
use mathlib.Core.Path.{◌≡◌, refl, sym, ◌∙◌, ap}
use Prim.Native.Nat.{ℕ, ◌+◌, ◌*◌, ◌/◌, ◌≤◌, ◌<◌}
use lib.ListN.{length, set}
use lib.Ieee.{Float}
use Rattle.sheet.specs.Sheet.{sheet}
use Rattle.sheet.proofs.SheetLaws.{place_in, number-no-node, number-no-field, number-edited}
use borrow.Author.Rules.{rules}
use Rattle.sheet.proofs.note.Reads as note-reads
use Rattle.style.proofs.number_place.Reads as number-place-reads
use Rattle.sheet.proofs.edit_number.Goals as goal

pub returns-then-n-node : goal.returns-then-n-node
returns-then-n-node c = let a = c.args in number-no-node a.x a.words.now a.numbers.now a.list.now a.count (search rules)

pub returns-then-numbers-n : goal.returns-then-numbers-n
returns-then-numbers-n c = let a = c.args in number-no-field a.x a.words.now a.numbers.now a.list.now a.count (search rules) (search rules)

pub number_place-at-requires : goal.number_place-at-requires
number_place-at-requires c = let a = c.args in omega (arith, place_in (length a.words.now / 4) a.x.node.0 a.x.field (length a.numbers.now) (search rules) (search rules))

pub offset_bounds-numbers-at : goal.offset_bounds-numbers-at
offset_bounds-numbers-at c = let a = c.args in omega (arith, c.number_place-at.ensures, place_in (length a.words.now / 4) a.x.node.0 a.x.field (length a.numbers.now) (search rules) (search rules))

pub bounds-numbers-at : goal.bounds-numbers-at
bounds-numbers-at c = let a = c.args in omega (arith, c.number_place-at.ensures, place_in (length a.words.now / 4) a.x.node.0 a.x.field (length a.numbers.now) (search rules) (search rules))

pub returns : goal.returns
returns c = let a = c.args in
    ap (λ k. sheet a.words.now (set a.numbers.now k a.x.value) c.note.new.list c.note.result) c.number_place-at.ensures
    ∙ number-edited a.x a.words.now a.numbers.now a.list.now a.count c.note.new.list c.note.result (search rules) (search rules) c.note.ensures
