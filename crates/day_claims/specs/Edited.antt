-- What an edit of one node does to the page, and to the list.
use Rattle.std.specs.Prelude.{◌≡◌, Bool, cond, ◌&&◌, ◌||◌, List, [], ◌∷◌, ◌++◌, ℕ, suc, ◌+◌, ◌*◌, ◌/◌, ◌%◌, ◌<◌, ◌≤◌, length, set, take, get_or, eqb, ltb, leb, Float}
use Rattle.std.proofs.Math.Path.{refl, sym, ap}
use Rattle.std.proofs.Common.{◌∙◌, true≢false, arith, add-one, length-set, length-take, length-append, take-suc-set, take_all, get_or-set_other, ltb-true, ltb-false, leb-true}
use Rattle.std.proofs.Math.Bool.{true, false}
use Rattle.std.proofs.lemmas.Bool.{eqb-false}
use Rattle.style.specs.Style.{word_at, plane_of, number_place}
use Rattle.style.specs.Planes.{place_node}
use Rattle.steps.specs.Page.{nodes_in, named}
use Rattle.laws.specs.Tables.{SameAt, SameShape}
use Rattle.chains.specs.Pages.{changed}
use Rattle.sheet.specs.Sheet.{Sheet, sheet, noted, edit_of, has_number, has_word, number_edit, word_edit}
use Rattle.day.specs.Day.{edits_of}
use Rattle.sheet.specs.declared.NodeNumber.{NodeNumber}
use Rattle.sheet.specs.declared.NodeWord.{NodeWord}
use Rattle.sheet.proofs.SheetLaws.{full, room}

-- node i was edited: the shape stays, every other node of tables that fit stays, and the list takes i
pub record Edited (i : ℕ) (s s' : Sheet) : Type 0 where
  pub shape : SameShape s.words s'.words
  pub others : plane_of s.numbers ≡ nodes_in s.words → (j : ℕ) → (j ≡ i → ⊥) → SameAt s.words s.numbers s'.words s'.numbers j
  pub plane : plane_of s'.numbers ≡ plane_of s.numbers
  pub list_is : s'.list ≡ (noted i s.list s.count).0
  pub count_is : s'.count ≡ (noted i s.list s.count).1

-- an edit event: nothing, or an edit of a node
pub data Step (s : Sheet) : Sheet → Type 0 where
  nothing : Step s s
  edit : (i : ℕ) (s' : Sheet) → Edited i s s' → Step s s'

and_left : (a b : Bool) → a && b ≡ true → a ≡ true
and_left true b e = refl
and_left false b e = e

and_right : (a b : Bool) → a && b ≡ true → b ≡ true
and_right true b e = e
and_right false b e = absurd (true≢false (sym e))

-- a number of a node
module _ (x : NodeNumber) (s : Sheet) where
  number-done : x.node.0 < nodes_in s.words → Edited x.node.0 s (edit_of x.node.0 s.words (set s.numbers (number_place (nodes_in s.words) x.node.0 x.field) x.value) s)
  unfolding edit_of
  number-done h =
      record {
        shape = record { nodes = refl; sizes = λ i l. refl };
        others = λ plane j o. changed s.words s.numbers (nodes_in s.words) x.node.0 (number_place (nodes_in s.words) x.node.0 x.field) x.value j plane (place_node x.field h) o;
        plane = rw (length-set s.numbers (number_place (nodes_in s.words) x.node.0 x.field) x.value);
        list_is = refl;
        count_is = refl;
      }

  number_by : (b : Bool) → has_number x s ≡ b → Step s (number_edit x s)
  unfolding number_edit has_number
  number_by true e = rw e (edit x.node.0 _ (number-done (ltb-true x.node.0 (nodes_in s.words) (and_left _ _ e))))
  number_by false e = rw e nothing

  pub number_step : Step s (number_edit x s)
  number_step = number_by (has_number x s) refl

-- a word of a node
module _ (x : NodeWord) (s : Sheet) where
  apart : (j k : ℕ) → k < 4 → 0 < x.word → x.word ≤ 3 → (j ≡ x.node.0 → ⊥) → word_at s.words j k ≡ word_at (set s.words (x.node.0 * 4 + x.word) x.bits) j k
  unfolding word_at
  apart j k l p g o = sym (get_or-set_other s.words (x.node.0 * 4 + x.word) (j * 4 + k) x.bits 0 (λ e. o (omega arith)))

  size-stays : (j : ℕ) → 0 < x.word → x.word ≤ 3 → word_at s.words j 0 ≡ word_at (set s.words (x.node.0 * 4 + x.word) x.bits) j 0
  unfolding word_at
  size-stays j p g = sym (get_or-set_other s.words (x.node.0 * 4 + x.word) (j * 4 + 0) x.bits 0 (λ e. omega arith))

  word-done : 0 < x.word → x.word ≤ 3 → Edited x.node.0 s (edit_of x.node.0 (set s.words (x.node.0 * 4 + x.word) x.bits) s.numbers s)
  unfolding edit_of
  word-done p g =
      record {
        shape = record { nodes = ap (λ (n : ℕ). n / 4) (sym (length-set s.words (x.node.0 * 4 + x.word) x.bits)); sizes = λ j l. size-stays j p g };
        others = λ plane j o. record { words = λ k l. apart j k l p g o; numbers = λ f l. refl };
        plane = refl;
        list_is = refl;
        count_is = refl;
      }

  word-by : (b : Bool) → has_word x s ≡ b → Step s (word_edit x s)
  unfolding word_edit has_word
  word-by true e =
      let z = and_right (ltb x.node.0 (nodes_in s.words)) _ e in
      rw e (edit x.node.0 _ (word-done (ltb-true 0 x.word (and_left (ltb 0 x.word) (leb x.word 3) z)) (leb-true x.word 3 (and_right (ltb 0 x.word) (leb x.word 3) z))))
  word-by false e = rw e nothing

  pub word-step : Step s (word_edit x s)
  word-step = word-by (has_word x s) refl

-- the edits after one more: that one at the end, or all that had room
module _ (i : ℕ) (s s' : Sheet) (e : Edited i s s') where
  pub edits-more : s.count < length s.list → edits_of s' ≡ edits_of s ++ (i ∷ [])
  edits-more h =
      rw (e.list_is, e.count_is, room i s.list s.count h, add-one s.count) (take-suc-set s.list s.count i h)

  pub edits-full : length s.list ≤ s.count → edits_of s' ≡ edits_of s
  edits-full h = rw (e.list_is, e.count_is, full i s.list s.count h)

or_left : (a b : Bool) → a || b ≡ false → a ≡ false
or_left true b e = e
or_left false b e = refl

or_right : (a b : Bool) → a || b ≡ false → b ≡ false
or_right true b e = absurd (true≢false e)
or_right false b e = e

-- a node that a longer list does not name is not its last, and the shorter does not name it
pub not_named : (es : List ℕ) (i j : ℕ) → named (es ++ (i ∷ [])) j ≡ false → (named es j ≡ false) × (j ≡ i → ⊥)
unfolding named
not_named [] i j e = (refl, λ z. eqb-false i j (or_left (eqb i j) false e) (sym z))
not_named (a ∷ es) i j e =
    let z = not_named es i j (or_right (eqb a j) _ e) in
    (rw (or_left (eqb a j) _ e) z.0, z.1)
