-- How a day stands: what a relayout may rely on, kept by every event.
use Rattle.steps.specs.declared.Refusal.{Refusal}
use Rattle.std.specs.Prelude.{◌≡◌, refl, Bool, true, false, cond, List, [], ◌∷◌, ◌++◌, ℕ, ◌+◌, ◌<◌, ◌≤◌, length, take, get_or, set, eqb, ltb, Float, Result, Ok, ⊤}
use Rattle.std.proofs.Common.{sym, ◌∙◌, ap, subst, true≢false, arith, length-set, length-append, take_all, ltb-true, ltb-false, Err}
use Rattle.style.specs.Codes.{flag_at}
use Rattle.style.specs.Style.{word_at, number_at, plane_of}
use Rattle.steps.specs.Page.{nodes_in, named}
use Rattle.steps.specs.Noes.{paper, refusal_paper, layout_tested, relayout_tested}
use Rattle.steps.specs.Question.{root_input}
use Rattle.steps.specs.Results.{Reply, layout_result, relayout_result}
use Rattle.steps.specs.declared.LayoutInput.{LayoutInput}
use Rattle.laws.specs.Tables.{SameAt, SameShape, Named, Calls, laid_out, laid_again}
use Rattle.laws.specs.Answers.{layout_accepted, relayout_accepted, relayout_layout}
use Rattle.sheet.specs.Sheet.{Sheet, sheet, noted, edit_of, has_number, has_word, number_edit, word_edit}
use Rattle.day.specs.Day.{Day, Outcome, edits_of, layout_of, relayout_of, layout_event, relayout_event, edit_event, call_event, count_after, asked, event_result, day_after}
use Rattle.day.specs.declared.Event.{Event}
use Rattle.day.specs.declared.Event.TheVariants as event
use Rattle.day_claims.specs.Edited.{Edited, Step, nothing, edit, number_step, word-step, edits-more, edits-full, not_named}
use Rattle.day_claims.specs.Called.{Kind, is_as_lent, zeroed, done, layout-kind, relayout-kind, planes-pass, few-edits, root_laid, zero_marks}

-- the page when the rows were left, and that the list names every node that differs from it
pub record Since (s : Sheet) (rs : List Float) (ms : List ℕ) : Type 0 where
  pub words : List ℕ
  pub numbers : List Float
  pub asked : LayoutInput
  pub calls : Calls words numbers asked rs ms
  pub shape : SameShape words s.words
  pub listed : Named (edits_of s) words numbers s.words s.numbers

-- the rows are not a page's, or the list is over 64, or it names all that changed
pub data Standing : Sheet → List Float → List ℕ → Type 0 where
  unlaid : (s : Sheet) (rs : List Float) (ms : List ℕ) → flag_at (get_or ms 1 0) 0 ≡ false → Standing s rs ms
  over : (s : Sheet) (rs : List Float) (ms : List ℕ) → 64 < length (edits_of s) → Standing s rs ms
  laid : (s : Sheet) (rs : List Float) (ms : List ℕ) → plane_of s.numbers ≡ nodes_in s.words → Since s rs ms → Standing s rs ms

same_again : (a b : List ℕ) (x y : List Float) (c : List ℕ) (z : List Float) (i : ℕ) → SameAt a x b y i → SameAt b y c z i → SameAt a x c z i
same_again a b x y c z i h g = record { words = λ k l. h.words k l ∙ g.words k l; numbers = λ f l. h.numbers f l ∙ g.numbers f l }

same_shape : (a b c : List ℕ) → SameShape a b → SameShape b c → SameShape a c
same_shape a b c h g = record { nodes = h.nodes ∙ g.nodes; sizes = λ i l. h.sizes i l ∙ g.sizes i (rw (← h.nodes) l) }

noted_long : (i : ℕ) (l : List ℕ) (c : ℕ) (b : Bool) → ltb c (length l) ≡ b → length (noted i l c).0 ≡ length l
unfolding noted
noted_long i l c true e = rw e (length-set l c i)
noted_long i l c false e = rw e

-- ---- an edit of a node
module _ (i : ℕ) (s s' : Sheet) (rs : List Float) (ms : List ℕ) (e : Edited i s s') where
  since-more : plane_of s.numbers ≡ nodes_in s.words → s.count < length s.list → Since s rs ms → Since s' rs ms
  since-more p h w =
      record {
        words = w.words;
        numbers = w.numbers;
        asked = w.asked;
        calls = w.calls;
        shape = same_shape w.words s.words s'.words w.shape e.shape;
        listed =
            λ j l n.
            let z = not_named (edits_of s) i j (rw (edits-more i s s' e h) at n) in
            same_again w.words s.words w.numbers s.numbers s'.words s'.numbers j (w.listed j l z.0) (e.others p j z.1);
      }

  many_more : s.count < length s.list → 64 < length (edits_of s) → 64 < length (edits_of s')
  many_more h g = rw (edits-more i s s' e h) (simp length-append (omega arith))

  full-list : 65 ≤ length s.list → length s.list ≤ s.count → 64 < length (edits_of s')
  full-list r h = rw (edits-full i s s' e h, take_all s.count s.list h) (omega arith)

  edited-by : 65 ≤ length s.list → (b : Bool) → ltb s.count (length s.list) ≡ b → Standing s rs ms → Standing s' rs ms
  edited-by r true q (unlaid _ _ _ h) = unlaid s' rs ms h
  edited-by r true q (over _ _ _ h) = over s' rs ms (many_more (ltb-true s.count (length s.list) q) h)
  edited-by r true q (laid _ _ _ p w) = laid s' rs ms (e.plane ∙ p ∙ e.shape.nodes) (since-more p (ltb-true s.count (length s.list) q) w)
  edited-by r false q st = over s' rs ms (full-list r (ltb-false s.count (length s.list) q))

  edited-room : length s'.list ≡ length s.list
  edited-room = ap length e.list_is ∙ noted_long i s.list s.count (ltb s.count (length s.list)) refl

-- all that is kept: room for 65 edits, and how the day stands
pub record Kept (s : Sheet) (rs : List Float) (ms : List ℕ) : Type 0 where
  pub room : 65 ≤ length s.list
  pub standing : Standing s rs ms

pub step_kept : (s s' : Sheet) (rs : List Float) (ms : List ℕ) → Step s s' → Kept s rs ms → Kept s' rs ms
step_kept s _ rs ms nothing k = k
step_kept s _ rs ms (edit i s' e) k =
    record {
      room = rw (edited-room i s s' rs ms e) k.room;
      standing = edited-by i s s' rs ms e k.room (ltb s.count (length s.list)) refl k.standing;
    }

-- ---- a layout or a relayout
no_count : (a : Refusal) (c : ℕ) → count_after (Err a) c ≡ c
unfolding count_after
no_count a c = refl

zero_count : (k c : ℕ) → count_after (Ok k) c ≡ 0
unfolding count_after
zero_count k c = refl

-- rows that an accepted call left of this very page, with an empty list
fresh_start : (s : Sheet) (c : ℕ) (q : LayoutInput) (rs : List Float) (ms : List ℕ) → c ≡ 0 → plane_of s.numbers ≡ nodes_in s.words → Calls s.words s.numbers q rs ms → Standing (sheet s.words s.numbers s.list c) rs ms
fresh_start s c q rs ms e p calls =
    laid (sheet s.words s.numbers s.list c) rs ms p
    (record {
      words = s.words;
      numbers = s.numbers;
      asked = q;
      calls = calls;
      shape = record { nodes = refl; sizes = λ i l. refl };
      listed = λ i l n. record { words = λ k m. refl; numbers = λ f m. refl };
    })

-- a day that is kept so
abbrev pub KeptDay : Day → Type 0
KeptDay d = Kept d.page d.rows d.marks

module _ (d : Day) (t : Result ⊤ Refusal) (r : Reply) (kept : KeptDay d) where
  -- a refused call leaves the day as it was
  lent-kept : (a : Refusal) → r ≡ record { answer = Err a; rows = d.rows; marks = d.marks; words = d.pairs; numbers = d.triples } → KeptDay (call_event r d).after
  unfolding call_event
  lent-kept a e = rw (e, no_count a d.page.count) kept

  call_kept : Kind t d.rows d.marks d.pairs d.triples r → ((k : ℕ) → r.answer ≡ Ok k → Calls d.page.words d.page.numbers (root_input d.question) r.rows r.marks) → ((k : ℕ) → r.answer ≡ Ok k → plane_of d.page.numbers ≡ nodes_in d.page.words) → KeptDay (call_event r d).after
  unfolding call_event
  call_kept (is_as_lent a x e) calls plane = lent-kept a e
  call_kept (zeroed i p e z) calls plane = record { room = kept.room; standing = unlaid _ r.rows r.marks (zero_marks (length d.marks) r.marks z) }
  call_kept (done k e) calls plane =
      record { room = kept.room; standing = fresh_start d.page (count_after r.answer d.page.count) (root_input d.question) r.rows r.marks (ap (λ (a : Result ℕ Refusal). count_after a d.page.count) e ∙ zero_count k d.page.count) (plane k e) (calls k e) }

pub layout_kept : (d : Day) → KeptDay d → KeptDay (layout_event d).after
layout_kept d k =
    let ws = d.page.words in
    let xs = d.page.numbers in
    let q = root_input d.question in
    call_kept d (layout_tested ws xs d.rows d.marks d.pairs d.triples q) (layout_of d) k (layout-kind ws xs d.rows d.marks d.pairs d.triples q)
    (λ n e. laid_out ws xs d.rows d.marks d.pairs d.triples q n e)
    (λ n e. planes-pass ws xs d.rows d.marks d.pairs d.triples q (layout_accepted ws xs d.rows d.marks d.pairs d.triples q n e).passed)

-- a relayout that passes has a list that names every node changed since the last accepted call
pub passing : (d : Day) → Standing d.page d.rows d.marks → relayout_tested d.page.words d.page.numbers d.rows d.marks d.pairs d.triples (edits_of d.page) (root_input d.question) ≡ Ok tt → Since d.page d.rows d.marks
passing d st e = go d.page d.rows d.marks st (root_laid _ _ _ _ _ _ _ _ e) (few-edits _ _ _ _ _ _ _ _ e)
  where
    go : (s : Sheet) (rs : List Float) (ms : List ℕ) → Standing s rs ms → flag_at (get_or ms 1 0) 0 ≡ true → length (edits_of s) ≤ 64 → Since s rs ms
    go _ _ _ (unlaid s rs ms h) f l = absurd (true≢false (sym f ∙ h))
    go _ _ _ (over s rs ms h) f l = absurd (omega arith)
    go _ _ _ (laid s rs ms p w) f l = w

pub relayout_kept : (d : Day) → KeptDay d → KeptDay (relayout_event d).after
relayout_kept d k =
    let ws = d.page.words in
    let xs = d.page.numbers in
    let es = edits_of d.page in
    let q = root_input d.question in
    let passed : (n : ℕ) → (relayout_of d).answer ≡ Ok n → relayout_tested ws xs d.rows d.marks d.pairs d.triples es q ≡ Ok tt = λ n e. (relayout_accepted ws xs d.rows d.marks d.pairs d.triples es q n e).passed in
    call_kept d (relayout_tested ws xs d.rows d.marks d.pairs d.triples es q) (relayout_of d) k (relayout-kind ws xs d.rows d.marks d.pairs d.triples es q)
    (λ n e. let w = passing d k.standing (passed n e) in laid_again w.words w.numbers w.asked d.rows d.marks ws xs d.pairs d.triples es q n w.calls w.shape w.listed e)
    (λ n e. planes-pass ws xs d.rows d.marks d.pairs d.triples q (relayout_layout ws xs d.rows d.marks d.pairs d.triples es q (passed n e)))
