-- The window at place k is the mark exactly where the text has one there.
use Rattle.std.proofs.Common.{rules, ◌≡◌, ℕ, ◌+◌, ◌-◌, ◌<◌, ◌≤◌, List, ◌++◌, length, take, drop, sym, ap, subst, ◌∙◌, inl, inr, refl, arith, Option, Some, None, Bor}
use Rattle.std.specs.List.{IsSubsliceAt}
use Rattle.std.specs.Option.{IsSomeAnd, IfSome, option_map}
use Rattle.std.proofs.lemmas.List.{take-append-drop, take_rest, drop-drop, length-drop}
use Rattle.std.proofs.Math.ListN.{length-take}
use Rattle.std.proofs.lemmas.Slice.Eq.{bytes_eq-Decides}
use Rattle.std.proofs.lemmas.Bool.{cases_lt}
use Rattle.std.proofs.Common.{⊎_elim}
use Rattle.console.specs.Marks.{mark, HasMarkAt}
use Rattle.console.proofs.split_at_mark.Goals as goal

parted : (k : ℕ) (t : List ℕ) → HasMarkAt t k → t ≡ take k t ++ (mark ++ take (length t - (k + 5)) (drop (k + 5) t))
parted k t e =
    rw take_rest (sym (take-append-drop k t) ∙ ap (λ l. take k t ++ l) (sym (take-append-drop 5 (drop k t)) ∙ (ap (λ m. m ++ drop 5 (drop k t)) e ∙ ap (λ l. mark ++ l) (drop-drop 5 k t))))

abbrev IsWindow : ℕ → List ℕ → ℕ → Bor (List ℕ) → Type 0
IsWindow n t k x = (length x.now ≡ n) × (k + n ≤ length t) × IsSubsliceAt n t k x.now

window_at : (n : ℕ) (s t : List ℕ) (k : ℕ) (o : Option (Bor (List ℕ))) → n ≡ 5 → s ≡ t → IfSome o (IsWindow n s k) → IfSome o (IsWindow 5 t k)
window_at n s t k o e f w = subst (λ m. IfSome o (IsWindow m t k)) e (subst (λ l. IfSome o (IsWindow n l k)) f w)

marked : (P : Bor (List ℕ) → Type 0) → ((x : Bor (List ℕ)) → P x → x.now ≡ mark) → (o : Option (Bor (List ℕ))) (t : List ℕ) (k : ℕ) → IsSomeAnd o P → IfSome o (IsWindow 5 t k) → HasMarkAt t k
marked P says (Some x) t k h w = sym w.2.0 ∙ says x h
marked P says None t k h w = absurd h

unmarked : (P : Bor (List ℕ) → Type 0) → ((x : Bor (List ℕ)) → P x → ¬ (x.now ≡ mark)) → (o : Option (Bor (List ℕ))) (t : List ℕ) (k : ℕ) → IsSomeAnd o P → IfSome o (IsWindow 5 t k) → ¬ HasMarkAt t k
unmarked P says (Some x) t k h w = λ e. says x h (w.2.0 ∙ e)
unmarked P says None t k h w = absurd h

there : {A : Type 0} (P : A → Type 0) (f : A → ℕ) (o : Option A) (n : ℕ) → option_map f o ≡ Some n → IfSome o P → IsSomeAnd o P
there P f (Some x) n e h = h
there P f None n e h = cc

-- past the last window there is no room for a mark
no_room : (t : List ℕ) (k : ℕ) → length t < k + 5 → ¬ HasMarkAt t k
no_room t k past e = let l = ap length e in omega (arith, simp (length-take, length-drop) at l)

pub returns-in-Some : goal.returns-in-Some
returns-in-Some c =
    let run = c.in-Some.ensures.runs in
    let first = run.2.1 (λ a r f e. search rules) in
    let windows = c.windows.ensures.runs run.0 run.0.seen (rw run.1 (omega (arith, c.windows.ensures.size))) in
    let text = c.args.text.now in
    let window : (k : ℕ) → IfSome (run.0.at k) (IsWindow 5 text k) = λ k. window_at _ _ text k (run.0.at k) (rw run.1 c.windows.ensures.size) (rw run.1 c.windows.ensures.rest) (windows.2 k) in
    record {
      joined = inl (parted c.in-Some.at text (marked _ (λ x q. search (rules, bytes_eq-Decides)) (run.0.at c.in-Some.at) text c.in-Some.at first.0 (window c.in-Some.at)));
      first = λ k below. unmarked _ (λ x q e. search (rules, bytes_eq-Decides)) (run.0.at k) text k (first.1 k (omega (arith, simp length-take at below))) (window k);
    }

pub returns-in-None : goal.returns-in-None
returns-in-None c =
    let run = c.in-None.ensures.runs in
    let none = run.2.1 (λ a r f e. search rules) in
    let windows = c.windows.ensures.runs run.0 run.0.seen (rw run.1 (omega (arith, c.windows.ensures.size))) in
    let text = c.args.text.now in
    let window : (k : ℕ) → IfSome (run.0.at k) (IsWindow 5 text k) = λ k. window_at _ _ text k (run.0.at k) (rw run.1 c.windows.ensures.size) (rw run.1 c.windows.ensures.rest) (windows.2 k) in
    let count : run.0.len ≡ length text + 1 - 5 = rw (run.1, c.windows.ensures.rest, c.windows.ensures.size) at (windows.1 run.2.0) in
    let missed : (k : ℕ) → k < run.0.len → ¬ HasMarkAt text k = λ k h. unmarked _ (λ x q e. search (rules, bytes_eq-Decides)) (run.0.at k) text k (there _ _ (run.0.at k) _ (windows.3 k 0 h) (none k)) (window k) in
    record {
      joined = inr (refl, refl);
      first = λ k below. ⊎_elim (missed k) (λ h. no_room text k (omega (arith, count, h))) (cases_lt k run.0.len);
    }
