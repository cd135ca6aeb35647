-- The loop of `clear_probes`: what is done and what is left of a list of rows, and one turn.
use mathlib.Core.Path.{◌≡◌, refl, sym, ap, ◌∙◌}
use mathlib.Core.List.{List, [], ◌∷◌, ◌++◌, append_assoc, append-nil, map}
use Prim.Native.Nat.{ℕ, ◌+◌, ◌*◌, ◌<◌, ◌≤◌}
use native.Mathlib.Omega.{arith}
use lib.ListN.{length, get_or, set, length-append}
use lib.Ieee.{Float}
use Rattle.geometry.specs.Geometry.{zero_f}
use Rattle.tree.proofs.Lists.{getD-in, set-in}
use Rattle.steps.specs.Row.{Row, row_numbers, row_words, noted, no_probe, with_code}
use Rattle.steps.specs.Results.{listed}
use Rattle.steps.proofs.Listed.{listed_nil, listed_cons, listed_append, length_listed}
use Rattle.rows.specs.Store.{cleared_row}

pub record Rest (rs : List Float) (ms : List ℕ) (l : List Row) (i : ℕ) : Type 0 where
  pub done : List Row
  pub left : List Row
  pub whole : map cleared_row l ≡ done ++ map cleared_row left
  pub long : length done ≡ i
  pub rows_are : rs ≡ listed row_numbers done ++ listed row_numbers left
  pub marks_are : ms ≡ listed row_words done ++ listed row_words left

pub begin : (rs : List Float) (ms : List ℕ) (l : List Row) → rs ≡ listed row_numbers l → ms ≡ listed row_words l → Rest rs ms l 0
unfolding listed
begin rs ms l er em = record { done = []; left = l; whole = refl; long = refl; rows_are = er; marks_are = em }

stored : (r : Row) (q z : List Float) (n : ℕ) → length q ≡ n → set (set (set (q ++ (row_numbers r ++ z)) (n + 11) zero_f) (n + 11 + 1) zero_f) (n + 11 + 2) zero_f ≡ q ++ (row_numbers (cleared_row r) ++ z)
unfolding cleared_row noted no_probe
stored r q z n e =
    let a = r.place.x ∷ r.place.y ∷ r.answer.size.width ∷ r.answer.size.height ∷ r.answer.top.positive ∷ r.answer.top.negative ∷ r.answer.bottom.positive ∷ r.answer.bottom.negative ∷ r.asked.width ∷ r.asked.height ∷ r.asked.parent ∷ [] in
    rw (
      set-in q a r.probe.width (r.probe.height ∷ r.probe.answer ∷ r.asked.basis ∷ r.answer.baseline ∷ z) zero_f (n + 11) (ap (λ (k : ℕ). k + 11) e),
      set-in q (a ++ (zero_f ∷ [])) r.probe.height (r.probe.answer ∷ r.asked.basis ∷ r.answer.baseline ∷ z) zero_f (n + 11 + 1) (omega arith),
      set-in q (a ++ (zero_f ∷ zero_f ∷ [])) r.probe.answer (r.asked.basis ∷ r.answer.baseline ∷ z) zero_f (n + 11 + 2) (omega arith),
    )

marked : (r : Row) (q z : List ℕ) (n b : ℕ) → length q ≡ n → b ≡ with_code (get_or (q ++ (row_words r ++ z)) (n + 1) 0) 0 → set (q ++ (row_words r ++ z)) (n + 1) b ≡ q ++ (row_words (cleared_row r) ++ z)
unfolding cleared_row noted no_probe
marked r q z n b e eb =
    let g : get_or (q ++ (row_words r ++ z)) (n + 1) 0 ≡ r.bits = getD-in q (r.order ∷ []) r.bits z 0 (n + 1) (ap (λ (k : ℕ). k + 1) e) in
    rw (set-in q (r.order ∷ []) r.bits z b (n + 1) (ap (λ (k : ℕ). k + 1) e), eb, g)

turn_of : (rs : List Float) (ms : List ℕ) (l : List Row) (i b : ℕ) (done left : List Row) → map cleared_row l ≡ done ++ map cleared_row left → length done ≡ i → rs ≡ listed row_numbers done ++ listed row_numbers left
    → ms ≡ listed row_words done ++ listed row_words left → 2 * i < length ms → b ≡ with_code (get_or ms (2 * i + 1) 0) 0
    → Rest (set (set (set rs (16 * i + 11) zero_f) (16 * i + 11 + 1) zero_f) (16 * i + 11 + 2) zero_f) (set ms (2 * i + 1) b) l (i + 1)
turn_of rs ms l i b done [] w n er em h eb =
    let z : length ms ≡ 2 * i = ap length em ∙ simp (length-append, length_listed row_words 2 (λ _. refl), listed_nil row_words) (omega arith) in
    absurd (omega arith)
turn_of rs ms l i b done (r ∷ us) w n er em h eb =
    let q : length (listed row_numbers done) ≡ 16 * i = length_listed row_numbers 16 (λ _. refl) done ∙ ap (λ (k : ℕ). 16 * k) n in
    let p : length (listed row_words done) ≡ 2 * i = length_listed row_words 2 (λ _. refl) done ∙ ap (λ (k : ℕ). 2 * k) n in
    let er2 : rs ≡ listed row_numbers done ++ (row_numbers r ++ listed row_numbers us) = rw (listed_cons row_numbers r us) at er in
    let em2 : ms ≡ listed row_words done ++ (row_words r ++ listed row_words us) = rw (listed_cons row_words r us) at em in
    let eb2 : b ≡ with_code (get_or (listed row_words done ++ (row_words r ++ listed row_words us)) (2 * i + 1) 0) 0 = rw em2 at eb in
    record {
      done = done ++ (cleared_row r ∷ []);
      left = us;
      whole = w ∙ sym (append_assoc done (cleared_row r ∷ []) (map cleared_row us));
      long = simp length-append (omega arith);
      rows_are = rw er2 (stored r (listed row_numbers done) (listed row_numbers us) (16 * i) q
          ∙ sym (rw (listed_append row_numbers done (cleared_row r ∷ []), listed_cons row_numbers (cleared_row r) [], listed_nil row_numbers) (append_assoc (listed row_numbers done) _ _)));
      marks_are = rw em2 (marked r (listed row_words done) (listed row_words us) (2 * i) b p eb2
          ∙ sym (rw (listed_append row_words done (cleared_row r ∷ []), listed_cons row_words (cleared_row r) [], listed_nil row_words) (append_assoc (listed row_words done) _ _)));
    }

pub turn : (rs : List Float) (ms : List ℕ) (l : List Row) (i b : ℕ) → Rest rs ms l i → 2 * i < length ms → b ≡ with_code (get_or ms (2 * i + 1) 0) 0
    → Rest (set (set (set rs (16 * i + 11) zero_f) (16 * i + 11 + 1) zero_f) (16 * i + 11 + 2) zero_f) (set ms (2 * i + 1) b) l (i + 1)
turn rs ms l i b s = turn_of rs ms l i b s.done s.left s.whole s.long s.rows_are s.marks_are

end_of : (rs : List Float) (ms : List ℕ) (l : List Row) (i : ℕ) (done left : List Row) → map cleared_row l ≡ done ++ map cleared_row left → length done ≡ i → rs ≡ listed row_numbers done ++ listed row_numbers left
    → ms ≡ listed row_words done ++ listed row_words left → length ms ≤ 2 * i → (rs ≡ listed row_numbers (map cleared_row l)) × (ms ≡ listed row_words (map cleared_row l))
end_of rs ms l i done [] w n er em h =
    (er ∙ rw (listed_nil row_numbers, w, append-nil, append-nil), em ∙ rw (listed_nil row_words, w, append-nil, append-nil))
end_of rs ms l i done (r ∷ us) w n er em h =
    let z = simp (length-append, length_listed row_words 2 (λ _. refl), listed_cons row_words r us) at (ap length em) in
    absurd (omega arith)

pub end : (rs : List Float) (ms : List ℕ) (l : List Row) (i : ℕ) → Rest rs ms l i → length ms ≤ 2 * i → (rs ≡ listed row_numbers (map cleared_row l)) × (ms ≡ listed row_words (map cleared_row l))
end rs ms l i s = end_of rs ms l i s.done s.left s.whole s.long s.rows_are s.marks_are
