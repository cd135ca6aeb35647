-- Candidates as records.
use Rattle.steps.specs.declared.Refusal.{Refusal}
use Rattle.std.specs.Prelude.{List, [], ◌∷◌, ◌++◌, ℕ, zero, suc, ◌+◌, ◌*◌, get_or, Float, Result, Ok, Err}
use Rattle.geometry.specs.Geometry.{zero_f}
use Rattle.steps.specs.Candidates.{Candidate}
use Rattle.records.specs.declared.Record.{Record}

-- a candidate's five fields, its two counts as two types
abbrev pub record_of : Candidate → Record
record_of c = record { node = record { 0 = c.node }; order = record { 0 = c.order }; start = c.start; end = c.end; line = c.line }

-- record k of the plain slices
abbrev pub record_at : List ℕ → List Float → ℕ → Record
record_at ws xs k =
    record {
      node = record { 0 = get_or ws (k * 2) 0 };
      order = record { 0 = get_or ws (k * 2 + 1) 0 };
      start = get_or xs (k * 3) zero_f;
      end = get_or xs (k * 3 + 1) zero_f;
      line = get_or xs (k * 3 + 2) zero_f;
    }

-- the first n
unfoldable pub records_from : List ℕ → List Float → ℕ → List Record
records_from ws xs zero = []
records_from ws xs (suc n) = records_from ws xs n ++ (record_at ws xs n ∷ [])

-- how many records an answer comes with: as many as it says where it is 0, none with a refusal
unfoldable pub count_of : Result ℕ Refusal → ℕ
count_of (Ok n) = n
count_of (Err a) = 0

-- the records that an answer comes with
unfoldable pub given_with : Result ℕ Refusal → List Record → List Record
given_with (Ok n) l = l
given_with (Err a) l = []
