-- Test 4 of one length of a node.
use Rattle.std.specs.Prelude.{Bool, List, ℕ, Float}
use Rattle.style.specs.Codes.{unit_of}
use Rattle.style.specs.Style.{number_at}
use Rattle.steps.specs.Noes.{bad_field}

-- field f of node i, whose unit words are u and v
abbrev pub bad_field_at : ℕ → ℕ → List Float → ℕ → ℕ → Bool
bad_field_at u v xs i f = bad_field f (unit_of u v f) (number_at xs i f)
