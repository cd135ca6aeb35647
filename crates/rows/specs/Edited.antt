-- Does an edit list name one of a run of nodes?
use Rattle.std.specs.Prelude.{Bool, false, ◌&&◌, ◌||◌, List, [], ◌∷◌, ℕ, ◌+◌, leb, ltb}

-- e is one of the n nodes from b on
unfoldable pub in_run : ℕ → ℕ → ℕ → Bool
in_run e b n = leb b e && ltb e (b + n)

unfoldable pub touched : List ℕ → ℕ → ℕ → Bool
touched [] b n = false
touched (e ∷ es) b n = in_run e b n || touched es b n
