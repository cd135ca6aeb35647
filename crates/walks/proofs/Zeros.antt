-- Rows of zeros written out, and forests side by side.
use mathlib.Core.Path.{◌≡◌, refl, ◌∙◌}
use Prim.Native.Nat.{◌*◌}
use lib.ListN.{replicate}
use Rattle.geometry.specs.Geometry.{zero_f}
use Rattle.margin.specs.Margin.{no_margins}
use Rattle.tree.specs.Tree.{Forest, none, more, count_f, flat_f, map_f, join_f}
use Rattle.tree.proofs.Laws.{map_f_none, map_f_more, join_f_none, join_f_more, flat_map_f, flat-constF}
use Rattle.steps.specs.Row.{row_numbers, row_words, no_row, bare}
use Rattle.steps.specs.Page.{Node}
use Rattle.steps.specs.Kept.{zeros_f, fix_f}
use Rattle.steps.proofs.Clauses.{fix_f_none, fix_f_more}
use Rattle.walks.specs.Tables.{new_numbers, new_words}

pub fix_join : (ts us : Forest Node) → fix_f (join_f ts us) ≡ join_f (fix_f ts) (fix_f us)
fix_join none us = rw (join_f_none, fix_f_none, join_f_none)
fix_join (more t ts) us = rw (join_f_more, fix_f_more, fix_f_more, join_f_more, fix_join ts us)

pub map_join : {A B : Type 0} (f : A → B) (ts us : Forest A) → map_f f (join_f ts us) ≡ join_f (map_f f ts) (map_f f us)
map_join f none us = rw (join_f_none, map_f_none, join_f_none)
map_join f (more t ts) us = rw (join_f_more, map_f_more, map_f_more, join_f_more, map_join f ts us)

-- rows of zeros, written out
pub zero_numbers : row_numbers no_row ≡ replicate 16 zero_f
unfolding no_row bare no_margins
zero_numbers = refl

pub zero_words : row_words no_row ≡ replicate 2 0
unfolding no_row bare
zero_words = refl

pub zero_rows : {A : Type 0} (ts : Forest A) → flat_f new_numbers (zeros_f ts) ≡ replicate (16 * count_f ts) zero_f
unfolding zeros_f
zero_rows {A} ts = flat_map_f new_numbers (λ (_ : A). no_row) ts ∙ flat-constF (row_numbers no_row) zero_f 16 zero_numbers ts

pub zero_marks : {A : Type 0} (ts : Forest A) → flat_f new_words (zeros_f ts) ≡ replicate (2 * count_f ts) 0
unfolding zeros_f
zero_marks {A} ts = flat_map_f new_words (λ (_ : A). no_row) ts ∙ flat-constF (row_words no_row) 0 2 zero_words ts
