-- The two theorems of lent tables: what the tables say of each node, and what the tests before any write grant.
use Rattle.std.specs.Prelude.{◌≡◌, false, List, [], ℕ, ◌<◌, Float, Ok}
use Rattle.tree.specs.Tree.{map_t}
use Rattle.steps.specs.Page.{site_at, nodes_in, page_of}
use Rattle.steps.specs.Question.{root_input}
use Rattle.steps.specs.Noes.{bad_tables, bad_style, page_tested}
use Rattle.steps.specs.Layout.{fresh}
use Rattle.steps.specs.declared.Question.{Question}
use Rattle.tables.proofs.Passing.{sized, page_passes}
use Rattle.tables.proofs.ScanLaws.{lowest-nowhere}
use Rattle.laws.specs.Trees.{AllT}
use Rattle.laws.specs.Parsed.{all_parse}
use Rattle.percent.specs.Before.{SameLaid, before, NoPartsAt}
use Rattle.percent.proofs.Before.{as_before}
use Rattle.percent.specs.Widths.{across_of}
use Rattle.percent.specs.Probes.{auto_site}
use Rattle.percent.specs.NoWidth.{AloneAt}
use Rattle.percent.proofs.NoWidth.{no_width_moves}
use Rattle.percent.specs.OnTables.{site_style, PlainHeights, plain_at, alone_at}

plain_page : (ws : List ℕ) (xs : List Float) (es : List ℕ) → 0 < nodes_in ws → ((i : ℕ) → i < nodes_in ws → PlainHeights ws i) → AllT NoPartsAt (page_of ws xs es)
unfolding page_of
plain_page ws xs es p h = all_parse NoPartsAt (site_at ws xs es 0) (nodes_in ws) p (λ i l. rw (site_style ws xs es i) (plain_at ws xs i (h i l)))

-- Tables without such a fraction: a fresh layout answers as before, and leaves the rows that it left, but for number 14 and bit 8.
pub tables_as_before : (ws : List ℕ) (xs : List Float) (q : Question) → 0 < nodes_in ws → ((i : ℕ) → i < nodes_in ws → PlainHeights ws i)
    → SameLaid (fresh (page_of ws xs []) (root_input q)) (before (page_of ws xs []) (root_input q))
tables_as_before ws xs q p h = as_before (page_of ws xs []) q (plain_page ws xs [] p h)

alone_page : (ws : List ℕ) (xs : List Float) (es : List ℕ) → 0 < nodes_in ws → ((i : ℕ) → i < nodes_in ws → bad_style ws xs i ≡ false) → AllT AloneAt (page_of ws xs es)
unfolding page_of
alone_page ws xs es p h = all_parse AloneAt (site_at ws xs es 0) (nodes_in ws) p (λ i l. rw (site_style ws xs es i) (alone_at ws xs i (h i l)))

-- Tables that pass the tests: with the fractions of fields 1, 3 and 5 auto, a fresh layout leaves the same numbers 0, 2, 8 and 10 to 13 in every row.
pub no_width_moves_on_tables : (ws : List ℕ) (xs : List Float) (q : Question) → bad_tables ws xs ≡ false → page_tested ws xs (root_input q) ≡ Ok tt
    → map_t across_of (fresh (page_of ws xs []) (root_input q)).rows ≡ map_t across_of (fresh (map_t auto_site (page_of ws xs [])) (root_input q)).rows
no_width_moves_on_tables ws xs q b e =
    let p = page_passes ws xs (root_input q) e in
    no_width_moves (page_of ws xs []) q (alone_page ws xs [] (sized ws xs b).some (lowest-nowhere (bad_style ws xs) (nodes_in ws) p.codes))
