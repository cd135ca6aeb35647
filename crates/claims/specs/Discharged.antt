-- Tables that pass the tests are a page: the crate of the tests proves it, so demand 3 holds of the public calls with nothing left to suppose.
use Rattle.steps.specs.declared.Refusal.TheVariants.{Lengths}
use Rattle.std.specs.Prelude.{◌≡◌, ◌||◌, List, [], ℕ, Float, Ok}
use Rattle.limits.specs.Bools.{or_left}
use Rattle.tree.specs.Tree.{Tree, Forest, node, none, more}
use Rattle.steps.specs.Page.{Site, page_of}
use Rattle.steps.specs.Noes.{bad_tables, bad_rows, no5, refuse_if, page_tested, layout_tested}
use Rattle.steps.specs.declared.LayoutInput.{LayoutInput}
use Rattle.tables.specs.Leaves as tables
use Rattle.tables.proofs.Passing.{sized, page_passes, then_pass_1, then_pass_2, if_pass}
use Rattle.tables.proofs.GoodPage.{leaf_site, good_page}
use Rattle.laws.specs.Pages.{LeavesT, LeavesF}
use Rattle.laws.specs.Tables.{Sound, Checks}

mutual
  unfolding LeavesT tables.LeavesT

  leaves_t : (t : Tree Site) → tables.LeavesT leaf_site t → LeavesT t
  leaves_t (node s ks) h = (h.0, leaves_f ks h.1)

  leaves_f : (ts : Forest Site) → tables.LeavesF leaf_site ts → LeavesF ts
  leaves_f none h = h
  leaves_f (more t ts) h = (leaves_t t h.0, leaves_f ts h.1)

passed : (ws : List ℕ) (xs rs : List Float) (ms cw : List ℕ) (cx : List Float) (q : LayoutInput) → layout_tested ws xs rs ms cw cx q ≡ Ok tt → Sound ws xs
unfolding layout_tested
passed ws xs rs ms cw cx q e =
    let b = or_left (bad_tables ws xs) _ (if_pass (bad_tables ws xs || bad_rows ws rs ms) Lengths (then_pass_1 (refuse_if (bad_tables ws xs || bad_rows ws rs ms) Lengths) _ e)) in
    let z = sized ws xs b in
    let p = page_passes ws xs q (then_pass_1 (page_tested ws xs q) (no5 ws xs cw cx) (then_pass_2 (refuse_if (bad_tables ws xs || bad_rows ws rs ms) Lengths) _ e)) in
    let g = good_page ws (record { some = z.some; few = z.few; sound = p.tree }) xs [] in
    record { some = z.some; entries = g.entries; leaves = leaves_t (page_of ws xs []) g.leaves }

pub checks : Checks
checks = record { sound = passed }
