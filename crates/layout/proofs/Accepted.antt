-- Tables that pass the tests are the tables of a page with its old rows, and there is room for its records.
use Rattle.std.specs.Prelude.{Ok}
use Rattle.steps.specs.declared.Refusal.TheVariants.{Lengths, Room}
use mathlib.Core.Path.{◌≡◌, refl}
use mathlib.Core.Bool.{false, not, ◌||◌}
use mathlib.Core.List.{List, []}
use Prim.Native.Nat.{ℕ, ◌*◌, ◌/◌, ◌≤◌, min}
use native.Mathlib.Omega.{arith}
use lib.ListN.{length}
use lib.Dec.{eqb, ltb}
use lib.Ieee.{Float}
use borrow.Author.Tests.{ltb-false, eqb-true, not-false}
use Rattle.limits.specs.Bools.{or_left, or_right}
use Rattle.tree.specs.Tree.{Tree, Forest, node, none, more, map_t, map_f}
use Rattle.steps.specs.Page.{Site, Cell, nodes_in, page_of}
use Rattle.steps.specs.Candidates.{needed_t, needed_f, needed}
use Rattle.steps.specs.Noes.{bad_tables, bad_rows, records_in, refuse_if, no5, page_tested, layout_tested, relayout_tested}
use Rattle.steps.specs.declared.LayoutInput.{LayoutInput}
pub use Rattle.laws.specs.Final.{unmarked}
use Rattle.tables.specs.TreeCheck.{GoodTable}
use Rattle.tables.proofs.Passing.{sized, then_pass_1, then_pass_2, if_pass, good_table}
use Rattle.layout.specs.Public.{plain_site, RoomOf}

-- what tables have that pass the tests of a layout
pub record Passes (ws : List ℕ) (xs rs : List Float) (ms cw : List ℕ) (cx : List Float) : Type 0 where
  pub good : GoodTable ws
  pub words_long : length ws ≡ 4 * nodes_in ws
  pub numbers_long : length xs ≡ 28 * nodes_in ws
  pub rows_long : length rs ≡ 16 * nodes_in ws
  pub marks_long : length ms ≡ 2 * nodes_in ws
  pub room : needed (page_of ws xs []) ≤ min (length cw / 2) (length cx / 3)

rows_fit : (ws : List ℕ) (rs : List Float) (ms : List ℕ) → bad_rows ws rs ms ≡ false → (length rs ≡ 16 * nodes_in ws) × (length ms ≡ 2 * nodes_in ws)
unfolding bad_rows
rows_fit ws rs ms e =
    (eqb-true _ _ (not-false _ (or_left (not (eqb (length rs) (16 * nodes_in ws))) _ e)), eqb-true _ _ (not-false _ (or_right (not (eqb (length rs) (16 * nodes_in ws))) _ e)))

room_fits : (ws : List ℕ) (xs : List Float) (cw : List ℕ) (cx : List Float) → no5 ws xs cw cx ≡ Ok tt → needed (page_of ws xs []) ≤ min (length cw / 2) (length cx / 3)
unfolding no5
room_fits ws xs cw cx e = ltb-false _ _ (if_pass (ltb (records_in cw cx) (needed (page_of ws xs []))) Room e)

pub passes : (ws : List ℕ) (xs rs : List Float) (ms cw : List ℕ) (cx : List Float) (q : LayoutInput) → layout_tested ws xs rs ms cw cx q ≡ Ok tt → Passes ws xs rs ms cw cx
unfolding layout_tested
passes ws xs rs ms cw cx q e =
    let b = if_pass (bad_tables ws xs || bad_rows ws rs ms) Lengths (then_pass_1 (refuse_if (bad_tables ws xs || bad_rows ws rs ms) Lengths) _ e) in
    let r = then_pass_2 (refuse_if (bad_tables ws xs || bad_rows ws rs ms) Lengths) _ e in
    let t = or_left (bad_tables ws xs) _ b in
    let f = rows_fit ws rs ms (or_right (bad_tables ws xs) _ b) in
    record {
      good = good_table ws xs q t (then_pass_1 (page_tested ws xs q) _ r);
      words_long = (sized ws xs t).words;
      numbers_long = (sized ws xs t).numbers;
      rows_long = f.0;
      marks_long = f.1;
      room = room_fits ws xs cw cx (then_pass_2 (page_tested ws xs q) _ r);
    }

pub again_passes : (ws : List ℕ) (xs rs : List Float) (ms cw : List ℕ) (cx : List Float) (es : List ℕ) (q : LayoutInput) → relayout_tested ws xs rs ms cw cx es q ≡ Ok tt → Passes ws xs rs ms cw cx
unfolding relayout_tested
again_passes ws xs rs ms cw cx es q e = passes ws xs rs ms cw cx q (then_pass_1 (layout_tested ws xs rs ms cw cx q) _ e)

-- records are counted by styles alone
module _ (g : Site → Site) (h : (s : Site) → (g s).style ≡ s.style) where
  mutual
    unfolding needed_t map_t

    same-need-T : (t : Tree Site) → needed_t (map_t g t) ≡ needed_t t
    same-need-T (node s ks) = rw (h s, same-need-F ks)

    same-need-F : (ts : Forest Site) → needed_f (map_f g ts) ≡ needed_f ts
    same-need-F none = refl
    same-need-F (more t ts) = rw (same-need-T t, same-need-F ts)

  pub same-need : (t : Tree Site) → needed (map_t g t) ≡ needed t
  unfolding needed map_t
  same-need (node s ks) = same-need-F ks

pub room_for : (t : Tree Cell) (n : ℕ) (cw : List ℕ) (cx : List Float) → needed (map_t plain_site t) ≡ n → n ≤ min (length cw / 2) (length cx / 3) → RoomOf t cw cx
room_for t n cw cx e h = record { pairs_room = omega (arith, e, h); triples_room = omega (arith, e, h) }
