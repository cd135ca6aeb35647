-- An accepted layout and two accepted relayouts. At each relayout A is kept, it has a child, and its probe stands.
use Rattle.std.specs.Prelude.{◌≡◌, refl, Bool, true, false, List, [], ◌∷◌, ℕ, Ok}
use Rattle.tree.specs.Tree.{Tree, node, none, more, map_t}
use Rattle.steps.specs.Page.{Cell, Node, named, cells_of}
use Rattle.steps.specs.Probe.{width_pass}
use Rattle.steps.specs.Noes.{relayout_tested}
use Rattle.steps.specs.Results.{Reply, layout_result, relayout_result}
use Rattle.steps.proofs.Computed.{calls}
use Rattle.laws.specs.Below.{under, below_t, below_kept}
use Rattle.laws.specs.Examples.{free, probe_words, probe_was}
use Rattle.chains.specs.Pages.{low, tall, taller, no_rows, no_marks}

-- the edit list of both relayouts: the box
abbrev pub box : List ℕ
box = 3 ∷ []

-- what the three calls give
unfoldable pub first : Reply
first = layout_result probe_words low no_rows no_marks [] [] free

unfoldable pub second : Reply
second = relayout_result probe_words tall first.rows first.marks [] [] box free

unfoldable pub third : Reply
third = relayout_result probe_words taller second.rows second.marks [] [] box free

pub first_accepted : first.answer ≡ Ok 0
unfolding calls first low free probe_words probe_was
first_accepted = refl

pub second_accepted : second.answer ≡ Ok 0
unfolding calls first second low tall free probe_words probe_was
second_accepted = refl

pub third_accepted : third.answer ≡ Ok 0
unfolding calls first second third low tall taller free probe_words probe_was
third_accepted = refl

-- the box is named, and no other node is changed
pub box_named : named box 3 ≡ true
unfolding named
box_named = refl

-- so the theorem says of the last call that it gives what a layout gives
pub third_passes : relayout_tested probe_words taller second.rows second.marks [] [] box free ≡ Ok tt
unfolding calls first second low tall taller free probe_words probe_was
third_passes = refl

-- the leaf alone lies below a kept node: A is kept and has a child
abbrev pub leaf_below : Tree Bool
leaf_below = node false (more (node false (more (node true none) none)) (more (node false none) none))

abbrev pub cells2 : Tree Cell
cells2 = cells_of probe_words tall first.rows first.marks box

abbrev pub cells3 : Tree Cell
cells3 = cells_of probe_words taller second.rows second.marks box

pub kept_in_second : below_kept cells2 free ≡ leaf_below
unfolding calls first low tall free probe_words probe_was under below_t below_kept
kept_in_second = refl

pub kept_in_third : below_kept cells3 free ≡ leaf_below
unfolding calls first second low tall taller free probe_words probe_was under below_t below_kept
kept_in_third = refl

-- after the width pass: the code of a node's probe words, 0 for none, and whether it was probed anew
pub record Noted : Type 0 where
  pub code : ℕ
  pub anew : Bool

abbrev pub probed_of : Node → Noted
probed_of n = record { code = n.probe.code; anew = n.anew }

-- a probe of an earlier call that stands (7: of any width, no height), and no probe
abbrev pub stands : Noted
stands = record { code = 7; anew = false }

abbrev pub unasked : Noted
unasked = record { code = 0; anew = false }

-- A's probe, and the leaf's below it
pub probe_stands_in_second : map_t probed_of (width_pass cells2 free).nodes ≡ node unasked (more (node stands (more (node stands none) none)) (more (node unasked none) none))
unfolding calls first low tall free probe_words probe_was
probe_stands_in_second = refl

pub probe_stands_in_third : map_t probed_of (width_pass cells3 free).nodes ≡ node unasked (more (node stands (more (node stands none) none)) (more (node unasked none) none))
unfolding calls first second low tall taller free probe_words probe_was
probe_stands_in_third = refl
