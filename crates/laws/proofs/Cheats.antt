-- The cheats of document 01, and which promise each of them breaks.
use Rattle.std.specs.Prelude.{◌≡◌, ℕ, get_or}
use Rattle.std.proofs.Common.{ap, arith}
use Rattle.std.specs.Float.Ieee.{to_bits}
use Rattle.std.specs.Float.{binary32}
use Rattle.tree.specs.Tree.{Tree, map_t, root_t}
use Rattle.steps.proofs.Computed.{steps}
use Rattle.steps.specs.Kept.{Laid}
use Rattle.steps.specs.Layout.{relaid}
use Rattle.steps.specs.Results.{marks_out}
use Rattle.steps.specs.declared.LayoutInput.{LayoutInput}
use Rattle.laws.specs.Trees.{AllT}
use Rattle.laws.specs.Below.{Two, page1, page2, below_of, Agree, below_kept}
use Rattle.laws.proofs.Demand3.{relayout_is_fresh, it_learns_nothing}
use Rattle.laws.specs.Cheats.{FirstHalf, SecondHalf, asked, grown, box_rows, box_honest, box_leaves, does_nothing, lays_afresh, pages, pages_below, pages_agree, unkept, unkept_agree, hidden, aside, over, AgreeButKind, AgreeButPosition, over_below, hidden_agree, aside_agree}

pub doing_nothing_fails : FirstHalf does_nothing → ⊥
unfolding steps
doing_nothing_fails h =
    let z : ◌≡◌ {A = ℕ} 0x41200000 0x41a00000 = ap (λ (l : Laid). to_bits binary32 (root_t l.rows).answer.size.height) (h grown asked asked box_rows box_honest box_leaves) in
    omega arith

pub laying_afresh_fails : SecondHalf lays_afresh → ⊥
unfolding steps
laying_afresh_fails h =
    let z : ◌≡◌ {A = ℕ} 0x40a00000 0x40c00000 = ap (λ (l : Laid). to_bits binary32 (root_t l.rows).answer.size.height) (h pages asked pages_below pages_agree) in
    omega arith

pub below_laid_is_read : ((t : Tree Two) (q : LayoutInput) → AllT Agree t → relaid (map_t page1 t) q ≡ relaid (map_t page2 t) q) → ⊥
unfolding steps
below_laid_is_read h =
    let z : ◌≡◌ {A = ℕ} 0x40a00000 0x40c00000 = ap (λ (l : Laid). to_bits binary32 (root_t l.rows).answer.size.height) (h unkept asked unkept_agree) in
    omega arith

pub kind_is_read : ((t : Tree Two) (q : LayoutInput) → map_t below_of t ≡ below_kept (map_t page1 t) q → AllT AgreeButKind t → relaid (map_t page1 t) q ≡ relaid (map_t page2 t) q) → ⊥
unfolding steps
kind_is_read h =
    let z : ◌≡◌ {A = ℕ} 1 0 = ap (λ (l : Laid). get_or (marks_out l.rows) 5 0) (h (over hidden) asked (over_below hidden) hidden_agree) in
    omega arith

-- and so is position: a block there, or an out-of-flow one
pub position_is_read : ((t : Tree Two) (q : LayoutInput) → map_t below_of t ≡ below_kept (map_t page1 t) q → AllT AgreeButPosition t → relaid (map_t page1 t) q ≡ relaid (map_t page2 t) q) → ⊥
unfolding steps
position_is_read h =
    let z : ◌≡◌ {A = ℕ} 1 4 = ap (λ (l : Laid). get_or (marks_out l.rows) 5 0) (h (over aside) asked (over_below aside) aside_agree) in
    omega arith

-- The relayout of the definition has both.
pub ours : FirstHalf relaid × SecondHalf relaid
ours = (relayout_is_fresh, it_learns_nothing)
