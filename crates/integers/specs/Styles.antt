-- A node's style over whole numbers: a length is pixels or missing (auto); there is no fraction and no ratio. And what is asked of a page.
use Rattle.style.specs.declared.Overflow.{Overflow}
use Rattle.geometry.specs.declared.Point.{Point}
use Rattle.std.specs.Prelude.{Bool, not, ◌&&◌, ◌||◌, ℤ, ◌-ℤ◌}
use Rattle.style.specs.Flow.{flow_by, is_in, is_leaf}
use Rattle.style.specs.declared.Kind.{Kind}
use Rattle.style.specs.declared.Position.{Position}
use Rattle.style.specs.declared.AlignContent.{AlignContent}
use Rattle.style.specs.declared.Flow.{Flow}
use Rattle.steps.specs.Context.{clips, is_normal}
use Rattle.integers.specs.Numbers.{MayZ, NoneZ, SomeZ, SizeMay, RectMay}

-- a leaf's table
pub record MeasureZ : Type 0 where
  pub least : ℤ
  pub most : ℤ
  pub height : ℤ
  pub baseline : MayZ

pub record StyleZ : Type 0 where
  pub kind : Kind
  pub content : Bool
  pub rtl : Bool
  pub position : Position
  pub overflow : Point Overflow
  pub align : AlignContent
  pub safe : Bool
  pub contained : Bool
  pub size : SizeMay
  pub min : SizeMay
  pub max : SizeMay
  pub margin : RectMay
  pub padding : RectMay
  pub border : RectMay
  pub inset : RectMay
  pub scrollbar : ℤ
  pub measure : MeasureZ

-- hidden, out of flow or in flow
unfoldable pub flow_z : StyleZ → Flow
flow_z s = flow_by s.kind s.position

-- I: new context, and an in-flow block without one
unfoldable pub new_context_z : StyleZ → Bool
new_context_z s = clips s.overflow.x || (clips s.overflow.y || (not (is_normal s.align) || s.contained))

unfoldable pub plain_block_z : StyleZ → Bool
plain_block_z s = is_in (flow_z s) && (not (is_leaf s.kind) && not (new_context_z s))

-- the available width
pub data AvailableZ : Type 0 where
  DefiniteZ : ℤ → AvailableZ
  MinContentZ : AvailableZ
  MaxContentZ : AvailableZ

unfoldable pub available_less_z : AvailableZ → ℤ → AvailableZ
available_less_z (DefiniteZ a) x = DefiniteZ (a -ℤ x)
available_less_z MinContentZ x = MinContentZ
available_less_z MaxContentZ x = MaxContentZ

unfoldable pub definite_z : AvailableZ → MayZ
definite_z (DefiniteZ a) = SomeZ a
definite_z MinContentZ = NoneZ
definite_z MaxContentZ = NoneZ

-- a final question, and a probe
pub record InputZ : Type 0 where
  pub known : SizeMay
  pub parent : MayZ
  pub basis : MayZ
  pub definiteHeight : Bool
  pub available : AvailableZ
  pub collapseStart : Bool
  pub collapseEnd : Bool
  pub nested : Bool

pub record ProbeInputZ : Type 0 where
  pub height : MayZ
  pub available : AvailableZ
