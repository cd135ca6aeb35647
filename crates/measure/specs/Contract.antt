-- What the functions of the two cycles promise: an answer for every tree that has these words.
use Rattle.std.specs.Prelude.{◌≡◌, List, [], ℕ, ◌+◌, ◌*◌, ◌≤◌, length, Float, Option}
use Rattle.geometry.specs.Geometry.{zero_f}
use Rattle.geometry.specs.declared.Size.{Size}
use Rattle.length.specs.declared.AvailableSpace.{AvailableSpace}
use Rattle.style.specs.Style.{plane_of, style_at}
use Rattle.tree.specs.Tree.{Tree, Forest, node, count_t, count_f, depth_t, depth_f, flat_t, flat_f}
use Rattle.tree.specs.Table.{entry_of, from}
use Rattle.steps.specs.Page.{Site, site_at}
use Rattle.steps.specs.Stack.{start_of}
use Rattle.steps.specs.Through.{finished}
use Rattle.steps.specs.SizeQuestion.{step_g, width_known, size_of}
use Rattle.steps.specs.declared.ProbeInput.{ProbeInput}
use Rattle.steps.specs.declared.LayoutInput.{LayoutInput}
use Rattle.steps.specs.declared.LayoutOutput.{LayoutOutput}
use Rattle.steps.specs.declared.RequestedAxis.{RequestedAxis}
use Rattle.steps.specs.declared.Frame.{Frame}
use Rattle.steps.specs.declared.Cursor.{Cursor}
use Rattle.heights.specs.Leaves.{stack_leaves}
use Rattle.heights.specs.declared.StackOutput.{StackOutput}
use Rattle.measure.specs.Dry.{width_t, width_f, widened, size_t, size_f, found_t, rest_t}

-- these words are the tree's, whose first node has the number b
pub record SitesT (ws : List ℕ) (xs : List Float) (b : ℕ) (t : Tree Site) : Type 0 where
  pub words_long : length ws ≡ 4 * count_t t
  pub sites_are : from (site_at ws xs [] b) 0 (count_t t) ≡ flat_t entry_of t

pub record SitesF (ws : List ℕ) (xs : List Float) (b : ℕ) (ts : Forest Site) : Type 0 where
  pub words_long : length ws ≡ 4 * count_f ts
  pub sites_are : from (site_at ws xs [] b) 0 (count_f ts) ≡ flat_f entry_of ts

-- some tree has them; no deeper than `depth`, its numbers are a page's, and each of its nodes has a place in the planes
pub record IsTree (ws : List ℕ) (xs : List Float) (b depth : ℕ) : Type 0 where
  pub tree : Tree Site
  pub sites : SitesT ws xs b tree
  pub deep : depth_t tree ≤ depth
  pub fit : b + count_t tree ≤ 1024
  pub reach : b + count_t tree ≤ plane_of xs

pub record IsForest (ws : List ℕ) (xs : List Float) (b depth : ℕ) : Type 0 where
  pub forest : Forest Site
  pub sites : SitesF ws xs b forest
  pub deep : depth_f forest ≤ depth
  pub fit : b + count_f forest ≤ 1024
  pub reach : b + count_f forest ≤ plane_of xs

abbrev pub Width : List ℕ → List Float → ℕ → ProbeInput → Float → Type 0
Width ws xs b q r = (t : Tree Site) → SitesT ws xs b t → r ≡ width_t t q

abbrev pub Widened : List ℕ → List Float → ℕ → AvailableSpace → Float → Float → Type 0
Widened ws xs b a m r = (t : Tree Site) → SitesT ws xs b t → r ≡ widened t a m

abbrev pub Widest : List ℕ → List Float → ℕ → AvailableSpace → Float → Type 0
Widest ws xs b a r = (ts : Forest Site) → SitesF ws xs b ts → r ≡ width_f ts a zero_f

abbrev pub MeasuredT : List ℕ → List Float → ℕ → LayoutInput → Float → LayoutOutput → Type 0
MeasuredT ws xs b q found r = (t : Tree Site) → SitesT ws xs b t → r ≡ size_t t q found

-- the stack of a container: what it leaves of frame and cursor
abbrev pub MeasuredF : List ℕ → List Float → ℕ → Frame → StackOutput → Type 0
MeasuredF ws xs b f r = (l : Site) (ks : Forest Site) → SitesT ws xs b (node l ks) → r ≡ stack_leaves f (size_f ks f (start_of f))

-- L to N, for whatever frame and cursor the stack's output is of
abbrev pub Ended : List ℕ → List Float → ℕ → LayoutInput → StackOutput → LayoutOutput → Type 0
Ended ws xs b q stack r = (f : Frame) (c : Cursor) → stack ≡ stack_leaves f c → r ≡ (finished (style_at ws 0 xs b) q f c).output

-- the page's own steps
abbrev pub Found : List ℕ → List Float → LayoutInput → Option Float → Float → Type 0
Found ws xs q width r = (t : Tree Site) → SitesT ws xs 0 t → r ≡ found_t t q width

abbrev pub Whole : List ℕ → List Float → LayoutInput → RequestedAxis → Float → Float → Float → Option Float → Size Float → Type 0
Whole ws xs q a found width pb height r = (t : Tree Site) → SitesT ws xs 0 t → r ≡ step_g a width pb height (size_t t q found).size

abbrev pub Rest : List ℕ → List Float → LayoutInput → RequestedAxis → Size Float → Type 0
Rest ws xs q a r = (t : Tree Site) → SitesT ws xs 0 t → r ≡ rest_t t q a

abbrev pub KnownWidth : List ℕ → List Float → LayoutInput → RequestedAxis → Float → Option Float → Size Float → Type 0
KnownWidth ws xs q a width height r = (t : Tree Site) → SitesT ws xs 0 t → r ≡ width_known a width height (rest_t t q a)

abbrev pub SizeOf : List ℕ → List Float → LayoutInput → RequestedAxis → Size Float → Type 0
SizeOf ws xs q a r = (t : Tree Site) → SitesT ws xs 0 t → r ≡ size_of t q a
