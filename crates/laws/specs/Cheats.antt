-- The cheats of document 01, and which promise each of them breaks.
use Rattle.std.specs.Prelude.{◌≡◌, refl, Bool, true, false, [], ◌∷◌, ℕ, replicate, None, Some}
use Rattle.std.proofs.Common.{ap, ◌∙◌, arith}
use Rattle.std.specs.Float.Ieee.{of_bits, to_bits}
use Rattle.std.specs.Float.{binary32}
use Rattle.geometry.specs.Geometry.{zero_f}
use Rattle.length.specs.declared.AvailableSpace.TheVariants.{MaxContent}
use Rattle.style.specs.Codes.{kind_of}
use Rattle.style.specs.Style.{word_at, style_at}
use Rattle.tree.specs.Tree.{Tree, Forest, node, none, more, map_t, root_t}
use Rattle.tree.proofs.Laws.{map_map_t}
use Rattle.style.specs.Flow.{is_leaf}
use Rattle.steps.specs.Row.{no_row, output_in, Row}
use Rattle.steps.specs.Page.{Site, Cell}
use Rattle.steps.proofs.Computed.{steps}
use Rattle.steps.specs.Kept.{Laid}
use Rattle.steps.specs.Layout.{relaid, fresh}
use Rattle.steps.specs.declared.LayoutInput.{LayoutInput}
use Rattle.style.specs.declared.Style.{Style}
use Rattle.laws.specs.Trees.{AllT, top_t, kids_t, first_f, false_true}
use Rattle.laws.specs.Pages.{Both, site_by, was_site, now_site, old_of, again, Honest, LeavesT}
use Rattle.laws.specs.Below.{Two, page1, page2, below_of, Agree, under, below_t, below_kept}
use Rattle.laws.specs.Final.{unmarked}
use Rattle.laws.specs.Afresh.{unmarked_fresh}

-- anything that takes a page with its old rows, edit marks and a question
abbrev pub Relayout : Type 0
Relayout = Tree Cell → LayoutInput → Laid

-- the two halves of demand 3, of any such thing
abbrev pub FirstHalf : Relayout → Type 0
FirstHalf r = (t : Tree Both) (q p : LayoutInput) → map_t old_of t ≡ (fresh (map_t was_site t) q).rows → AllT Honest t → LeavesT (map_t now_site t) → r (map_t again t) p ≡ fresh (map_t now_site t) p

abbrev pub SecondHalf : Relayout → Type 0
SecondHalf r = (t : Tree Two) (q : LayoutInput) → map_t below_of t ≡ below_kept (map_t page1 t) q → AllT Agree t → r (map_t page1 t) q ≡ r (map_t page2 t) q

-- styles: a block, and a block of a height
abbrev wrap : Style
wrap = style_at (1 ∷ 0 ∷ 0x5500000 ∷ 0x55 ∷ []) 0 [] 0

abbrev high : ℕ → Style
high h = style_at (1 ∷ 0 ∷ 0x5500004 ∷ 0x55 ∷ []) 0 (zero_f ∷ of_bits binary32 h ∷ replicate 26 zero_f) 0

abbrev pub asked : LayoutInput
asked = record { known = record { width = Some (of_bits binary32 0x42c8_0000); height = None }; parent = Some (of_bits binary32 0x42c8_0000); basis = None; definiteHeight = false; available = MaxContent; collapseStart = false; collapseEnd = false; nested = false }

-- one box, 10 high, then 20
abbrev box_row : Row
box_row = root_t (fresh (node (site_by 0 (high 0x41200000)) none) asked).rows

abbrev pub grown : Tree Both
grown = node (record { node = 0; now = high 0x41a00000; was = high 0x41200000; old = box_row; edit = true }) none

pub box_rows : map_t old_of grown ≡ (fresh (map_t was_site grown) asked).rows
unfolding steps
box_rows = refl

pub box_honest : AllT Honest grown
unfolding AllT
box_honest = ((λ e. false_true true e refl), tt)

pub box_leaves : LeavesT (map_t now_site grown)
unfolding LeavesT map_t
box_leaves = ((λ _. refl), tt)

-- A relayout that does nothing: the first half.
abbrev pub does_nothing : Relayout
does_nothing c q = record { out = output_in (root_t c).old; rows = map_t (λ (x : Cell). x.old) c }

-- One that is right the first time only: there is none. `ChainBy r`: rows that came from a layout by relayouts of r, each given what demand 3 asks.
pub data ChainBy (r : Relayout) : Tree Site → LayoutInput → Tree Row → Type 0 where
  laid_first : (t : Tree Site) (q : LayoutInput) → ChainBy r t q (fresh t q).rows
  laid_then : (t : Tree Both) (q p : LayoutInput) → ChainBy r (map_t was_site t) q (map_t old_of t) → AllT Honest t → LeavesT (map_t now_site t) → ChainBy r (map_t now_site t) p (r (map_t again t) p).rows

-- whatever has the first half leaves fresh rows along every chain
pub right_every_time : (r : Relayout) → FirstHalf r → (t : Tree Site) (q : LayoutInput) (rows : Tree Row) → ChainBy r t q rows → rows ≡ (fresh t q).rows
right_every_time r h _ _ _ (laid_first t q) = refl
right_every_time r h _ _ _ (laid_then t q p before honest leaves) = ap (λ (l : Laid). l.rows) (h t q p (right_every_time r h _ q _ before) honest leaves)

-- One that lays all out afresh has the first half, and not the second.
abbrev pub lays_afresh : Relayout
lays_afresh c q = fresh (map_t (λ (x : Cell). x.site) c) q

pub afresh_is_fresh : FirstHalf lays_afresh
afresh_is_fresh t q p e h v =
    ap (λ (s : Tree Site). fresh s p) (map_map_t (λ (x : Cell). x.site) again t) ∙ unmarked_fresh _ p
    ∙ ap (λ (s : Tree Site). fresh s p) (map_map_t unmarked (λ (l : Both). (again l).site) t)

-- a block that is kept, over a box of 5 or of 6
abbrev kept_old : Row
kept_old = root_t (fresh (node (site_by 0 wrap) none) asked).rows

abbrev twin : Style → Style → Row → Bool → Forest Two → Tree Two
twin a b r m ks = node (record { node = 0; one = a; two = b; old = r; edit = false; below = m }) ks

abbrev pub pages : Tree Two
pages = twin wrap wrap no_row false (more (twin wrap wrap kept_old false (more (twin (high 0x40a00000) (high 0x40c00000) no_row true none) none)) none)

pub pages_below : map_t below_of pages ≡ below_kept (map_t page1 pages) asked
unfolding steps under below_t below_kept
pages_below = refl

pub pages_agree : AllT Agree pages
unfolding AllT style_at
pages_agree = (
  record { style = λ _. refl; kind = refl; position = refl },
  ((record { style = λ _. refl; kind = refl; position = refl }, ((record { style = λ e. false_true true e refl; kind = refl; position = refl }, tt), tt)), tt),
)

-- What is supposed is needed. Below a node that is laid out styles are read: without the marks the second half fails.
abbrev pub unkept : Tree Two
unkept = twin wrap wrap no_row false (more (twin wrap wrap no_row false (more (twin (high 0x40a00000) (high 0x40c00000) no_row true none) none)) none)

pub unkept_agree : AllT Agree unkept
unfolding AllT style_at
unkept_agree = (
  record { style = λ _. refl; kind = refl; position = refl },
  ((record { style = λ _. refl; kind = refl; position = refl }, ((record { style = λ e. false_true true e refl; kind = refl; position = refl }, tt), tt)), tt),
)

-- A change below a block that the list does not name is missed: without an honest list the first half fails.
abbrev nest : Style → Tree Site
nest s = node (site_by 0 wrap) (more (node (site_by 1 wrap) (more (node (site_by 2 s) none) none)) none)

abbrev nest_rows : Tree Row
nest_rows = (fresh (nest (high 0x40a00000)) asked).rows

abbrev first_below : Tree Row → Tree Row
first_below t = first_f t (kids_t t)

abbrev unnamed : Tree Both
unnamed =
    node (record { node = 0; now = wrap; was = wrap; old = top_t nest_rows; edit = false })
    (more
    (node (record { node = 1; now = wrap; was = wrap; old = top_t (first_below nest_rows); edit = false })
    (more (node (record { node = 2; now = high 0x40c00000; was = high 0x40a00000; old = top_t (first_below (first_below nest_rows)); edit = false }) none) none))
    none)

unnamed_rows : map_t old_of unnamed ≡ (fresh (map_t was_site unnamed) asked).rows
unfolding steps
unnamed_rows = refl

unnamed_leaves : LeavesT (map_t now_site unnamed)
unfolding LeavesT map_t style_at word_at kind_of is_leaf
unnamed_leaves = ((λ e. false_true false refl e), (((λ e. false_true false refl e), (((λ _. refl), tt), tt)), tt))

pub unnamed_change_is_missed : ((t : Tree Both) (q p : LayoutInput) → map_t old_of t ≡ (fresh (map_t was_site t) q).rows → LeavesT (map_t now_site t) → relaid (map_t again t) p ≡ fresh (map_t now_site t) p) → ⊥
unfolding steps
unnamed_change_is_missed h =
    let z : ◌≡◌ {A = ℕ} 0x40a00000 0x40c00000 = ap (λ (l : Laid). to_bits binary32 (root_t l.rows).answer.size.height) (h unnamed asked asked unnamed_rows unnamed_leaves) in
    omega arith

-- Below a kept node kind is read: a block there, or a hidden node.
abbrev pub hidden : Style
hidden = style_at (1 ∷ 2 ∷ 0x5500000 ∷ 0x55 ∷ []) 0 [] 0

abbrev pub aside : Style
aside = style_at (1 ∷ 0x20 ∷ 0x5500000 ∷ 0x55 ∷ []) 0 [] 0

-- a kept block over a block in one page, over something else in the other
abbrev pub over : Style → Tree Two
over s = twin wrap wrap no_row false (more (twin wrap wrap kept_old false (more (twin wrap s no_row true none) none)) none)

pub record AgreeButKind (l : Two) : Type 0 where
  pub style : l.below ≡ false → l.one ≡ l.two
  pub position : l.one.position ≡ l.two.position

pub record AgreeButPosition (l : Two) : Type 0 where
  pub style : l.below ≡ false → l.one ≡ l.two
  pub kind : l.one.kind ≡ l.two.kind

pub over_below : (s : Style) → map_t below_of (over s) ≡ below_kept (map_t page1 (over s)) asked
unfolding steps under below_t below_kept
over_below s = refl

pub hidden_agree : AllT AgreeButKind (over hidden)
unfolding AllT style_at word_at
hidden_agree = (record { style = λ _. refl; position = refl }, ((record { style = λ _. refl; position = refl }, ((record { style = λ e. false_true true e refl; position = refl }, tt), tt)), tt))

pub aside_agree : AllT AgreeButPosition (over aside)
unfolding AllT style_at word_at
aside_agree = (record { style = λ _. refl; kind = refl }, ((record { style = λ _. refl; kind = refl }, ((record { style = λ e. false_true true e refl; kind = refl }, tt), tt)), tt))

-- Rows that no layout of the page left are believed: an empty block whose row is that of one with a box of 5 in it.
abbrev believed : Tree Both
believed = node (record { node = 0; now = wrap; was = wrap; old = no_row; edit = false }) (more (node (record { node = 1; now = wrap; was = wrap; old = top_t (first_below nest_rows); edit = false }) none) none)

believed_honest : AllT Honest believed
unfolding AllT
believed_honest = ((λ _. refl), (((λ _. refl), tt), tt))

believed_leaves : LeavesT (map_t now_site believed)
unfolding LeavesT map_t style_at word_at kind_of is_leaf
believed_leaves = ((λ e. false_true false refl e), (((λ _. refl), tt), tt))

pub old_rows_are_believed : ((t : Tree Both) (q p : LayoutInput) → AllT Honest t → LeavesT (map_t now_site t) → relaid (map_t again t) p ≡ fresh (map_t now_site t) p) → ⊥
unfolding steps
old_rows_are_believed h =
    let z : ◌≡◌ {A = ℕ} 0x40a00000 0 = ap (λ (l : Laid). to_bits binary32 (root_t l.rows).answer.size.height) (h believed asked asked believed_honest believed_leaves) in
    omega arith
