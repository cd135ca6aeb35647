-- What the calls answer to C: a word of two halves, and the memory that was lent.
use Rattle.scroll.specs.declared.ScrollRefusal.TheVariants.{NotFinite}
use Rattle.steps.specs.declared.Refusal.{Refusal}
use Rattle.scroll.specs.declared.ScrollRefusal.{ScrollRefusal}
use Rattle.geometry.specs.declared.Size.{Size}
use Rattle.std.specs.Prelude.{◌≡◌, List, [], ◌∷◌, ℕ, ℤ, Float, Option, Result, Ok, Err, Some, None}
use Rattle.asked.specs.Halves.{Halves}
use Rattle.steps.specs.Noes.{paper}
use Rattle.steps.specs.Results.{Reply, size_paper}
use Rattle.index.specs.Index.{Index, index_paper}
use Rattle.scroll.specs.Scroll.{scroll_paper}
use Rattle.coarse.specs.Coarse.{Panel, coarse_paper}

-- a layout or a relayout: the answer and every lent word
pub record Answered (want : Reply) (r : ℕ) (rows : List Float) (marks : List ℕ) (pairs : List ℕ) (triples : List Float) : Type 0 where
  pub answer_is : Halves (paper want.answer) r
  pub rows_are : rows ≡ want.rows
  pub marks_are : marks ≡ want.marks
  pub pairs_are : pairs ≡ want.words
  pub triples_are : triples ≡ want.numbers

-- a size question: the answer, and width and height
pub record Sized (want : Result (Size Float) Refusal) (r : ℕ) (size : List Float) : Type 0 where
  pub answer_is : Halves (size_paper want).0 r
  pub size_is : size ≡ (size_paper want).1.width ∷ (size_paper want).1.height ∷ []

-- an index: the answer and the three slices
pub record IndexAnswered (want : Index) (r : ℕ) (tops bottoms running : List Float) : Type 0 where
  pub answer_is : Halves (index_paper want.answer) r
  pub tops_are : tops ≡ want.tops
  pub bottoms_are : bottoms ≡ want.bottoms
  pub running_is : running ≡ want.running

-- what the scroll key leaves in its one word: the position, all ones for none, as lent if it is refused
unfoldable pub found_in : Result (Option ℕ) ScrollRefusal → List ℕ → List ℕ
found_in (Ok (Some k)) lent = k ∷ []
found_in (Ok None) lent = 0xffff_ffff_ffff_ffff ∷ []
found_in (Err NotFinite) lent = lent

pub record Scrolled (want : Result (Option ℕ) ScrollRefusal) (lent : List ℕ) (r : ℕ) (found : List ℕ) : Type 0 where
  pub answer_is : Halves (scroll_paper want).0 r
  pub found_is : found ≡ found_in want lent

-- the coarse panel: the answer and the output
pub record CoarseAnswered (want : Panel) (r : ℕ) (out : List ℤ) : Type 0 where
  pub answer_is : Halves (coarse_paper want.answer) r
  pub out_is : out ≡ want.out
