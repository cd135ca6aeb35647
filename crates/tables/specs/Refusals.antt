-- What each answer of the tests is given for: the column 'given exactly if' of document 01, and the place. An answer's line says that no earlier test refuses.
use Rattle.steps.specs.declared.Refusal.TheVariants.{Lengths, Tree, Codes, Numbers, Room, Edits, NotLaid, TooLarge}
use Rattle.steps.specs.declared.Refusal.{Refusal}
use Rattle.std.specs.Prelude.{◌≡◌, Bool, true, false, ◌||◌, List, [], ℕ, ◌<◌, ◌≤◌, min, length, get_or, Float, Result, Ok, Err, ⊤}
use Rattle.style.specs.Codes.{flag_at}
use Rattle.steps.specs.Page.{nodes_in, page_of}
use Rattle.steps.specs.Candidates.{needed}
use Rattle.steps.specs.Noes.{bad_tables, bad_rows, bad_tree, bad_style, bad_numbers, bad_question, bad_edit, records_in}
use Rattle.steps.specs.declared.LayoutInput.{LayoutInput}

-- place k is at fault, and no lower one
pub record Lowest (p : ℕ → Bool) (n k : ℕ) : Type 0 where
  pub within : k < n
  pub fault : p k ≡ true
  pub lower : (j : ℕ) → j < k → p j ≡ false

-- no place is
abbrev pub Sound : (ℕ → Bool) → ℕ → Type 0
Sound p n = (j : ℕ) → j < n → p j ≡ false

-- 4: the lowest node; n for the question
pub data NumbersAt (ws : List ℕ) (xs : List Float) (q : LayoutInput) (k : ℕ) : Type 0 where
  of_node : Lowest (bad_numbers ws xs) (nodes_in ws) k → NumbersAt ws xs q k
  of_question : Sound (bad_numbers ws xs) (nodes_in ws) → bad_question q ≡ true → k ≡ nodes_in ws → NumbersAt ws xs q k

-- 6: the first bad index among the first 64, else 64
pub data EditsAt (es : List ℕ) (n k : ℕ) : Type 0 where
  of_edit : Lowest (bad_edit es n) (min 64 (length es)) k → EditsAt es n k
  too_many : Sound (bad_edit es n) (min 64 (length es)) → 64 < length es → k ≡ 64 → EditsAt es n k

-- none of 2 to 4 is due
pub record PageSound (ws : List ℕ) (xs : List Float) (q : LayoutInput) : Type 0 where
  pub tree : Sound (bad_tree ws) (nodes_in ws)
  pub codes : Sound (bad_style ws xs) (nodes_in ws)
  pub numbers : Sound (bad_numbers ws xs) (nodes_in ws)
  pub question : bad_question q ≡ false

-- 6 is not due
pub record EditsSound (es : List ℕ) (n : ℕ) : Type 0 where
  pub named : Sound (bad_edit es n) (length es)
  pub few : length es ≤ 64

-- 1 to 4, given whether 1 is due
abbrev pub PageDue : Bool → List ℕ → List Float → LayoutInput → Refusal → Type 0
PageDue misfit ws xs q Lengths = misfit ≡ true
PageDue misfit ws xs q (Tree i) = (misfit ≡ false) × Lowest (bad_tree ws) (nodes_in ws) i.0
PageDue misfit ws xs q (Codes i) = (misfit ≡ false) × Sound (bad_tree ws) (nodes_in ws) × Lowest (bad_style ws xs) (nodes_in ws) i.0
PageDue misfit ws xs q (Numbers k) = (misfit ≡ false) × Sound (bad_tree ws) (nodes_in ws) × Sound (bad_style ws xs) (nodes_in ws) × NumbersAt ws xs q k
PageDue misfit ws xs q Room = ⊥
PageDue misfit ws xs q (Edits k) = ⊥
PageDue misfit ws xs q NotLaid = ⊥
PageDue misfit ws xs q (TooLarge i) = ⊥

-- a size question
abbrev pub SizeDue : List ℕ → List Float → LayoutInput → Result ⊤ Refusal → Type 0
SizeDue ws xs q (Ok _) = (bad_tables ws xs ≡ false) × PageSound ws xs q
SizeDue ws xs q (Err a) = PageDue (bad_tables ws xs) ws xs q a

module _ (ws : List ℕ) (xs rs : List Float) (ms cw : List ℕ) (cx : List Float) where
  -- 1 with rows
  abbrev pub misfit : Bool
  misfit = bad_tables ws xs || bad_rows ws rs ms

  -- 5 is due
  abbrev pub Scarce : Type 0
  Scarce = records_in cw cx < needed (page_of ws xs [])

  -- a layout that passes
  pub record LayoutSound (q : LayoutInput) : Type 0 where
    pub lengths : misfit ≡ false
    pub page : PageSound ws xs q
    pub room : needed (page_of ws xs []) ≤ records_in cw cx

  -- a layout's refusals
  abbrev pub LayoutRefused : LayoutInput → Refusal → Type 0
  LayoutRefused q Lengths = misfit ≡ true
  LayoutRefused q (Tree i) = PageDue misfit ws xs q (Tree i)
  LayoutRefused q (Codes i) = PageDue misfit ws xs q (Codes i)
  LayoutRefused q (Numbers k) = PageDue misfit ws xs q (Numbers k)
  LayoutRefused q Room = (misfit ≡ false) × PageSound ws xs q × Scarce
  LayoutRefused q (Edits k) = ⊥
  LayoutRefused q NotLaid = ⊥
  LayoutRefused q (TooLarge i) = ⊥

  abbrev pub LayoutDue : LayoutInput → Result ⊤ Refusal → Type 0
  LayoutDue q (Ok _) = LayoutSound q
  LayoutDue q (Err a) = LayoutRefused q a

  -- a relayout's
  abbrev pub RelayoutRefused : List ℕ → LayoutInput → Refusal → Type 0
  RelayoutRefused es q Lengths = LayoutRefused q Lengths
  RelayoutRefused es q (Tree i) = LayoutRefused q (Tree i)
  RelayoutRefused es q (Codes i) = LayoutRefused q (Codes i)
  RelayoutRefused es q (Numbers k) = LayoutRefused q (Numbers k)
  RelayoutRefused es q Room = LayoutRefused q Room
  RelayoutRefused es q (Edits k) = LayoutSound q × EditsAt es (nodes_in ws) k
  RelayoutRefused es q NotLaid = LayoutSound q × EditsSound es (nodes_in ws) × (flag_at (get_or ms 1 0) 0 ≡ false)
  RelayoutRefused es q (TooLarge i) = ⊥

  abbrev pub RelayoutDue : List ℕ → LayoutInput → Result ⊤ Refusal → Type 0
  RelayoutDue es q (Ok _) = LayoutSound q × EditsSound es (nodes_in ws) × (flag_at (get_or ms 1 0) 0 ≡ true)
  RelayoutDue es q (Err a) = RelayoutRefused es q a
