-- What is known of the slices that an accepted make_index left.
--     scroll-exactly-of    the scroll key over them finds the first leaf whose bottom is a greater number than y
--     top-stays, bottom-stays    an entry's edges, over two row tables
--     lent-aside           nothing of what was lent is left
use Rattle.std.specs.Prelude.{Option, Result, Ok, ⊤, Err}
use Rattle.scroll.specs.declared.ScrollRefusal.{ScrollRefusal}
use Rattle.index.specs.declared.IndexRefusal.TheVariants.{Plain, BadEntry}
use Rattle.index.specs.declared.IndexRefusal.{IndexRefusal}
use mathlib.Core.Path.{◌≡◌, refl, sym, ap, ◌∙◌}
use mathlib.Core.List.{List, map}
use Prim.Native.Nat.{ℕ, ◌<◌}
use native.Mathlib.Omega.{arith}
use lib.ListN.{length, get_or, length-map, get_or-map}
use lib.Ieee.{Float}
use Rattle.geometry.specs.Geometry.{zero_f}
use Rattle.lent.proofs.Reading.{get_d_any}
use Rattle.steps.specs.Page.{nodes_in}
use Rattle.tables.specs.TreeCheck.{GoodTable}
use Rattle.tables.proofs.Exactly.{Exactly}
use Rattle.edges.specs.Edges.{row_number, SamePlaces}
use Rattle.edges.proofs.Outward.{edge_stays}
use Rattle.edges.proofs.OfTree.{edge_is}
use Rattle.scroll.specs.Running.{running_of}
use Rattle.scroll.specs.Scroll.{scroll_answer, ScrollDue}
use Rattle.scroll.proofs.FirstMatch.{scroll_exactly}
use Rattle.index.specs.Index.{Index, top_at, bottom_at, bottoms_of, index_of, index_answer, by_answer, index_result, Indexed}
use Rattle.index.proofs.Making.{accepted}

-- only an accepted call answers Made
only_made : (a : Result ⊤ IndexRefusal) (new : Index) (ts bs ls : List Float) → Ok tt ≡ (by_answer a new ts bs ls).answer → a ≡ Ok tt
unfolding by_answer
only_made (Ok _) new ts bs ls e = refl
only_made (Err a) new ts bs ls e = sym e

module _ (ws : List ℕ) (rs : List Float) (ms list : List ℕ) (ts bs ls : List Float) where
  pub was-made : (ts' bs' ls' : List Float) → Indexed (index_result ws rs ms list ts bs ls) (Ok tt) ts' bs' ls' → index_answer ws rs ms list (length ts) (length bs) (length ls) ≡ Ok tt
  unfolding index_result
  was-made ts' bs' ls' h = only_made (index_answer ws rs ms list (length ts) (length bs) (length ls)) (index_of ws rs list) ts bs ls h.answer_is

  -- an index that is made is that of the list, whatever was lent for it
  pub lent-aside : index_answer ws rs ms list (length ts) (length bs) (length ls) ≡ Ok tt → index_result ws rs ms list ts bs ls ≡ index_of ws rs list
  unfolding index_result by_answer
  lent-aside e = rw e

  module _ (ts' bs' ls' : List Float) (call : Indexed (index_result ws rs ms list ts bs ls) (Ok tt) ts' bs' ls') where
    result-is : index_result ws rs ms list ts bs ls ≡ index_of ws rs list
    result-is = lent-aside (was-made ts' bs' ls' call)

    pub tops-left : ts' ≡ map (top_at ws rs) list
    unfolding index_of
    tops-left = call.tops_are ∙ ap (λ (x : Index). x.tops) result-is

    pub bottoms-left : bs' ≡ bottoms_of ws rs list
    unfolding index_of
    bottoms-left = call.bottoms_are ∙ ap (λ (x : Index). x.bottoms) result-is

    pub running-left : ls' ≡ running_of bs'
    unfolding index_of
    running-left = call.running_is ∙ ap (λ (x : Index). x.running) result-is ∙ ap running_of (sym bottoms-left)

    -- from any rows whatever, NaN included
    pub scroll-exactly-of : (y : Float) (a : Result (Option ℕ) ScrollRefusal) → Exactly (scroll_answer ls' y ≡ a) (ScrollDue bs' y a)
    scroll-exactly-of y a =
        let e = scroll_exactly bs' y a in
        rw running-left (record { only = e.0; given = e.1 })

    nodes-left : (k : ℕ) → k < length list → get_or list k 0 < nodes_in ws
    nodes-left = (accepted ws rs ms list ts bs ls (was-made ts' bs' ls' call)).nodes

    good_left : GoodTable ws
    good_left = (accepted ws rs ms list ts bs ls (was-made ts' bs' ls' call)).good

-- ---- edges that stay
at_entry : (f : ℕ → Float) (list : List ℕ) (k : ℕ) → k < length list → get_or (map f list) k zero_f ≡ f (get_or list k 0)
at_entry f list k h =
    let n = length-map list f in
    get_d_any (map f list) k zero_f (f 0) (omega arith) ∙ get_or-map f list k 0

top_same : (ws : List ℕ) (rs rs' : List Float) (i : ℕ) → GoodTable ws → i < nodes_in ws → SamePlaces ws rs rs' 1 i → top_at ws rs i ≡ top_at ws rs' i
unfolding top_at
top_same ws rs rs' i g l h = sym (edge_is ws rs 1 i g l) ∙ edge_stays ws rs rs' 1 i h ∙ edge_is ws rs' 1 i g l

bottom_same : (ws : List ℕ) (rs rs' : List Float) (i : ℕ) → GoodTable ws → i < nodes_in ws → SamePlaces ws rs rs' 1 i → row_number rs i 3 ≡ row_number rs' i 3 → bottom_at ws rs i ≡ bottom_at ws rs' i
unfolding bottom_at
bottom_same ws rs rs' i g l h q = rw (top_same ws rs rs' i g l h, q)

-- two indexes of one list over one page's words, from two row tables
module _ (ws : List ℕ) (rs rs' : List Float) (ms ms' list : List ℕ) (ts bs ls ts' bs' ls' : List Float)
    (t b l : List Float) (call : Indexed (index_result ws rs ms list ts bs ls) (Ok tt) t b l)
    (t' b' l' : List Float) (call' : Indexed (index_result ws rs' ms' list ts' bs' ls') (Ok tt) t' b' l')
    (k : ℕ) (within : k < length list) (places : SamePlaces ws rs rs' 1 (get_or list k 0)) where
  -- no place y at or above the leaf changed: its top stays
  pub top-stays : get_or t k zero_f ≡ get_or t' k zero_f
  top-stays =
      ap (λ (x : List Float). get_or x k zero_f) (tops-left ws rs ms list ts bs ls t b l call) ∙ at_entry (top_at ws rs) list k within
      ∙ top_same ws rs rs' (get_or list k 0) (good_left ws rs ms list ts bs ls t b l call) (nodes-left ws rs ms list ts bs ls t b l call k within) places
      ∙ sym (ap (λ (x : List Float). get_or x k zero_f) (tops-left ws rs' ms' list ts' bs' ls' t' b' l' call') ∙ at_entry (top_at ws rs') list k within)

  -- nor its own height: its bottom stays
  pub bottom-stays : row_number rs (get_or list k 0) 3 ≡ row_number rs' (get_or list k 0) 3 → get_or b k zero_f ≡ get_or b' k zero_f
  bottom-stays q =
      ap (λ (x : List Float). get_or x k zero_f) (bottoms-left ws rs ms list ts bs ls t b l call) ∙ at_entry (bottom_at ws rs) list k within
      ∙ bottom_same ws rs rs' (get_or list k 0) (good_left ws rs ms list ts bs ls t b l call) (nodes-left ws rs ms list ts bs ls t b l call k within) places q
      ∙ sym (ap (λ (x : List Float). get_or x k zero_f) (bottoms-left ws rs' ms' list ts' bs' ls' t' b' l' call') ∙ at_entry (bottom_at ws rs') list k within)
