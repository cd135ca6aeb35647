-- The loop over the children of a container: what is left of them, which still has its old rows, and one turn.
use mathlib.Core.Path.{◌≡◌, refl, sym, ap, ◌∙◌}
use mathlib.Core.List.{List, ◌++◌, append_assoc}
use Prim.Native.Nat.{ℕ, suc, ◌+◌, ◌*◌, ◌-◌, ◌<◌, ◌≤◌}
use native.Mathlib.Omega.{arith}
use lib.ListN.{length, take, drop}
use lib.Ieee.{Float}
use borrow.Rule.Slice.PartMut.{put_mid}
use Rattle.style.specs.Style.{word_at}
use Rattle.tree.specs.Tree.{Tree, Forest, node, none, more, count_t, count_f, depth_t, depth_f, flat_f, map_t, map_f}
use Rattle.tree.proofs.Laws.{count_t_node, flat_f_none, flat_f_more, map_f_none, map_f_more, depth_t_node, depth_f_more, length-flatT}
use Rattle.steps.specs.Row.{row_numbers, row_words}
use Rattle.steps.specs.Stack.{start_of}
use Rattle.steps.specs.Page.{Cell, site_at, staying}
use Rattle.steps.specs.Layout.{lay_f}
use Rattle.steps.specs.declared.Frame.{Frame}
use Rattle.steps.specs.declared.Cursor.{Cursor}
use Rattle.steps.proofs.Clauses.{lay_f_none}
use Rattle.walks.specs.Tables.{old_numbers, old_words, new_numbers, new_words, TabledT}
use Rattle.walks.proofs.Parts.{Left, child_of, kids_sites, left_none, left_some, tree_facts}
use Rattle.heights.specs.Leaves.{stack_leaves}
use Rattle.heights.specs.declared.StackOutput.{StackOutput}
use Rattle.compute.specs.Contract.{AreT, StackIs}
use Rattle.compute.proofs.Placed.{placed_t}
use Rattle.compute.proofs.OneChild.{lay_f_more, and_then, counts_more}
use Rattle.compute.proofs.Shape.{sizes_placed, sizes_map, same_count_t}

-- of the children ts of a node whose own row has the numbers hr and the words hm
pub record Rest (ws : List ℕ) (xs rs : List Float) (ms es : List ℕ) (b : ℕ) (f : Frame) (hr : List Float) (hm : List ℕ) (ts : Forest Cell) (c : Cursor) (a : ℕ) : Type 0 where
  pub left : Forest Cell
  pub q : List Float
  pub p : List ℕ
  pub here : Left ws xs rs ms es b a left q p
  pub shallow : (d : ℕ) → depth_f ts ≤ d → depth_f left ≤ d
  pub end_same : (lay_f (map_f staying ts) f (start_of f)).last ≡ (lay_f (map_f staying left) f c).last
  pub rows_done : hr ++ flat_f new_numbers (lay_f (map_f staying ts) f (start_of f)).rows ≡ q ++ flat_f new_numbers (lay_f (map_f staying left) f c).rows
  pub marks_done : hm ++ flat_f new_words (lay_f (map_f staying ts) f (start_of f)).rows ≡ p ++ flat_f new_words (lay_f (map_f staying left) f c).rows

abbrev pub RestT : List ℕ → List Float → List Float → List ℕ → List ℕ → ℕ → Frame → Tree Cell → Cursor → ℕ → Type 0
RestT ws xs rs ms es b f (node l ks) c a = Rest ws xs rs ms es b f (row_numbers l.old) (row_words l.old) ks c a

-- nothing is done but the node's own row
pub begin : (ws : List ℕ) (xs rs : List Float) (ms es : List ℕ) (b : ℕ) (f : Frame) (c : Cursor) → c ≡ start_of f → (t : Tree Cell) → TabledT ws xs rs ms es b t → RestT ws xs rs ms es b f t c 1
begin ws xs rs ms es b f c e (node l ks) h =
    let k = tree_facts ws xs rs ms es b l ks h in
    let one : count_t (node l ks) ≡ suc (count_f ks) = count_t_node l ks in
    record {
      left = ks;
      q = row_numbers l.old;
      p = row_words l.old;
      here = record {
        words_long = h.words_long ∙ omega arith;
        sites_left = kids_sites (site_at ws xs es b) 0 l ks h.sites_are;
        rows_split = k.rows_head;
        q_long = refl;
        marks_split = k.marks_head;
        p_long = refl;
      };
      shallow = λ d z. z;
      end_same = rw e refl;
      rows_done = rw e refl;
      marks_done = rw e refl;
    }

pub record Turn (ws : List ℕ) (xs rs : List Float) (ms es : List ℕ) (b : ℕ) (f : Frame) (t : Tree Cell) (c : Cursor) (a e : ℕ) : Type 0 where
  pub some : a < e
  pub words_in_lem : 4 * e ≤ length ws
  pub rows_long : length rs ≡ 4 * length ws
  pub marks_long : 2 * length ms ≡ length ws
  pub tree : Tree Cell
  pub tabled : TabledT (take (4 * e - 4 * a) (drop (4 * a) ws)) xs (take (16 * e - 16 * a) (drop (16 * a) rs)) (take (2 * e - 2 * a) (drop (2 * a) ms)) es (b + a) tree
  pub shallow : (d : ℕ) → depth_t t ≤ d → depth_t tree ≤ d - 1
  pub count_is : a + count_t tree ≡ e
  pub counted : (c' : Cursor) → c' ≡ (placed_t f c (map_t staying tree)).last → (c'.count ≡ c.count + 1) × (c'.shown.0 ≤ c.shown.0 + 1)
  pub next : (c' : Cursor) (nr : List Float) (nm : List ℕ) → (c' ≡ (placed_t f c (map_t staying tree)).last) × AreT nr nm (placed_t f c (map_t staying tree)).rows
      → RestT ws xs (put_mid (16 * a) (16 * e - 16 * a) rs nr) (put_mid (2 * a) (2 * e - 2 * a) ms nm) es b f t c' e

module _ (ws : List ℕ) (xs rs : List Float) (ms es : List ℕ) (b : ℕ) (f : Frame) (root : Cell) (ts : Forest Cell) (c : Cursor) (a e : ℕ) (ed : e ≡ a + word_at ws a 0) where
  turn_of : (left : Forest Cell) (q : List Float) (p : List ℕ) → Left ws xs rs ms es b a left q p → ((d : ℕ) → depth_f ts ≤ d → depth_f left ≤ d)
      → (lay_f (map_f staying ts) f (start_of f)).last ≡ (lay_f (map_f staying left) f c).last
      → row_numbers root.old ++ flat_f new_numbers (lay_f (map_f staying ts) f (start_of f)).rows ≡ q ++ flat_f new_numbers (lay_f (map_f staying left) f c).rows
      → row_words root.old ++ flat_f new_words (lay_f (map_f staying ts) f (start_of f)).rows ≡ p ++ flat_f new_words (lay_f (map_f staying left) f c).rows → 4 * a < length ws → Turn ws xs rs ms es b f (node root ts) c a e
  turn_of none q p h sh se dr dm lt = absurd (left_some ws xs rs ms es b a q p h lt)
  turn_of (more (node l ks) us) q p h sh se dr dm lt =
      let t : Tree Cell = node l ks in
      let k = child_of ws xs rs ms es b a e l ks us q p h ed in
      let u = map_t staying t in
      let lay : lay_f (map_f staying (more t us)) f c ≡ and_then (placed_t f c u) (lay_f (map_f staying us) f) = ap (λ z. lay_f z f c) (map_f_more staying t us) ∙ lay_f_more u (map_f staying us) f c in
      let n : count_t (placed_t f c u).rows ≡ count_t t = same_count_t _ t (sizes_placed f c u ∙ sizes_map staying t) in
      record {
        some = k.some;
        words_in_lem = k.words_in_lem;
        rows_long = k.rows_long;
        marks_long = k.marks_long;
        tree = t;
        tabled = k.tabled;
        shallow = λ d hd. let y = simp depth_t_node at hd in let z = simp depth_f_more at (sh (d - 1) (omega arith)) in omega arith;
        count_is = sym k.size_is;
        counted = λ c' hc. rw hc (counts_more f c u);
        next = λ c' nr nm hh.
            let nr2 = hh.1.0 in
            let nm2 = hh.1.1 in
            record {
              left = us;
              q = q ++ nr;
              p = p ++ nm;
              here = k.next nr nm (ap length nr2 ∙ length-flatT new_numbers 16 (λ _ _. refl) (placed_t f c u).rows ∙ ap (λ (i : ℕ). 16 * i) n) (ap length nm2 ∙ length-flatT new_words 2 (λ _ _. refl) (placed_t f c u).rows ∙ ap (λ (i : ℕ). 2 * i) n);
              shallow = λ d hd. let z = simp depth_f_more at (sh d hd) in omega arith;
              end_same = se ∙ ap (λ s. s.last) lay ∙ ap (λ (z : Cursor). (lay_f (map_f staying us) f z).last) (sym hh.0);
              rows_done = dr ∙ ap (λ s. q ++ flat_f new_numbers s.rows) lay ∙ rw (flat_f_more, ← nr2, ← hh.0) (sym (append_assoc q nr _));
              marks_done = dm ∙ ap (λ s. p ++ flat_f new_words s.rows) lay ∙ rw (flat_f_more, ← nm2, ← hh.0) (sym (append_assoc p nm _));
            };
      }

pub turn : (ws : List ℕ) (xs rs : List Float) (ms es : List ℕ) (b : ℕ) (f : Frame) (t : Tree Cell) (c : Cursor) (a e : ℕ) → e ≡ a + word_at ws a 0 → RestT ws xs rs ms es b f t c a → 4 * a < length ws → Turn ws xs rs ms es b f t c a e
turn ws xs rs ms es b f (node l ks) c a e ed s = turn_of ws xs rs ms es b f l ks c a e ed s.left s.q s.p s.here s.shallow s.end_same s.rows_done s.marks_done

-- all children are done: what the stack leaves, and the rows below the node's own
module _ (ws : List ℕ) (xs rs : List Float) (ms es : List ℕ) (b : ℕ) (f : Frame) (l : Cell) (ts : Forest Cell) (c : Cursor) (a : ℕ) (out : StackOutput) (le : length ws ≤ 4 * a) (ho : out ≡ stack_leaves f c) where
  end_of : (left : Forest Cell) (q : List Float) (p : List ℕ) → Left ws xs rs ms es b a left q p
      → (lay_f (map_f staying ts) f (start_of f)).last ≡ (lay_f (map_f staying left) f c).last
      → row_numbers l.old ++ flat_f new_numbers (lay_f (map_f staying ts) f (start_of f)).rows ≡ q ++ flat_f new_numbers (lay_f (map_f staying left) f c).rows
      → row_words l.old ++ flat_f new_words (lay_f (map_f staying ts) f (start_of f)).rows ≡ p ++ flat_f new_words (lay_f (map_f staying left) f c).rows
      → StackIs f l.old (lay_f (map_f staying ts) f (start_of f)) out rs ms
  end_of none q p h se dr dm =
      let lay : lay_f (map_f staying none) f c ≡ record { last = c; rows = none } = ap (λ z. lay_f z f c) (map_f_none staying) ∙ lay_f_none f c in (
        ho ∙ ap (stack_leaves f) (sym (se ∙ ap (λ s. s.last) lay)),
        (
          h.rows_split ∙ ap (λ (z : List Float). q ++ z) (flat_f_none old_numbers ∙ sym (ap (λ s. flat_f new_numbers s.rows) lay ∙ flat_f_none new_numbers)) ∙ sym dr,
          h.marks_split ∙ ap (λ (z : List ℕ). p ++ z) (flat_f_none old_words ∙ sym (ap (λ s. flat_f new_words s.rows) lay ∙ flat_f_none new_words)) ∙ sym dm,
        ),
      )
  end_of (more t us) q p h se dr dm = absurd (left_none ws xs rs ms es b a t us q p h le)

  pub end : RestT ws xs rs ms es b f (node l ts) c a → StackIs f l.old (lay_f (map_f staying ts) f (start_of f)) out rs ms
  end s = end_of s.left s.q s.p s.here s.end_same s.rows_done s.marks_done

-- at the start nothing is counted
pub start_counts : (f : Frame) (c : Cursor) → c ≡ start_of f → (c.count ≤ 0) × (c.shown.0 ≤ 0)
unfolding start_of
start_counts f c e = (omega (arith, ap (λ (z : Cursor). z.count) e), omega (arith, ap (λ (z : Cursor). z.shown.0) e))
