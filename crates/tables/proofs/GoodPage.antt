-- A table that passes the tree check is a tree's: the parser gives that tree, of at most 32 levels, and its entries are the table.
--     good-parse               of any labels whose sizes are the table's
--     good_page, good-cells    the page, and the page with its old rows
--     page_of_cells            the page is the page with its old rows, without them
use Rattle.std.specs.Prelude.{None}
use mathlib.Core.Path.{◌≡◌, refl, sym, ap, ◌∙◌}
use mathlib.Core.Bool.{false, Bool, true, ◌&&◌}
use mathlib.Core.List.{List, [], ◌∷◌, ◌++◌, map}
use Prim.Native.Nat.{ℕ, zero, suc, ◌+◌, ◌-◌, ◌<◌, ◌≤◌}
use native.Mathlib.Omega.{arith}
use lib.Dec.{eqb, ltb}
use borrow.Author.Tests.{ltb-false, ne_eqb}
use lib.ListN.{length, take, drop}
use lib.Ieee.{Float}
use lib.Seq.{take_at, drop_at}
use Rattle.tree.specs.Tree.{Forest, node, none, more, count_t, count_f, depth_t, depth_f, flat_t, flat_f, map_t, map_f}
use Rattle.tree.specs.Table.{Entry, entry_of, from, parse_f, parse_t}
use Rattle.tree.proofs.Laws.{count_t_node, flat_t_node, flat_f_none, flat_f_more, depth_t_node, depth_f_none, depth_f_more, map_t_node}
use Rattle.tree.proofs.Lists.{from_zero, from_suc, from-add, length_from}
use Rattle.tree.proofs.Parse.{entries_f, parse_more}
use Rattle.style.specs.Codes.{code_at, kind_of}
use Rattle.style.specs.Style.{word_at, style_at}
use Rattle.style.specs.Flow.{is_leaf}
use Rattle.steps.specs.Scan.{lowest}
use Rattle.steps.specs.Page.{Site, Cell, nodes_in, site_at, cell_at, page_of, cells_of}
use Rattle.steps.specs.Noes.{end_at, bad_tree}
use Rattle.tables.specs.Leaves.{LeavesT, LeavesF, leaf_word}
use Rattle.shape.specs.TreeCheck.{Front, node_fault}
use Rattle.tables.specs.TreeCheck.{GoodTable}
use Rattle.scans.specs.Scans.{Clear}
use Rattle.tables.proofs.ScanLaws.{lowest-nowhere}
use Rattle.shape.proofs.Fronts.{fine, bad-is, inside, beyond, below_root}
use Rattle.shape.proofs.CheckRoot.{root-whole, root-no-leaf}

-- what a table that passes is to a parser; p says which labels are leaves'
pub record Parsed {A : Type 0} (p : A → Bool) (f : ℕ → Entry A) (n : ℕ) : Type 0 where
  pub entries : from f 0 n ≡ flat_t entry_of (parse_t f n)
  pub shallow : depth_t (parse_t f n) ≤ 32
  pub count : count_t (parse_t f n) ≡ n
  pub leaves : LeavesT p (parse_t f n)

parse_none : {A : Type 0} (k : ℕ) → parse_f {A = A} k [] ≡ none
unfolding parse_f
parse_none zero = refl
parse_none (suc k) = refl

leaves_none : {A : Type 0} (p : A → Bool) → LeavesF p none
unfolding LeavesF
leaves_none p = tt

leaves_more : {A : Type 0} (p : A → Bool) (a : A) (ks us : Forest A) → (p a ≡ true → ks ≡ none) → LeavesF p ks → LeavesF p us → LeavesF p (more (node a ks) us)
unfolding LeavesF
leaves_more p a ks us h k u = ((h, k), u)

leaves_node : {A : Type 0} (p : A → Bool) (a : A) (ks : Forest A) → (p a ≡ true → ks ≡ none) → LeavesF p ks → LeavesT p (node a ks)
unfolding LeavesT
leaves_node p a ks h k = (h, k)

-- sizes and leaves as the table has them
module _ {A : Type 0} (ws : List ℕ) (f : ℕ → Entry A) (sizes : (i : ℕ) → (f i).size ≡ word_at ws i 0) (p : A → Bool) (leafy : (i : ℕ) → p (f i).label ≡ leaf_word (word_at ws i 1)) where
  -- the entries of a run, parsed, are that run; and it has at most d levels
  record Run (k i m d : ℕ) : Type 0 where
    flat : flat_f entry_of (parse_f k (from f i m)) ≡ from f i m
    depth : depth_f (parse_f k (from f i m)) ≤ d
    leaves : LeavesF p (parse_f k (from f i m))

  run_none : (k i d : ℕ) → Run k i 0 d
  run_none k i d =
      let e : parse_f k (from f i 0) ≡ none = ap (parse_f k) (from_zero f i) ∙ parse_none k in
      record { flat = rw (e, flat_f_none, from_zero); depth = rw (e, depth_f_none A) (omega arith); leaves = rw e (leaves_none p) }

  module _ (k i m s : ℕ) (size : (f i).size ≡ suc s) (fits : s ≤ m) where
    cut : from f (suc i) m ≡ from f (suc i) s ++ from f (suc i + s) (m - s)
    cut =
        let q : s + (m - s) ≡ m = omega arith in
        ap (from f (suc i)) (sym q) ∙ from-add f (suc i) s (m - s)

    parsed : parse_f (suc k) (from f i (suc m)) ≡ more (node (f i).label (parse_f k (from f (suc i) s))) (parse_f k (from f (suc i + s) (m - s)))
    parsed =
        let q : (f i).size - 1 ≡ s = omega arith in
        let t = take_at (from f (suc i) s) (from f (suc i + s) (m - s)) s (length_from f (suc i) s) in
        let d = drop_at (from f (suc i) s) (from f (suc i + s) (m - s)) s (length_from f (suc i) s) in
        ap (parse_f (suc k)) (from_suc f i m) ∙ parse_more k (f i) (from f (suc i) m) ∙ rw (q, cut, t, d)

    -- a leaf's run is itself
    no_kids : (leaf_word (word_at ws i 1) && ltb 1 (word_at ws i 0)) ≡ false → p (f i).label ≡ true → parse_f k (from f (suc i) s) ≡ none
    no_kids h e =
        let a : (true && ltb 1 (word_at ws i 0)) ≡ false = ap (λ (b : Bool). b && ltb 1 (word_at ws i 0)) (sym (sym (leafy i) ∙ e)) ∙ h in
        let b : word_at ws i 0 ≤ 1 = ltb-false 1 (word_at ws i 0) a in
        let c = sizes i in
        let q : s ≡ 0 = omega arith in
        rw q (ap (parse_f k) (from_zero f (suc i)) ∙ parse_none k)

    run_more : (d : ℕ) → 0 < d → (leaf_word (word_at ws i 1) && ltb 1 (word_at ws i 0)) ≡ false → Run k (suc i) s (d - 1) → Run k (suc i + s) (m - s) d → Run (suc k) i (suc m) d
    run_more d pos leaf a b =
        let c : count_f (parse_f k (from f (suc i) s)) ≡ s = sym (entries_f (parse_f k (from f (suc i) s))) ∙ ap length a.flat ∙ length_from f (suc i) s in
        let x = a.depth in
        let y = b.depth in
        record {
          flat = rw parsed (flat_f_more entry_of _ _ ∙ rw (flat_t_node, a.flat, b.flat, c, ← size) (sym (from_suc f i m ∙ ap (λ (l : List (Entry A)). f i ∷ l) cut)));
          depth = rw (parsed, depth_f_more, depth_t_node) (omega arith);
          leaves = rw parsed (leaves_more p (f i).label _ _ (no_kids leaf) a.leaves b.leaves);
        }

  -- one node more, given the runs of fewer
  run_step : (k i m d : ℕ) → ((j n c : ℕ) → n ≤ k → Front ws j (j + n) c → Clear (bad_tree ws) j n → Run k j n c)
      → m ≤ suc k → Front ws i (i + m) d → Clear (bad_tree ws) i m → Run (suc k) i m d
  run_step k i zero d ih le fr cl = run_none (suc k) i d
  run_step k i (suc m) d ih le fr cl =
      let lt : i < i + suc m = omega arith in
      let ok : node_fault (word_at ws i 0) (word_at ws i 1) (i + suc m - i) d ≡ false = sym (bad-is ws i (i + suc m) d fr lt) ∙ cl i (omega arith) lt in
      let g = fine _ _ _ _ ok in
      let h = g.has in
      let u = g.fits in
      let q : suc i ≡ i + 1 = omega arith in
      let e : suc i + (word_at ws i 0 - 1) ≡ end_at ws i = omega arith in
      let z : end_at ws i + (m - (word_at ws i 0 - 1)) ≡ i + suc m = omega arith in
      let c1 : Clear (bad_tree ws) (i + 1) (word_at ws i 0 - 1) = λ j a b. cl j (omega arith) (omega arith) in
      let f1 : Front ws (suc i) (suc i + (word_at ws i 0 - 1)) (d - 1) = rw (e, q) (inside ws i (i + suc m) d fr lt ok) in
      let f2 : Front ws (suc i + (word_at ws i 0 - 1)) (suc i + (word_at ws i 0 - 1) + (m - (word_at ws i 0 - 1))) d = rw (e, z) (beyond ws i (i + suc m) d fr lt ok c1) in
      run_more k i m (word_at ws i 0 - 1) (sizes i ∙ omega arith) (omega arith) d g.deep g.leaf
      (ih (suc i) (word_at ws i 0 - 1) (d - 1) (omega arith) f1 (λ j a b. cl j (omega arith) (omega arith)))
      (ih (suc i + (word_at ws i 0 - 1)) (m - (word_at ws i 0 - 1)) d (omega arith) f2 (λ j a b. cl j (omega arith) (omega arith)))

  run : (k i m d : ℕ) → m ≤ k → Front ws i (i + m) d → Clear (bad_tree ws) i m → Run k i m d
  run zero i m d le fr cl =
      let q : m ≡ 0 = omega arith in
      rw q (run_none 0 i d)
  run (suc k) i m d le fr cl = run_step k i m d (λ j n c. run k j n c) le fr cl

  parseT-is : (n : ℕ) → parse_t f n ≡ node (f 0).label (parse_f (n - 1) (from f 1 (n - 1)))
  unfolding parse_t
  parseT-is n = refl

  pub good-parse : 0 < nodes_in ws → lowest (bad_tree ws) (nodes_in ws) ≡ None → Parsed p f (nodes_in ws)
  good-parse some sound =
      let cl = lowest-nowhere (bad_tree ws) (nodes_in ws) sound in
      let whole : word_at ws 0 0 ≡ nodes_in ws = root-whole ws (cl 0 some) in
      let q : 1 + (nodes_in ws - 1) ≡ nodes_in ws = omega arith in
      let o : nodes_in ws ≡ suc (nodes_in ws - 1) = omega arith in
      let fr : Front ws 1 (1 + (nodes_in ws - 1)) 31 = rw q (below_root ws (nodes_in ws) whole some) in
      let r = run (nodes_in ws - 1) 1 (nodes_in ws - 1) 31 (omega arith) fr (λ j a b. cl j (omega arith)) in
      let d = r.depth in
      let c : count_f (parse_f (nodes_in ws - 1) (from f 1 (nodes_in ws - 1))) ≡ nodes_in ws - 1 = sym (entries_f (parse_f (nodes_in ws - 1) (from f 1 (nodes_in ws - 1)))) ∙ ap length r.flat ∙ length_from f 1 (nodes_in ws - 1) in
      let sz : (f 0).size ≡ suc (nodes_in ws - 1) = sizes 0 ∙ whole ∙ o in
      record {
        entries = ap (from f 0) o ∙ from_suc f 0 (nodes_in ws - 1) ∙ rw (parseT-is, flat_t_node, c, ← sz, r.flat);
        shallow = rw (parseT-is, depth_t_node) (omega arith);
        count = rw (parseT-is, count_t_node) (omega arith);
        leaves = rw parseT-is (leaves_node p (f 0).label _ (no_kids (nodes_in ws - 1) 0 (nodes_in ws - 1) (nodes_in ws - 1) sz (omega arith) (root-no-leaf ws (cl 0 some))) r.leaves);
      }

-- ---- the page, and the page with its old rows
abbrev pub leaf_site : Site → Bool
leaf_site l = is_leaf l.style.kind

abbrev pub leaf_cell : Cell → Bool
leaf_cell l = leaf_site l.site

pub record GoodPage (ws : List ℕ) (xs : List Float) (es : List ℕ) : Type 0 where
  pub entries : from (site_at ws xs es 0) 0 (nodes_in ws) ≡ flat_t entry_of (page_of ws xs es)
  pub shallow : depth_t (page_of ws xs es) ≤ 32
  pub count : count_t (page_of ws xs es) ≡ nodes_in ws
  pub leaves : LeavesT leaf_site (page_of ws xs es)

pub record GoodCells (ws : List ℕ) (xs rs : List Float) (ms es : List ℕ) : Type 0 where
  pub entries : from (cell_at ws xs rs ms es) 0 (nodes_in ws) ≡ flat_t entry_of (cells_of ws xs rs ms es)
  pub shallow : depth_t (cells_of ws xs rs ms es) ≤ 32
  pub count : count_t (cells_of ws xs rs ms es) ≡ nodes_in ws
  pub leaves : LeavesT leaf_cell (cells_of ws xs rs ms es)

pub site_size : (ws : List ℕ) (xs : List Float) (es : List ℕ) (i : ℕ) → (site_at ws xs es 0 i).size ≡ word_at ws i 0
unfolding site_at
site_size ws xs es i = refl

cell_size : (ws : List ℕ) (xs rs : List Float) (ms es : List ℕ) (i : ℕ) → (cell_at ws xs rs ms es i).size ≡ word_at ws i 0
unfolding cell_at site_at
cell_size ws xs rs ms es i = refl

leaf_kind : (k : ℕ) → is_leaf (kind_of k) ≡ eqb k 1
unfolding is_leaf kind_of
leaf_kind zero = refl
leaf_kind (suc zero) = refl
leaf_kind (suc (suc zero)) = refl
leaf_kind (suc (suc (suc n))) = sym (ne_eqb (suc (suc (suc n))) 1 (λ q. omega arith))

pub site_leaf : (ws : List ℕ) (xs : List Float) (es : List ℕ) (i : ℕ) → leaf_site (site_at ws xs es 0 i).label ≡ leaf_word (word_at ws i 1)
unfolding site_at style_at
site_leaf ws xs es i = leaf_kind (code_at (word_at ws i 1) 0)

cell_leaf : (ws : List ℕ) (xs rs : List Float) (ms es : List ℕ) (i : ℕ) → leaf_cell (cell_at ws xs rs ms es i).label ≡ leaf_word (word_at ws i 1)
unfolding cell_at
cell_leaf ws xs rs ms es i = site_leaf ws xs es i

page_of_parsed : (ws : List ℕ) (xs : List Float) (es : List ℕ) → Parsed leaf_site (site_at ws xs es 0) (nodes_in ws) → GoodPage ws xs es
unfolding page_of
page_of_parsed ws xs es p = record { entries = p.entries; shallow = p.shallow; count = p.count; leaves = p.leaves }

cells_of_parsed : (ws : List ℕ) (xs rs : List Float) (ms es : List ℕ) → Parsed leaf_cell (cell_at ws xs rs ms es) (nodes_in ws) → GoodCells ws xs rs ms es
unfolding cells_of
cells_of_parsed ws xs rs ms es p = record { entries = p.entries; shallow = p.shallow; count = p.count; leaves = p.leaves }

module _ (ws : List ℕ) (good : GoodTable ws) where
  pub good_page : (xs : List Float) (es : List ℕ) → GoodPage ws xs es
  good_page xs es = page_of_parsed ws xs es (good-parse ws (site_at ws xs es 0) (site_size ws xs es) leaf_site (site_leaf ws xs es) good.some good.sound)

  pub good-cells : (xs rs : List Float) (ms es : List ℕ) → GoodCells ws xs rs ms es
  good-cells xs rs ms es = cells_of_parsed ws xs rs ms es (good-parse ws (cell_at ws xs rs ms es) (cell_size ws xs rs ms es) leaf_cell (cell_leaf ws xs rs ms es) good.some good.sound)

-- ---- labels changed before or after parsing
module _ {A B : Type 0} (g : A → B) where
  abbrev relabel : Entry A → Entry B
  relabel e = record { size = e.size; label = g e.label }

  take-map : (n : ℕ) (l : List (Entry A)) → take n (map relabel l) ≡ map relabel (take n l)
  take-map zero l = refl
  take-map (suc n) [] = refl
  take-map (suc n) (e ∷ l) = ap (λ (r : List (Entry B)). relabel e ∷ r) (take-map n l)

  drop-map : (n : ℕ) (l : List (Entry A)) → drop n (map relabel l) ≡ map relabel (drop n l)
  drop-map zero l = refl
  drop-map (suc n) [] = refl
  drop-map (suc n) (e ∷ l) = drop-map n l

  map-parse : (k : ℕ) (l : List (Entry A)) → parse_f k (map relabel l) ≡ map_f g (parse_f k l)
  unfolding parse_f map_f
  map-parse zero l = refl
  map-parse (suc k) [] = refl
  map-parse (suc k) (e ∷ l) =
      ap (λ (r : List (Entry B)). more (node (g e.label) (parse_f k r)) (parse_f k (drop (e.size - 1) (map relabel l)))) (take-map (e.size - 1) l)
      ∙ ap (λ (r : List (Entry B)). more (node (g e.label) (parse_f k (map relabel (take (e.size - 1) l)))) (parse_f k r)) (drop-map (e.size - 1) l)
      ∙ ap (λ (r : Forest B). more (node (g e.label) r) (parse_f k (map relabel (drop (e.size - 1) l)))) (map-parse k (take (e.size - 1) l))
      ∙ ap (λ (r : Forest B). more (node (g e.label) (map_f g (parse_f k (take (e.size - 1) l)))) r) (map-parse k (drop (e.size - 1) l))

  from-map : (f : ℕ → Entry A) (h : ℕ → Entry B) → ((i : ℕ) → h i ≡ relabel (f i)) → (i n : ℕ) → from h i n ≡ map relabel (from f i n)
  unfolding from
  from-map f h e i zero = refl
  from-map f h e i (suc n) = rw (e i) (ap (λ (r : List (Entry B)). relabel (f i) ∷ r) (from-map f h e (suc i) n))

  pub parse-relabel : (f : ℕ → Entry A) (h : ℕ → Entry B) → ((i : ℕ) → h i ≡ relabel (f i)) → (n : ℕ) → parse_t h n ≡ map_t g (parse_t f n)
  unfolding parse_t
  parse-relabel f h e n =
      rw (map_t_node g, ← map-parse (n - 1) (from f 1 (n - 1)), ← from-map f h e 1 (n - 1)) (ap (λ (x : Entry B). node x.label (parse_f (n - 1) (from h 1 (n - 1)))) (e 0))

pub page_of_cells : (ws : List ℕ) (xs rs : List Float) (ms es : List ℕ) → page_of ws xs es ≡ map_t (λ (l : Cell). l.site) (cells_of ws xs rs ms es)
unfolding page_of cells_of cell_at
page_of_cells ws xs rs ms es = parse-relabel (λ (l : Cell). l.site) (cell_at ws xs rs ms es) (site_at ws xs es 0) (λ i. refl) (nodes_in ws)
