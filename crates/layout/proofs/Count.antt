-- The room that refusal 5 asks for holds every record: no layout or relayout has more candidates than are needed.
use Rattle.std.specs.Prelude.{Option, None, Some}
use mathlib.Core.Path.{◌≡◌, refl, sym, ap, ◌∙◌}
use mathlib.Core.Bool.{Bool, true, false, cond, not}
use mathlib.Core.List.{List, [], ◌∷◌, map}
use Prim.Native.Nat.{ℕ, suc, ◌+◌, ◌*◌, ◌/◌, ◌%◌, ◌≤◌}
use native.Mathlib.Omega.{arith}
use lib.ListN.{length, length-append, length-map}
use lib.Dec.{eqb}
use lib.Ieee.{Float}
use Rattle.geometry.specs.Geometry.{zero_f}
use Rattle.geometry.specs.declared.Point.{Point}
use Rattle.limits.specs.Bools.{and_fst, and_snd}
use Rattle.tree.specs.Tree.{Tree, Forest, node, none, more, count_t, map_t, map_f, on_root, root_t}
use Rattle.style.specs.Flow.{is_leaf, flow_of}
use Rattle.steps.specs.Stack.{question_to, item_of, place_of, stepped, edges_of, line_of, past_aside, past_hidden}
use Rattle.steps.specs.Row.{Row, bare, no_row, hidden_row, aside_row, noted, with_code, put_at, lowered, is_laid, is_out}
use Rattle.steps.specs.Page.{Cell, Node, any_t}
use Rattle.steps.specs.Probe.{width_pass}
use Rattle.steps.specs.Kept.{final_stands, edited_node, kept, keep, kept_row, laid_bits, below_row, fix_t, fix_f, zeros_t, zeros_f}
use Rattle.steps.specs.Layout.{Stacked, lay_t, lay_f, ask_t, skip, aside, place, lower_f, align_f, relaid}
use Rattle.steps.specs.Candidates.{Candidate, candidate_of, moved_by, candidates_at, candidates, candidates_t, candidates_f, needed_t, needed_f, needed}
use Rattle.style.specs.declared.Flow.{Flow}
use Rattle.style.specs.declared.Flow.TheVariants.{Gone, Out, In}
use Rattle.steps.specs.declared.LayoutInput.{LayoutInput}
use Rattle.steps.specs.declared.Frame.{Frame}
use Rattle.steps.specs.declared.Cursor.{Cursor}
use Rattle.steps.proofs.Clauses.{by_flow, style_t, lay_f_none, lay_f_gone, lay_f_out, lay_f_in, ask_t_kept, ask_t_new, fix_t_at, fix_f_none, fix_f_more, leaf_rows, block_rows}
use Rattle.laws.specs.Along.{root_laid}
use Rattle.laws.specs.Bits.{laid_row_lem}
use Rattle.laws.specs.Afresh.{site_in, site_of, sites_t}

-- how many candidates a tree of rows has, seen from the bits alone
unfoldable mutual
  outs_t : Tree Row → ℕ
  outs_t (node r ks) = cond (is_laid r) (outs_f ks) (cond (is_out r) 1 0)

  outs_f : Forest Row → ℕ
  outs_f none = 0
  outs_f (more t ts) = outs_t t + outs_f ts

outs_node : (r : Row) (ks : Forest Row) → outs_t (node r ks) ≡ cond (is_laid r) (outs_f ks) (cond (is_out r) 1 0)
unfolding outs_t
outs_node r ks = refl

outs_more : (t : Tree Row) (ts : Forest Row) → outs_f (more t ts) ≡ outs_t t + outs_f ts
unfolding outs_f
outs_more t ts = refl

outs_none : outs_f none ≡ 0
unfolding outs_f
outs_none = refl

at_row : (b : ℕ) (r : Row) (l : List Candidate) → length (candidates_at b r l) ≡ cond (is_laid r) (length l) (cond (is_out r) 1 0)
unfolding candidates_at
at_row b r l = go (is_laid r) (is_out r)
  where
    go : (x y : Bool) → length (cond x (map (moved_by r) l) (cond y (candidate_of b r ∷ []) [])) ≡ cond x (length l) (cond y 1 0)
    go true y = length-map l (moved_by r)
    go false true = refl
    go false false = refl

mutual
  unfolding candidates_t outs_t

  length_t : (b : ℕ) (t : Tree Row) → length (candidates_t b t) ≡ outs_t t
  length_t b (node r ks) = at_row b r (candidates_f (suc b) ks) ∙ ap (λ (n : ℕ). cond (is_laid r) n (cond (is_out r) 1 0)) (length_f (suc b) ks)

  length_f : (b : ℕ) (ts : Forest Row) → length (candidates_f b ts) ≡ outs_f ts
  length_f b none = refl
  length_f b (more t ts) = length-append (candidates_t b t) (candidates_f (b + count_t t) ts) ∙ rw (length_t b t, length_f (b + count_t t) ts)

laid_outs : (r : Row) (ks : Forest Row) → is_laid r ≡ true → outs_t (node r ks) ≡ outs_f ks
laid_outs r ks e = outs_node r ks ∙ rw e

-- what leaves the bits of a root leaves the count
outs_on : (f : Row → Row) → ((r : Row) → (f r).bits ≡ r.bits) → (t : Tree Row) → outs_t (on_root f t) ≡ outs_t t
unfolding outs_t on_root is_laid is_out
outs_on f h (node r ks) = rw (h r)

pub low_bits : (d : Float) (r : Row) → (lowered d r).bits ≡ r.bits
unfolding lowered
low_bits d r = refl

pub put_bits : (p : Point Float) (n : ℕ) (r : Row) → (put_at p n r).bits ≡ r.bits
unfolding put_at
put_bits p n r = refl

outs_low : (d : Float) (ts : Forest Row) → outs_f (lower_f d ts) ≡ outs_f ts
unfolding lower_f outs_f
outs_low d none = refl
outs_low d (more t ts) = rw (outs_on (lowered d) (low_bits d) t, outs_low d ts)

outs_align : (d : Option Float) (ts : Forest Row) → outs_f (align_f d ts) ≡ outs_f ts
unfolding align_f
outs_align None ts = refl
outs_align (Some d) ts = outs_low d ts

-- rows of zeros, hidden rows, rows out of flow
hidden_outs : (n : ℕ) (ks : Forest Row) → outs_t (node (hidden_row n) ks) ≡ 0
unfolding outs_t is_laid is_out hidden_row bare
hidden_outs n ks = refl

aside_outs : (a l e : Float) (n : ℕ) (ks : Forest Row) → outs_t (node (aside_row a l e n) ks) ≡ 1
unfolding outs_t is_laid is_out aside_row bare
aside_outs a l e n ks = refl

zero_outs : (ks : Forest Row) → outs_t (node no_row ks) ≡ 0
unfolding outs_t is_laid is_out no_row bare
zero_outs ks = refl

zeros_outs : {A : Type 0} (ts : Forest A) → outs_f (zeros_f ts) ≡ 0
unfolding zeros_f map_f outs_f map_t
zeros_outs none = refl
zeros_outs {A} (more (node a ks) ts) = let z = zeros_outs ts in let w = zero_outs (map_f (λ (_ : A). no_row) ks) in omega (arith, w, z)

on_zeros : {A : Type 0} (r : Row) (t : Tree A) (n : ℕ) → ((ks : Forest Row) → outs_t (node r ks) ≡ n) → outs_t (on_root (λ _. r) (zeros_t t)) ≡ n
unfolding on_root zeros_t map_t
on_zeros r (node a ks) n h = h _

-- bit 0 of kept rows, and of rows below them
pub kept_laid : (l : Node) → is_laid l.old ≡ true → is_laid (kept_row l) ≡ true
unfolding is_laid kept_row noted with_code
kept_laid l e =
    let b : ℕ = l.old.bits in
    let c : ℕ = l.probe.code in
    let z : (b % 16 + 16 * c + 256 * (b / 256)) / 1 % 2 ≡ b / 1 % 2 = omega arith in
    ap (λ (n : ℕ). eqb n 1) z ∙ e

pub below_laid : (l : Node) → is_laid (below_row l) ≡ true
unfolding is_laid below_row noted laid_bits
below_laid l =
    let b : ℕ = l.old.bits in
    let c : ℕ = l.probe.code in
    let z : (1 + 2 * (b / 2 % 2) + 8 * (b / 8 % 2) + 16 * c + 256 * (b / 256)) / 1 % 2 ≡ 1 = omega arith in
    ap (λ (n : ℕ). eqb n 1) z

stands_laid : (q : LayoutInput) (r : Row) → final_stands q r ≡ true → is_laid r ≡ true
unfolding final_stands
stands_laid q r e = and_fst _ _ e

pub kept_old_lem : (t : Tree Node) (q : LayoutInput) → kept t q ≡ true → is_laid (root_t t).old ≡ true
unfolding kept
kept_old_lem t q e = stands_laid q _ (and_snd (not (root_t t).anew) _ (and_snd (not (any_t edited_node t)) _ e))

-- what is needed at a node
abbrev want_t : Tree Node → ℕ
want_t t = needed_t (map_t site_of t)

abbrev want_f : Forest Node → ℕ
want_f ts = needed_f (map_f site_of ts)

want_at : (l : Node) (ks : Forest Node) (w : Flow) → flow_of l.site.style ≡ w → want_t (node l ks) ≡ by_flow w 0 1 (want_f ks)
unfolding needed_t map_t
want_at l ks w e = ap (λ (v : Flow). by_flow v 0 1 (want_f ks)) e

want_more : (t : Tree Node) (ts : Forest Node) → want_f (more t ts) ≡ want_t t + want_f ts
unfolding needed_f map_f
want_more t ts = refl

root_style : (l : Node) (ks : Forest Node) → style_t (node l ks) ≡ l.site.style
unfolding root_t
root_style l ks = refl

-- below kept nodes
fix_node : (l : Node) (ks : Forest Node) → outs_f (fix_f ks) ≤ want_f ks → outs_t (fix_t (node l ks)) ≤ want_t (node l ks)
fix_node l ks h = go (flow_of l.site.style) refl
  where
    go : (w : Flow) → flow_of l.site.style ≡ w → outs_t (fix_t (node l ks)) ≤ want_t (node l ks)
    go Gone e = let z = ap outs_t (fix_t_at l ks Gone e) ∙ hidden_outs _ _ in omega (arith, z)
    go Out e = let z = ap outs_t (fix_t_at l ks Out e) ∙ aside_outs _ _ _ _ _ in let n = want_at l ks Out e in omega (arith, z, n)
    go In e = let z = ap outs_t (fix_t_at l ks In e) ∙ laid_outs _ _ (below_laid l) in let n = want_at l ks In e in omega (arith, z, n)

mutual
  fix_t_lem : (t : Tree Node) → outs_t (fix_t t) ≤ want_t t
  fix_t_lem (node l ks) = fix_node l ks (fix_f_lem ks)

  fix_f_lem : (ts : Forest Node) → outs_f (fix_f ts) ≤ want_f ts
  fix_f_lem none = let z = ap outs_f fix_f_none ∙ outs_none in omega (arith, z)
  fix_f_lem (more t ts) = let z = ap outs_f (fix_f_more t ts) ∙ outs_more _ _ in let n = want_more t ts in let a = fix_t_lem t in let b = fix_f_lem ts in omega (arith, z, n, a, b)

keep_outs : (t : Tree Node) (q : LayoutInput) → kept t q ≡ true → flow_of (style_t t) ≡ In → outs_t (keep t).rows ≤ want_t t
unfolding keep root_t
keep_outs (node l ks) q e f =
    let z = laid_outs (kept_row l) (fix_f ks) (kept_laid l (kept_old_lem (node l ks) q e)) in
    let n = want_at l ks In f in
    let a = fix_f_lem ks in
    omega (arith, z, n, a)

-- the final pass
node_outs : (l : Node) (ks : Forest Node) (q : LayoutInput) (found : Float) → ((f : Frame) (c : Cursor) → outs_f (lay_f ks f c).rows ≤ want_f ks) → outs_t (lay_t (node l ks) q found).rows ≤ want_f ks
node_outs l ks q found h = go (is_leaf l.site.style.kind) refl
  where
    go : (b : Bool) → is_leaf l.site.style.kind ≡ b → outs_t (lay_t (node l ks) q found).rows ≤ want_f ks
    go true e = let z = ap outs_t (leaf_rows l ks q found e) ∙ laid_outs _ _ (laid_row_lem _ _ _) ∙ zeros_outs ks in omega (arith, z)
    go false e = let z = ap outs_t (block_rows l ks q found e) ∙ laid_outs _ _ (laid_row_lem _ _ _) ∙ outs_align _ _ in let a = h _ _ in rw z a

more_outs : (t : Tree Node) (ts : Forest Node) (f : Frame) (c : Cursor) → (flow_of (style_t t) ≡ In → (q : LayoutInput) → outs_t (ask_t t q).rows ≤ want_t t) → ((d : Cursor) → outs_f (lay_f ts f d).rows ≤ want_f ts)
    → (flow_of (style_t t) ≡ Out → want_t t ≡ 1) → outs_f (lay_f (more t ts) f c).rows ≤ want_f (more t ts)
unfolding skip aside place
more_outs t ts f c h r o = rw (want_more t ts) (go (flow_of (style_t t)) refl)
  where
    go : (w : Flow) → flow_of (style_t t) ≡ w → outs_f (lay_f (more t ts) f c).rows ≤ want_t t + want_f ts
    go Gone e =
        let a = r (past_hidden c) in
        let z = on_zeros (hidden_row c.count) t 0 (hidden_outs c.count) in
        rw (lay_f_gone t ts f c e, outs_more, z) (omega (arith, a))
    go Out e =
        let a = r (past_aside c) in
        let n = o e in
        rw (lay_f_out t ts f c e, outs_more, on_zeros (aside_row (edges_of f).start (line_of f c) (edges_of f).end c.shown.0) t 1 (aside_outs _ _ _ _), n) (omega (arith, a))
    go In e =
        let a = h e (question_to f (style_t t)) in
        let b = r (stepped f c (item_of f (style_t t)) (ask_t t (question_to f (style_t t))).out) in
        rw (lay_f_in t ts f c e, outs_more, outs_on (put_at (place_of f c (item_of f (style_t t)) (ask_t t (question_to f (style_t t))).out) c.shown.0) (put_bits _ _) (ask_t t (question_to f (style_t t))).rows) (omega (arith, a, b))

want_out : (t : Tree Node) → flow_of (style_t t) ≡ Out → want_t t ≡ 1
unfolding root_t
want_out (node l ks) e = want_at l ks Out e

needed_kids : (l : Node) (ks : Forest Node) → needed (map_t site_of (node l ks)) ≡ want_f ks
unfolding needed map_t
needed_kids l ks = refl

ask_outs : (t : Tree Node) (q : LayoutInput) → flow_of (style_t t) ≡ In → outs_t (lay_t t q zero_f).rows ≤ needed (map_t site_of t) → outs_t (ask_t t q).rows ≤ want_t t
ask_outs (node l ks) q f h = go (kept (node l ks) q) refl
  where
    go : (b : Bool) → kept (node l ks) q ≡ b → outs_t (ask_t (node l ks) q).rows ≤ want_t (node l ks)
    go true e = rw (ask_t_kept (node l ks) q e) (keep_outs (node l ks) q e f)
    go false e =
        let n = want_at l ks In (ap flow_of (sym (root_style l ks)) ∙ f) in
        let k = needed_kids l ks in
        rw (ask_t_new (node l ks) q e) (omega (arith, n, k, h))

mutual
  outs_t_lem : (t : Tree Node) (q : LayoutInput) (found : Float) → outs_t (lay_t t q found).rows ≤ needed (map_t site_of t)
  outs_t_lem (node l ks) q found = rw (needed_kids l ks) (node_outs l ks q found (λ f c. outs_f_lem ks f c))

  outs_f_lem : (ts : Forest Node) (f : Frame) (c : Cursor) → outs_f (lay_f ts f c).rows ≤ want_f ts
  outs_f_lem none f c = let z = ap (λ (s : Stacked). outs_f s.rows) (lay_f_none f c) ∙ outs_none in omega (arith, z)
  outs_f_lem (more t ts) f c = more_outs t ts f c (λ e q. ask_outs t q e (outs_t_lem t q zero_f)) (λ d. outs_f_lem ts f d) (want_out t)

root_outs : (u : Tree Row) → is_laid (root_t u) ≡ true → length (candidates u) ≡ outs_t u
unfolding candidates root_t
root_outs (node r ks) e = length_f 1 ks ∙ sym (laid_outs r ks e)

laid_few : (t : Tree Node) (q : LayoutInput) (found : Float) → length (candidates (lay_t t q found).rows) ≤ needed (map_t site_of t)
laid_few t q found =
    let z = root_outs (lay_t t q found).rows (root_laid t q found) in
    let a = outs_t_lem t q found in
    omega (arith, z, a)

pub few_candidates : (t : Tree Cell) (q : LayoutInput) → length (candidates (relaid t q).rows) ≤ needed (map_t site_in t)
unfolding relaid
few_candidates t q = rw (← sites_t t q) (laid_few (width_pass t q).nodes q (width_pass t q).found)
