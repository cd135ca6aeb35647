-- Candidates of both engines: what a row, put and lowered, makes of those below it. Assumes nothing.
use Rattle.std.specs.Prelude.{◌≡◌, refl, Bool, true, cond, ◌||◌, List, [], ◌∷◌, ◌++◌, map, ℕ, suc, ◌+◌, ◌^◌, ◌≤◌, ℤ, ◌+ℤ◌, Float, Option, None, Some}
use Rattle.std.proofs.Common.{sym, ap, ◌∙◌, arith}
use Rattle.std.proofs.Math.IntN.{+ℤ_assoc}
use Rattle.geometry.specs.Floats.{◌⊕◌}
use Rattle.geometry.specs.declared.Point.{Point}
use Rattle.style.specs.Codes.{flag_at}
use Rattle.tree.specs.Tree.{Tree, Forest, node, none, more, map_t, map_f, root_t, on_root, count_t, count_f}
use Rattle.steps.specs.Row.{Row, is_laid, is_out, bare, no_row, hidden_row, aside_row, put_at, lowered}
use Rattle.steps.specs.Kept.{zeros_t, zeros_f}
use Rattle.steps.specs.Layout.{lower_f, align_f}
use Rattle.steps.specs.Candidates.{Candidate, candidate_of, moved_by, candidates_at, candidates_t, candidates_f}
use Rattle.laws.specs.Trees.{kids_t}
use Rattle.whole.specs.Range.{within_sum}
use Rattle.integers.specs.Numbers.{MayZ, NoneZ, SomeZ, PointZ}
use Rattle.integers.specs.Rows.{RowZ, bare_z, no_row_z, hidden_row_z, aside_row_z, put_at_z, lowered_z}
use Rattle.integers.specs.Layout.{zeros_tz, zeros_fz, lower_fz, align_fz}
use Rattle.integers.specs.Candidates.{CandidateZ, candidate_of_z, moved_by_z, candidates_at_z, candidates_tz, candidates_fz}
use Rattle.exact.specs.Near.{Near, wide, plus_is, MayIs, none_is, some_is}
use Rattle.exact.specs.Trees.{RelT, RelF}
use Rattle.exact.specs.Frames.{PointIs}
use Rattle.exact.specs.Rows.{Same, RowsT, zeros_t_lem}

-- a candidate in both engines: s bounds start and end, l the line
pub record CandIs (s l : ℕ) (c : Candidate) (z : CandidateZ) : Type 0 where
  pub node : c.node ≡ z.node
  pub order : c.order ≡ z.order
  pub start : Near c.start z.start s
  pub end : Near c.end z.end s
  pub line : Near c.line z.line l

-- two lists of them
pub data CandsAre (s l : ℕ) : List Candidate → List CandidateZ → Type 0 where
  no_cands : CandsAre s l [] []
  more_cands : {c : Candidate} {z : CandidateZ} {a : List Candidate} {b : List CandidateZ} → CandIs s l c z → CandsAre s l a b → CandsAre s l (c ∷ a) (z ∷ b)

cand_wide : {s l t m : ℕ} {c : Candidate} {z : CandidateZ} → CandIs s l c z → s ≤ t → l ≤ m → CandIs t m c z
cand_wide p u v = record { node = p.node; order = p.order; start = wide p.start u; end = wide p.end u; line = wide p.line v }

pub cands_wide : {s l t m : ℕ} {a : List Candidate} {b : List CandidateZ} → CandsAre s l a b → s ≤ t → l ≤ m → CandsAre t m a b
cands_wide no_cands u v = no_cands
cands_wide (more_cands p q) u v = more_cands (cand_wide p u v) (cands_wide q u v)

cands_join : {s l : ℕ} {a c : List Candidate} {b d : List CandidateZ} → CandsAre s l a b → CandsAre s l c d → CandsAre s l (a ++ c) (b ++ d)
cands_join no_cands r = r
cands_join (more_cands p q) r = more_cands p (cands_join q r)

one_cand : {s l : ℕ} {c : Candidate} {z : CandidateZ} → CandIs s l c z → CandsAre s l (c ∷ []) (z ∷ [])
one_cand p = more_cands p no_cands

map_cands : {s l t m : ℕ} {a : List Candidate} {b : List CandidateZ} (f : Candidate → Candidate) (g : CandidateZ → CandidateZ) → ((c : Candidate) (z : CandidateZ) → CandIs s l c z → CandIs t m (f c) (g z)) → CandsAre s l a b → CandsAre t m (map f a) (map g b)
map_cands f g h no_cands = no_cands
map_cands f g h (more_cands p q) = more_cands (h _ _ p) (map_cands f g h q)

-- ---- the shift on one tree of rows
abbrev pub align_t : Option Float → Tree Row → Tree Row
align_t None t = t
align_t (Some d) t = on_root (lowered d) t

abbrev pub align_tz : MayZ → Tree RowZ → Tree RowZ
align_tz NoneZ t = t
align_tz (SomeZ d) t = on_root (lowered_z d) t

align_more : (d : Option Float) (t : Tree Row) (ts : Forest Row) → align_f d (more t ts) ≡ more (align_t d t) (align_f d ts)
unfolding align_f lower_f
align_more None t ts = refl
align_more (Some d) t ts = refl

align_more_z : (d : MayZ) (t : Tree RowZ) (ts : Forest RowZ) → align_fz d (more t ts) ≡ more (align_tz d t) (align_fz d ts)
unfolding align_fz lower_fz
align_more_z NoneZ t ts = refl
align_more_z (SomeZ d) t ts = refl

align_none : (d : Option Float) → align_f d none ≡ none
unfolding align_f lower_f
align_none None = refl
align_none (Some d) = refl

align_none_z : (d : MayZ) → align_fz d none ≡ none
unfolding align_fz lower_fz
align_none_z NoneZ = refl
align_none_z (SomeZ d) = refl

-- ---- counts
mutual
  unfolding RelT count_t

  count_t_lem : (t : Tree Row) (u : Tree RowZ) → RelT Same t u → count_t t ≡ count_t u
  count_t_lem (node r ks) (node z us) p = ap suc (count_f_lem ks us p.1)

  count_f_lem : (ts : Forest Row) (us : Forest RowZ) → RelF Same ts us → count_f ts ≡ count_f us
  count_f_lem none none p = refl
  count_f_lem none (more u us) p = absurd p
  count_f_lem (more t ts) none p = absurd p
  count_f_lem (more t ts) (more u us) p = rw (count_t_lem t u p.0, count_f_lem ts us p.1)

count_align : (t : Tree Row) (u : Tree RowZ) (n : ℕ) (d : Option Float) (e : MayZ) → RowsT n t u → count_t (align_t d t) ≡ count_t (align_tz e u)
unfolding RowsT count_t on_root
count_align (node r ks) (node z us) n None NoneZ p = ap suc (count_f_lem ks us p.1)
count_align (node r ks) (node z us) n None (SomeZ e) p = ap suc (count_f_lem ks us p.1)
count_align (node r ks) (node z us) n (Some d) NoneZ p = ap suc (count_f_lem ks us p.1)
count_align (node r ks) (node z us) n (Some d) (SomeZ e) p = ap suc (count_f_lem ks us p.1)

-- ---- one child's and those of the rest
pub none_listed : {s l : ℕ} (b : ℕ) (d : Option Float) (e : MayZ) → CandsAre s l (candidates_f b (align_f d none)) (candidates_fz b (align_fz e none))
unfolding candidates_f candidates_fz
none_listed b d e = rw (align_none d, align_none_z e) no_cands

pub more_listed : {s l : ℕ} (t : Tree Row) (u : Tree RowZ) (ts : Forest Row) (us : Forest RowZ) (n : ℕ) (d : Option Float) (e : MayZ) (b : ℕ) → RowsT n t u → CandsAre s l (candidates_t b (align_t d t)) (candidates_tz b (align_tz e u))
    → ((c : ℕ) → CandsAre s l (candidates_f c (align_f d ts)) (candidates_fz c (align_fz e us))) → CandsAre s l (candidates_f b (align_f d (more t ts))) (candidates_fz b (align_fz e (more u us)))
unfolding candidates_f candidates_fz
more_listed t u ts us n d e b p q r = rw (align_more d t ts, align_more_z e u us, ← count_align t u n d e p) (cands_join q (r (b + count_t (align_t d t))))

-- ---- rows of zeros, and a hidden child's, list nothing
zero_tree : {A : Type 0} (b : ℕ) (t : Tree A) → candidates_t b (zeros_t t) ≡ []
unfolding candidates_t candidates_at zeros_t map_t no_row bare is_laid is_out
zero_tree b (node a ks) = refl

zero_tree_z : {A : Type 0} (b : ℕ) (t : Tree A) → candidates_tz b (zeros_tz t) ≡ []
unfolding candidates_tz candidates_at_z zeros_tz map_t no_row_z bare_z
zero_tree_z b (node a ks) = refl

zero_more : {A : Type 0} (b : ℕ) (t : Tree A) (ts : Forest A) → candidates_f b (zeros_f (more t ts)) ≡ candidates_f (b + count_t (zeros_t t)) (zeros_f ts)
unfolding candidates_f zeros_f zeros_t map_f
zero_more b t ts = ap (λ (l : List Candidate). l ++ candidates_f (b + count_t (zeros_t t)) (zeros_f ts)) (zero_tree b t)

zero_more_z : {A : Type 0} (b : ℕ) (t : Tree A) (ts : Forest A) → candidates_fz b (zeros_fz (more t ts)) ≡ candidates_fz (b + count_t (zeros_tz t)) (zeros_fz ts)
unfolding candidates_fz zeros_fz zeros_tz map_f
zero_more_z b t ts = ap (λ (l : List CandidateZ). l ++ candidates_fz (b + count_t (zeros_tz t)) (zeros_fz ts)) (zero_tree_z b t)

zero_none : (A B : Type 0) {s l : ℕ} (b : ℕ) → CandsAre s l (candidates_f b (zeros_f {A = A} none)) (candidates_fz b (zeros_fz {A = B} none))
unfolding candidates_f candidates_fz zeros_f zeros_fz map_f
zero_none A B b = no_cands

module _ {A B : Type 0} (R : A → B → Type 0) where
  pub zeros-listed : {s l : ℕ} (ts : Forest A) (us : Forest B) → RelF R ts us → (b : ℕ) → CandsAre s l (candidates_f b (zeros_f ts)) (candidates_fz b (zeros_fz us))
  unfolding RelF
  zeros-listed none none p b = zero_none A B b
  zeros-listed none (more u us) p b = absurd p
  zeros-listed (more t ts) none p b = absurd p
  zeros-listed (more t ts) (more u us) p b = rw (zero_more b t ts, zero_more_z b u us, ← count_t_lem (zeros_t t) (zeros_tz u) (zeros_t_lem R t u p.0)) (zeros-listed ts us p.1 (b + count_t (zeros_t t)))

  pub hidden-listed : {s l : ℕ} (t : Tree A) (u : Tree B) (m n k : ℕ) {d : Option Float} {e : MayZ} → MayIs m d e → (b : ℕ) → CandsAre s l (candidates_t b (align_t d (on_root (λ _. hidden_row n) (zeros_t t)))) (candidates_tz b (align_tz e (on_root (λ _. hidden_row_z k) (zeros_tz u))))
  unfolding candidates_t candidates_tz candidates_at candidates_at_z on_root zeros_t zeros_tz map_t lowered lowered_z hidden_row hidden_row_z bare bare_z is_laid is_out
  hidden-listed (node a ks) (node c us) m n k none_is b = no_cands
  hidden-listed (node a ks) (node c us) m n k (some_is p) b = no_cands

  -- an out-of-flow child lists itself
  pub aside-listed : {s l : ℕ} (t : Tree A) (u : Tree B) (m n k : ℕ) {x y w : Float} {i j h : ℤ} {d : Option Float} {e : MayZ} → MayIs m d e → Near x i s → Near y j l → Near w h s → n ≡ k → l + m ≤ 2 ^ 24 → (b : ℕ)
      → CandsAre s (l + m) (candidates_t b (align_t d (on_root (λ _. aside_row x y w n) (zeros_t t)))) (candidates_tz b (align_tz e (on_root (λ _. aside_row_z i j h k) (zeros_tz u))))
  unfolding candidates_t candidates_tz candidates_at candidates_at_z candidate_of candidate_of_z on_root zeros_t zeros_tz map_t lowered lowered_z aside_row aside_row_z bare bare_z is_laid is_out
  aside-listed (node a ks) (node c us) m n k none_is p q r o v b = one_cand (record { node = refl; order = o; start = p; end = r; line = wide q (omega arith) })
  aside-listed (node a ks) (node c us) m n k (some_is z) p q r o v b = one_cand (record { node = refl; order = o; start = p; end = r; line = plus_is q z v })

-- ---- a laid child: its place is added to those below it
moved_by_lem : {s l x m : ℕ} (r : Row) (z : RowZ) → Near r.place.x z.place.x x → s + x ≤ 2 ^ 24 → ((a : Float) (k : ℤ) → Near a k l → Near (a ⊕ r.place.y) (k +ℤ z.place.y) m) → (c : Candidate) (y : CandidateZ) → CandIs s l c y → CandIs (s + x) m (moved_by r c) (moved_by_z z y)
unfolding moved_by moved_by_z
moved_by_lem r z p u h c y q = record { node = q.node; order = q.order; start = plus_is q.start p u; end = plus_is q.end p u; line = h _ _ q.line }

-- l + (y + d), in the bounds of (l + y) + d
down_is : {a y d : Float} {k j i : ℤ} {l n m : ℕ} → Near y j n → Near d i m → l + n + m ≤ 2 ^ 24 → Near a k l → Near (a ⊕ (y ⊕ d)) (k +ℤ (j +ℤ i)) (l + n + m)
down_is {a} {y} {d} {k} {j} {i} p q u r = within_sum r (plus_is p q (omega arith)) (sym (+ℤ_assoc k j i)) (plus_is (plus_is r p (omega arith)) q u) u u

laid_list : {s l : ℕ} (b : ℕ) (r : Row) (z : RowZ) (a : List Candidate) (c : List CandidateZ) → is_laid r ≡ true → r.bits ≡ z.bits → CandsAre s l (map (moved_by r) a) (map (moved_by_z z) c) → CandsAre s l (candidates_at b r a) (candidates_at_z b z c)
unfolding candidates_at candidates_at_z is_laid
laid_list b r z a c e f p = rw (e, sym (ap (λ (n : ℕ). flag_at n 0) f) ∙ e) p

exit_listed : {s l x m : ℕ} (r : Row) (z : RowZ) (ks : Forest Row) (us : Forest RowZ) (b : ℕ) (y : Float) (i : ℤ) → is_laid r ≡ true → r.bits ≡ z.bits → Near r.place.x z.place.x x → s + x ≤ 2 ^ 24 → r.place.y ≡ y → z.place.y ≡ i
    → ((a : Float) (k : ℤ) → Near a k l → Near (a ⊕ y) (k +ℤ i) m) → CandsAre s l (candidates_f (suc b) ks) (candidates_fz (suc b) us) → CandsAre (s + x) m (candidates_at b r (candidates_f (suc b) ks)) (candidates_at_z b z (candidates_fz (suc b) us))
exit_listed {s} {l} {x} {m} r z ks us b y i e f p u g h n q =
    laid_list b r z _ _ e f (map_cands (moved_by r) (moved_by_z z) (moved_by_lem r z p u line) q)
  where
    line : (a : Float) (k : ℤ) → Near a k l → Near (a ⊕ r.place.y) (k +ℤ z.place.y) m
    line a k o = rw (g, h) (n a k o)

put_laid : (p : Point Float) (k : ℕ) (r : Row) → is_laid r ≡ true → is_laid (put_at p k r) ≡ true
unfolding put_at is_laid
put_laid p k r e = e

put_bits : (p : Point Float) (q : PointZ) (k j : ℕ) (r : Row) (z : RowZ) → r.bits ≡ z.bits → (put_at p k r).bits ≡ (put_at_z q j z).bits
unfolding put_at put_at_z
put_bits p q k j r z e = e

put_x : {x n : ℕ} {p : Point Float} {q : PointZ} (k j : ℕ) (r : Row) (z : RowZ) → PointIs x n p q → Near (put_at p k r).place.x (put_at_z q j z).place.x x
unfolding put_at put_at_z
put_x k j r z p = p.x

put_y : (p : Point Float) (k : ℕ) (r : Row) → (put_at p k r).place.y ≡ p.y
unfolding put_at
put_y p k r = refl

put_y_z : (p : PointZ) (k : ℕ) (r : RowZ) → (put_at_z p k r).place.y ≡ p.y
unfolding put_at_z
put_y_z p k r = refl

low_laid : (d : Float) (r : Row) → is_laid r ≡ true → is_laid (lowered d r) ≡ true
unfolding lowered is_laid
low_laid d r e = e

low_bits : (d : Float) (e : ℤ) (r : Row) (z : RowZ) → r.bits ≡ z.bits → (lowered d r).bits ≡ (lowered_z e z).bits
unfolding lowered lowered_z
low_bits d e r z h = h

low_x : {x : ℕ} (d : Float) (e : ℤ) (r : Row) (z : RowZ) → Near r.place.x z.place.x x → Near (lowered d r).place.x (lowered_z e z).place.x x
unfolding lowered lowered_z
low_x d e r z p = p

stands_low : {A : Type 0} (a b : Bool) (x y : A) → a ≡ true → cond (a || b) x y ≡ x
stands_low a b x y e = rw e

low_y : (d : Float) (r : Row) → is_laid r ≡ true → (lowered d r).place.y ≡ r.place.y ⊕ d
unfolding lowered
low_y d r e = stands_low (is_laid r) (is_out r) _ _ e

low_y_z : (d : ℤ) (z : RowZ) → flag_at z.bits 0 ≡ true → (lowered_z d z).place.y ≡ z.place.y +ℤ d
unfolding lowered_z
low_y_z d z e = stands_low (flag_at z.bits 0) (flag_at z.bits 2) _ _ e

laid_bits_lem : (r : Row) (z : RowZ) → is_laid r ≡ true → r.bits ≡ z.bits → flag_at z.bits 0 ≡ true
unfolding is_laid
laid_bits_lem r z e f = sym (ap (λ (n : ℕ). flag_at n 0) f) ∙ e

abbrev pub Below : ℕ → ℕ → Tree Row → Tree RowZ → Type 0
Below s l t u = (b : ℕ) → CandsAre s l (candidates_f b (kids_t t)) (candidates_fz b (kids_t u))

placed_still : {s l x n : ℕ} (r : Row) (z : RowZ) (ks : Forest Row) (us : Forest RowZ) {p : Point Float} {q : PointZ} (k j : ℕ) → is_laid r ≡ true → r.bits ≡ z.bits → PointIs x n p q → s + x ≤ 2 ^ 24 → l + n ≤ 2 ^ 24 → (b : ℕ) → CandsAre s l (candidates_f (suc b) ks) (candidates_fz (suc b) us)
    → CandsAre (s + x) (l + n) (candidates_at b (put_at p k r) (candidates_f (suc b) ks)) (candidates_at_z b (put_at_z q j z) (candidates_fz (suc b) us))
placed_still r z ks us {p} {q} k j e f i u v b h =
    exit_listed (put_at p k r) (put_at_z q j z) ks us b p.y q.y (put_laid p k r e) (put_bits p q k j r z f) (put_x k j r z i) u (put_y p k r) (put_y_z q j z) (λ a k o. plus_is o i.y v) h

placed_low : {s l x n m : ℕ} (r : Row) (z : RowZ) (ks : Forest Row) (us : Forest RowZ) {p : Point Float} {q : PointZ} (k j : ℕ) {d : Float} {e : ℤ} → is_laid r ≡ true → r.bits ≡ z.bits → PointIs x n p q → Near d e m → s + x ≤ 2 ^ 24 → l + n + m ≤ 2 ^ 24 → (b : ℕ) → CandsAre s l (candidates_f (suc b) ks) (candidates_fz (suc b) us)
    → CandsAre (s + x) (l + n + m) (candidates_at b (lowered d (put_at p k r)) (candidates_f (suc b) ks)) (candidates_at_z b (lowered_z e (put_at_z q j z)) (candidates_fz (suc b) us))
placed_low r z ks us {p} {q} k j {d} {e} a f i o u v b h =
    let w = put_laid p k r a in
    let g = put_bits p q k j r z f in
    exit_listed (lowered d (put_at p k r)) (lowered_z e (put_at_z q j z)) ks us b (p.y ⊕ d) (q.y +ℤ e) (low_laid d (put_at p k r) w) (low_bits d e (put_at p k r) (put_at_z q j z) g) (low_x d e (put_at p k r) (put_at_z q j z) (put_x k j r z i)) u
    (low_y d (put_at p k r) w ∙ ap (λ (y : Float). y ⊕ d) (put_y p k r)) (low_y_z e (put_at_z q j z) (laid_bits_lem (put_at p k r) (put_at_z q j z) w g) ∙ ap (λ (y : ℤ). y +ℤ e) (put_y_z q j z)) (λ a k x. down_is i.y o v x) h

pub placed_listed : {s l x n m : ℕ} (t : Tree Row) (u : Tree RowZ) {p : Point Float} {q : PointZ} (k j : ℕ) {d : Option Float} {e : MayZ} → is_laid (root_t t) ≡ true → (root_t t).bits ≡ (root_t u).bits → Below s l t u → PointIs x n p q → MayIs m d e → s + x ≤ 2 ^ 24 → l + n + m ≤ 2 ^ 24
    → (b : ℕ) → CandsAre (s + x) (l + n + m) (candidates_t b (align_t d (on_root (put_at p k) t))) (candidates_tz b (align_tz e (on_root (put_at_z q j) u)))
unfolding candidates_t candidates_tz on_root root_t
placed_listed (node r ks) (node z us) k j f g h i none_is v w b = cands_wide (placed_still r z ks us k j f g i v (omega arith) b (h (suc b))) (omega arith) (omega arith)
placed_listed (node r ks) (node z us) k j f g h i (some_is o) v w b = placed_low r z ks us k j f g i o v w b (h (suc b))
