-- Children by their numbers: the rows of a tree stand in the tables in preorder, so a child of node p by the words is a child of its row. Assumes nothing.
use Rattle.std.specs.Prelude.{◌≡◌, ◌⊎◌, Bool, true, false, List, ◌∷◌, ℕ, suc, ◌+◌, ◌<◌, ◌≤◌, ltb, Float}
use Rattle.std.proofs.Math.Path.{refl, ap}
use Rattle.std.proofs.Common.{sym, subst, ◌∙◌, eq-or-lt_of_le, ltb-true, ltb-false}
use Rattle.std.proofs.Math.Logic.{inl, inr}
use native.Mathlib.Omega.{arith}
use Rattle.std.specs.Float.Ieee.{lt}
use Rattle.tree.specs.Tree.{Tree, Forest, node, none, more, root_t, count_t, count_f, map_t, map_f, flat_t, flat_f}
use Rattle.tree.specs.Table.{Entry, entry_of, from}
use Rattle.tree.proofs.Laws.{flat_t_node, flat_f_more, count_map_t, count_map_f}
use Rattle.tree.proofs.Lists.{heads, tails, cons-first, cons-rest, from_suc, from-add, length_from}
use Rattle.tree.proofs.Parse.{entries_t}
use Rattle.style.specs.Style.{word_at}
use Rattle.steps.specs.Row.{Row, is_laid, row_at}
use Rattle.steps.specs.Page.{Cell, site_at, cell_at}
use Rattle.steps.specs.Noes.{end_at}
use Rattle.tables.specs.Ancestors.{Child, first, next}
use Rattle.order.specs.Rows.{top_edge, bottom_edge, AfterF, InOrderT, InOrderF}

-- rows stand from node b on: each node has its row, and its run ends past all that is below it
unfoldable mutual
  pub SitsT : (ℕ → Row) → (ℕ → ℕ) → ℕ → Tree Row → Type 0
  SitsT row end b (node r ks) = (row b ≡ r) × (end b ≡ b + suc (count_f ks)) × SitsF row end (suc b) ks

  pub SitsF : (ℕ → Row) → (ℕ → ℕ) → ℕ → Forest Row → Type 0
  SitsF row end b none = Unit {0}
  SitsF row end b (more t ts) = SitsT row end b t × SitsF row end (b + count_t t) ts

-- i is the number of one of these siblings, the first of which is b
unfoldable pub RootF : ℕ → Forest Row → ℕ → Type 0
RootF b none i = ⊥
RootF b (more t ts) i = (i ≡ b) ⊎ RootF (b + count_t t) ts i

-- the children of node p, and that its run ends with theirs, not past `top`
pub record KidsAt (row : ℕ → Row) (end : ℕ → ℕ) (top p : ℕ) : Type 0 where
  pub kids : Forest Row
  pub sits : SitsF row end (suc p) kids
  pub ordered : InOrderF kids
  pub ends : end p ≡ suc p + count_f kids
  pub inside : end p ≤ top

module _ (row : ℕ → Row) (end : ℕ → ℕ) where
  root_row : (b : ℕ) (t : Tree Row) → SitsT row end b t → row b ≡ root_t t
  unfolding SitsT root_t
  root_row b (node r ks) s = s.0

  root-end : (b : ℕ) (t : Tree Row) → SitsT row end b t → end b ≡ b + count_t t
  unfolding SitsT count_t
  root-end b (node r ks) s = s.1

  root-up : (ts : Forest Row) (b i : ℕ) → RootF b ts i → b ≤ i
  unfolding RootF
  root-up none b i h = absurd h
  root-up (more t ts) b i (inl e) = omega arith
  root-up (more t ts) b i (inr h) = let q = root-up ts (b + count_t t) i h in omega arith

  -- ---- two siblings

  later : (ts : Forest Row) (b : ℕ) (x : Float) (j : ℕ) → SitsF row end b ts → AfterF x ts → RootF b ts j → is_laid (row j) ≡ true → lt (top_edge (row j)) x ≡ false
  unfolding SitsF RootF
  later none b x j s a h l = absurd h
  later (more t ts) b x j s a (inl e) l =
      let q : row j ≡ root_t t = ap row e ∙ root_row b t s.0 in
      ap (λ (r : Row). lt (top_edge r) x) q ∙ a.0 (sym (ap is_laid q) ∙ l)
  later (more t ts) b x j s a (inr h) l = later ts (b + count_t t) x j s.1 a.1 h l

  pub siblings : (ts : Forest Row) (b i j : ℕ) → SitsF row end b ts → InOrderF ts → RootF b ts i → RootF b ts j → i < j → is_laid (row i) ≡ true → is_laid (row j) ≡ true → lt (top_edge (row j)) (bottom_edge (row i)) ≡ false
  unfolding SitsF RootF
  siblings none b i j s o h k g l m = absurd h
  siblings (more t ts) b i j s o (inl e) (inl d) g l m = absurd (omega arith)
  siblings (more t ts) b i j s o (inl e) (inr k) g l m =
      let q : row i ≡ root_t t = ap row e ∙ root_row b t s.0 in
      ap (λ (r : Row). lt (top_edge (row j)) (bottom_edge r)) q ∙ later ts (b + count_t t) (bottom_edge (root_t t)) j s.1 (o.0 (sym (ap is_laid q) ∙ l)) k m
  siblings (more t ts) b i j s o (inr h) (inl d) g l m = let q = root-up ts (b + count_t t) i h in absurd (omega arith)
  siblings (more t ts) b i j s o (inr h) (inr k) g l m = siblings ts (b + count_t t) i j s.1 o.2 h k g l m

  -- ---- the children of a node

  wider : (a c p : ℕ) → a ≤ c → KidsAt row end a p → KidsAt row end c p
  wider a c p h k = let q = k.inside in record { kids = k.kids; sits = k.sits; ordered = k.ordered; ends = k.ends; inside = omega arith }

  kids-node : (ks : Forest Row) (b p : ℕ) → end b ≡ b + suc (count_f ks) → SitsF row end (suc b) ks → InOrderF ks → b ≤ p → (b < p → KidsAt row end (suc b + count_f ks) p) → KidsAt row end (b + suc (count_f ks)) p
  kids-node ks b p e s o l k = go (eq-or-lt_of_le l)
    where
      go : (b ≡ p) ⊎ (b < p) → KidsAt row end (b + suc (count_f ks)) p
      go (inl q) = subst (λ (j : ℕ). KidsAt row end (b + suc (count_f ks)) j) q (record { kids = ks; sits = s; ordered = o; ends = omega arith; inside = omega arith })
      go (inr g) = wider (suc b + count_f ks) (b + suc (count_f ks)) p (omega arith) (k g)

  kids-more : (m n b p : ℕ) → (p < b + m → KidsAt row end (b + m) p) → (b + m ≤ p → KidsAt row end (b + m + n) p) → KidsAt row end (b + (m + n)) p
  kids-more m n b p k r = go (ltb p (b + m)) refl
    where
      go : (w : Bool) → ltb p (b + m) ≡ w → KidsAt row end (b + (m + n)) p
      go true e = wider (b + m) (b + (m + n)) p (omega arith) (k (ltb-true p (b + m) e))
      go false e = wider (b + m + n) (b + (m + n)) p (omega arith) (r (ltb-false p (b + m) e))

  mutual
    unfolding SitsT count_t

    pub kids-T : (t : Tree Row) (b p : ℕ) → SitsT row end b t → InOrderT t → b ≤ p → p < b + count_t t → KidsAt row end (b + count_t t) p
    kids-T (node r ks) b p s o l h = kids-node ks b p s.1 s.2 o l (λ g. kids-F ks (suc b) p s.2 o (omega arith) (omega arith))

    kids-F : (ts : Forest Row) (b p : ℕ) → SitsF row end b ts → InOrderF ts → b ≤ p → p < b + count_f ts → KidsAt row end (b + count_f ts) p
    kids-F none b p s o l h = absurd (omega arith)
    kids-F (more t ts) b p s o l h = kids-more (count_t t) (count_f ts) b p (λ g. kids-T t b p s.0 o.1 l g) (λ g. kids-F ts (b + count_t t) p s.1 o.2 g (omega arith))

  -- ---- a child by the words

  first-root : (ts : Forest Row) (b : ℕ) → 0 < count_f ts → RootF b ts b
  unfolding RootF count_f
  first-root none b h = absurd (omega arith)
  first-root (more t ts) b h = inl refl

  next-root : (ts : Forest Row) (b k : ℕ) → SitsF row end b ts → RootF b ts k → end k < b + count_f ts → RootF b ts (end k)
  unfolding SitsF RootF count_f
  next-root none b k s h l = absurd h
  next-root (more t ts) b k s (inl e) l =
      let q : end k ≡ b + count_t t = ap end e ∙ root-end b t s.0 in
      inr (subst (RootF (b + count_t t) ts) (sym q) (first-root ts (b + count_t t) (omega arith)))
  next-root (more t ts) b k s (inr h) l = inr (next-root ts (b + count_t t) k s.1 h (omega arith))

pub child_root : (ws : List ℕ) (row : ℕ → Row) (p i : ℕ) (ks : Forest Row) → SitsF row (end_at ws) (suc p) ks → end_at ws p ≡ suc p + count_f ks → Child ws p i → RootF (suc p) ks i
child_root ws row p i ks s e (first i₀ q l) = subst (RootF (suc p) ks) (sym q) (first-root row (end_at ws) ks (suc p) (omega arith))
child_root ws row p i ks s e (next i₀ k c q l) = subst (RootF (suc p) ks) (sym q) (next-root row (end_at ws) ks (suc p) k s (child_root ws row p k ks s e c) (omega arith))

pub child_within : (ws : List ℕ) (p i : ℕ) → Child ws p i → i < end_at ws p
child_within ws p i (first i₀ q l) = l
child_within ws p i (next i₀ k c q l) = l

-- ---- the rows that stand in lent tables, read with the tree

abbrev pub old_in : Cell → Row
old_in c = c.old

module _ (ws : List ℕ) (xs rs : List Float) (ms es : List ℕ) where
  abbrev entry : ℕ → Entry Cell
  entry = cell_at ws xs rs ms es

  entry-is : (b : ℕ) → ((entry b).size ≡ word_at ws b 0) × ((entry b).label.old ≡ row_at rs ms b)
  unfolding cell_at site_at
  entry-is b = (refl, refl)

  mutual
    unfolding SitsT count_t map_t

    pub sits-T : (b : ℕ) (t : Tree Cell) → from entry b (count_t t) ≡ flat_t entry_of t → SitsT (row_at rs ms) (end_at ws) b (map_t old_in t)
    sits-T b (node c ks) e =
        let q : entry b ∷ from entry (suc b) (count_f ks) ≡ record { size = suc (count_f ks); label = c } ∷ flat_f entry_of ks = sym (from_suc entry b (count_f ks)) ∙ e ∙ flat_t_node entry_of c ks in
        let h = cons-first (entry b) _ (from entry (suc b) (count_f ks)) (flat_f entry_of ks) q in
        let z : word_at ws b 0 ≡ suc (count_f ks) = sym (entry-is b).0 ∙ ap (λ (x : Entry Cell). x.size) h in
        let n = count_map_f old_in ks in
        (sym (entry-is b).1 ∙ ap (λ (x : Entry Cell). x.label.old) h, omega arith, sits-F (suc b) ks (cons-rest (entry b) _ (from entry (suc b) (count_f ks)) (flat_f entry_of ks) q))

    sits-F : (b : ℕ) (ts : Forest Cell) → from entry b (count_f ts) ≡ flat_f entry_of ts → SitsF (row_at rs ms) (end_at ws) b (map_f old_in ts)
    sits-F b none e = tt
    sits-F b (more t ts) e =
        let q = sym (from-add entry b (count_t t) (count_f ts)) ∙ e ∙ flat_f_more entry_of t ts in
        let n = length_from entry b (count_t t) ∙ sym (entries_t t) in
        (sits-T b t (heads (from entry b (count_t t)) (flat_t entry_of t) _ _ n q), rw (count_map_t old_in t) (sits-F (b + count_t t) ts (tails (from entry b (count_t t)) (flat_t entry_of t) _ _ n q)))
