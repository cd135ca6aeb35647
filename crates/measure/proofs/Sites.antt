-- Parts of words: a subtree's run of words is that subtree's.
use mathlib.Core.Path.{◌≡◌, refl, sym, ap, ◌∙◌}
use mathlib.Core.List.{List, [], ◌∷◌, ◌++◌}
use Prim.Native.Nat.{ℕ, suc, ◌+◌, ◌*◌, ◌-◌, ◌<◌, ◌≤◌}
use native.Mathlib.Omega.{arith}
use native.Mathlib.Nat.{add-zero}
use lib.ListN.{length, take, drop, length-take, length-drop}
use lib.Ieee.{Float}
use Rattle.style.specs.Style.{word_at, plane_of, style_at}
use Rattle.tree.specs.Tree.{Tree, Forest, node, none, more, count_t, count_f, depth_t, flat_t, flat_f}
use Rattle.tree.specs.Table.{Entry, entry_of, from}
use Rattle.tree.proofs.Laws.{count_t_node, count_f_none, count_f_more, flat_t_node, flat_f_more, depth_t_node}
use Rattle.tree.proofs.Lists.{heads, tails, from_suc, from-add, length_from, cons-first, cons-rest}
use Rattle.tree.proofs.Parse.{entries_t}
use Rattle.steps.specs.Page.{Site, site_at}
use Rattle.walks.proofs.Parts.{sites_part}
use Rattle.measure.specs.Contract.{SitesT, SitesF, IsTree, IsForest}

-- a run of sites that begins with a tree
record Parted (f : ℕ → Entry Site) (a : ℕ) (t : Tree Site) (us : Forest Site) : Type 0 where
  mine : from f a (count_t t) ≡ flat_t entry_of t
  rest : from f (a + count_t t) (count_f us) ≡ flat_f entry_of us

parted : (f : ℕ → Entry Site) (a : ℕ) (t : Tree Site) (us : Forest Site) → from f a (count_f (more t us)) ≡ flat_f entry_of (more t us) → Parted f a t us
parted f a t us e =
    let q : from f a (count_t t) ++ from f (a + count_t t) (count_f us) ≡ flat_t entry_of t ++ flat_f entry_of us =
    sym (from-add f a (count_t t) (count_f us)) ∙ ap (from f a) (sym (count_f_more t us)) ∙ e ∙ flat_f_more entry_of t us in
    let n : length (from f a (count_t t)) ≡ length (flat_t entry_of t) = length_from f a (count_t t) ∙ sym (entries_t t) in
    record { mine = heads (from f a (count_t t)) (flat_t entry_of t) (from f (a + count_t t) (count_f us)) (flat_f entry_of us) n q; rest = tails (from f a (count_t t)) (flat_t entry_of t) (from f (a + count_t t) (count_f us)) (flat_f entry_of us) n q }

head_and_tail : (f : ℕ → Entry Site) (a : ℕ) (l : Site) (ks : Forest Site) → from f a (count_t (node l ks)) ≡ flat_t entry_of (node l ks)
    → f a ∷ from f (suc a) (count_f ks) ≡ record { size = suc (count_f ks); label = l } ∷ flat_f entry_of ks
head_and_tail f a l ks e = sym (from_suc f a (count_f ks)) ∙ ap (from f a) (sym (count_t_node l ks)) ∙ e ∙ flat_t_node entry_of l ks

first_site : (f : ℕ → Entry Site) (a : ℕ) (l : Site) (ks : Forest Site) → from f a (count_t (node l ks)) ≡ flat_t entry_of (node l ks) → f a ≡ record { size = suc (count_f ks); label = l }
first_site f a l ks e = cons-first (f a) _ (from f (suc a) (count_f ks)) (flat_f entry_of ks) (head_and_tail f a l ks e)

kids_sites : (f : ℕ → Entry Site) (a : ℕ) (l : Site) (ks : Forest Site) → from f a (count_t (node l ks)) ≡ flat_t entry_of (node l ks) → from f (suc a) (count_f ks) ≡ flat_f entry_of ks
kids_sites f a l ks e = cons-rest (f a) _ (from f (suc a) (count_f ks)) (flat_f entry_of ks) (head_and_tail f a l ks e)

site_size : (ws : List ℕ) (xs : List Float) (b a n : ℕ) (l : Site) → site_at ws xs [] b a ≡ record { size = n; label = l } → word_at ws a 0 ≡ n
unfolding site_at
site_size ws xs b a n l e = ap (λ (x : Entry Site). x.size) e

site_style : (ws : List ℕ) (xs : List Float) (b a n : ℕ) (l : Site) → site_at ws xs [] b a ≡ record { size = n; label = l } → style_at ws a xs (b + a) ≡ l.style
unfolding site_at
site_style ws xs b a n l e = ap (λ (x : Entry Site). x.label.style) e

-- ---- a tree's own node, and its children's words
pub root_style : (ws : List ℕ) (xs : List Float) (b : ℕ) (l : Site) (ks : Forest Site) → SitesT ws xs b (node l ks) → style_at ws 0 xs b ≡ l.style
root_style ws xs b l ks h = ap (style_at ws 0 xs) (sym (add-zero b)) ∙ site_style ws xs b 0 (suc (count_f ks)) l (first_site (site_at ws xs [] b) 0 l ks h.sites_are)

pub kids_of : (ws : List ℕ) (xs : List Float) (b : ℕ) (l : Site) (ks : Forest Site) → SitesT ws xs b (node l ks) → SitesF (take (length ws - 4) (drop 4 ws)) xs (b + 1) ks
kids_of ws xs b l ks h =
    let one : count_t (node l ks) ≡ suc (count_f ks) = count_t_node l ks in
    let wl = h.words_long in
    record {
      words_long = simp (length-take, length-drop) (omega arith);
      sites_are = sites_part ws xs [] b 1 4 (length ws - 4) (count_f ks) refl (omega arith) ∙ kids_sites (site_at ws xs [] b) 0 l ks h.sites_are;
    }

-- what the tree that some `requires` gives says of the lengths
pub record Facts (ws : List ℕ) (xs : List Float) (b depth : ℕ) : Type 0 where
  pub words_some : 4 ≤ length ws
  pub deep : 1 ≤ depth
  pub fit : 4 * b + length ws ≤ 4096
  pub reach : b < plane_of xs
  pub kids : IsForest (take (length ws - 4) (drop 4 ws)) xs (b + 1) (depth - 1)

facts_of : (ws : List ℕ) (xs : List Float) (b depth : ℕ) (t : Tree Site) → SitesT ws xs b t → depth_t t ≤ depth → b + count_t t ≤ 1024 → b + count_t t ≤ plane_of xs → Facts ws xs b depth
facts_of ws xs b depth (node l ks) h dp fit reach =
    let one : count_t (node l ks) ≡ suc (count_f ks) = count_t_node l ks in
    let wl = h.words_long in
    let z = simp depth_t_node at dp in
    record {
      words_some = omega arith;
      deep = omega arith;
      fit = omega arith;
      reach = omega arith;
      kids = record { forest = ks; sites = kids_of ws xs b l ks h; deep = omega arith; fit = omega arith; reach = omega arith };
    }

pub facts : (ws : List ℕ) (xs : List Float) (b depth : ℕ) → IsTree ws xs b depth → Facts ws xs b depth
facts ws xs b depth h = facts_of ws xs b depth h.tree h.sites h.deep h.fit h.reach

-- ---- what a loop over siblings has left, from node a on
pub record Left (ws : List ℕ) (xs : List Float) (b a : ℕ) (left : Forest Site) : Type 0 where
  pub words_long : length ws ≡ 4 * (a + count_f left)
  pub sites_left : from (site_at ws xs [] b) a (count_f left) ≡ flat_f entry_of left

pub left_begin : (ws : List ℕ) (xs : List Float) (b : ℕ) (ts : Forest Site) → SitesF ws xs b ts → Left ws xs b 0 ts
left_begin ws xs b ts h = record { words_long = h.words_long ∙ omega arith; sites_left = h.sites_are }

-- below a tree's own node
pub left_below : (ws : List ℕ) (xs : List Float) (b : ℕ) (l : Site) (ks : Forest Site) → SitesT ws xs b (node l ks) → Left ws xs b 1 ks
left_below ws xs b l ks h =
    let one : count_t (node l ks) ≡ suc (count_f ks) = count_t_node l ks in
    record { words_long = h.words_long ∙ omega arith; sites_left = kids_sites (site_at ws xs [] b) 0 l ks h.sites_are }

pub left_none : (ws : List ℕ) (xs : List Float) (b a : ℕ) (t : Tree Site) (us : Forest Site) → Left ws xs b a (more t us) → length ws ≤ 4 * a → ⊥
left_none ws xs b a (node l ks) us h le =
    let n : count_f (more (node l ks) us) ≡ suc (count_f ks) + count_f us = count_f_more (node l ks) us ∙ ap (λ (k : ℕ). k + count_f us) (count_t_node l ks) in
    omega (arith, h.words_long)

pub left_some : (ws : List ℕ) (xs : List Float) (b a : ℕ) → Left ws xs b a none → 4 * a < length ws → ⊥
left_some ws xs b a h lt = omega (arith, h.words_long, count_f_none Site)

-- the next child, and what is left after it
pub record Child (ws : List ℕ) (xs : List Float) (b a e : ℕ) (t : Tree Site) (us : Forest Site) : Type 0 where
  pub size_is : e ≡ a + count_t t
  pub some : a < e
  pub words_in_lem : 4 * e ≤ length ws
  pub sites : SitesT (take (4 * e - 4 * a) (drop (4 * a) ws)) xs (b + a) t
  pub next : Left ws xs b e us

pub child_of : (ws : List ℕ) (xs : List Float) (b a e : ℕ) (t : Tree Site) (us : Forest Site) → Left ws xs b a (more t us) → e ≡ a + word_at ws a 0 → Child ws xs b a e t us
child_of ws xs b a e (node l ks) us h ed =
    let t : Tree Site = node l ks in
    let n : count_f (more t us) ≡ count_t t + count_f us = count_f_more t us in
    let one : count_t t ≡ suc (count_f ks) = count_t_node l ks in
    let s = parted (site_at ws xs [] b) a t us h.sites_left in
    let r = site_size ws xs b a (suc (count_f ks)) l (first_site (site_at ws xs [] b) a l ks s.mine) in
    let ee : e ≡ a + count_t t = ed ∙ ap (λ (k : ℕ). a + k) (r ∙ sym one) in
    let wl : length ws ≡ 4 * (a + (count_t t + count_f us)) = h.words_long ∙ ap (λ (k : ℕ). 4 * (a + k)) n in
    record {
      size_is = ee;
      some = omega arith;
      words_in_lem = omega arith;
      sites = record {
        words_long = simp (length-take, length-drop) (omega arith);
        sites_are = sites_part ws xs [] b a (4 * a) (4 * e - 4 * a) (count_t t) refl (omega arith) ∙ s.mine;
      };
      next = record { words_long = wl ∙ omega arith; sites_left = ap (λ (i : ℕ). from (site_at ws xs [] b) i (count_f us)) ee ∙ s.rest };
    }
