-- The candidate list in plain words, by the words of lent tables: node i is listed exactly if it is shown and out of flow, not the root, and no ancestor of it but the root is hidden or out of flow; and the numbers grow.
use Rattle.std.specs.Prelude.{◌≡◌, Float}
use Rattle.std.proofs.Math.Path.{refl, ap}
use Rattle.std.proofs.Common.{sym, ◌∙◌}
use mathlib.Core.List.{List, [], ◌∷◌, Memᴰ}
use Prim.Native.Nat.{ℕ, suc, ◌+◌}
use native.Mathlib.Omega.{arith}
use Rattle.tree.specs.Tree.{Tree, Forest, node, none, more, count_t, count_f, flat_t, flat_f}
use Rattle.tree.specs.Table.{Entry, entry_of, from}
use Rattle.tree.proofs.Laws.{flat_t_node, flat_f_more}
use Rattle.tree.proofs.Lists.{heads, tails, cons-first, cons-rest, from_suc, from-add, length_from}
use Rattle.tree.proofs.Parse.{entries_t}
use Rattle.style.specs.Style.{word_at, style_at}
use Rattle.style.specs.Flow.{flow_at, flow_of}
use Rattle.steps.specs.Page.{Site, site_at, nodes_in, page_of}
use Rattle.steps.specs.Noes.{end_at, bad_tree}
use Rattle.tables.specs.TreeCheck.{GoodTable}
use Rattle.tables.proofs.ScanLaws.{lowest-nowhere}
use Rattle.tables.proofs.Ancestors.{ancestor-holds, holds-is}
use Rattle.tables.proofs.GoodPage.{good_page}
use Rattle.tables.proofs.Exactly.{Exactly}
use Rattle.listing.specs.Asides.{asides_t, asides_f, asides}
use Rattle.listing.proofs.Stands.{StandsT, StandsF, Free, listed-F, lists-F}
use Rattle.listing.specs.Members.{flow_in, Aside, Grows, grows_append, grows_node}

-- the entries of a table, node by node
module _ (ws : List ℕ) (xs : List Float) where
  abbrev entry : ℕ → Entry Site
  entry = site_at ws xs [] 0

  flow_is : (b : ℕ) (l : Site) → (entry b).label ≡ l → flow_of l.style ≡ flow_in ws b
  unfolding site_at style_at flow_of flow_at
  flow_is b l e = ap (λ (s : Site). flow_of s.style) (sym e)

  size_is : (b : ℕ) → (entry b).size ≡ word_at ws b 0
  unfolding site_at
  size_is b = refl

  mutual
    unfolding StandsT count_t

    stands-T : (b : ℕ) (t : Tree Site) → from entry b (count_t t) ≡ flat_t entry_of t → StandsT (flow_in ws) (end_at ws) b t
    stands-T b (node l ks) e =
        let q : entry b ∷ from entry (suc b) (count_f ks) ≡ record { size = suc (count_f ks); label = l } ∷ flat_f entry_of ks = sym (from_suc entry b (count_f ks)) ∙ e ∙ flat_t_node entry_of l ks in
        let h = cons-first (entry b) _ (from entry (suc b) (count_f ks)) (flat_f entry_of ks) q in
        let z : word_at ws b 0 ≡ suc (count_f ks) = sym (size_is b) ∙ ap (λ (x : Entry Site). x.size) h in
        (flow_is b l (ap (λ (x : Entry Site). x.label) h), omega arith, stands-F (suc b) ks (cons-rest (entry b) _ (from entry (suc b) (count_f ks)) (flat_f entry_of ks) q))

    stands-F : (b : ℕ) (ts : Forest Site) → from entry b (count_f ts) ≡ flat_f entry_of ts → StandsF (flow_in ws) (end_at ws) b ts
    stands-F b none e = tt
    stands-F b (more t ts) e =
        let q = sym (from-add entry b (count_t t) (count_f ts)) ∙ e ∙ flat_f_more entry_of t ts in
        let n = length_from entry b (count_t t) ∙ sym (entries_t t) in
        (stands-T b t (heads (from entry b (count_t t)) (flat_t entry_of t) _ _ n q), stands-F (b + count_t t) ts (tails (from entry b (count_t t)) (flat_t entry_of t) _ _ n q))

  -- a page's list, by places
  free-page : (t : Tree Site) (i : ℕ) → StandsT (flow_in ws) (end_at ws) 0 t → Exactly (Memᴰ i (asides t)) (Free (flow_in ws) (end_at ws) 1 (count_t t) i)
  unfolding asides StandsT count_t
  free-page (node l ks) i s =
      let n : 1 + count_f ks ≡ suc (count_f ks) = omega arith in
      record { only = λ m. rw (← n) (listed-F (flow_in ws) (end_at ws) 1 ks i s.2 m); given = λ f. lists-F (flow_in ws) (end_at ws) 1 ks i s.2 (rw n f) }

  pub listed-exactly : GoodTable ws → (i : ℕ) → Exactly (Memᴰ i (asides (page_of ws xs []))) (Aside ws i)
  listed-exactly good i =
      let g = good_page ws good xs [] in
      let x = free-page (page_of ws xs []) i (stands-T 0 (page_of ws xs []) (ap (from entry 0) g.count ∙ g.entries)) in
      let low = lowest-nowhere (bad_tree ws) (nodes_in ws) good.sound in
      record {
        only = λ m.
            let f = x.only m in
            let n = g.count in
            let a = f.low in
            let b = f.high in
            record { not_root = a; within = omega arith; out = f.out; clear = λ j c h. let y = ancestor-holds ws c (λ k l. low k (omega arith)) in f.clear j h y.0 y.1 };
        given = λ f.
            let n = g.count in
            let b = f.within in
            x.given (record { low = f.not_root; high = omega arith; out = f.out; clear = λ j h l u. f.clear j (holds-is ws i (λ k v. low k (omega arith)) j l u) h });
      }

mutual
  unfolding asides_t count_t Grows

  grows_t : (b : ℕ) (t : Tree Site) → Grows b (b + count_t t) (asides_t b t)
  grows_t b (node l ks) = grows_node (flow_of l.style) b (count_f ks) (asides_f (suc b) ks) (grows_f (suc b) ks)

  grows_f : (b : ℕ) (ts : Forest Site) → Grows b (b + count_f ts) (asides_f b ts)
  grows_f b none = omega arith
  grows_f b (more t ts) =
      let e : b + count_t t + count_f ts ≡ b + (count_t t + count_f ts) = omega arith in
      grows_append b (b + count_t t) (b + (count_t t + count_f ts)) (asides_t b t) (asides_f (b + count_t t) ts) (grows_t b t) (rw e at (grows_f (b + count_t t) ts))

-- in preorder: no number twice, each larger than the one before
pub asides_grow : (t : Tree Site) → Grows 1 (count_t t) (asides t)
unfolding asides count_t
asides_grow (node l ks) =
    let e : 1 + count_f ks ≡ suc (count_f ks) = omega arith in
    rw e at (grows_f 1 ks)
