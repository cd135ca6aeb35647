-- A page's asides by the places of its nodes: which of them are out of flow, and which runs hold them.
--     listed-T, listed-F     what is listed is out of flow, and each run from the first node on that holds it is an in-flow node's
--     lists-T, lists-F       and every such node is listed
use Rattle.std.specs.Prelude.{◌≡◌, refl, Bool, true, false, ℕ, suc, ◌+◌, ◌<◌, ◌≤◌, ltb}
use Rattle.std.proofs.Common.{sym, ap, ◌∙◌, ⊎_elim, arith, eq-or-lt_of_le, ltb-true, ltb-false}
use mathlib.Core.List.Memᴰ
use mathlib.Core.List.{◌++◌, Memᴰ}
use Rattle.tree.specs.Tree.{Tree, Forest, node, none, more, count_t, count_f}
use Rattle.style.specs.Flow.{flow_of}
use Rattle.style.specs.declared.Flow.{Flow}
use Rattle.style.specs.declared.Flow.TheVariants.{Gone, Out, In}
use Rattle.steps.specs.Page.{Site}
use Rattle.listing.specs.Asides.{asides_t, asides_f}
use Rattle.listing.specs.Stands.{gone_out, gone_in, out_in, asides_at, asides_none, asides_more}

-- how each node takes part, and where its run ends
module _ (flow : ℕ → Flow) (end : ℕ → ℕ) where
  -- a tree, or siblings, whose first node is b
  unfoldable mutual
    pub StandsT : ℕ → Tree Site → Type 0
    StandsT b (node l ks) = (flow_of l.style ≡ flow b) × (end b ≡ suc b + count_f ks) × StandsF (suc b) ks

    pub StandsF : ℕ → Forest Site → Type 0
    StandsF b none = Unit {0}
    StandsF b (more t ts) = StandsT b t × StandsF (b + count_t t) ts

  -- i, from b on and before e, is out of flow, and whatever holds it from b on is in flow
  pub record Free (b e i : ℕ) : Type 0 where
    pub low : b ≤ i
    pub high : i < e
    pub out : flow i ≡ Out
    pub clear : (m : ℕ) → b ≤ m → m < i → i < end m → flow m ≡ In

  -- runs end within the run of the tree
  ends-node : (b c m : ℕ) → end b ≡ suc b + c → b ≤ m → (suc b ≤ m → end m ≤ suc b + c) → end m ≤ suc b + c
  ends-node b c m e l h = ⊎_elim (λ (p : b ≡ m). let z : end b ≡ end m = ap end p in omega arith) (λ (p : b < m). h p) (eq-or-lt_of_le l)

  ends_more : (b c d m : ℕ) → (m < b + c → end m ≤ b + c) → (b + c ≤ m → end m ≤ b + c + d) → end m ≤ b + (c + d)
  ends_more b c d m f g = go (ltb m (b + c)) refl
    where
      go : (t : Bool) → ltb m (b + c) ≡ t → end m ≤ b + (c + d)
      go true q = let z = f (ltb-true _ _ q) in omega arith
      go false q = let z = g (ltb-false _ _ q) in omega arith

  mutual
    unfolding StandsT count_t

    ends-T : (b : ℕ) (t : Tree Site) → StandsT b t → (m : ℕ) → b ≤ m → m < b + count_t t → end m ≤ b + count_t t
    ends-T b (node l ks) s m h k =
        let z = ends-node b (count_f ks) m s.1 h (λ q. ends-F (suc b) ks s.2 m q (omega arith)) in
        omega arith

    ends-F : (b : ℕ) (ts : Forest Site) → StandsF b ts → (m : ℕ) → b ≤ m → m < b + count_f ts → end m ≤ b + count_f ts
    ends-F b none s m h k = absurd (omega arith)
    ends-F b (more t ts) s m h k = ends_more b (count_t t) (count_f ts) m (λ q. ends-T b t s.0 m h q) (λ q. ends-F (b + count_t t) ts s.1 m q (omega arith))

  -- what is listed
  listed-node : (b : ℕ) (l : Site) (ks : Forest Site) (i : ℕ) → flow_of l.style ≡ flow b → (Memᴰ i (asides_f (suc b) ks) → Free (suc b) (suc b + count_f ks) i) → Memᴰ i (asides_t b (node l ks)) → Free b (b + suc (count_f ks)) i
  listed-node b l ks i s h m = go (flow_of l.style) refl
    where
      go : (w : Flow) → flow_of l.style ≡ w → Free b (b + suc (count_f ks)) i
      go Gone e = absurd (Memᴰ.not-nil (rw (asides_at b l ks Gone e) at m))
      go Out e =
          let p : i ≡ b = Memᴰ.eq_of_singleton (rw (asides_at b l ks Out e) at m) in
          record { low = omega arith; high = omega arith; out = ap flow p ∙ sym s ∙ e; clear = λ k x y z. absurd (omega arith) }
      go In e =
          let f = h (rw (asides_at b l ks In e) at m) in
          let x = f.low in
          let y = f.high in
          record { low = omega arith; high = omega arith; out = f.out; clear = λ k u v w. ⊎_elim (λ (p : b ≡ k). ap flow (sym p) ∙ sym s ∙ e) (λ (p : b < k). f.clear k p v w) (eq-or-lt_of_le u) }

  listed_more : (b : ℕ) (t : Tree Site) (ts : Forest Site) (i : ℕ) → StandsT b t → (Memᴰ i (asides_t b t) → Free b (b + count_t t) i) → (Memᴰ i (asides_f (b + count_t t) ts) → Free (b + count_t t) (b + count_t t + count_f ts) i)
      → Memᴰ i (asides_f b (more t ts)) → Free b (b + (count_t t + count_f ts)) i
  listed_more b t ts i s f g m = ⊎_elim left right (Memᴰ.append_cases (asides_t b t) (rw (asides_more b t ts) at m))
    where
      left : Memᴰ i (asides_t b t) → Free b (b + (count_t t + count_f ts)) i
      left n = let r = f n in let y = r.high in record { low = r.low; high = omega arith; out = r.out; clear = r.clear }

      right : Memᴰ i (asides_f (b + count_t t) ts) → Free b (b + (count_t t + count_f ts)) i
      right n =
          let r = g n in
          let x = r.low in
          let y = r.high in
          record { low = omega arith; high = omega arith; out = r.out; clear = λ k u v w. past k u v w (ltb k (b + count_t t)) refl r }
        where
          past : (k : ℕ) → b ≤ k → k < i → i < end k → (q : Bool) → ltb k (b + count_t t) ≡ q → Free (b + count_t t) (b + count_t t + count_f ts) i → flow k ≡ In
          past k u v w true e r = let x = r.low in let z = ends-T b t s k u (ltb-true _ _ e) in absurd (omega arith)
          past k u v w false e r = r.clear k (ltb-false _ _ e) v w

  mutual
    unfolding StandsT count_t

    listed-T : (b : ℕ) (t : Tree Site) (i : ℕ) → StandsT b t → Memᴰ i (asides_t b t) → Free b (b + count_t t) i
    listed-T b (node l ks) i s m = listed-node b l ks i s.0 (λ n. listed-F (suc b) ks i s.2 n) m

    pub listed-F : (b : ℕ) (ts : Forest Site) (i : ℕ) → StandsF b ts → Memᴰ i (asides_f b ts) → Free b (b + count_f ts) i
    listed-F b none i s m = absurd (Memᴰ.not-nil (rw (asides_none b) at m))
    listed-F b (more t ts) i s m = listed_more b t ts i s.0 (λ n. listed-T b t i s.0 n) (λ n. listed-F (b + count_t t) ts i s.1 n) m

  -- what is to be listed
  lists-node : (b : ℕ) (l : Site) (ks : Forest Site) (i : ℕ) → flow_of l.style ≡ flow b → end b ≡ suc b + count_f ks → (Free (suc b) (suc b + count_f ks) i → Memᴰ i (asides_f (suc b) ks)) → Free b (b + suc (count_f ks)) i → Memᴰ i (asides_t b (node l ks))
  lists-node b l ks i s z h f = go (flow_of l.style) refl
    where
      inside : b < i → Free (suc b) (suc b + count_f ks) i
      inside p = let y = f.high in record { low = p; high = omega arith; out = f.out; clear = λ k u v w. f.clear k (omega arith) v w }

      -- if i is not b, b holds it
      above : b < i → flow b ≡ In
      above p = let y = f.high in f.clear b (omega arith) p (omega arith)

      at_b : b ≡ i → flow b ≡ Out
      at_b p = ap flow p ∙ f.out

      go : (w : Flow) → flow_of l.style ≡ w → Memᴰ i (asides_t b (node l ks))
      go Gone e = ⊎_elim (λ (p : b ≡ i). gone_out (sym s ∙ e) (at_b p)) (λ (p : b < i). gone_in (sym s ∙ e) (above p)) (eq-or-lt_of_le f.low)
      go Out e = rw (asides_at b l ks Out e) (⊎_elim (λ (p : b ≡ i). Memᴰ.head (sym p)) (λ (p : b < i). out_in (sym s ∙ e) (above p)) (eq-or-lt_of_le f.low))
      go In e = rw (asides_at b l ks In e) (⊎_elim (λ (p : b ≡ i). out_in (at_b p) (sym s ∙ e)) (λ (p : b < i). h (inside p)) (eq-or-lt_of_le f.low))

  lists-more : (b : ℕ) (t : Tree Site) (ts : Forest Site) (i : ℕ) → (Free b (b + count_t t) i → Memᴰ i (asides_t b t)) → (Free (b + count_t t) (b + count_t t + count_f ts) i → Memᴰ i (asides_f (b + count_t t) ts))
      → Free b (b + (count_t t + count_f ts)) i → Memᴰ i (asides_f b (more t ts))
  lists-more b t ts i f g r = rw (asides_more b t ts) (go (ltb i (b + count_t t)) refl)
    where
      go : (q : Bool) → ltb i (b + count_t t) ≡ q → Memᴰ i (asides_t b t ++ asides_f (b + count_t t) ts)
      go true e = Memᴰ.append_left _ (f (record { low = r.low; high = ltb-true _ _ e; out = r.out; clear = r.clear }))
      go false e = let y = r.high in Memᴰ.append_right (asides_t b t) (g (record { low = ltb-false _ _ e; high = omega arith; out = r.out; clear = λ k u v w. r.clear k (omega arith) v w }))

  mutual
    unfolding StandsT count_t

    lists-T : (b : ℕ) (t : Tree Site) (i : ℕ) → StandsT b t → Free b (b + count_t t) i → Memᴰ i (asides_t b t)
    lists-T b (node l ks) i s f = lists-node b l ks i s.0 s.1 (λ r. lists-F (suc b) ks i s.2 r) f

    pub lists-F : (b : ℕ) (ts : Forest Site) (i : ℕ) → StandsF b ts → Free b (b + count_f ts) i → Memᴰ i (asides_f b ts)
    lists-F b none i s f = let x = f.low in let y = f.high in absurd (omega arith)
    lists-F b (more t ts) i s f = lists-more b t ts i (λ r. lists-T b t i s.0 r) (λ r. lists-F (b + count_t t) ts i s.1 r) f
