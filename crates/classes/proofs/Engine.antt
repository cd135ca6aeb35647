-- A plain engine that computes: the margins of a class as a list, and their sum.
use Rattle.std.specs.Prelude.{◌≡◌, refl, Bool, false, ◌&&◌, Float}
use Rattle.std.proofs.Common.{ap, ◌∙◌, inl, inr}
use Rattle.tree.specs.Tree.{Tree, Forest, node, none, more}
use Rattle.margin.specs.Margin.{sum_of}
use Rattle.classes.specs.Margins.{Box, val_t, val_f, Values}
use Rattle.classes.specs.Spots.{SpotT, SpotF, ClassOf}
use Rattle.classes.specs.Stacking.{thru_t, all_thru, Cur, begin, top_set, bot_set, thru_at_t, out_at_t, out_at_f, gap_at}
use Rattle.classes.specs.Sets.{pair_same}
use Rattle.classes.specs.Collect.{Iff, LeftF, RightF, BelowT}
use Rattle.classes.specs.Class.{reach, ClsT, ClsF, not_out_t}
use Rattle.classes.proofs.Class.{is_class}
use Rattle.classes.specs.Pairs.{UpV, DnV, LeftV, RightV}
use Rattle.classes.proofs.Theorem.{gap_is_sum}
use Rattle.classes.specs.Once.{FitsC, sum-once}
use Rattle.classes.specs.Engine.{app, only_if, up_l, dn_l, left_l, right_l, class_t, class_f, pair_of, plain_gap, In, then, app_if, if_app, cons_if, up_cases, dn_cases, TopV, BotV, left_cases, bot_cases, no_values, below_cases, node_cases, pair_of_lem, plain_out_t, plain_out_f, first_and}

mutual
  in_up : (t : Tree Box) (x : Float) → Iff (In (up_l t) x) (UpV t x)
  in_up (node a ks) x = then (cons_if a.above a.start (left_l ks) x (LeftV ks x) (in_left ks x)) (up_cases a ks x)

  in_dn : (t : Tree Box) (x : Float) → Iff (In (dn_l t) x) (DnV t x)
  in_dn (node a ks) x = then (cons_if a.under a.end (right_l ks) x (RightV ks x) (in_right ks x)) (dn_cases a ks x)

  in_left : (ts : Forest Box) (x : Float) → Iff (In (left_l ts) x) (LeftV ts x)
  in_left none x = no_values (LeftF none) x
  in_left (more t ts) x = then (app_if (thru_t t) (app (up_l t) (only_if (thru_t t) (dn_l t))) (left_l ts) x (TopV t x) (LeftV ts x) (app_if (thru_t t) (up_l t) (dn_l t) x (UpV t x) (DnV t x) (in_up t x) (in_dn t x)) (in_left ts x)) (left_cases t ts x)

  in_right : (ts : Forest Box) (x : Float) → Iff (In (right_l ts) x) (RightV ts x)
  in_right none x = no_values (RightF none) x
  in_right (more t ts) x =
      then (if_app (all_thru ts) (app (dn_l t) (only_if (thru_t t) (up_l t))) (right_l ts) x (BotV t x) (RightV ts x) (app_if (thru_t t) (dn_l t) (up_l t) x (DnV t x) (UpV t x) (in_dn t x) (in_up t x)) (in_right ts x))
      (bot_cases t ts (all_thru ts) (RightF ts) (RightF (more t ts)) x (λ m. (λ h. h, λ h. h)) (λ m. (λ h. h, λ h. h)))

mutual
  pub in_class_t : (t : Tree Box) (p : SpotT t) (x : Float) → Iff (In (class_t t p) x) (Values (val_t t) (ClsT t p) x)
  in_class_t (node a ks) p x = then (in_class_f ks p x) (node_cases a ks p x)

  pub in_class_f : (ts : Forest Box) (p : SpotF ts) (x : Float) → Iff (In (class_f ts p) x) (Values (val_f ts) (ClsF ts p) x)
  in_class_f none p x = absurd p
  in_class_f (more t ts) (inl u) x = in_left (more t ts) x
  in_class_f (more t ts) (inr (inl p)) x = then (in_class_t t p x) (below_cases t ts p x)
  in_class_f (more t ts) (inr (inr p)) x =
      then (if_app (reach ts p) (app (dn_l t) (only_if (thru_t t) (up_l t))) (class_f ts p) x (BotV t x) (Values (val_f ts) (ClsF ts p) x) (app_if (thru_t t) (dn_l t) (up_l t) x (DnV t x) (UpV t x) (in_dn t x) (in_up t x)) (in_class_f ts p x))
      (bot_cases t ts (reach ts p) (ClsF ts p) (ClsF (more t ts) (inr (inr p))) x (λ m. (λ h. h, λ h. h)) (λ m. (λ h. h, λ h. h)))

-- step J's gap is what the plain engine computes
pub gap_is_plain : (t : Tree Box) → BelowT t → (p : SpotT t) → thru_at_t t p ≡ false → out_at_t t p ≡ false → FitsC (λ x. Values (val_t t) (ClassOf t p) x) → gap_at t p ≡ plain_gap t p
unfolding plain_gap sum_of
gap_is_plain t b p e o f =
    let i = is_class t p b e (not_out_t t p o) in
    let w = pair_same (In (class_t t p)) (λ x. Values (val_t t) (ClassOf t p) x) (pair_of (class_t t p))
    (λ x h. let k = (in_class_t t p x).0 h in (k.0, (i k.0).1 k.1, k.2)) (λ x h. (in_class_t t p x).1 (h.0, (i h.0).0 h.1, h.2)) (pair_of_lem (class_t t p)) in
    sum-once (λ x. Values (val_t t) (ClassOf t p) x) f _ _ (gap_is_sum t b p e o)
    (record { positive = (pair_of (class_t t p)).positive; negative = (pair_of (class_t t p)).negative; most = w.most; least = w.least; is = refl })

mutual
  pub out_is_plain : (t : Tree Box) (p : SpotT t) → out_at_t t p ≡ plain_out_t t p
  out_is_plain (node a ks) p = out_is_plain_f ks a.start begin p

  out_is_plain_f : (ts : Forest Box) (s : Bool) (c : Cur) (p : SpotF ts) → out_at_f ts s c p ≡ plain_out_f ts (c.first && s) p
  out_is_plain_f none s c p = absurd p
  out_is_plain_f (more t ts) s c (inl u) = refl
  out_is_plain_f (more t ts) s c (inr (inl p)) = out_is_plain t p
  out_is_plain_f (more t ts) s c (inr (inr p)) = out_is_plain_f ts s _ p ∙ ap (λ (z : Bool). plain_out_f ts z p) (first_and c (thru_t t) s (top_set t) (bot_set t))
