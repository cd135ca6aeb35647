-- What is collected is joined by links.
use Rattle.std.proofs.Common.{inl, inr}
use Rattle.tree.specs.Tree.{Tree, Forest, node, none, more}
use Rattle.classes.specs.Margins.{Box, Top, Bottom, MarT, MarF, Own, LinkT, LinkF, Joined, self, on, back}
use Rattle.classes.specs.Collect.{TopC, BotC, first_left, left_right}
use Rattle.classes.specs.Linked.{carry, chain, own, own_top_lem, own_bottom, first_of, through_link, none_here, UpJ, DnJ, LeftJ, RightJ, up-node, dn-node}

top_by_lem : (t : Tree Box) → UpJ t → DnJ t → (m : MarT t) → TopC t m → (k : MarT t) → Own Top t k → Joined (LinkT t) k m
top_by_lem t u d m (inl x) k h = u m x k h
top_by_lem t u d m (inr x) k h = chain (LinkT t) k (own Bottom t) m (on k (own Bottom t) self (through_link t k (own Bottom t) x.0 h (own_bottom t))) (d m x.1 (own Bottom t) (own_bottom t))

bot_by : (t : Tree Box) → UpJ t → DnJ t → (m : MarT t) → BotC t m → (k : MarT t) → Own Bottom t k → Joined (LinkT t) k m
bot_by t u d m (inl x) k h = d m x k h
bot_by t u d m (inr x) k h = chain (LinkT t) k (own Top t) m (back k (own Top t) self (through_link t (own Top t) k x.0 (own_top_lem t) h)) (u m x.1 (own Top t) (own_top_lem t))

module _ (t : Tree Box) (ts : Forest Box) where
  this : (x y : MarT t) → Joined (LinkT t) x y → Joined (LinkF (more t ts)) (inl x) (inl y)
  this x y j = carry (LinkT t) (LinkF (more t ts)) (λ m. inl m) (λ m n r. r) x y j

  later : (x y : MarF ts) → Joined (LinkF ts) x y → Joined (LinkF (more t ts)) (inr x) (inr y)
  later x y j = carry (LinkF ts) (LinkF (more t ts)) (λ m. inr m) (λ m n r. r) x y j

  left_join : UpJ t → DnJ t → LeftJ ts → LeftJ (more t ts)
  left_join u d l (inl m) x (inl k) h = this k m (top_by_lem t u d m x k h)
  left_join u d l (inl m) x (inr k) h = absurd h
  left_join u d l (inr m) x (inr k) h = absurd h
  left_join u d l (inr m) x (inl k) h =
      let f = first_of ts m in
      let b = own Bottom t in
      chain (LinkF (more t ts)) (inl k) (inr f.0) (inr m)
      (on (inl b) (inr f.0) (on (inl k) (inl b) self (through_link t k b x.0 h (own_bottom t))) (own_bottom t, f.1))
      (later f.0 m (l m x.1 f.0 f.1))

  right-join : UpJ t → DnJ t → RightJ ts → RightJ (more t ts)
  right-join u d r (inl m) x (inl k) h = this k m (bot_by t u d m x.1 k h.0)
  right-join u d r (inl m) x (inr k) h =
      let f = first_of ts k in
      let b = own Bottom t in
      chain (LinkF (more t ts)) (inr k) (inl b) (inl m)
      (back (inr f.0) (inl b) (later k f.0 (r f.0 (left_right ts f.0 x.0 (first_left ts f.0 f.1)) k h)) (own_bottom t, f.1))
      (this b m (bot_by t u d m x.1 b (own_bottom t)))
  right-join u d r (inr m) x (inl k) h = absurd (none_here ts h.1 m)
  right-join u d r (inr m) x (inr k) h = later k m (r m x k h)

mutual
  pub up_joined : (t : Tree Box) → UpJ t
  up_joined (node a ks) = up-node a ks (left_joined ks)

  pub dn_joined : (t : Tree Box) → DnJ t
  dn_joined (node a ks) = dn-node a ks (right_joined ks)

  pub left_joined : (ts : Forest Box) → LeftJ ts
  left_joined none = λ m x. absurd x
  left_joined (more t ts) = left_join t ts (up_joined t) (dn_joined t) (left_joined ts)

  pub right_joined : (ts : Forest Box) → RightJ ts
  right_joined none = λ m x. absurd x
  right_joined (more t ts) = right-join t ts (up_joined t) (dn_joined t) (right_joined ts)

pub top_joined : (t : Tree Box) (m : MarT t) → TopC t m → (k : MarT t) → Own Top t k → Joined (LinkT t) k m
top_joined t = top_by_lem t (up_joined t) (dn_joined t)

pub bot_joined : (t : Tree Box) (m : MarT t) → BotC t m → (k : MarT t) → Own Bottom t k → Joined (LinkT t) k m
bot_joined t = bot_by t (up_joined t) (dn_joined t)
