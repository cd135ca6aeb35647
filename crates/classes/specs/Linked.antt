-- What is collected is joined by links.
use Rattle.std.specs.Prelude.{◌≡◌, true}
use Rattle.std.proofs.Common.{inl, inr}
use Rattle.tree.specs.Tree.{Tree, Forest, node, none, more}
use Rattle.classes.specs.Margins.{Box, Side, Top, Bottom, MarT, MarF, Own, FirstTop, LastBottom, IsNone, LinkT, LinkF, Joined, self, on, back}
use Rattle.classes.specs.Stacking.{thru_t}
use Rattle.classes.specs.Collect.{Iff, UpT, DnT, LeftF, RightF}

-- a set that holds one margin and is closed under links holds its class
pub close : {A : Type 0} (R : A → A → Type 0) (P : A → Type 0) (x : A) → ((m n : A) → R m n → Iff (P m) (P n)) → P x → (y : A) → Joined R x y → P y
close R P x h p y self = p
close R P x h p y (on w z j r) = (h w z r).0 (close R P x h p w j)
close R P x h p y (back w z j r) = (h z w r).1 (close R P x h p w j)

pub carry : {A B : Type 0} (R : A → A → Type 0) (S : B → B → Type 0) (f : A → B) → ((m n : A) → R m n → S (f m) (f n)) → (x y : A) → Joined R x y → Joined S (f x) (f y)
carry R S f h x y self = self
carry R S f h x y (on w z j r) = on (f w) (f z) (carry R S f h x w j) (h w z r)
carry R S f h x y (back w z j r) = back (f w) (f z) (carry R S f h x w j) (h z w r)

pub chain : {A : Type 0} (R : A → A → Type 0) (x y z : A) → Joined R x y → Joined R y z → Joined R x z
chain R x y z p self = p
chain R x y z p (on w v j r) = on w v (chain R x y w p j) r
chain R x y z p (back w v j r) = back w v (chain R x y w p j) r

-- own margins, the first top, the last bottom
abbrev pub own : (s : Side) (t : Tree Box) → MarT t
own s (node a ks) = inl s

pub own_top_lem : (t : Tree Box) → Own Top t (own Top t)
own_top_lem (node a ks) = tt

pub own_bottom : (t : Tree Box) → Own Bottom t (own Bottom t)
own_bottom (node a ks) = tt

abbrev pub First : Forest Box → Type 0
First ts = (k : MarF ts) × FirstTop ts k

pub first_of : (ts : Forest Box) (m : MarF ts) → First ts
first_of none m = absurd m
first_of (more t ts) m = (inl (own Top t), own_top_lem t)

pub last_of : (ts : Forest Box) (m : MarF ts) → (k : MarF ts) × LastBottom ts k
last_of none m = absurd m
last_of (more t none) m = (inl (own Bottom t), (own_bottom t, tt))
last_of (more t (more u us)) m = let l = last_of (more u us) (inl (own Top u)) in (inr l.0, l.1)

pub through_link : (t : Tree Box) (k j : MarT t) → thru_t t ≡ true → Own Top t k → Own Bottom t j → LinkT t k j
through_link (node a ks) (inl Top) (inl Top) e h g = absurd g
through_link (node a ks) (inl Top) (inl Bottom) e h g = e
through_link (node a ks) (inl Bottom) (inl z) e h g = absurd h
through_link (node a ks) (inl Top) (inr j) e h g = absurd g
through_link (node a ks) (inl Bottom) (inr j) e h g = absurd h
through_link (node a ks) (inr k) j e h g = absurd h

pub none_here : (ts : Forest Box) → IsNone ts → MarF ts → ⊥
none_here none h m = m
none_here (more t ts) h m = h

abbrev pub UpJ : Tree Box → Type 0
UpJ t = (m : MarT t) → UpT t m → (k : MarT t) → Own Top t k → Joined (LinkT t) k m

abbrev pub DnJ : Tree Box → Type 0
DnJ t = (m : MarT t) → DnT t m → (k : MarT t) → Own Bottom t k → Joined (LinkT t) k m

abbrev pub LeftJ : Forest Box → Type 0
LeftJ ts = (m : MarF ts) → LeftF ts m → (k : MarF ts) → FirstTop ts k → Joined (LinkF ts) k m

abbrev pub RightJ : Forest Box → Type 0
RightJ ts = (m : MarF ts) → RightF ts m → (k : MarF ts) → LastBottom ts k → Joined (LinkF ts) k m

module _ (a : Box) (ks : Forest Box) where
  kid : (x y : MarF ks) → Joined (LinkF ks) x y → Joined (LinkT (node a ks)) (inr x) (inr y)
  kid x y j = carry (LinkF ks) (LinkT (node a ks)) (λ m. inr m) (λ m n r. r) x y j

  pub up-node : LeftJ ks → UpJ (node a ks)
  up-node l (inl Top) x (inl Top) h = self
  up-node l (inl Top) x (inl Bottom) h = absurd h
  up-node l (inl Bottom) x k h = absurd x
  up-node l (inl Top) x (inr k) h = absurd h
  up-node l (inr m) x (inl Top) h =
      let f = first_of ks m in
      chain (LinkT (node a ks)) (inl Top) (inr f.0) (inr m) (on (inl Top) (inr f.0) self (x.0, f.1)) (kid f.0 m (l m x.1 f.0 f.1))
  up-node l (inr m) x (inl Bottom) h = absurd h
  up-node l (inr m) x (inr k) h = absurd h

  pub dn-node : RightJ ks → DnJ (node a ks)
  dn-node r (inl Bottom) x (inl Bottom) h = self
  dn-node r (inl Bottom) x (inl Top) h = absurd h
  dn-node r (inl Top) x k h = absurd x
  dn-node r (inl Bottom) x (inr k) h = absurd h
  dn-node r (inr m) x (inl Bottom) h =
      let f = last_of ks m in
      chain (LinkT (node a ks)) (inl Bottom) (inr f.0) (inr m) (back (inl Bottom) (inr f.0) self (x.0, f.1)) (kid f.0 m (r m x.1 f.0 f.1))
  dn-node r (inr m) x (inl Top) h = absurd h
  dn-node r (inr m) x (inr k) h = absurd h
