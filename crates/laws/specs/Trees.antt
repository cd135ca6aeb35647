-- Trees that agree in parts agree; two trees of one shape are views of one tree. Truth values.
use Rattle.std.proofs.Math.Path.{◌≡◌, ap}
use Rattle.std.specs.Prelude.{refl, Bool, true, false, not, ℕ}
use Rattle.std.proofs.Common.{sym, ◌∙◌, arith}
use Rattle.tree.specs.Tree.{Tree, Forest, node, none, more, map_t, map_f}

abbrev pub top_t : {A : Type 0} → Tree A → A
top_t (node a ks) = a

abbrev pub kids_t : {A : Type 0} → Tree A → Forest A
kids_t (node a ks) = ks

abbrev pub first_f : {A : Type 0} → Tree A → Forest A → Tree A
first_f u none = u
first_f u (more t ts) = t

abbrev pub rest_f : {A : Type 0} → Forest A → Forest A
rest_f none = none
rest_f (more t ts) = ts

pub not_true : (a : Bool) → not a ≡ true → a ≡ false
not_true true e = sym e
not_true false e = refl

pub false_true : {A : Type 0} (b : Bool) → b ≡ false → b ≡ true → A
false_true b p q =
    let t : true ≡ false = sym q ∙ p in
    let z : ◌≡◌ {A = ℕ} 0 1 = cc in
    absurd (omega arith)

-- every label of a tree
unfoldable mutual
  pub AllT : {A : Type 0} → (A → Type 0) → Tree A → Type 0
  AllT P (node a ks) = P a × AllF P ks

  pub AllF : {A : Type 0} → (A → Type 0) → Forest A → Type 0
  AllF P none = Unit {0}
  AllF P (more t ts) = AllT P t × AllF P ts

module _ {A : Type 0} where
  mutual
    unfolding AllT

    pub all-T : (P Q : A → Type 0) → ((a : A) → P a → Q a) → (t : Tree A) → AllT P t → AllT Q t
    all-T P Q f (node a ks) h = (f a h.0, all-F P Q f ks h.1)

    pub all-F : (P Q : A → Type 0) → ((a : A) → P a → Q a) → (ts : Forest A) → AllF P ts → AllF Q ts
    all-F P Q f none h = tt
    all-F P Q f (more t ts) h = (all-T P Q f t h.0, all-F P Q f ts h.1)

  mutual
    unfolding AllT

    pub all-and-T : (P Q : A → Type 0) (t : Tree A) → AllT P t → AllT Q t → AllT (λ a. P a × Q a) t
    all-and-T P Q (node a ks) h k = ((h.0, k.0), all-and-F P Q ks h.1 k.1)

    pub all-and-F : (P Q : A → Type 0) (ts : Forest A) → AllF P ts → AllF Q ts → AllF (λ a. P a × Q a) ts
    all-and-F P Q none h k = tt
    all-and-F P Q (more t ts) h k = (all-and-T P Q t h.0 k.0, all-and-F P Q ts h.1 k.1)

  mutual
    unfolding AllT

    pub all-any-T : (P : A → Type 0) → ((a : A) → P a) → (t : Tree A) → AllT P t
    all-any-T P f (node a ks) = (f a, all-any-F P f ks)

    pub all-any-F : (P : A → Type 0) → ((a : A) → P a) → (ts : Forest A) → AllF P ts
    all-any-F P f none = tt
    all-any-F P f (more t ts) = (all-any-T P f t, all-any-F P f ts)

  pub all-kids : (P : A → Type 0) (t : Tree A) → AllT P t → AllF P (kids_t t)
  unfolding AllT
  all-kids P (node a ks) h = h.1

module _ {A B : Type 0} (f : A → B) (P : B → Type 0) where
  mutual
    unfolding AllT map_t

    pub all-map-T : (t : Tree A) → AllT P (map_t f t) → AllT (λ (a : A). P (f a)) t
    all-map-T (node a ks) h = (h.0, all-map-F ks h.1)

    pub all-map-F : (ts : Forest A) → AllF P (map_f f ts) → AllF (λ (a : A). P (f a)) ts
    all-map-F none h = tt
    all-map-F (more t ts) h = (all-map-T t h.0, all-map-F ts h.1)

  mutual
    unfolding AllT map_t

    pub all-back-T : (t : Tree A) → AllT (λ (a : A). P (f a)) t → AllT P (map_t f t)
    all-back-T (node a ks) h = (h.0, all-back-F ks h.1)

    pub all-back-F : (ts : Forest A) → AllF (λ (a : A). P (f a)) ts → AllF P (map_f f ts)
    all-back-F none h = tt
    all-back-F (more t ts) h = (all-back-T t h.0, all-back-F ts h.1)

-- what two parts of a label settle, two parts of the tree settle
module _ {A A' B C D : Type 0} (f : A → B) (f' : A' → B) (g : A → C) (g' : A' → C) (h : A → D) (h' : A' → D) (by : (x : A) (y : A') → f x ≡ f' y → g x ≡ g' y → h x ≡ h' y) where
  settle-node : (a : A) (b : A') (ks : Forest A) (us : Forest A') → map_t f (node a ks) ≡ map_t f' (node b us) → map_t g (node a ks) ≡ map_t g' (node b us)
      → (map_f f ks ≡ map_f f' us → map_f g ks ≡ map_f g' us → map_f h ks ≡ map_f h' us) → map_t h (node a ks) ≡ map_t h' (node b us)
  unfolding map_t
  settle-node a b ks us p q r = ap (λ (x : D). node x (map_f h ks)) (by a b (ap top_t p) (ap top_t q)) ∙ ap (node (h' b)) (r (ap kids_t p) (ap kids_t q))

  settle-more : (t : Tree A) (u : Tree A') (ts : Forest A) (us : Forest A') → map_f f (more t ts) ≡ map_f f' (more u us) → map_f g (more t ts) ≡ map_f g' (more u us)
      → (map_t f t ≡ map_t f' u → map_t g t ≡ map_t g' u → map_t h t ≡ map_t h' u) → (map_f f ts ≡ map_f f' us → map_f g ts ≡ map_f g' us → map_f h ts ≡ map_f h' us)
      → map_f h (more t ts) ≡ map_f h' (more u us)
  unfolding map_f
  settle-more t u ts us p q r s =
      ap (λ (x : Tree D). more x (map_f h ts)) (r (ap (first_f (map_t f t)) p) (ap (first_f (map_t g t)) q)) ∙ ap (more (map_t h' u)) (s (ap rest_f p) (ap rest_f q))

  mutual
    unfolding map_t

    pub settle-T : (t : Tree A) (u : Tree A') → map_t f t ≡ map_t f' u → map_t g t ≡ map_t g' u → map_t h t ≡ map_t h' u
    settle-T (node a ks) (node b us) p q = settle-node a b ks us p q (λ e d. settle-F ks us e d)

    pub settle-F : (ts : Forest A) (us : Forest A') → map_f f ts ≡ map_f f' us → map_f g ts ≡ map_f g' us → map_f h ts ≡ map_f h' us
    settle-F none none p q = refl
    settle-F none (more u us) p q = cc
    settle-F (more t ts) none p q = cc
    settle-F (more t ts) (more u us) p q = settle-more t u ts us p q (λ e d. settle-T t u e d) (λ e d. settle-F ts us e d)

-- one tree of which both are views
pub record Joint {A A' J : Type 0} (p : J → A) (p' : J → A') (t : Tree A) (u : Tree A') : Type 0 where
  pub tree : Tree J
  pub left : map_t p tree ≡ t
  pub right : map_t p' tree ≡ u

pub record JointF {A A' J : Type 0} (p : J → A) (p' : J → A') (t : Forest A) (u : Forest A') : Type 0 where
  pub trees : Forest J
  pub left : map_f p trees ≡ t
  pub right : map_f p' trees ≡ u

module _ {A A' B J : Type 0} (f : A → B) (f' : A' → B) (k : A → A' → J) (p : J → A) (p' : J → A') (one : (x : A) (y : A') → f x ≡ f' y → p (k x y) ≡ x) (two : (x : A) (y : A') → f x ≡ f' y → p' (k x y) ≡ y) where
  joint-node : (a : A) (b : A') (ks : Forest A) (us : Forest A') → f a ≡ f' b → JointF p p' ks us → Joint p p' (node a ks) (node b us)
  unfolding map_t
  joint-node a b ks us e j = record { tree = node (k a b) j.trees; left = rw (one a b e, j.left); right = rw (two a b e, j.right) }

  joint-more : (t : Tree A) (u : Tree A') (ts : Forest A) (us : Forest A') → Joint p p' t u → JointF p p' ts us → JointF p p' (more t ts) (more u us)
  unfolding map_f
  joint-more t u ts us i j = record { trees = more i.tree j.trees; left = rw (i.left, j.left); right = rw (i.right, j.right) }

  -- a forest is not at once empty and not
  some-none : {C : Type 0} (t : Tree A) (ts : Forest A) → map_f f (more t ts) ≡ none → C
  unfolding map_f
  some-none t ts e =
      let z : ◌≡◌ {A = ℕ} 0 1 = cc in
      absurd (omega arith)

  none-some : {C : Type 0} (u : Tree A') (us : Forest A') → none ≡ map_f f' (more u us) → C
  unfolding map_f
  none-some u us e =
      let z : ◌≡◌ {A = ℕ} 0 1 = cc in
      absurd (omega arith)

  mutual
    unfolding map_t

    pub joint-T : (t : Tree A) (u : Tree A') → map_t f t ≡ map_t f' u → Joint p p' t u
    joint-T (node a ks) (node b us) e = joint-node a b ks us (ap top_t e) (joint-F ks us (ap kids_t e))

    pub joint-F : (ts : Forest A) (us : Forest A') → map_f f ts ≡ map_f f' us → JointF p p' ts us
    joint-F none none e = record { trees = none; left = refl; right = refl }
    joint-F none (more u us) e = none-some u us e
    joint-F (more t ts) none e = some-none t ts e
    joint-F (more t ts) (more u us) e = joint-more t u ts us (joint-T t u (ap (first_f (map_t f t)) e)) (joint-F ts us (ap rest_f e))
