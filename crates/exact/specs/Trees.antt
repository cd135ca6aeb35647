-- Two trees of one shape whose labels are related one by one. Assumes nothing.
use Rattle.tree.specs.Tree.{Tree, Forest, node, none, more, map_t, map_f, root_t}
use Rattle.laws.specs.Trees.{AllT, AllF}

unfoldable mutual
  pub RelT : {A B : Type 0} → (A → B → Type 0) → Tree A → Tree B → Type 0
  RelT R (node a ks) (node b us) = R a b × RelF R ks us

  pub RelF : {A B : Type 0} → (A → B → Type 0) → Forest A → Forest B → Type 0
  RelF R none none = Unit {0}
  RelF R none (more u us) = ⊥
  RelF R (more t ts) none = ⊥
  RelF R (more t ts) (more u us) = RelT R t u × RelF R ts us

pub rel_root : {A B : Type 0} (R : A → B → Type 0) (t : Tree A) (u : Tree B) → RelT R t u → R (root_t t) (root_t u)
unfolding RelT root_t
rel_root R (node a ks) (node b us) p = p.0

-- both sides made of one tree
module _ {A B C : Type 0} (P : A → Type 0) (R : B → C → Type 0) (f : A → B) (g : A → C) (h : (a : A) → P a → R (f a) (g a)) where
  mutual
    unfolding AllT map_t RelT

    pub rel-map-T : (t : Tree A) → AllT P t → RelT R (map_t f t) (map_t g t)
    rel-map-T (node a ks) p = (h a p.0, rel-map-F ks p.1)

    pub rel-map-F : (ts : Forest A) → AllF P ts → RelF R (map_f f ts) (map_f g ts)
    rel-map-F none p = tt
    rel-map-F (more t ts) p = (rel-map-T t p.0, rel-map-F ts p.1)

-- a weaker relation; the label of the root changed on both sides
module _ {A B : Type 0} (R S : A → B → Type 0) (w : (a : A) (b : B) → R a b → S a b) where
  mutual
    unfolding RelT

    pub weak-T : (t : Tree A) (u : Tree B) → RelT R t u → RelT S t u
    weak-T (node a ks) (node b us) p = (w a b p.0, weak-F ks us p.1)

    pub weak-F : (ts : Forest A) (us : Forest B) → RelF R ts us → RelF S ts us
    weak-F none none p = tt
    weak-F none (more u us) p = p
    weak-F (more t ts) none p = p
    weak-F (more t ts) (more u us) p = (weak-T t u p.0, weak-F ts us p.1)
