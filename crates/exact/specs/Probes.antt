-- The width pass of a page of the profile that has no old rows, over the tree. Assumes nothing.
use Rattle.std.specs.Prelude.{◌≡◌, refl, false, ℕ, ◌+◌, ◌*◌, ◌^◌, ◌≤◌, ℤ, Float}
use Rattle.std.proofs.Common.{ap, ◌∙◌}
use Rattle.length.specs.declared.AvailableSpace.{AvailableSpace}
use Rattle.style.specs.Flow.{is_leaf}
use Rattle.style.specs.declared.Style.{Style}
use Rattle.tree.specs.Tree.{Tree, Forest, node, none, map_t, map_f, root_t}
use Rattle.tree.proofs.Laws.{map_f_none, map_map_t, map_map_f, root_t_map}
use Rattle.steps.specs.Row.{no_row, is_laid}
use Rattle.steps.specs.Page.{Cell, Node, cleared, probed_anew}
use Rattle.steps.specs.Probe.{Probed, Widest, asked, probe_t, probe_f, ask_p, widen}
use Rattle.steps.specs.declared.ProbeInput.{ProbeInput}
use Rattle.steps.proofs.Clauses.{style_c, probe_f_none, ask_p_anew}
use Rattle.steps.proofs.Zeros.{no_row_lem, unprobed, not_answered}
use Rattle.laws.specs.Trees.{AllT, AllF}
use Rattle.integers.specs.Styles.{StyleZ, AvailableZ, ProbeInputZ}
use Rattle.integers.specs.Widths.{NodeZ, cleared_z, ProbedZ, WidestZ, asked_z, widen_z, probe_tz, probe_fz}
use Rattle.integers.proofs.Clauses.{probe_fz_none}
use Rattle.profile.specs.Profile.{two_autos}
use Rattle.profile.specs.Page.{InProfile, ChildProfile}
use Rattle.exact.specs.Near.{Near, wide}
use Rattle.exact.specs.Read.{style_z}
use Rattle.exact.specs.Trees.{RelT, RelF, rel-map-T, rel-map-F}
use Rattle.exact.specs.Widths.{AvailableIs, ProbeIs, WordsAre, no_probe_is, note_is}

-- a node of the profile below the root, with no old row
pub record GoodCell (c : Cell) : Type 0 where
  pub child : ChildProfile c.site
  pub old : c.old ≡ no_row

abbrev pub cell_z : Cell → StyleZ
cell_z c = style_z c.site.style

-- a node after the width pass, in both engines
pub record NodeIs (n : Node) (z : NodeZ) : Type 0 where
  pub style : z.style ≡ style_z n.site.style
  pub profile : InProfile n.site.style
  pub unlaid : is_laid n.old ≡ false
  pub probe : WordsAre n.probe z.probe

-- and below the root
pub record KidIs (n : Node) (z : NodeZ) : Type 0 where
  pub node : NodeIs n z
  pub sides : two_autos n.site.style ≡ false

pub record ProbedIs (n : ℕ) (p : Probed) (z : ProbedZ) : Type 0 where
  pub answer : Near p.answer z.answer n
  pub nodes : RelT KidIs p.nodes z.nodes

pub record WidestIs (n : ℕ) (p : Widest) (z : WidestZ) : Type 0 where
  pub most : Near p.most z.most n
  pub nodes : RelF KidIs p.nodes z.nodes

unlaid_old : (c : Cell) → c.old ≡ no_row → is_laid c.old ≡ false
unlaid_old c e = ap is_laid e ∙ no_row_lem

-- ---- nodes that are not probed
pub clear_is : (c : Cell) → InProfile c.site.style → c.old ≡ no_row → NodeIs (cleared c) (cleared_z (cell_z c))
unfolding cleared cleared_z
clear_is c p e = record { style = refl; profile = p; unlaid = unlaid_old c e; probe = no_probe_is }

clear_kid : (c : Cell) → GoodCell c → KidIs (cleared c) (cleared_z (cell_z c))
unfolding cleared
clear_kid c g = record { node = clear_is c g.child.style g.old; sides = g.child.sides }

pub clear_t : (t : Tree Cell) → AllT GoodCell t → RelT KidIs (map_t cleared t) (map_t cleared_z (map_t cell_z t))
clear_t t h = rw (map_map_t cleared_z cell_z t) (rel-map-T GoodCell KidIs cleared (λ (c : Cell). cleared_z (cell_z c)) clear_kid t h)

pub clear_f : (ts : Forest Cell) → AllF GoodCell ts → RelF KidIs (map_f cleared ts) (map_f cleared_z (map_f cell_z ts))
clear_f ts h = rw (map_map_f cleared_z cell_z ts) (rel-map-F GoodCell KidIs cleared (λ (c : Cell). cleared_z (cell_z c)) clear_kid ts h)

-- ---- a probe
pub asked_is : (l : Cell) (ks : Forest Node) (us : Forest NodeZ) {q : ProbeInput} {z : ProbeInputZ} {x : Float} {k : ℤ} {n m : ℕ} → GoodCell l → ProbeIs n q z → Near x k m → n ≤ 16777215 → m ≤ 16777215 → RelF KidIs ks us
    → ProbedIs m (asked l q x ks) (asked_z (cell_z l) z k us)
unfolding asked asked_z probed_anew RelT
asked_is l ks us g p q u v r =
    record { answer = q; nodes = (record { node = record { style = refl; profile = g.child.style; unlaid = unlaid_old l g.old; probe = note_is p q u v }; sides = g.child.sides }, r) }

abbrev pub probed : ℕ → ℕ
probed d = 5120 + 8192 * d

abbrev pub spread : ℕ → ℕ
spread d = 7168 + 8192 * d

pub wider_probed : {n m : ℕ} {p : Probed} {z : ProbedZ} → ProbedIs n p z → n ≤ m → ProbedIs m p z
wider_probed p u = record { answer = wide p.answer u; nodes = p.nodes }

-- the children that it asks
abbrev pub KidsIs : Forest Cell → ℕ → Type 0
KidsIs ts d = (a : AvailableSpace) (b : AvailableZ) (n : ℕ) → AvailableIs n a b → n + 2048 + 8192 * d ≤ 2 ^ 20 → (x : Float) (k : ℤ) → Near x k (spread d) → WidestIs (spread d) (probe_f ts a x) (probe_fz (map_f cell_z ts) b k)

pub kind_same : (s : Style) → is_leaf (style_z s).kind ≡ is_leaf s.kind
unfolding style_z
kind_same s = refl

-- ---- the children, one after the other
pub widen_is : {n : ℕ} {x : Float} {k : ℤ} (t : Tree Node) (u : Tree NodeZ) (f : Float → Widest) (g : ℤ → WidestZ) → Near x k n → RelT KidIs t u → ((x : Float) (k : ℤ) → Near x k n → WidestIs n (f x) (g k)) → WidestIs n (widen x t f) (widen_z k u g)
unfolding widen widen_z RelF
widen_is {n} {x} {k} t u f g p r h = record { most = (h x k p).most; nodes = (r, (h x k p).nodes) }

pub all_root : (t : Tree Cell) → AllT GoodCell t → GoodCell (root_t t)
unfolding AllT root_t
all_root (node l ks) h = h.0

pub asks_anew : (t : Tree Cell) (q : ProbeInput) → GoodCell (root_t t) → ask_p t q ≡ probe_t t q
asks_anew t q g = ask_p_anew t q (not_answered t q (unprobed q (root_t t).old g.old))

abbrev pub TreeIs : Tree Cell → ℕ → Type 0
TreeIs t d = (q : ProbeInput) (z : ProbeInputZ) (n : ℕ) → ProbeIs n q z → n + 8192 * d ≤ 2 ^ 20 → ProbedIs (probed d) (probe_t t q) (probe_tz (map_t cell_z t) z)

pub style_root : (t : Tree Cell) → root_t (map_t cell_z t) ≡ style_z (style_c t)
style_root t = root_t_map cell_z t

pub none_are : (d : ℕ) → KidsIs none d
unfolding RelF
none_are d a b n r u x k p = rw (map_f_none cell_z, probe_f_none a x, probe_fz_none b k) (record { most = p; nodes = tt })
