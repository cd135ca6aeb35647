-- Rows of both engines: each number the same whole number, the words the same. Assumes nothing.
use Rattle.std.specs.Prelude.{◌≡◌, refl, Bool, ◌||◌, ℕ, ◌+◌, ◌*◌, ◌≤◌, ℤ, Float, Option}
use Rattle.std.proofs.Common.{ap, arith, lit≤}
use Rattle.geometry.specs.declared.Point.{Point}
use Rattle.style.specs.Codes.{flag_at}
use Rattle.tree.specs.Tree.{Tree, Forest, node, none, more, map_t, on_root}
use Rattle.steps.specs.Row.{Row, ProbeWords, is_laid, is_out, bit, bare, no_row, hidden_row, aside_row, laid_row, put_at, lowered}
use Rattle.steps.specs.Kept.{zeros_t, zeros_f}
use Rattle.steps.specs.Layout.{lower_f, align_f}
use Rattle.steps.specs.declared.LayoutInput.{LayoutInput}
use Rattle.steps.specs.declared.LayoutOutput.{LayoutOutput}
use Rattle.whole.specs.Range.{zero_is}
use Rattle.integers.specs.Numbers.{MayZ, PointZ}
use Rattle.integers.specs.Styles.{InputZ}
use Rattle.integers.specs.Rows.{OutputZ, ProbeWordsZ, RowZ, bare_z, no_row_z, hidden_row_z, aside_row_z, laid_row_z, put_at_z, lowered_z}
use Rattle.integers.specs.Rows as z
use Rattle.integers.specs.Layout.{zeros_tz, zeros_fz, lower_fz, align_fz}
use Rattle.exact.specs.Near.{Near, wide, plus_is, MayIs, none_is, some_is, or_zero_is, is_some_is}
use Rattle.exact.specs.Boxes.{near_test}
use Rattle.exact.specs.Trees.{RelT, RelF}
use Rattle.exact.specs.Widths.{Holds, WordsAre}
use Rattle.exact.specs.Sets.{SetIs, no_margins_is}
use Rattle.exact.specs.Frames.{InputIs, PointIs}
use Rattle.exact.specs.Stacks.{OutIs}

-- n bounds the place y
pub record RowIs (n : ℕ) (r : Row) (z : RowZ) : Type 0 where
  pub x : Holds r.place.x z.place.x
  pub y : Near r.place.y z.place.y n
  pub width : Holds r.answer.size.width z.size.width
  pub height : Holds r.answer.size.height z.size.height
  pub top : SetIs r.answer.top z.top
  pub bottom : SetIs r.answer.bottom z.bottom
  pub baseline : Holds r.answer.baseline z.baseline
  pub asked_width_lem : Holds r.asked.width z.asked.width
  pub asked_height_lem : Holds r.asked.height z.asked.height
  pub parent : Holds r.asked.parent z.asked.parent
  pub basis : Holds r.asked.basis z.asked.basis
  pub probe_width : Holds r.probe.width z.probe.width
  pub probe_height : Holds r.probe.height z.probe.height
  pub probe_answer : Holds r.probe.answer z.probe.answer
  pub order : r.order ≡ z.order
  pub bits : r.bits ≡ z.bits

-- a row as it stands at exit
abbrev pub Same : Row → RowZ → Type 0
Same r z = RowIs 16777215 r z

-- ---- bare rows
bare_is : (k : ℕ) {n : ℕ} {p : Point Float} {q : PointZ} {x : Float} {a : ℤ} {m j : ℕ} → Holds p.x q.x → Near p.y q.y n → Holds x a → m ≡ j → RowIs n (bare p x m k) (bare_z q a j k)
unfolding bare bare_z z.no_probe_z
bare_is k p q r e =
    record {
      x = p;
      y = q;
      width = r;
      height = zero_is;
      top = no_margins_is;
      bottom = no_margins_is;
      baseline = zero_is;
      asked_width_lem = zero_is;
      asked_height_lem = zero_is;
      parent = zero_is;
      basis = zero_is;
      probe_width = zero_is;
      probe_height = zero_is;
      probe_answer = zero_is;
      order = e;
      bits = refl;
    }

pub no_row_is : {n : ℕ} → RowIs n no_row no_row_z
unfolding no_row no_row_z
no_row_is = bare_is 0 zero_is zero_is zero_is refl

pub hidden_row_is : {n m j : ℕ} → m ≡ j → RowIs n (hidden_row m) (hidden_row_z j)
unfolding hidden_row hidden_row_z
hidden_row_is e = bare_is 0 zero_is zero_is zero_is e

pub aside_row_is : {n m j : ℕ} {s l e : Float} {a b c : ℤ} → Holds s a → Near l b n → Holds e c → m ≡ j → RowIs n (aside_row s l e m) (aside_row_z a b c j)
unfolding aside_row aside_row_z
aside_row_is p q r e = bare_is 4 p q r e

-- ---- laid rows
bits_same : {a b c d e f g h : Bool} {m n : ℕ} → a ≡ b → c ≡ d → m ≡ n → e ≡ f → g ≡ h
    → 1 + 2 * bit a + 8 * bit c + 16 * m + 256 * bit e + 512 * bit g ≡ 1 + 2 * bit b + 8 * bit d + 16 * n + 256 * bit f + 512 * bit h
bits_same p q r s t = rw (p, q, r, s, t)

pub laid_row_is : {n w h l : ℕ} {q : LayoutInput} {i : InputZ} {o : LayoutOutput} {y : OutputZ} {p : ProbeWords} {k : ProbeWordsZ} → InputIs w q i → OutIs w h l o y → WordsAre p k → w ≤ 16777215 → h ≤ 16777215 → l ≤ 16777215 → RowIs n (laid_row q o p) (laid_row_z i y k)
unfolding laid_row laid_row_z
laid_row_is q o p u v t =
    record {
      x = zero_is;
      y = zero_is;
      width = wide o.width u;
      height = wide o.height v;
      top = o.top;
      bottom = o.bottom;
      baseline = wide (or_zero_is o.baseline) t;
      asked_width_lem = wide (or_zero_is q.known.width) u;
      asked_height_lem = wide (or_zero_is q.known.height) (lit≤ tt);
      parent = wide (or_zero_is q.parent) (lit≤ tt);
      basis = wide (or_zero_is q.basis) (lit≤ tt);
      probe_width = p.width;
      probe_height = p.height;
      probe_answer = p.answer;
      order = refl;
      bits = bits_same o.through (is_some_is q.known.height) p.code (is_some_is q.basis) (is_some_is o.baseline);
    }

-- put at a place, and lowered
pub put_is : {n m a : ℕ} {p : Point Float} {q : PointZ} {k j : ℕ} {r : Row} {z : RowZ} → PointIs a n p q → a ≤ 16777215 → k ≡ j → RowIs m r z → RowIs n (put_at p k r) (put_at_z q j z)
unfolding put_at put_at_z
put_is p u e r =
    record {
      x = wide p.x u;
      y = p.y;
      width = r.width;
      height = r.height;
      top = r.top;
      bottom = r.bottom;
      baseline = r.baseline;
      asked_width_lem = r.asked_width_lem;
      asked_height_lem = r.asked_height_lem;
      parent = r.parent;
      basis = r.basis;
      probe_width = r.probe_width;
      probe_height = r.probe_height;
      probe_answer = r.probe_answer;
      order = e;
      bits = r.bits;
    }

stands_same : {n : ℕ} {r : Row} {z : RowZ} → RowIs n r z → (is_laid r || is_out r) ≡ (flag_at z.bits 0 || flag_at z.bits 2)
unfolding is_laid is_out
stands_same p = ap (λ (b : ℕ). flag_at b 0 || flag_at b 2) p.bits

pub lowered_is : {n m : ℕ} {r : Row} {z : RowZ} {d : Float} {k : ℤ} → Near d k m → n + m ≤ 16777215 → RowIs n r z → Same (lowered d r) (lowered_z k z)
unfolding lowered lowered_z
lowered_is q u r =
    record {
      x = r.x;
      y = near_test (stands_same r) (wide (plus_is r.y q (omega arith)) u) (wide r.y (omega arith));
      width = r.width;
      height = r.height;
      top = r.top;
      bottom = r.bottom;
      baseline = r.baseline;
      asked_width_lem = r.asked_width_lem;
      asked_height_lem = r.asked_height_lem;
      parent = r.parent;
      basis = r.basis;
      probe_width = r.probe_width;
      probe_height = r.probe_height;
      probe_answer = r.probe_answer;
      order = r.order;
      bits = r.bits;
    }

pub row_wide : {n m : ℕ} {r : Row} {z : RowZ} → RowIs n r z → n ≤ m → RowIs m r z
row_wide r u =
    record {
      x = r.x;
      y = wide r.y u;
      width = r.width;
      height = r.height;
      top = r.top;
      bottom = r.bottom;
      baseline = r.baseline;
      asked_width_lem = r.asked_width_lem;
      asked_height_lem = r.asked_height_lem;
      parent = r.parent;
      basis = r.basis;
      probe_width = r.probe_width;
      probe_height = r.probe_height;
      probe_answer = r.probe_answer;
      order = r.order;
      bits = r.bits;
    }

-- ---- trees of rows whose roots are still to be lowered
unfoldable pub RowsT : ℕ → Tree Row → Tree RowZ → Type 0
RowsT n (node r ks) (node z us) = RowIs n r z × RelF Same ks us

unfoldable pub RowsF : ℕ → Forest Row → Forest RowZ → Type 0
RowsF n none none = Unit {0}
RowsF n none (more u us) = ⊥
RowsF n (more t ts) none = ⊥
RowsF n (more t ts) (more u us) = RowsT n t u × RowsF n ts us

-- rows of zeros, for two trees of one shape
module _ {A B : Type 0} (R : A → B → Type 0) where
  mutual
    unfolding RelT zeros_t zeros_tz zeros_f zeros_fz map_t

    pub zeros_t_lem : (t : Tree A) (u : Tree B) → RelT R t u → RelT Same (zeros_t t) (zeros_tz u)
    zeros_t_lem (node a ks) (node b us) p = (no_row_is, zeros_f_lem ks us p.1)

    pub zeros_f_lem : (ts : Forest A) (us : Forest B) → RelF R ts us → RelF Same (zeros_f ts) (zeros_fz us)
    zeros_f_lem none none p = tt
    zeros_f_lem none (more u us) p = p
    zeros_f_lem (more t ts) none p = p
    zeros_f_lem (more t ts) (more u us) p = (zeros_t_lem t u p.0, zeros_f_lem ts us p.1)

  pub bare_rows : (t : Tree A) (u : Tree B) (n : ℕ) (r : Row) (z : RowZ) → RowIs n r z → RelT R t u → RowsT n (on_root (λ _. r) (zeros_t t)) (on_root (λ _. z) (zeros_tz u))
  unfolding RelT RowsT on_root zeros_t zeros_tz zeros_f zeros_fz map_t
  bare_rows (node a ks) (node b us) n r z p q = (p, zeros_f_lem ks us q.1)

-- M on each child
lower_t : (t : Tree Row) (u : Tree RowZ) (n m : ℕ) (d : Float) (k : ℤ) → Near d k m → n + m ≤ 16777215 → RowsT n t u → RelT Same (on_root (lowered d) t) (on_root (lowered_z k) u)
unfolding RowsT RelT on_root
lower_t (node r ks) (node z us) n m d k q u p = (lowered_is q u p.0, p.1)

stay_t : (t : Tree Row) (u : Tree RowZ) (n : ℕ) → n ≤ 16777215 → RowsT n t u → RelT Same t u
unfolding RowsT RelT
stay_t (node r ks) (node z us) n u p = (row_wide p.0 u, p.1)

lower_f_lem : (ts : Forest Row) (us : Forest RowZ) (n m : ℕ) (d : Float) (k : ℤ) → Near d k m → n + m ≤ 16777215 → RowsF n ts us → RelF Same (lower_f d ts) (lower_fz k us)
unfolding RowsF RelF lower_f lower_fz
lower_f_lem none none n m d k q u p = tt
lower_f_lem none (more t ts) n m d k q u p = p
lower_f_lem (more t ts) none n m d k q u p = p
lower_f_lem (more t ts) (more s ss) n m d k q u p = (lower_t t s n m d k q u p.0, lower_f_lem ts ss n m d k q u p.1)

stay_f : (ts : Forest Row) (us : Forest RowZ) (n : ℕ) → n ≤ 16777215 → RowsF n ts us → RelF Same ts us
unfolding RowsF RelF
stay_f none none n u p = tt
stay_f none (more t ts) n u p = p
stay_f (more t ts) none n u p = p
stay_f (more t ts) (more s ss) n u p = (stay_t t s n u p.0, stay_f ts ss n u p.1)

pub align_f_lem : (ts : Forest Row) (us : Forest RowZ) (n m : ℕ) {d : Option Float} {k : MayZ} → MayIs m d k → n + m ≤ 16777215 → RowsF n ts us → RelF Same (align_f d ts) (align_fz k us)
unfolding align_f align_fz
align_f_lem ts us n m none_is u p = stay_f ts us n (omega arith) p
align_f_lem ts us n m (some_is q) u p = lower_f_lem ts us n m _ _ q u p

pub put_t : (t : Tree Row) (u : Tree RowZ) (n m a : ℕ) {p : Point Float} {q : PointZ} {k j : ℕ} → PointIs a n p q → a ≤ 16777215 → k ≡ j → RowsT m t u → RowsT n (on_root (put_at p k) t) (on_root (put_at_z q j) u)
unfolding RowsT on_root
put_t (node r ks) (node z us) n m a p u e h = (put_is p u e h.0, h.1)
