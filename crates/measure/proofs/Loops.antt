-- The two loops over siblings: what is left, one turn, and the end.
use mathlib.Core.Path.{◌≡◌, refl, sym, ap, ◌∙◌}
use mathlib.Core.List.{List}
use Prim.Native.Nat.{ℕ, ◌+◌, ◌*◌, ◌-◌, ◌<◌, ◌≤◌}
use native.Mathlib.Omega.{arith}
use lib.ListN.{length, take, drop}
use lib.Ieee.{Float}
use Rattle.geometry.specs.Geometry.{zero_f}
use Rattle.length.specs.declared.AvailableSpace.{AvailableSpace}
use Rattle.style.specs.Style.{word_at}
use Rattle.tree.specs.Tree.{Tree, Forest, node, none, more, count_t, depth_t, depth_f}
use Rattle.tree.proofs.Laws.{depth_t_node, depth_f_more}
use Rattle.steps.specs.Stack.{start_of}
use Rattle.steps.specs.Page.{Site}
use Rattle.steps.specs.declared.Frame.{Frame}
use Rattle.steps.specs.declared.Cursor.{Cursor}
use Rattle.measure.specs.Dry.{width_f, widened, size_f, past_t}
use Rattle.measure.specs.Contract.{SitesT, SitesF}
use Rattle.measure.proofs.Sites.{Left, child_of, left_begin, left_below, left_none, left_some}
use Rattle.measure.proofs.DryClauses.{width_f_none, width_f_more, size_f_none, size_f_more, counts_more}

-- a loop that carries c over the siblings: `all` is what the whole forest gives, `one` what one tree does
module _ {C : Type 0} (all : Forest Site → C → C) (one : C → Tree Site → C) (All-none : (c : C) → all none c ≡ c) (All-more : (t : Tree Site) (ts : Forest Site) (c : C) → all (more t ts) c ≡ all ts (one c t)) where
  pub record Rest (ws : List ℕ) (xs : List Float) (b : ℕ) (ts : Forest Site) (c₀ c : C) (a : ℕ) : Type 0 where
    pub left : Forest Site
    pub here : Left ws xs b a left
    pub shallow : (d : ℕ) → depth_f ts ≤ d → depth_f left ≤ d
    pub same : all ts c₀ ≡ all left c

  pub begin : (ws : List ℕ) (xs : List Float) (b : ℕ) (c₀ c : C) → c ≡ c₀ → (ts : Forest Site) → SitesF ws xs b ts → Rest ws xs b ts c₀ c 0
  begin ws xs b c₀ c e ts h = record { left = ts; here = left_begin ws xs b ts h; shallow = λ d k. k; same = rw e refl }

  pub record Turn (ws : List ℕ) (xs : List Float) (b : ℕ) (ts : Forest Site) (c₀ c : C) (a e : ℕ) : Type 0 where
    pub some : a < e
    pub words_in_lem : 4 * e ≤ length ws
    pub tree : Tree Site
    pub sites : SitesT (take (4 * e - 4 * a) (drop (4 * a) ws)) xs (b + a) tree
    pub shallow : (d : ℕ) → depth_f ts ≤ d → depth_t tree ≤ d
    pub count_is : a + count_t tree ≡ e
    pub next : (c' : C) → c' ≡ one c tree → Rest ws xs b ts c₀ c' e

  module _ (ws : List ℕ) (xs : List Float) (b : ℕ) (ts : Forest Site) (c₀ c : C) (a e : ℕ) (ed : e ≡ a + word_at ws a 0) where
    turn_of : (left : Forest Site) → Left ws xs b a left → ((d : ℕ) → depth_f ts ≤ d → depth_f left ≤ d) → all ts c₀ ≡ all left c → 4 * a < length ws → Turn ws xs b ts c₀ c a e
    turn_of none h sh se lt = absurd (left_some ws xs b a h lt)
    turn_of (more t us) h sh se lt =
        let k = child_of ws xs b a e t us h ed in
        record {
          some = k.some;
          words_in_lem = k.words_in_lem;
          tree = t;
          sites = k.sites;
          shallow = λ d hd. let z = simp depth_f_more at (sh d hd) in omega arith;
          count_is = sym k.size_is;
          next = λ c' hc. record { left = us; here = k.next; shallow = λ d hd. let z = simp depth_f_more at (sh d hd) in omega arith; same = se ∙ All-more t us c ∙ ap (all us) (sym hc) };
        }

    pub turn : Rest ws xs b ts c₀ c a → 4 * a < length ws → Turn ws xs b ts c₀ c a e
    turn s = turn_of s.left s.here s.shallow s.same

  end_of : (ws : List ℕ) (xs : List Float) (b : ℕ) (ts : Forest Site) (c₀ c : C) (a : ℕ) (left : Forest Site) → Left ws xs b a left → all ts c₀ ≡ all left c → length ws ≤ 4 * a → c ≡ all ts c₀
  end_of ws xs b ts c₀ c a none h se le = sym (se ∙ All-none c)
  end_of ws xs b ts c₀ c a (more t us) h se le = absurd (left_none ws xs b a t us h le)

  pub end : (ws : List ℕ) (xs : List Float) (b : ℕ) (ts : Forest Site) (c₀ c : C) (a : ℕ) → Rest ws xs b ts c₀ c a → length ws ≤ 4 * a → c ≡ all ts c₀
  end ws xs b ts c₀ c a s = end_of ws xs b ts c₀ c a s.left s.here s.same

-- ---- step F
abbrev pub WideRest : List ℕ → List Float → ℕ → AvailableSpace → Forest Site → Float → ℕ → Type 0
WideRest ws xs b a ts m i = Rest (λ us n. width_f us a n) (λ n t. widened t a n) (width_f_none a) (λ t us n. width_f_more t us a n) ws xs b ts zero_f m i

abbrev pub WideTurn : List ℕ → List Float → ℕ → AvailableSpace → Forest Site → Float → ℕ → ℕ → Type 0
WideTurn ws xs b a ts m i e = Turn (λ us n. width_f us a n) (λ n t. widened t a n) (width_f_none a) (λ t us n. width_f_more t us a n) ws xs b ts zero_f m i e

pub wide_begin : (ws : List ℕ) (xs : List Float) (b : ℕ) (a : AvailableSpace) (m : Float) → m ≡ zero_f → (ts : Forest Site) → SitesF ws xs b ts → WideRest ws xs b a ts m 0
wide_begin ws xs b a m e = begin (λ us n. width_f us a n) (λ n t. widened t a n) (width_f_none a) (λ t us n. width_f_more t us a n) ws xs b zero_f m e

pub wide_turn : (ws : List ℕ) (xs : List Float) (b : ℕ) (a : AvailableSpace) (ts : Forest Site) (m : Float) (i e : ℕ) → e ≡ i + word_at ws i 0 → WideRest ws xs b a ts m i → 4 * i < length ws → WideTurn ws xs b a ts m i e
wide_turn ws xs b a ts m i e = turn (λ us n. width_f us a n) (λ n t. widened t a n) (width_f_none a) (λ t us n. width_f_more t us a n) ws xs b ts zero_f m i e

pub wide_end : (ws : List ℕ) (xs : List Float) (b : ℕ) (a : AvailableSpace) (ts : Forest Site) (m : Float) (i : ℕ) → WideRest ws xs b a ts m i → length ws ≤ 4 * i → m ≡ width_f ts a zero_f
wide_end ws xs b a ts m i = end (λ us n. width_f us a n) (λ n t. widened t a n) (width_f_none a) (λ t us n. width_f_more t us a n) ws xs b ts zero_f m i

-- ---- step J
abbrev StackRest : List ℕ → List Float → ℕ → Frame → Forest Site → Cursor → ℕ → Type 0
StackRest ws xs b f ts c i = Rest (λ us d. size_f us f d) (λ d t. past_t f d t) (size_f_none f) (λ t us d. size_f_more t us f d) ws xs b ts (start_of f) c i

abbrev StackTurn : List ℕ → List Float → ℕ → Frame → Forest Site → Cursor → ℕ → ℕ → Type 0
StackTurn ws xs b f ts c i e = Turn (λ us d. size_f us f d) (λ d t. past_t f d t) (size_f_none f) (λ t us d. size_f_more t us f d) ws xs b ts (start_of f) c i e

-- of a node's children, from the first on
abbrev pub StackRestT : List ℕ → List Float → ℕ → Frame → Tree Site → Cursor → ℕ → Type 0
StackRestT ws xs b f (node l ks) c i = StackRest ws xs b f ks c i

pub stack_begin : (ws : List ℕ) (xs : List Float) (b : ℕ) (f : Frame) (c : Cursor) → c ≡ start_of f → (t : Tree Site) → SitesT ws xs b t → StackRestT ws xs b f t c 1
stack_begin ws xs b f c e (node l ks) h = record { left = ks; here = left_below ws xs b l ks h; shallow = λ d k. k; same = rw e refl }

pub record StackTurnT (ws : List ℕ) (xs : List Float) (b : ℕ) (f : Frame) (t : Tree Site) (c : Cursor) (a e : ℕ) : Type 0 where
  pub some : a < e
  pub words_in_lem : 4 * e ≤ length ws
  pub tree : Tree Site
  pub sites : SitesT (take (4 * e - 4 * a) (drop (4 * a) ws)) xs (b + a) tree
  pub shallow : (d : ℕ) → depth_t t ≤ d → depth_t tree ≤ d - 1
  pub count_is : a + count_t tree ≡ e
  pub next : (c' : Cursor) → c' ≡ past_t f c tree → StackRestT ws xs b f t c' e

pub stack_turn : (ws : List ℕ) (xs : List Float) (b : ℕ) (f : Frame) (t : Tree Site) (c : Cursor) (i e : ℕ) → e ≡ i + word_at ws i 0 → StackRestT ws xs b f t c i → 4 * i < length ws → StackTurnT ws xs b f t c i e
stack_turn ws xs b f (node l ks) c i e ed s lt =
    let k : StackTurn ws xs b f ks c i e = turn (λ us d. size_f us f d) (λ d t. past_t f d t) (size_f_none f) (λ t us d. size_f_more t us f d) ws xs b ks (start_of f) c i e ed s lt in
    record {
      some = k.some;
      words_in_lem = k.words_in_lem;
      tree = k.tree;
      sites = k.sites;
      shallow = λ d hd. let z = simp depth_t_node at hd in k.shallow (d - 1) (omega arith);
      count_is = k.count_is;
      next = k.next;
    }

pub stack_end : (ws : List ℕ) (xs : List Float) (b : ℕ) (f : Frame) (l : Site) (ks : Forest Site) (c : Cursor) (i : ℕ) → StackRestT ws xs b f (node l ks) c i → length ws ≤ 4 * i → c ≡ size_f ks f (start_of f)
stack_end ws xs b f l ks c i = end (λ us d. size_f us f d) (λ d t. past_t f d t) (size_f_none f) (λ t us d. size_f_more t us f d) ws xs b ks (start_of f) c i

-- the counts of the cursor: none at the start, one more past each child
pub past_counts : (f : Frame) (c d : Cursor) (t : Tree Site) → d ≡ past_t f c t → (d.count ≡ c.count + 1) × (d.shown.0 ≤ c.shown.0 + 1)
past_counts f c d t e = rw e (counts_more f c t)
