-- The profile on trees, as the steps read a style; and that tables of the profile are such a page.
use Rattle.length.specs.declared.Length.{Length}
use Rattle.geometry.specs.declared.Size.{Size}
use Rattle.geometry.specs.declared.Rect.{Rect}
use Rattle.std.specs.Prelude.{◌≡◌, refl, Bool, true, false, cond, not, ◌&&◌, ◌||◌, List, [], ◌∷◌, ℕ, zero, suc, ◌+◌, ◌-◌, ◌<◌, ◌≤◌, take, drop, eqb, Float, Option, None, Some, is_some}
use Rattle.std.proofs.Common.{ap, arith, ne_eqb}
use Rattle.limits.specs.Bools.{and_fst, and_snd}
use Rattle.length.specs.Available.{definite}
use Rattle.style.specs.Codes.{flag_at, baseline_of}
use Rattle.style.specs.Style.{word_at, number_at, measure_at, style_at}
use Rattle.style.specs.declared.Style.{Style}
use Rattle.tree.specs.Tree.{Tree, node}
use Rattle.tree.specs.Table.{Entry, from, parse_f}
use Rattle.steps.specs.Page.{Site, site_at}
use Rattle.steps.specs.declared.LayoutInput.{LayoutInput}
use Rattle.whole.specs.Test.{pixel}
use Rattle.laws.specs.Trees.{AllF, not_true}
use Rattle.profile.specs.Profile.{whole_length, whole_option, centers, whole_size, whole_rect, whole_sizes, whole_sides, whole_table, plain_style, profile_style, two_autos, of_profile, whole_question}

pub record WholeSize (l : Size Length) : Type 0 where
  pub width : whole_length l.width ≡ true
  pub height : whole_length l.height ≡ true

pub record WholeRect (l : Rect Length) : Type 0 where
  pub top : whole_length l.top ≡ true
  pub right : whole_length l.right ≡ true
  pub bottom : whole_length l.bottom ≡ true
  pub left : whole_length l.left ≡ true

-- a style is of the profile, whatever its kind
pub record InProfile (s : Style) : Type 0 where
  pub size : WholeSize s.size
  pub min : WholeSize s.min
  pub max : WholeSize s.max
  pub margin : WholeRect s.margin
  pub padding : WholeRect s.padding
  pub border : WholeRect s.border
  pub inset : WholeRect s.inset
  pub ratio : s.ratio ≡ None
  pub scrollbar : pixel s.scrollbar ≡ true
  pub least : pixel s.measure.least ≡ true
  pub most : pixel s.measure.most ≡ true
  pub height : pixel s.measure.height ≡ true
  pub baseline : whole_option s.measure.baseline ≡ true
  pub aligned : centers s.align ≡ false

-- a child: not both of its side margins are auto
pub record ChildProfile (s : Site) : Type 0 where
  pub style : InProfile s.style
  pub sides : two_autos s.style ≡ false

-- a page: the root, which may have two auto side margins, and all nodes below it
unfoldable pub ProfilePage : Tree Site → Type 0
ProfilePage (node s ks) = InProfile s.style × AllF ChildProfile ks

-- a question's numbers
pub record ProfileQuestion (q : LayoutInput) : Type 0 where
  pub width : whole_option q.known.width ≡ true
  pub height : whole_option q.known.height ≡ true
  pub parent : whole_option q.parent ≡ true
  pub basis : whole_option q.basis ≡ true
  pub available : whole_option (definite q.available) ≡ true

-- ---- the tests give the records
whole_size_lem : (l : Size Length) → whole_size l ≡ true → WholeSize l
whole_size_lem l e = record { width = and_fst (whole_length l.width) _ e; height = and_snd (whole_length l.width) _ e }

whole_rect_lem : (l : Rect Length) → whole_rect l ≡ true → WholeRect l
whole_rect_lem l e =
    let a = and_snd (whole_length l.top) _ e in
    let b = and_snd (whole_length l.right) _ a in
    record { top = and_fst (whole_length l.top) _ e; right = and_fst (whole_length l.right) _ a; bottom = and_fst (whole_length l.bottom) _ b; left = and_snd (whole_length l.bottom) _ b }

no_ratio : (o : Option Float) → not (is_some o) ≡ true → o ≡ None
no_ratio None e = refl
no_ratio (Some x) e = cc

pub style_in_lem : (s : Style) → profile_style s ≡ true → whole_option s.measure.baseline ≡ true → InProfile s
unfolding profile_style whole_sizes whole_sides plain_style
style_in_lem s e o =
    let sizes = and_fst (whole_sizes s) _ e in
    let a = and_snd (whole_sizes s) _ e in
    let sides = and_fst (whole_sides s) _ a in
    let b = and_snd (whole_sides s) _ a in
    let table = and_fst (whole_table s.measure) _ b in
    let plain = and_snd (whole_table s.measure) _ b in
    let two = and_snd (whole_size s.size) _ sizes in
    let three = and_snd (whole_rect s.margin) _ sides in
    let last = and_snd (whole_rect s.padding) _ three in
    let most = and_snd (pixel s.measure.least) _ table in
    let rest = and_snd (not (is_some s.ratio)) _ plain in
    record {
      size = whole_size_lem s.size (and_fst (whole_size s.size) _ sizes);
      min = whole_size_lem s.min (and_fst (whole_size s.min) _ two);
      max = whole_size_lem s.max (and_snd (whole_size s.min) _ two);
      margin = whole_rect_lem s.margin (and_fst (whole_rect s.margin) _ sides);
      padding = whole_rect_lem s.padding (and_fst (whole_rect s.padding) _ three);
      border = whole_rect_lem s.border (and_fst (whole_rect s.border) _ last);
      inset = whole_rect_lem s.inset (and_snd (whole_rect s.border) _ last);
      ratio = no_ratio s.ratio (and_fst (not (is_some s.ratio)) _ plain);
      scrollbar = and_fst (pixel s.scrollbar) _ rest;
      least = and_fst (pixel s.measure.least) _ table;
      most = and_fst (pixel s.measure.most) _ most;
      height = and_snd (pixel s.measure.most) _ most;
      baseline = o;
      aligned = not_true (centers s.align) (and_snd (pixel s.scrollbar) _ rest);
    }

pub question_in : (q : LayoutInput) → whole_question q ≡ true → ProfileQuestion q
question_in q e =
    let a = and_snd (whole_option q.known.width) _ e in
    let b = and_snd (whole_option q.known.height) _ a in
    let c = and_snd (whole_option q.parent) _ b in
    record {
      width = and_fst (whole_option q.known.width) _ e;
      height = and_fst (whole_option q.known.height) _ a;
      parent = and_fst (whole_option q.parent) _ b;
      basis = and_fst (whole_option q.basis) _ c;
      available = and_snd (whole_option q.basis) _ c;
    }

-- ---- a node of the tables
line_whole : (w : ℕ) (x : Float) → pixel x ≡ true → whole_option (baseline_of w x) ≡ true
unfolding baseline_of
line_whole w x e = go (flag_at w 16 && not (flag_at w 12))
  where
    go : (b : Bool) → whole_option (cond b (Some x) None) ≡ true
    go true = e
    go false = refl

style_line : (ws : List ℕ) (xs : List Float) (i : ℕ) → pixel (number_at xs i 27) ≡ true → whole_option (style_at ws i xs i).measure.baseline ≡ true
unfolding style_at measure_at
style_line ws xs i e = line_whole (word_at ws i 1) (number_at xs i 27) e

pub node_style : (ws : List ℕ) (xs : List Float) (i : ℕ) → of_profile ws xs i ≡ true → InProfile (style_at ws i xs i)
unfolding of_profile
node_style ws xs i e = style_in_lem (style_at ws i xs i) (and_fst (profile_style (style_at ws i xs i)) _ e) (style_line ws xs i (and_fst (pixel (number_at xs i 27)) _ (and_snd (profile_style (style_at ws i xs i)) _ e)))

pub node_sides : (ws : List ℕ) (xs : List Float) (i : ℕ) → 0 < i → of_profile ws xs i ≡ true → two_autos (style_at ws i xs i) ≡ false
unfolding of_profile
node_sides ws xs i u e =
    let a : (eqb i 0 || not (two_autos (style_at ws i xs i))) ≡ true = and_snd (pixel (number_at xs i 27)) _ (and_snd (profile_style (style_at ws i xs i)) _ e) in
    let z : eqb i 0 ≡ false = ne_eqb i 0 (λ q. omega arith) in
    not_true _ (rw z at a)

pub site_style : (ws : List ℕ) (xs : List Float) (i : ℕ) → (site_at ws xs [] 0 i).label.style ≡ style_at ws i xs i
unfolding site_at
site_style ws xs i = ap (style_at ws i xs) (omega arith)

-- ---- all nodes below the root, as they are parsed
unfoldable pub AllL : List (Entry Site) → Type 0
AllL [] = Unit {0}
AllL (e ∷ l) = ChildProfile e.label × AllL l

all_take : (n : ℕ) (l : List (Entry Site)) → AllL l → AllL (take n l)
unfolding AllL
all_take zero l h = tt
all_take (suc n) [] h = tt
all_take (suc n) (e ∷ l) h = (h.0, all_take n l h.1)

all_drop : (n : ℕ) (l : List (Entry Site)) → AllL l → AllL (drop n l)
unfolding AllL
all_drop zero l h = h
all_drop (suc n) [] h = tt
all_drop (suc n) (e ∷ l) h = all_drop n l h.1

pub all_from : (f : ℕ → Entry Site) (i n : ℕ) → ((k : ℕ) → i ≤ k → k < i + n → ChildProfile (f k).label) → AllL (from f i n)
unfolding AllL from
all_from f i zero h = tt
all_from f i (suc n) h = (h i (omega arith) (omega arith), all_from f (suc i) n (λ k u v. h k (omega arith) (omega arith)))

pub all_parse : (k : ℕ) (l : List (Entry Site)) → AllL l → AllF ChildProfile (parse_f k l)
unfolding AllL AllF parse_f
all_parse zero l h = tt
all_parse (suc k) [] h = tt
all_parse (suc k) (e ∷ l) h = ((h.0, all_parse k (take (e.size - 1) l) (all_take (e.size - 1) l h.1)), all_parse k (drop (e.size - 1) l) (all_drop (e.size - 1) l h.1))
