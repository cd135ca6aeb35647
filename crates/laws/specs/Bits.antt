-- What the bits of a laid row say, and what a row says of the questions noted in it.
use Rattle.std.specs.Prelude.{◌≡◌, refl, Bool, true, false, cond, ℕ, ◌+◌, ◌*◌, ◌/◌, ◌%◌, ◌<◌, eqb, Float, Option, None, Some, is_some}
use Rattle.std.proofs.Common.{sym, ap, ◌∙◌, arith, eqb-true}
use Rattle.std.specs.Bool.{beq}
use Rattle.std.specs.Float.Ieee.{add}
use Rattle.std.specs.Float.{binary32}
use Rattle.geometry.specs.declared.Point.{Point}
use Rattle.limits.specs.Limits.{same_f}
use Rattle.limits.specs.Same.{same_is}
use Rattle.limits.specs.Bools.{beq_is, and_fst, and_snd}
use Rattle.util.specs.Maybe.{or_zero}
use Rattle.length.specs.Available.{definite}
use Rattle.length.specs.declared.AvailableSpace.{AvailableSpace}
use Rattle.length.specs.declared.AvailableSpace.TheVariants.{Definite, MinContent, MaxContent}
use Rattle.style.specs.Codes.{flag_at}
use Rattle.style.specs.declared.Style.{Style}
use Rattle.steps.specs.Stack.{question_to, child_input, item_of, inner_width, asked_width, asked_height}
use Rattle.steps.specs.Row.{Row, ProbeWords, is_laid, is_out, bit, available_kind, probe_code, probe_note, no_probe, probe_of, with_code, noted, bare, hidden_row, aside_row, laid_row, output_in, put_at, lowered}
use Rattle.steps.specs.Page.{Node}
use Rattle.steps.specs.Probe.{probe_stands}
use Rattle.steps.specs.Kept.{final_stands, kept_row, laid_bits, below_row}
use Rattle.steps.specs.declared.LayoutInput.{LayoutInput}
use Rattle.steps.specs.declared.LayoutOutput.{LayoutOutput}
use Rattle.steps.specs.declared.ProbeInput.{ProbeInput}
use Rattle.steps.specs.declared.Frame.{Frame}
use Rattle.steps.proofs.Codes.{kind_small, code_small}

-- a laid row's bits: through, known height given, the probe code, height basis given, baseline given
abbrev bits_of : Bool → Bool → Bool → Bool → ℕ → ℕ
bits_of t h b v c = 1 + 2 * bit t + 8 * bit h + 16 * c + 256 * bit b + 512 * bit v

-- a bit is below 2, which is all that the sums below want
bit_small : (b : Bool) → bit b < 2
bit_small true = omega arith
bit_small false = omega arith

bits_laid : (t h b v : Bool) (c : ℕ) → bits_of t h b v c / 1 % 2 ≡ 1
bits_laid t h b v c = let x = bit_small t in let y = bit_small h in let z = bit_small b in let w = bit_small v in omega arith

bits_through : (t h b v : Bool) (c : ℕ) → bits_of t h b v c / 2 % 2 ≡ bit t
bits_through t h b v c = let x = bit_small t in let y = bit_small h in let z = bit_small b in let w = bit_small v in omega arith

bits_given : (t h b v : Bool) (c : ℕ) → bits_of t h b v c / 8 % 2 ≡ bit h
bits_given t h b v c = let x = bit_small t in let y = bit_small h in let z = bit_small b in let w = bit_small v in omega arith

bits_code : (t h b v : Bool) (c : ℕ) → bits_of t h b v c / 16 ≡ c + 16 * bit b + 32 * bit v
bits_code t h b v c = let x = bit_small t in let y = bit_small h in let z = bit_small b in let w = bit_small v in omega arith

bits_low : (t h b v : Bool) (c : ℕ) → bits_of t h b v c % 16 ≡ 1 + 2 * bit t + 8 * bit h
bits_low t h b v c = let x = bit_small t in let y = bit_small h in let z = bit_small b in let w = bit_small v in omega arith

bits_high : (t h b v : Bool) (c : ℕ) → c < 16 → bits_of t h b v c / 256 ≡ bit b + 2 * bit v
bits_high t h b v c p = let x = bit_small t in let y = bit_small h in let z = bit_small b in let w = bit_small v in omega arith

bits_based : (t h b v : Bool) (c : ℕ) → c < 16 → bits_of t h b v c / 256 % 2 ≡ bit b
bits_based t h b v c p = let x = bit_small t in let y = bit_small h in let z = bit_small b in let w = bit_small v in omega arith

bits_lined : (t h b v : Bool) (c : ℕ) → c < 16 → bits_of t h b v c / 512 % 2 ≡ bit v
bits_lined t h b v c p = let x = bit_small t in let y = bit_small h in let z = bit_small b in let w = bit_small v in omega arith

is_bit : (b : Bool) → eqb (bit b) 1 ≡ b
is_bit true = refl
is_bit false = refl

bits_kept : (t h b v : Bool) (c d : ℕ) → c < 16 → with_code (bits_of t h b v c) d ≡ bits_of t h b v d
unfolding with_code
bits_kept t h b v c d p = rw (bits_low t h b v c, bits_high t h b v c p) (omega arith)

bits_below : (t h b v : Bool) (c d : ℕ) → c < 16 → laid_bits (bits_of t h b v c) d ≡ bits_of t h b v d
unfolding laid_bits
bits_below t h b v c d p = rw (bits_through t h b v c, bits_given t h b v c, bits_high t h b v c p) (omega arith)

-- a laid row, wherever it is placed: laid, its answer, its probe words
pub laid_row_lem : (q : LayoutInput) (o : LayoutOutput) (p : ProbeWords) → is_laid (laid_row q o p) ≡ true
unfolding is_laid laid_row
laid_row_lem q o p = rw (bits_laid o.through (is_some q.known.height) (is_some q.basis) (is_some o.baseline) p.code)

-- a number that may be absent, from its number and its bit
option_back : (o : Option Float) → cond (is_some o) (Some (or_zero o)) None ≡ o
option_back None = refl
option_back (Some x) = refl

pub out_row : (q : LayoutInput) (o : LayoutOutput) (p : ProbeWords) (x : Point Float) (n : ℕ) → p.code < 16 → output_in (put_at x n (laid_row q o p)) ≡ o
unfolding output_in put_at laid_row
out_row q o p x n h =
    let lined = bits_lined o.through (is_some q.known.height) (is_some q.basis) (is_some o.baseline) p.code h in
    rw (lined, is_bit (is_some o.baseline), option_back o.baseline, bits_through o.through (is_some q.known.height) (is_some q.basis) (is_some o.baseline) p.code, is_bit o.through)

pub lined_row : (q : LayoutInput) (o : LayoutOutput) (p : ProbeWords) → p.code < 16 → flag_at (laid_row q o p).bits 9 ≡ is_some o.baseline
unfolding laid_row
lined_row q o p h = rw (bits_lined o.through (is_some q.known.height) (is_some q.basis) (is_some o.baseline) p.code h, is_bit (is_some o.baseline))

pub words_row : (q : LayoutInput) (o : LayoutOutput) (p : ProbeWords) → p.code < 16 → probe_of (laid_row q o p) ≡ p
unfolding probe_of laid_row
words_row q o p h =
    let e : (p.code + 16 * bit (is_some q.basis) + 32 * bit (is_some o.baseline)) % 16 ≡ p.code = omega arith in
    rw (bits_code o.through (is_some q.known.height) (is_some q.basis) (is_some o.baseline) p.code, e)

pub row_small : (r : Row) → (probe_of r).code < 16
unfolding probe_of
row_small r = omega arith

-- with other probe words: a kept row, and one below a kept row
kept_words : (r : Row) (w p : ProbeWords) (q : LayoutInput) (o : LayoutOutput) (x y : Point Float) (m n : ℕ) → r ≡ put_at x m (laid_row q o p) → p.code < 16
    → put_at y n (noted r w (with_code r.bits w.code)) ≡ put_at y n (laid_row q o w)
unfolding put_at noted laid_row
kept_words r w p q o x y m n e h = rw e (rw (bits_kept o.through (is_some q.known.height) (is_some q.basis) (is_some o.baseline) p.code w.code h))

pub kept_row_lem : (l : Node) (p : ProbeWords) (q : LayoutInput) (o : LayoutOutput) (x y : Point Float) (m n : ℕ) → l.old ≡ put_at x m (laid_row q o p) → p.code < 16
    → put_at y n (kept_row l) ≡ put_at y n (laid_row q o l.probe)
unfolding kept_row
kept_row_lem l p q o x y m n e h = kept_words l.old l.probe p q o x y m n e h

below_words : (r : Row) (w p : ProbeWords) (q : LayoutInput) (o : LayoutOutput) (x : Point Float) (m : ℕ) → r ≡ put_at x m (laid_row q o p) → p.code < 16
    → noted r w (laid_bits r.bits w.code) ≡ put_at x m (laid_row q o w)
unfolding put_at noted laid_row
below_words r w p q o x m e h = rw e (rw (bits_below o.through (is_some q.known.height) (is_some q.basis) (is_some o.baseline) p.code w.code h))

pub below_row_lem : (l : Node) (p : ProbeWords) (q : LayoutInput) (o : LayoutOutput) (x : Point Float) (m : ℕ) → l.old ≡ put_at x m (laid_row q o p) → p.code < 16
    → below_row l ≡ put_at x m (laid_row q o l.probe)
unfolding below_row
below_row_lem l p q o x m e h = below_words l.old l.probe p q o x m e h

-- step M on a row that is placed
abbrev pub moved : Option Float → Row → Row
moved None r = r
moved (Some d) r = lowered d r

abbrev pub moved_y : Option Float → Float → Float
moved_y None y = y
moved_y (Some d) y = add binary32 y d

abbrev pub moved_to : Option Float → Point Float → Point Float
moved_to d p = record { x = p.x; y = moved_y d p.y }

pub moved_laid : (d : Option Float) (p : Point Float) (n : ℕ) (r : Row) → is_laid r ≡ true → moved d (put_at p n r) ≡ put_at (moved_to d p) n r
unfolding put_at lowered is_laid
moved_laid None p n r e = refl
moved_laid (Some d) p n r e = rw e

pub moved_hidden : (d : Option Float) (n : ℕ) → moved d (hidden_row n) ≡ hidden_row n
unfolding hidden_row bare lowered is_laid is_out
moved_hidden None n = refl
moved_hidden (Some d) n = refl

pub moved_aside : (d : Option Float) (a l e : Float) (n : ℕ) → moved d (aside_row a l e n) ≡ aside_row a (moved_y d l) e n
unfolding aside_row bare lowered is_laid is_out
moved_aside None a l e n = refl
moved_aside (Some d) a l e n = refl

pub hidden_row_lem : (n : ℕ) → is_laid (hidden_row n) ≡ false
unfolding hidden_row bare is_laid
hidden_row_lem n = refl

pub aside_row_lem : (a l e : Float) (n : ℕ) → is_laid (aside_row a l e n) ≡ false
unfolding aside_row bare is_laid
aside_row_lem a l e n = refl

-- a question that stands in a row is the question that was noted there
option_is : (a b : Option Float) → same_f (or_zero a) (or_zero b) ≡ true → is_some a ≡ is_some b → a ≡ b
option_is None None e f = refl
option_is None (Some b) e f = cc
option_is (Some a) None e f = cc
option_is (Some a) (Some b) e f = ap Some (same_is a b e)

some_is : (v w : Float) → or_zero (Some v) ≡ or_zero (Some w) → v ≡ w
some_is v w e = e

abbrev asks : Float → Float → Option Float → Option Float → Bool → LayoutInput
asks w i h u b =
    record { known = record { width = Some w; height = h }; parent = Some i; basis = u; definiteHeight = true; available = MaxContent; collapseStart = b; collapseEnd = b; nested = true }

same_input : (v w i j : Float) (h k u x : Option Float) (b : Bool) → v ≡ w → i ≡ j → h ≡ k → u ≡ x → asks v i h u b ≡ asks w j k x b
same_input v w i j h k u x b p q r s = rw (p, q, r, s)

pub final_is : (f g : Frame) (s : Style) (o : LayoutOutput) (p : ProbeWords) (x : Point Float) (n : ℕ) (r : Row) → r ≡ put_at x n (laid_row (question_to g s) o p) → p.code < 16 → final_stands (question_to f s) r ≡ true → question_to f s ≡ question_to g s
unfolding final_stands question_to child_input put_at laid_row
final_is f g s o p x n r e c h =
    let a = item_of f s in
    let b = item_of g s in
    let h1 = and_snd (is_laid r) _ h in
    let h2 = and_snd (same_f r.asked.width _) _ h1 in
    let h3 = and_snd (same_f r.asked.height _) _ h2 in
    let h4 = and_snd (beq (flag_at r.bits 3) _) _ h3 in
    let h5 = and_snd (same_f r.asked.parent _) _ h4 in
    let w : r.asked.width ≡ or_zero (Some (asked_width f a)) = same_is _ _ (and_fst (same_f r.asked.width _) _ h1) in
    let i : r.asked.parent ≡ or_zero (Some (inner_width f)) = same_is _ _ (and_fst (same_f r.asked.parent _) _ h4) in
    let k : same_f (or_zero (asked_height b)) (or_zero (asked_height a)) ≡ true = ap (λ (v : Float). same_f v (or_zero (asked_height a))) (sym (ap (λ (z : Row). z.asked.height) e)) ∙ and_fst (same_f r.asked.height _) _ h2 in
    let m : flag_at r.bits 3 ≡ is_some (asked_height a) = beq_is _ _ (and_fst (beq (flag_at r.bits 3) _) _ h3) in
    let z : is_some (asked_height b) ≡ is_some (asked_height a) = sym (ap (λ (v : Row). flag_at v.bits 3) e ∙ rw (bits_given o.through (is_some (asked_height b)) (is_some g.heightBasis) (is_some o.baseline) p.code, is_bit (is_some (asked_height b)))) ∙ m in
    let u : same_f (or_zero g.heightBasis) (or_zero f.heightBasis) ≡ true = ap (λ (v : Float). same_f v (or_zero f.heightBasis)) (sym (ap (λ (z : Row). z.asked.basis) e)) ∙ and_fst (same_f r.asked.basis _) _ h5 in
    let t : flag_at r.bits 8 ≡ is_some f.heightBasis = beq_is _ _ (and_snd (same_f r.asked.basis _) _ h5) in
    let y : is_some g.heightBasis ≡ is_some f.heightBasis = sym (ap (λ (v : Row). flag_at v.bits 8) e ∙ rw (bits_based o.through (is_some (asked_height b)) (is_some g.heightBasis) (is_some o.baseline) p.code c, is_bit (is_some g.heightBasis))) ∙ t in
    same_input _ _ _ _ _ _ _ _ _ (some_is _ _ (sym w ∙ ap (λ (v : Row). v.asked.width) e)) (some_is _ _ (sym i ∙ ap (λ (v : Row). v.asked.parent) e)) (sym (option_is _ _ k z)) (sym (option_is _ _ u y))

-- the same of a probe: its three numbers and code settle what stands
code_on : (b c : ℕ) → b / 16 % 16 ≡ c → b / 16 % 2 ≡ c % 2
code_on b c e = omega arith

code_kind : (b c : ℕ) → b / 16 % 16 ≡ c → b / 32 % 4 ≡ c / 2 % 4
code_kind b c e = omega arith

code_given : (b c : ℕ) → b / 16 % 16 ≡ c → b / 128 % 2 ≡ c / 8
code_given b c e = omega arith

kind_of_lem : (q : ProbeInput) → probe_code q / 2 % 4 ≡ available_kind q.available
unfolding probe_code
kind_of_lem q = go (available_kind q.available) (is_some q.height) (kind_small q.available)
  where
    go : (k : ℕ) (h : Bool) → k < 4 → (1 + 2 * k + 8 * bit h) / 2 % 4 ≡ k
    go k true l = omega arith
    go k false l = omega arith

given_of : (q : ProbeInput) → probe_code q / 8 ≡ bit (is_some q.height)
unfolding probe_code
given_of q = go (available_kind q.available) (is_some q.height) (kind_small q.available)
  where
    go : (k : ℕ) (h : Bool) → k < 4 → (1 + 2 * k + 8 * bit h) / 8 ≡ bit h
    go k true l = omega arith
    go k false l = omega arith

pub note_small : (q : ProbeInput) (a : Float) → (probe_note q a).code < 16
unfolding probe_note
note_small q a = code_small q

space_is : (a b : AvailableSpace) → same_f (or_zero (definite a)) (or_zero (definite b)) ≡ true → available_kind a ≡ available_kind b → a ≡ b
unfolding available_kind definite
space_is (Definite v) (Definite w) e k = ap Definite (same_is v w e)
space_is (Definite v) MinContent e k = cc
space_is (Definite v) MaxContent e k = cc
space_is MinContent (Definite w) e k = cc
space_is MinContent MinContent e k = refl
space_is MinContent MaxContent e k = cc
space_is MaxContent (Definite w) e k = cc
space_is MaxContent MinContent e k = cc
space_is MaxContent MaxContent e k = refl

same_probe : (a b : AvailableSpace) (h k : Option Float) → a ≡ b → h ≡ k → ◌≡◌ {A = ProbeInput} (record { height = h; available = a }) (record { height = k; available = b })
same_probe a b h k p q = rw (p, q)

pub probe_is : (q g : ProbeInput) (a : Float) (r : Row) → probe_of r ≡ probe_note g a → probe_stands q r ≡ true → q ≡ g
unfolding probe_stands probe_of probe_note
probe_is q g a r e h =
    let c : r.bits / 16 % 16 ≡ probe_code g = ap (λ (p : ProbeWords). p.code) e in
    let h1 = and_snd (flag_at r.bits 4) _ h in
    let h2 = and_snd (same_f r.probe.width _) _ h1 in
    let h3 = and_snd (same_f r.probe.height _) _ h2 in
    let w : same_f (or_zero (definite g.available)) (or_zero (definite q.available)) ≡ true = ap (λ (p : ProbeWords). same_f p.numbers.width (or_zero (definite q.available))) (sym e) ∙ and_fst (same_f r.probe.width _) _ h1 in
    let t : same_f (or_zero g.height) (or_zero q.height) ≡ true = ap (λ (p : ProbeWords). same_f p.numbers.height (or_zero q.height)) (sym e) ∙ and_fst (same_f r.probe.height _) _ h2 in
    let k : r.bits / 32 % 4 ≡ available_kind q.available = eqb-true _ _ (and_fst (eqb (r.bits / 32 % 4) _) _ h3) in
    let n : flag_at r.bits 7 ≡ is_some q.height = beq_is _ _ (and_snd (eqb (r.bits / 32 % 4) _) _ h3) in
    let k1 : available_kind g.available ≡ available_kind q.available = sym (code_kind r.bits (probe_code g) c ∙ kind_of_lem g) ∙ k in
    let n1 : is_some g.height ≡ is_some q.height = sym (ap (λ (v : ℕ). eqb v 1) (code_given r.bits (probe_code g) c ∙ given_of g) ∙ is_bit (is_some g.height)) ∙ n in
    sym (same_probe _ _ _ _ (space_is _ _ w k1) (option_is _ _ t n1))

pub no_probe_lem : (q : ProbeInput) (r : Row) → probe_of r ≡ no_probe → probe_stands q r ≡ false
unfolding probe_stands probe_of no_probe
no_probe_lem q r e = rw (code_on r.bits 0 (ap (λ (p : ProbeWords). p.code) e))
