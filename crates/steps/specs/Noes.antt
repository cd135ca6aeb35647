-- The eight noes: for each the test of one node (or of the whole), in the words of document 01, and its place.
use Rattle.steps.specs.declared.Refusal.TheVariants.{Lengths, Tree, Codes, Numbers, Room, Edits, NotLaid, TooLarge}
use Rattle.steps.specs.declared.Refusal.{Refusal}
use Rattle.tree.specs.declared.NodeId.{NodeId}
use Rattle.std.specs.Prelude.{Bool, true, false, cond, not, ◌&&◌, ◌||◌, List, [], ◌∷◌, ℕ, zero, suc, ◌+◌, ◌*◌, ◌-◌, ◌/◌, min, length, get_or, eqb, ltb, leb, Float, Option, None, Some, Result, Ok, Err, ⊤}
use Rattle.std.specs.Float.Ieee.{eq, lt, neg, of_bits}
use Rattle.std.specs.Float.{binary32}
use Rattle.geometry.specs.Geometry.{zero_f}
use Rattle.limits.specs.Limits.{in_range, too_large}
use Rattle.length.specs.Available.{definite}
use Rattle.style.specs.Codes.{code_at, distribution_at, clear_from, flag_at, unit_of}
use Rattle.style.specs.Style.{word_at, number_at}
use Rattle.steps.specs.Scan.{scan, lowest, first_of, some, how_many}
use Rattle.steps.specs.Page.{nodes_in, page_of}
use Rattle.steps.specs.Candidates.{needed}
use Rattle.steps.specs.declared.LayoutInput.{LayoutInput}

-- this paper's number and place of each refusal
unfoldable pub refusal_paper : Refusal → ℕ × ℕ
refusal_paper Lengths = (1, 0)
refusal_paper (Tree i) = (2, i.0)
refusal_paper (Codes i) = (3, i.0)
refusal_paper (Numbers k) = (4, k)
refusal_paper Room = (5, 0)
refusal_paper (Edits k) = (6, k)
refusal_paper NotLaid = (7, 0)
refusal_paper (TooLarge i) = (8, i.0)

-- and of each answer: 0 and the count, or the refusal's
unfoldable pub paper : Result ℕ Refusal → ℕ × ℕ
paper (Ok n) = (0, n)
paper (Err a) = refusal_paper a

-- a test that refuses, and tests in order
abbrev pub refuse_if : Bool → Refusal → Result ⊤ Refusal
refuse_if b a = cond b (Err a) (Ok tt)

unfoldable pub and_then : Result ⊤ Refusal → Result ⊤ Refusal → Result ⊤ Refusal
and_then (Ok _) r = r
and_then (Err a) r = Err a

-- 1: no node, over 1,024, or slice lengths not 4n and 28n (and 16n, 2n)
unfoldable pub bad_tables : List ℕ → List Float → Bool
bad_tables ws xs =
    eqb (nodes_in ws) 0 || (ltb 1024 (nodes_in ws) || (not (eqb (length ws) (4 * nodes_in ws)) || not (eqb (length xs) (28 * nodes_in ws))))

unfoldable pub bad_rows : List ℕ → List Float → List ℕ → Bool
bad_rows ws rs ms = not (eqb (length rs) (16 * nodes_in ws)) || not (eqb (length ms) (2 * nodes_in ws))

-- 2: where the run of node i ends
abbrev pub end_at : List ℕ → ℕ → ℕ
end_at ws i = i + word_at ws i 0

-- 2: j's run holds i. Where no lower node is at fault these j are the ancestors of i.
unfoldable pub holds : List ℕ → ℕ → ℕ → Bool
holds ws i j = ltb i (end_at ws j)

-- 2: root size not n, size 0, past the parent's end, leaf above size 1, depth over 32 (root is 1)
unfoldable pub bad_tree : List ℕ → ℕ → Bool
bad_tree ws i =
    (eqb i 0 && not (eqb (word_at ws i 0) (nodes_in ws)))
    || (eqb (word_at ws i 0) 0
    || (some (λ j. holds ws i j && ltb (end_at ws j) (end_at ws i)) i
    || ((eqb (code_at (word_at ws i 1) 0) 1 && ltb 1 (word_at ws i 0)) || leb 32 (how_many (holds ws i) i))))

-- 3: auto is forbidden in 10-17; there is no unit 3
unfoldable pub no_auto : ℕ → Bool
no_auto f = leb 10 f && ltb f 18

unfoldable pub bad_unit : ℕ → ℕ → Bool
bad_unit f unit = eqb unit 3 || (eqb unit 0 && no_auto f)

-- 3: words 5 to 7, and a word beside bits 10-11
unfoldable pub bad_word : ℕ → Bool
bad_word w = not (eqb (distribution_at w) 0) && (ltb 4 (distribution_at w) || not (eqb (code_at w 5) 0))

-- 3: safe beside anything but center and end
unfoldable pub bad_safety : ℕ → Bool
bad_safety w = flag_at w 17 && ltb (code_at w 5) 2

-- 3: bit 16, a baseline, on a non-leaf
unfoldable pub bad_baseline : ℕ → Bool
bad_baseline w = flag_at w 16 && not (eqb (code_at w 0) 1)

-- 3: from bit 13 on: the word, the baseline, the safety; bits 18 on unused
unfoldable pub bad_align : ℕ → Bool
bad_align w = not (clear_from w 18) || (bad_baseline w || (bad_word w || bad_safety w))

-- 3: unknown code, unused bit set, forbidden unit, root not a block
unfoldable pub bad_codes : List ℕ → ℕ → Bool
bad_codes ws i =
    eqb (code_at (word_at ws i 1) 0) 3
    || (eqb (code_at (word_at ws i 1) 2) 3
    || (bad_align (word_at ws i 1)
    || (not (clear_from (word_at ws i 2) 28)
    || (not (clear_from (word_at ws i 3) 16)
    || (some (λ f. bad_unit f (unit_of (word_at ws i 2) (word_at ws i 3) f)) 22 || (eqb i 0 && not (eqb (code_at (word_at ws i 1) 0) 0)))))))

-- 3: field f of node i is a fraction
abbrev pub fraction_at : List ℕ → ℕ → ℕ → Bool
fraction_at ws i f = eqb (unit_of (word_at ws i 2) (word_at ws i 3) f) 2

-- 3: a ratio other than 0 (NaN too) beside a fraction in 1, 3 or 5
unfoldable pub ratio_beside_fraction : List ℕ → List Float → ℕ → Bool
ratio_beside_fraction ws xs i = not (eq (number_at xs i 22) zero_f) && (fraction_at ws i 1 || (fraction_at ws i 3 || fraction_at ws i 5))

-- 3 of node i: its ratio, or its codes
unfoldable pub bad_style : List ℕ → List Float → ℕ → Bool
bad_style ws xs i = ratio_beside_fraction ws xs i || bad_codes ws i

-- the literals 65536.0, 1.0, 1/64 and 64.0
abbrev pub most_pixels : Float
most_pixels = of_bits binary32 0x4780_0000

abbrev pub one_f : Float
one_f = of_bits binary32 0x3f80_0000

abbrev pub least_ratio : Float
least_ratio = of_bits binary32 0x3c80_0000

abbrev pub most_ratio : Float
most_ratio = of_bits binary32 0x4280_0000

-- 4: negative only in 6-9 and 18-21
unfoldable pub signed : ℕ → Bool
signed f = (leb 6 f && ltb f 10) || (leb 18 f && ltb f 22)

-- 4: pixels at most 65,536 in magnitude, fractions at most 1; auto fields are checked as pixels
unfoldable pub most_of : ℕ → Float
most_of unit = cond (eqb unit 2) one_f most_pixels

unfoldable pub bad_field : ℕ → ℕ → Float → Bool
bad_field f unit x = not (in_range x (cond (signed f) (neg (most_of unit)) zero_f) (most_of unit))

-- 4: from 0 to 65,536
abbrev pub bad_pixels : Float → Bool
bad_pixels x = not (in_range x zero_f most_pixels)

-- 4: ratio 0 or 1/64 to 64
unfoldable pub bad_ratio : Float → Bool
bad_ratio x = not (eq x zero_f) && not (in_range x least_ratio most_ratio)

-- 4: node number NaN, infinite or out of range; 24 not above 25; a baseline from 0 to number 26
unfoldable pub bad_numbers : List ℕ → List Float → ℕ → Bool
bad_numbers ws xs i =
    some (λ f. bad_field f (unit_of (word_at ws i 2) (word_at ws i 3) f) (number_at xs i f)) 22
    || (bad_ratio (number_at xs i 22)
    || (bad_pixels (number_at xs i 23)
    || (bad_pixels (number_at xs i 24)
    || (bad_pixels (number_at xs i 25)
    || (bad_pixels (number_at xs i 26) || (lt (number_at xs i 25) (number_at xs i 24) || not (in_range (number_at xs i 27) zero_f (number_at xs i 26))))))))

-- 4: else a question number so
unfoldable pub bad_option : Option Float → Bool
bad_option None = false
bad_option (Some x) = bad_pixels x

unfoldable pub bad_question : LayoutInput → Bool
bad_question q = bad_option q.known.width || (bad_option q.known.height || (bad_option q.parent || bad_option (definite q.available)))

-- 5: records lent are the smaller of whole twos and whole threes
abbrev pub records_in : List ℕ → List Float → ℕ
records_in cw cx = min (length cw / 2) (length cx / 3)

-- 6: an edit not below n, or over 64 edits; the first bad index among the first 64, else 64
unfoldable pub bad_edit : List ℕ → ℕ → ℕ → Bool
bad_edit es n k = not (ltb (get_or es k 0) n)

-- 8: a row number of magnitude 16,777,216 or more, or NaN
unfoldable pub bad_row : List Float → ℕ → Bool
bad_row rs i = some (λ k. too_large (get_or rs (16 * i + k) zero_f)) 16

-- a node at fault refuses
unfoldable pub at_fault : (ℕ → Refusal) → Option NodeId → Result ⊤ Refusal
at_fault a None = Ok tt
at_fault a (Some i) = Err (a i.0)

-- an edit at fault refuses
unfoldable pub at_spot : Option ℕ → Result ⊤ Refusal
at_spot None = Ok tt
at_spot (Some k) = Err (Edits k)

-- The tests in order, each with its place.
unfoldable pub no2 : List ℕ → Result ⊤ Refusal
no2 ws = at_fault (λ i. Tree (record { 0 = i })) (lowest (bad_tree ws) (nodes_in ws))

-- 3 by a test of one node: the words alone, or the numbers too
abbrev pub no3_by : (ℕ → Bool) → List ℕ → Result ⊤ Refusal
no3_by bad ws = at_fault (λ i. Codes (record { 0 = i })) (lowest bad (nodes_in ws))

unfoldable pub no3 : List ℕ → List Float → Result ⊤ Refusal
no3 ws xs = no3_by (bad_style ws xs) ws

unfoldable pub no4 : List ℕ → List Float → LayoutInput → Result ⊤ Refusal
no4 ws xs q = and_then (at_fault Numbers (lowest (bad_numbers ws xs) (nodes_in ws))) (refuse_if (bad_question q) (Numbers (nodes_in ws)))

unfoldable pub no5 : List ℕ → List Float → List ℕ → List Float → Result ⊤ Refusal
no5 ws xs cw cx = refuse_if (ltb (records_in cw cx) (needed (page_of ws xs []))) Room

unfoldable pub no6 : List ℕ → ℕ → Result ⊤ Refusal
no6 es n = and_then (at_spot (first_of (bad_edit es n) (min 64 (length es)))) (refuse_if (ltb 64 (length es)) (Edits 64))

unfoldable pub no7 : List ℕ → Result ⊤ Refusal
no7 ms = refuse_if (not (flag_at (get_or ms 1 0) 0)) NotLaid

-- 2 to 4, which every call tests
unfoldable pub page_tested : List ℕ → List Float → LayoutInput → Result ⊤ Refusal
page_tested ws xs q = and_then (no2 ws) (and_then (no3 ws xs) (no4 ws xs q))

unfoldable pub layout_tested : List ℕ → List Float → List Float → List ℕ → List ℕ → List Float → LayoutInput → Result ⊤ Refusal
layout_tested ws xs rs ms cw cx q =
    and_then (refuse_if (bad_tables ws xs || bad_rows ws rs ms) Lengths) (and_then (page_tested ws xs q) (no5 ws xs cw cx))

unfoldable pub relayout_tested : List ℕ → List Float → List Float → List ℕ → List ℕ → List Float → List ℕ → LayoutInput → Result ⊤ Refusal
relayout_tested ws xs rs ms cw cx es q = and_then (layout_tested ws xs rs ms cw cx q) (and_then (no6 es (nodes_in ws)) (no7 ms))

unfoldable pub size_tested : List ℕ → List Float → LayoutInput → Result ⊤ Refusal
size_tested ws xs q = and_then (refuse_if (bad_tables ws xs) Lengths) (page_tested ws xs q)
