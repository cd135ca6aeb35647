-- The count that a head says is the one that its first line says, and within the limit. Assumes nothing.
use Rattle.page.specs.declared.PageError.TheVariants.{BadLine}
use Rattle.page.specs.declared.PageError.{PageError}
use Rattle.lines.specs.declared.Flags.{Flags}
use Rattle.std.specs.Prelude.{Option, None, Some, Err, Ok, Result}
use Rattle.geometry.specs.declared.Size.{Size}
use mathlib.Core.Path.{◌≡◌, refl, sym, ◌∙◌, ap}
use mathlib.Core.Bool.{Bool, true, false}
use mathlib.Core.List.{List}
use Prim.Native.Nat.{ℕ, ◌≤◌}
use native.Mathlib.Omega.{arith}
use lib.Ieee.{Float}
use lib.ListN.{length, take, drop, replicate}
use lib.Dec.{leb}
use Rattle.length.specs.declared.AvailableSpace.{AvailableSpace}
use Rattle.geometry.specs.Geometry.{zero_f}
use Rattle.text.specs.Pieces.{lines_of, piece_at, starts_with}
use Rattle.text.specs.Laws.{value_within}
use Rattle.lines.specs.Lines.{nodes=, nodes_line, parent_line, known_line, avail_line, flags_line}
use Rattle.page.specs.Head.{flags_in, avail_in, known_in, parent_in, count_in, head_of}
use Rattle.page.specs.Body.{tables, Body, Wrong, Right, rest}
use Rattle.page.specs.File.{node_limit, bad_file, body_file, file_from, file_of, page_file}
use Rattle.page.specs.declared.Head.{Head}

-- the count of a head, 0 of a bad one
counted : Result Head PageError → ℕ → ℕ
counted (Err (BadLine k)) n = n
counted (Ok h) n = h.count

abbrev Says : Result Head PageError → ℕ → Type 0
Says h n = counted h n ≡ n

module _ (n : ℕ) where
  by_flags : (p : Float) (k : Size (Option Float)) (a : AvailableSpace) (v : Option Flags) → Says (flags_in n p k a v) n
  unfolding flags_in counted
  by_flags p k a None = refl
  by_flags p k a (Some f) = refl

  by-avail : (p : Float) (k : Size (Option Float)) (ls : List (List ℕ)) (v : Option AvailableSpace) → Says (avail_in n p k ls v) n
  unfolding avail_in counted
  by-avail p k ls None = refl
  by-avail p k ls (Some a) = by_flags p k a (flags_line (piece_at ls 4))

  by-known : (p : Float) (ls : List (List ℕ)) (v : Option (Size (Option Float))) → Says (known_in n p ls v) n
  unfolding known_in counted
  by-known p ls None = refl
  by-known p ls (Some k) = by-avail p k ls (avail_line (piece_at ls 3))

  by-parent : (ls : List (List ℕ)) (v : Option Float) → Says (parent_in n ls v) n
  unfolding parent_in counted
  by-parent ls None = refl
  by-parent ls (Some p) = by-known p ls (known_line (piece_at ls 2))

is_counted : (h : Head) (x : Result Head PageError) (n : ℕ) → x ≡ Ok h → Says x n → h.count ≡ n
unfolding counted
is_counted h x n e s = ap (λ (y : Result Head PageError). counted y n) (sym e) ∙ s

nodes_within : (limit n : ℕ) (l : List ℕ) (b : Bool) → starts_with nodes= l ≡ b → nodes_line limit l ≡ Some n → n ≤ limit
unfolding nodes_line
nodes_within limit n l true q e = value_within 10 limit (drop 6 l) n (rw q at e)
nodes_within limit n l false q e =
    let z : ◌≡◌ {A = Option ℕ} None (Some n) = rw q at e in
    let o : ◌≡◌ {A = ℕ} 0 1 = cc in
    absurd (omega arith)

by_count : (limit : ℕ) (ls : List (List ℕ)) (l : List ℕ) (v : Option ℕ) (h : Head) → nodes_line limit l ≡ v → count_in ls v ≡ Ok h → h.count ≤ limit
unfolding count_in
by_count limit ls l None h q e =
    let o : ◌≡◌ {A = ℕ} 0 1 = cc in
    absurd (omega arith)
by_count limit ls l (Some n) h q e =
    let c : h.count ≡ n = is_counted h (parent_in n ls (parent_line (piece_at ls 1))) n e (by-parent n ls (parent_line (piece_at ls 1))) in
    omega (arith, nodes_within limit n l (starts_with nodes= l) refl q)

-- a head that is read has no more nodes than the limit
pub head_fits : (limit : ℕ) (ls : List (List ℕ)) (h : Head) → head_of limit ls ≡ Ok h → h.count ≤ limit
unfolding head_of
head_fits limit ls h e = by_count limit ls (piece_at ls 0) (nodes_line limit (piece_at ls 0)) h refl e

by_body : (lw lx : ℕ) (h h' : Head) (b : Body) → (body_file lw lx h b).file ≡ Ok h' → h ≡ h'
unfolding body_file bad_file
by_body lw lx h h' (Wrong k) e =
    let z : ◌≡◌ {A = ℕ} 0 1 = cc in
    absurd (omega arith)
by_body lw lx h h' (Right t) e = cc

by_head : (whole : Bool) (lw lx : ℕ) (s : List ℕ) (x : Result Head PageError) (h : Head) → head_of (node_limit lw lx) (lines_of s) ≡ x → (file_from whole lw lx s x).file ≡ Ok h → h.count ≤ node_limit lw lx
unfolding file_from bad_file
by_head whole lw lx s (Err (BadLine k)) h q e =
    let z : ◌≡◌ {A = ℕ} 0 1 = cc in
    absurd (omega arith)
by_head whole lw lx s (Ok g) h q e =
    let z : g ≡ h = by_body lw lx g h (rest whole g.count 6 (tables 0 (replicate lw 0) (replicate lx zero_f)) (drop 5 (lines_of s))) e in
    rw (← z) (head_fits (node_limit lw lx) (lines_of s) g q)

-- a page that is read has no more nodes than its tables take
pub page_fits : (lw lx : ℕ) (s : List ℕ) (h : Head) → (page_file lw lx s).file ≡ Ok h → h.count ≤ node_limit lw lx
unfolding page_file file_of
page_fits lw lx s h e = by_head (leb (length s) 262143) lw lx (take 262143 s) (head_of (node_limit lw lx) (lines_of (take 262143 s))) h refl e
