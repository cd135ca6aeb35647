-- One turn of the loop of `below`: the child at place a of a part, its run, and what follows it.
use Rattle.std.specs.Prelude.{Option, None, Some}
use mathlib.Core.Path.{◌≡◌, sym, ap, ◌∙◌}
use mathlib.Core.Bool.{true, false}
use mathlib.Core.List.{List}
use Prim.Native.Nat.{ℕ, suc, ◌+◌, ◌*◌, ◌-◌, ◌<◌, ◌≤◌}
use native.Mathlib.Omega.{arith}
use lib.ListN.{take, drop}
use Rattle.tree.specs.declared.NodeId.{NodeId}
use Rattle.style.specs.Style.{word_at}
use Rattle.steps.specs.Scan.{scan, at_node}
use Rattle.steps.specs.Page.{nodes_in}
use Rattle.steps.specs.Noes.{end_at, bad_tree}
use Rattle.shape.specs.TreeCheck.{Front, node_fault, PartOf, CheckedPart}
use Rattle.scans.specs.Scans.{Clear, next-yes, next-no, none_left, is-hit, hit-is, none_is, scan_skip}
use Rattle.scans.specs.Scans.{at_inj, at_apart}
use Rattle.shape.proofs.Fronts.{Fine, fine, bad-is, inside, beyond}
use Rattle.shape.proofs.Parts.{part-nodes, part_of}

abbrev scan_tree : List ℕ → ℕ → ℕ → Option NodeId
scan_tree ws i n = scan (bad_tree ws) at_node None i n

-- a find in the first m places is a find in more
found_longer : (ws : List ℕ) (i m l : ℕ) (k : NodeId) → Some k ≡ scan_tree ws i m → Some k ≡ scan_tree ws i (m + l)
found_longer ws i m l k e =
    let h = hit-is (bad_tree ws) at_node None at_inj at_apart m i k.0 (sym e) in
    let g = h.high in
    sym (is-hit (bad_tree ws) at_node None (m + l) i k.0 (record { low = h.low; high = omega arith; takes = h.takes; first = h.first }))

-- the first a nodes of the part, each with all its run, are sound
abbrev pub Reached : List ℕ → ℕ → ℕ → ℕ → Type 0
Reached part base depth a =
    (ws : List ℕ) → PartOf ws base part → Front ws base (base + nodes_in part) depth
    → Front ws (base + a) (base + nodes_in part) depth × (scan_tree ws base (nodes_in part) ≡ scan_tree ws (base + a) (nodes_in part - a))

pub reached_none : (part : List ℕ) (base depth : ℕ) → Reached part base depth 0
reached_none part base depth ws p f =
    let q : base + 0 ≡ base = omega arith in
    let r : nodes_in part - 0 ≡ nodes_in part = omega arith in
    (rw q f, rw (q, r))

pub reached_all : (part : List ℕ) (base depth a : ℕ) → nodes_in part ≤ a → Reached part base depth a → CheckedPart part base depth None
reached_all part base depth a le inv ws p f =
    let q : nodes_in part - a ≡ 0 = omega arith in
    sym ((inv ws p f).1 ∙ rw q (none_left (bad_tree ws) at_node None (base + a)))

module _ (part : List ℕ) (base depth a size style : ℕ) (es : size ≡ word_at part a 0) (et : style ≡ word_at part a 1) (lt : a < nodes_in part) (inv : Reached part base depth a) where
  module _ (ws : List ℕ) (p : PartOf ws base part) (f : Front ws base (base + nodes_in part) depth) where
    ss : size ≡ word_at ws (base + a) 0
    ss = es ∙ p a 0 lt (omega arith)

    front : Front ws (base + a) (base + nodes_in part) depth
    front = (inv ws p f).0

    -- this node's test
    test : bad_tree ws (base + a) ≡ node_fault size style (nodes_in part - a) depth
    test =
        let q : base + nodes_in part - (base + a) ≡ nodes_in part - a = omega arith in
        let t : style ≡ word_at ws (base + a) 1 = et ∙ p a 1 lt (omega arith) in
        let s = ss in
        rw (s, t, ← q) (bad-is ws (base + a) (base + nodes_in part) depth front (omega arith))

    one_more : nodes_in part - a ≡ suc (nodes_in part - a - 1)
    one_more = omega arith

  pub bad-here : node_fault size style (nodes_in part - a) depth ≡ true → CheckedPart part base depth (Some (record { 0 = base + a }))
  bad-here e ws p f = sym ((inv ws p f).1 ∙ rw (one_more ws p f) (next-yes (bad_tree ws) at_node None (base + a) (nodes_in part - a - 1) (test ws p f ∙ e)))

  module _ (ok : node_fault size style (nodes_in part - a) depth ≡ false) where
    pub sound : Fine size style (nodes_in part - a) depth
    sound = fine _ _ _ _ ok

    -- the run below this node
    abbrev run : List ℕ
    run = take (4 * (a + size) - 4 * (a + 1)) (drop (4 * (a + 1)) part)

    pub run-nodes : nodes_in run ≡ size - 1
    run-nodes =
        let g = sound in
        let h = g.has in
        let k = g.fits in
        part-nodes part (a + 1) (a + size) (omega arith) (omega arith) ∙ omega arith

    module _ (r : Option NodeId) (answer : CheckedPart run (base + (a + 1)) (depth - 1) r) (ws : List ℕ) (p : PartOf ws base part) (f : Front ws base (base + nodes_in part) depth) where
      ok-here : node_fault (word_at ws (base + a) 0) (word_at ws (base + a) 1) (base + nodes_in part - (base + a)) depth ≡ false
      ok-here =
          let l : base + a < base + nodes_in part = omega arith in
          sym (bad-is ws (base + a) (base + nodes_in part) depth (front ws p f) l) ∙ test ws p f ∙ ok

      run-front : Front ws (base + (a + 1)) (base + (a + 1) + nodes_in run) (depth - 1)
      run-front =
          let g = sound in
          let h = g.has in
          let s = ss ws p f in
          let q : base + (a + 1) ≡ base + a + 1 = omega arith in
          let n = run-nodes in
          let z : base + (a + 1) + nodes_in run ≡ end_at ws (base + a) = omega arith in
          rw (z, q) (inside ws (base + a) (base + nodes_in part) depth (front ws p f) (omega arith) ok-here)

      run-part : PartOf ws (base + (a + 1)) run
      run-part =
          let g = sound in
          let h = g.has in
          let k = g.fits in
          part_of part (a + 1) (a + size) (omega arith) (omega arith) ws base p

      answered : r ≡ scan_tree ws (base + a + 1) (size - 1)
      answered =
          let q : base + (a + 1) ≡ base + a + 1 = omega arith in
          let e = answer ws run-part run-front in
          e ∙ rw (run-nodes, q)

      -- this node, its run, and the rest
      split : scan_tree ws base (nodes_in part) ≡ scan_tree ws (base + a + 1) (size - 1 + (nodes_in part - (a + size)))
      split =
          let g = sound in
          let h = g.has in
          let k = g.fits in
          let q : nodes_in part - a - 1 ≡ size - 1 + (nodes_in part - (a + size)) = omega arith in
          (inv ws p f).1 ∙ rw (one_more ws p f) (next-no (bad_tree ws) at_node None (base + a) (nodes_in part - a - 1) (test ws p f ∙ ok) ∙ rw q)

      found_of : (i : NodeId) → r ≡ Some i → Some i ≡ scan_tree ws base (nodes_in part)
      found_of i e = found_longer ws (base + a + 1) (size - 1) (nodes_in part - (a + size)) i (sym e ∙ answered) ∙ sym split

      next_of : r ≡ None → Front ws (base + (a + size)) (base + nodes_in part) depth × (scan_tree ws base (nodes_in part) ≡ scan_tree ws (base + (a + size)) (nodes_in part - (a + size)))
      next_of e =
          let g = sound in
          let h = g.has in
          let s = ss ws p f in
          let clear : Clear (bad_tree ws) (base + a + 1) (size - 1) = none_is (bad_tree ws) at_node None at_inj at_apart (size - 1) (base + a + 1) (sym answered ∙ e) in
          let clear2 : Clear (bad_tree ws) (base + a + 1) (word_at ws (base + a) 0 - 1) = λ j u v. clear j u (omega arith) in
          let z : base + (a + size) ≡ end_at ws (base + a) = omega arith in
          let y : base + a + 1 + (size - 1) ≡ base + (a + size) = omega arith in (
            rw z (beyond ws (base + a) (base + nodes_in part) depth (front ws p f) (omega arith) ok-here clear2),
            split ∙ scan_skip (bad_tree ws) at_node None (size - 1) (nodes_in part - (a + size)) (base + a + 1) clear ∙ ap (λ (x : ℕ). scan_tree ws x (nodes_in part - (a + size))) y,
          )

    pub found : (r : Option NodeId) → CheckedPart run (base + (a + 1)) (depth - 1) r → (i : NodeId) → r ≡ Some i → CheckedPart part base depth (Some i)
    found r answer i e ws p f = found_of r answer ws p f i e

    pub next : (r : Option NodeId) → CheckedPart run (base + (a + 1)) (depth - 1) r → r ≡ None → Reached part base depth (a + size)
    next r answer e ws p f = next_of r answer ws p f e
