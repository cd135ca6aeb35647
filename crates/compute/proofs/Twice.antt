-- A part of a slice that is lent twice, one call after the other.
use mathlib.Core.Path.{◌≡◌, sym, subst, ◌∙◌}
use mathlib.Core.List.{List}
use Prim.Native.Nat.{ℕ, ◌+◌, ◌*◌, ◌-◌, ◌<◌, ◌≤◌}
use native.Mathlib.Omega.{arith}
use lib.ListN.{length, take, drop, length-take}
use lib.Ieee.{Float}
use borrow.Rule.Slice.PartMut.{put_mid, post_of, take_put, mid_len}
use Rattle.tree.specs.Tree.{Tree}
use Rattle.tree.proofs.Lists.{part_in, post_in}
use Rattle.steps.specs.Page.{Cell}
use Rattle.steps.specs.declared.Frame.{Frame}
use Rattle.steps.specs.declared.Cursor.{Cursor}
use Rattle.steps.specs.declared.LayoutOutput.{LayoutOutput}
use Rattle.stacking.specs.declared.Footing.{Footing}
use Rattle.compute.specs.Contract.{Settled}
use Rattle.compute.proofs.StackLoop.{RestT}

module _ {A : Type 0} (a e : ℕ) (xs ys : List A) (le : a ≤ e) (fit : e ≤ length xs) (long : length ys ≡ e - a) where
  pre : length (take a xs) ≡ a
  pre = length-take a xs ∙ omega arith

  both : length (take a xs) + length ys ≡ e
  both = omega (arith, pre)

  -- the second call is lent what the first one left
  pub mid-again : take (e - a) (drop a (put_mid a (e - a) xs ys)) ≡ ys
  mid-again = part_in (take a xs) ys (post_of a (e - a) xs) a e pre both

  -- and what it leaves stands there in the end
  pub put-again : (zs : List A) → put_mid a (e - a) (put_mid a (e - a) xs ys) zs ≡ put_mid a (e - a) xs zs
  put-again zs = rw (take_put a (e - a) xs ys (omega arith), post_in (take a xs) ys (post_of a (e - a) xs) a e pre both)

-- a child's rows: lent to be laid out, and again to be placed
module _ (a e : ℕ) (ws : List ℕ) (rs nr : List Float) (ms nm : List ℕ) (lt : a < e) (le : 4 * e ≤ length ws) (rl : length rs ≡ 4 * length ws) (ml : 2 * length ms ≡ length ws)
    (hr : length nr ≡ length (take (16 * e - 16 * a) (drop (16 * a) rs))) (hm : length nm ≡ length (take (2 * e - 2 * a) (drop (2 * a) ms)))
  where
    long-r : length nr ≡ 16 * e - 16 * a
    long-r = hr ∙ mid_len (16 * a) (16 * e) rs (omega arith)

    long-m : length nm ≡ 2 * e - 2 * a
    long-m = hm ∙ mid_len (2 * a) (2 * e) ms (omega arith)

    pub settled-again : (f : Frame) (c : Cursor) (i : Footing) (o : LayoutOutput) (end : Cursor) (rs' : List Float) (ms' : List ℕ)
        → Settled (take (16 * e - 16 * a) (drop (16 * a) (put_mid (16 * a) (16 * e - 16 * a) rs nr))) (take (2 * e - 2 * a) (drop (2 * a) (put_mid (2 * a) (2 * e - 2 * a) ms nm))) f c i o end rs' ms' → Settled nr nm f c i o end rs' ms'
    settled-again f c i o end rs' ms' h =
        subst (λ (z : List Float). Settled z nm f c i o end rs' ms') (mid-again (16 * a) (16 * e) rs nr (omega arith) (omega arith) long-r)
        (subst (λ (z : List ℕ). Settled (take (16 * e - 16 * a) (drop (16 * a) (put_mid (16 * a) (16 * e - 16 * a) rs nr))) z f c i o end rs' ms') (mid-again (2 * a) (2 * e) ms nm (omega arith) (omega arith) long-m) h)

    pub rest-again : (xs : List Float) (es : List ℕ) (b : ℕ) (f : Frame) (t : Tree Cell) (c : Cursor) (rs' : List Float) (ms' : List ℕ)
        → RestT ws xs (put_mid (16 * a) (16 * e - 16 * a) rs rs') (put_mid (2 * a) (2 * e - 2 * a) ms ms') es b f t c e
        → RestT ws xs (put_mid (16 * a) (16 * e - 16 * a) (put_mid (16 * a) (16 * e - 16 * a) rs nr) rs') (put_mid (2 * a) (2 * e - 2 * a) (put_mid (2 * a) (2 * e - 2 * a) ms nm) ms') es b f t c e
    rest-again xs es b f t c rs' ms' h =
        subst (λ (z : List Float). RestT ws xs z (put_mid (2 * a) (2 * e - 2 * a) (put_mid (2 * a) (2 * e - 2 * a) ms nm) ms') es b f t c e) (sym (put-again (16 * a) (16 * e) rs nr (omega arith) (omega arith) long-r rs'))
        (subst (λ (z : List ℕ). RestT ws xs (put_mid (16 * a) (16 * e - 16 * a) rs rs') z es b f t c e) (sym (put-again (2 * a) (2 * e) ms nm (omega arith) (omega arith) long-m ms')) h)
