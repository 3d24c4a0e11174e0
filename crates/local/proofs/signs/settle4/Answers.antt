-- `local::signs::settle4` meets its contract: no sign is below zero, or the columns and then the rows are settled. Assumes nothing.
use mathlib.Core.Path.{◌≡◌, sym, ap, ◌∙◌}
use mathlib.Core.Bool.{◌||◌, false}
use Prim.Native.Nat.{ℕ, ◌+◌, ◌*◌}
use native.Mathlib.Nat.{add-zero}
use lib.ListN.{get_or}
use lib.Ieee.{Float, nan, lt, of_bits}
use Rattle.laws.specs.Zeros.{+0}
use Rattle.local.proofs.Settling.{none_of_four, settled-none, settled-both}
use Rattle.local.proofs.SameSigned.{same_here, same_then}
use Rattle.local.proofs.signs.settle4.Goals as goal

pub settle_columns4-requires-clause-below4 : goal.settle_columns4-requires-clause-below4
unfolding of_bits
settle_columns4-requires-clause-below4 c =
    record {
      first = ap (λ x. lt x +0) c.sign.ensures;
      second = ap (λ x. lt x +0) c.sign-2.ensures;
      third = ap (λ x. lt x +0) c.sign-3.ensures;
      fourth = ap (λ x. lt x +0) c.sign-4.ensures;
    }

pub returns-then-below : goal.returns-then-below
returns-then-below c =
    let t = c.args.t.now in
    let columns = c.settle_columns4.ensures in
    let rows = c.settle_rows.ensures in record {
      same = same_then _ _ _ columns.same rows.same;
      now = settled-both t.dim c.args.s 4 t.entries.now _ _ t.room columns.now (rw columns.same.dim at rows.now);
    }

pub returns-else-below-4 : goal.returns-else-below-4
unfolding of_bits
returns-else-below-4 c =
    let t = c.args.t.now in
    let v = t.entries.now in
    let dim = t.dim in
    let s = c.args.s in
    let first : lt (get_or v (dim * dim + (s + 0)) nan) +0 ≡ lt (get_or v (dim * dim + s) nan) +0 = ap (λ n. lt (get_or v (dim * dim + n) nan) +0) (add-zero s) in
    let read : (x : Float) (i : ℕ) → x ≡ get_or v (dim * dim + i) nan → lt x +0 ≡ false → lt (get_or v (dim * dim + i) nan) +0 ≡ false =
    λ x i e f. ap (λ y. lt y +0) (sym e) ∙ f in record {
      same = same_here _;
      now = settled-none dim s 4 v t.room (none_of_four (λ i. lt (get_or v (dim * dim + (s + i)) nan) +0)
          (λ z. (first ∙ read _ s c.sign.ensures c.if-below.false) z || (read _ (s + 1) c.sign-2.ensures c.if-below-2.false z || (read _ (s + 2) c.sign-3.ensures c.if-below-3.false z || read _ (s + 3) c.sign-4.ensures c.if-below-4.false z))));
    }
