-- `local::rows::put_column4` meets its contract, store by store. Assumes nothing.
use Prim.Native.Nat.{ℕ, ◌+◌, ◌*◌}
use native.Mathlib.Nat.{add-zero}
use Rattle.laws.proofs.Stores.{stores-first, stores-more}
use Rattle.real.specs.Maps.{row4}
use Rattle.real.proofs.Squares.{same_then}
use Rattle.local.proofs.rows.put_column4.Goals as goal

pub returns : goal.returns
returns c =
    let dim = c.args.m.now.dim in
    let p : ℕ → ℕ = λ i. (c.args.s + i) * dim + c.args.c in
    let m = c.args.m.now.entries.now in
    let v = row4 c.args.v in
    let one = c.put.ensures in
    let two = c.put-2.ensures in
    let three = c.put-3.ensures in
    let four = c.put-4.ensures in
    let s₂ = same_then _ _ _ one.same two.same in
    let s₃ = same_then _ _ _ s₂ three.same in
    let first = stores-first p v m (c.args.s * dim + c.args.c) _ (rw add-zero) one.now in
    let second = stores-more p v m 1 _ _ first (rw one.same.dim at two.now) in record {
      same = same_then _ _ _ s₃ four.same;
      now = stores-more p v m 3 _ _ (stores-more p v m 2 _ _ second (rw s₂.dim at three.now)) (rw s₃.dim at four.now);
    }
