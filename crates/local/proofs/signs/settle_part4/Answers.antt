-- `local::signs::settle_part4` meets its contract, an entry after the other. Assumes nothing.
use mathlib.Core.Path.{refl, sym}
use Prim.Native.Nat.{◌+◌}
use native.Mathlib.Nat.{add-zero}
use native.Mathlib.Omega.{arith}
use Rattle.laws.proofs.Matrix.{is-matrix}
use Rattle.local.proofs.Four.{Done, done_none, done-turned, done_kept}
use Rattle.local.proofs.signs.settle_part4.Goals as goal
use Rattle.local.proofs.signs.settle_part4.Goals.{then-below, else-below, then-below-2, else-below-2, then-below-3, else-below-3}

pub returns-then-below-4 : goal.returns-then-below-4
returns-then-below-4 c =
    let t = c.args.t.now in
    let r = c.args.r in
    let s = c.args.s in
    let row = c.requires.row in
    let fit = c.requires.columns in
    let b = c.requires.below4 in
    let start = done_none t r s row fit in
    let one : Done t r s row fit 1 c.if-below.t = elim c.if-below.branch [
      | then-below w ↦ rw w.t-is (done-turned t r s row fit 0 s c.args.below.x0 t _ (omega arith) (sym (add-zero s)) b.first start w.if-below.true w.negate.ensures)
      | else-below w ↦ done_kept t r s row fit 0 s c.args.below.x0 t _ (omega arith) (sym (add-zero s)) b.first start w.if-below.false w.t-is
    ] in
    let two : Done t r s row fit 2 c.if-below-2.t = elim c.if-below-2.branch [
      | then-below-2 w ↦ rw w.t-is (done-turned t r s row fit 1 (s + 1) c.args.below.x1 c.if-below.t _ (omega arith) refl b.second one w.if-below-2.true w.negate-then-below-2.ensures)
      | else-below-2 w ↦ done_kept t r s row fit 1 (s + 1) c.args.below.x1 c.if-below.t _ (omega arith) refl b.second one w.if-below-2.false w.t-is
    ] in
    let three : Done t r s row fit 3 c.if-below-3.t = elim c.if-below-3.branch [
      | then-below-3 w ↦ rw w.t-is (done-turned t r s row fit 2 (s + 2) c.args.below.x2 c.if-below-2.t _ (omega arith) refl b.third two w.if-below-3.true w.negate-then-below-3.ensures)
      | else-below-3 w ↦ done_kept t r s row fit 2 (s + 2) c.args.below.x2 c.if-below-2.t _ (omega arith) refl b.third two w.if-below-3.false w.t-is
    ] in
    let four = done-turned t r s row fit 3 (s + 3) c.args.below.x3 c.if-below-3.t _ (omega arith) refl b.fourth three c.if-below-4.true c.negate-then-below-4.ensures in
    record { same = four.same; now = is-matrix _ _ _ _ four.part }

pub returns-else-below-4 : goal.returns-else-below-4
returns-else-below-4 c =
    let t = c.args.t.now in
    let r = c.args.r in
    let s = c.args.s in
    let row = c.requires.row in
    let fit = c.requires.columns in
    let b = c.requires.below4 in
    let start = done_none t r s row fit in
    let one : Done t r s row fit 1 c.if-below.t = elim c.if-below.branch [
      | then-below w ↦ rw w.t-is (done-turned t r s row fit 0 s c.args.below.x0 t _ (omega arith) (sym (add-zero s)) b.first start w.if-below.true w.negate.ensures)
      | else-below w ↦ done_kept t r s row fit 0 s c.args.below.x0 t _ (omega arith) (sym (add-zero s)) b.first start w.if-below.false w.t-is
    ] in
    let two : Done t r s row fit 2 c.if-below-2.t = elim c.if-below-2.branch [
      | then-below-2 w ↦ rw w.t-is (done-turned t r s row fit 1 (s + 1) c.args.below.x1 c.if-below.t _ (omega arith) refl b.second one w.if-below-2.true w.negate-then-below-2.ensures)
      | else-below-2 w ↦ done_kept t r s row fit 1 (s + 1) c.args.below.x1 c.if-below.t _ (omega arith) refl b.second one w.if-below-2.false w.t-is
    ] in
    let three : Done t r s row fit 3 c.if-below-3.t = elim c.if-below-3.branch [
      | then-below-3 w ↦ rw w.t-is (done-turned t r s row fit 2 (s + 2) c.args.below.x2 c.if-below-2.t _ (omega arith) refl b.third two w.if-below-3.true w.negate-then-below-3.ensures)
      | else-below-3 w ↦ done_kept t r s row fit 2 (s + 2) c.args.below.x2 c.if-below-2.t _ (omega arith) refl b.third two w.if-below-3.false w.t-is
    ] in
    let four = done_kept t r s row fit 3 (s + 3) c.args.below.x3 c.if-below-3.t c.if-below-3.t (omega arith) refl b.fourth three c.if-below-4.false refl in
    record { same = four.same; now = is-matrix _ _ _ _ four.part }
