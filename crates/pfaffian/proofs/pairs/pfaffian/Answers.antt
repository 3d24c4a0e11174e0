-- `pfaffian::pairs::pfaffian` meets its contract: what is left from pair k on gives what the whole gives (`pair_turn`). Assumes nothing.
use mathlib.Core.Path.{◌≡◌, refl, sym, ap, ◌∙◌}
use Prim.Native.Nat.{◌≤◌, ◌+◌, ◌*◌}
use native.Mathlib.Omega.{arith}
use borrow.Author.Tests.{eq-eqb, ne_eqb}
use Rattle.laws.specs.Matrix.{at}
use Rattle.pfaffian.specs.Pfaffian.{pivot_of, pfaffian_of}
use Rattle.pfaffian.proofs.Congruent.{pivot-found}
use Rattle.pfaffian.proofs.Pairing.{pair_turn, pair-stop, pair-done, pair-kept}
use Rattle.real.proofs.Squares.{same_then}
use Rattle.pfaffian.proofs.pairs.pfaffian.Goals as goal
use Rattle.pfaffian.proofs.pairs.pfaffian.Goals.{then-piv-k, else-piv-k}

-- ---- an odd dimension
pub returns-then-m-eq1-clause-value : goal.returns-then-m-eq1-clause-value
unfolding pfaffian_of
returns-then-m-eq1-clause-value c = rw (eq-eqb _ _ c.if-m-eq1.true) refl

-- ---- the pairs
pub returns-then-found-clause-value : goal.returns-then-found-clause-value
unfolding pfaffian_of
returns-then-found-clause-value c =
    let l = c.loop-pair in
    let found = rw l.invariant.1.same.dim at c.pivot-found.ensures.value in
    rw (ne_eqb _ _ c.if-m-eq1.false)
    (pair-stop c.args.m.now.dim (2 * l.pair) l.m.entries.now l.pf (omega arith) l.invariant.0.1 _ (ap (λ s. s.0) found) c.if-found.true ∙ l.invariant.2)

-- the pivot stands after column k
pub bring-requires-clause-k_le_p : goal.bring-requires-clause-k_le_p
bring-requires-clause-k_le_p c =
    let l = c.loop-pair in
    let k = 2 * l.pair in
    let two : k + 2 ≤ c.args.m.now.dim = omega arith in
    let from = (pivot-found (at c.args.m.now.dim l.m.entries.now k) k c.args.m.now.dim two).from in
    let p : c.pivot-found.result.piv ≡ (pivot_of (at c.args.m.now.dim l.m.entries.now k) k c.args.m.now.dim).1 =
    ap (λ s. s.1) (rw l.invariant.1.same.dim at c.pivot-found.ensures.value) in
    omega (arith, from, p)

pub loop-pair-preserved : goal.loop-pair-preserved
loop-pair-preserved c =
    let l = c.loop-pair in
    let k = 2 * l.pair in
    let dim = c.args.m.now.dim in
    let is = l.invariant.1.same.dim in
    let found = rw is at c.pivot-found.ensures.value in
    let brings = c.bring.ensures in
    let lessens = c.eliminate.ensures in
    let b = rw is at brings.corner in
    let e = rw (brings.same.dim ∙ is) at lessens.corner in
    let R = c.bring.new.m.entries.now in
    let x = rw (brings.same.dim ∙ is) at c.entry-pf.ensures in
    let next : k + 2 ≡ 2 * (l.pair + 1) = omega arith in (
      omega (arith, l.invariant.0, c.loop-pair-test.true),
      record {
        same = same_then _ _ _ l.invariant.1.same (same_then _ _ _ brings.same lessens.same);
        kept = pair-kept dim k _ l.m.entries.now R c.eliminate.new.m.entries.now _ _ b e l.invariant.1.kept;
      },
      rw next at (pair_turn dim k l.m.entries.now l.pf (omega arith) l.invariant.0.1 _ _ R c.eliminate.new.m.entries.now
          c.entry-pf.result c.if-piv-k.pf (ap (λ s. s.0) found) (ap (λ s. s.1) found) b
          e c.if-found.false x
          (elim c.if-piv-k.branch [ then-piv-k w ↦ w.pf-is ∙ rw (ne_eqb _ _ w.if-piv-k.true) | else-piv-k w ↦ w.pf-is ∙ rw (eq-eqb _ _ w.if-piv-k.false) ])
          ∙ l.invariant.2),
    )

-- ---- the end
pub returns-clause-value : goal.returns-clause-value
unfolding pfaffian_of
returns-clause-value c =
    let l = c.loop-pair in
    rw (ne_eqb _ _ c.if-m-eq1.false) (sym (pair-done (at c.args.m.now.dim l.m.entries.now) c.args.m.now.dim (2 * l.pair) l.pf (omega arith)) ∙ l.invariant.2)
