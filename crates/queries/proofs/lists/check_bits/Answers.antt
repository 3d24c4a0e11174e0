-- `queries::lists::check_bits` meets its contract: every bit passed is 0 or 1. Assumes nothing.
use Rattle.std.proofs.Common.{◌≡◌, leb, length, get_or, sym, refl, ap, ◌∙◌, arith, eq-eqb, ne_eqb, le-leb}
use borrow.Author.Tests.{lt-leb}
use Rattle.laws.specs.Tests.{all_below}
use Rattle.laws.proofs.Tests.{all_more, all-fails}
use Rattle.queries.specs.Lists.{bits_ok}
use Rattle.queries.proofs.lists.check_bits.Goals as goal

pub returns-then-qubits-bits : goal.returns-then-qubits-bits
unfolding bits_ok
returns-then-qubits-bits c = (refl, rw (ne_eqb _ _ c.if-qubits-bits.true))

pub loop-bit-init : goal.loop-bit-init
unfolding all_below
loop-bit-init c = refl

pub returns-then-bit-gt1 : goal.returns-then-bit-gt1
unfolding bits_ok
returns-then-bit-gt1 c =
    let bits = c.args.bits.now in (
      refl,
      rw (eq-eqb _ _ c.if-qubits-bits.false)
          (sym (all-fails (λ j. leb (get_or bits j 0) 1) (length bits) c.loop-bit.bit-index (omega arith) (lt-leb _ _ c.if-bit-gt1.true))),
    )

pub loop-bit-preserved : goal.loop-bit-preserved
loop-bit-preserved c =
    let l = c.loop-bit in
    all_more (λ j. leb (get_or c.args.bits.now j 0) 1) l.bit-index l.invariant (le-leb _ _ c.if-bit-gt1.false)

pub returns : goal.returns
unfolding bits_ok
returns c =
    let bits = c.args.bits.now in
    let all : c.loop-bit.bit-index ≡ length bits = omega arith in
    rw (eq-eqb _ _ c.if-qubits-bits.false) (sym (ap (all_below (λ j. leb (get_or bits j 0) 1)) all) ∙ c.loop-bit.invariant)
