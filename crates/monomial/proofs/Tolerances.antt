-- A tolerance from 0 to 0.001 beside the numbers that it meets here: a zero of either sign passes it, and 1, the root of 2 and 2 do not. Assumes
-- nothing.
use mathlib.Core.Path.{◌≡◌, sym, ap, ◌∙◌}
use mathlib.Core.Bool.{true, false, not}
use lib.Dec.{T, not_T, T_not}
use lib.IntN.{pos}
use lib.Ieee.{Float, le, lt, of_bits}
use lib.Ieee.Bits.{is_true, is_false}
use lib.Ieee.Positive.{positive, between, le_trans_positive}
use Rattle.laws.specs.Dyadic.{Dy}
use Rattle.laws.specs.Zeros.{nz}
use Rattle.laws.specs.Bounds.{max_tolerance}
use Rattle.laws.proofs.Zeros.{le-nz}
use Rattle.laws.proofs.Dyadic.{zero-nz}
use Rattle.gate.specs.Complex.{f0, f1, f2}
use Rattle.monomial.specs.Tolerance.{Tolerance}
use Rattle.monomial.proofs.Complexes.{zero_is}
use Rattle.monomial.proofs.Roots.{√2}

pub zero-passes : (x tol : Float) → Tolerance tol → Dy 0 (pos 0) x → le x tol ≡ true
zero-passes x tol t d =
    le-nz x tol
    ∙ ap (λ (z : Float). le z (nz tol)) (zero-nz 0 x d ∙ sym (zero-nz 0 f0 zero_is))
    ∙ sym (le-nz f0 tol)
    ∙ is_true (le f0 tol) t.low

above-fails : (x tol : Float) → Tolerance tol → T (positive x) → T (not (le x max_tolerance)) → T (positive max_tolerance) → le x tol ≡ false
above-fails x tol t p n m =
    is_false (le x tol)
    (not_T (le x tol) (λ h.
    T_not (le x max_tolerance) n (le_trans_positive x tol max_tolerance p (between x tol max_tolerance p m h t.high) m h t.high)))

pub one-fails : (tol : Float) → Tolerance tol → le f1 tol ≡ false
unfolding of_bits le lt
one-fails tol t = above-fails f1 tol t tt tt tt

pub √2-fails : (tol : Float) → Tolerance tol → le √2 tol ≡ false
unfolding of_bits le lt
√2-fails tol t = above-fails √2 tol t tt tt tt

pub two-fails : (tol : Float) → Tolerance tol → le f2 tol ≡ false
unfolding of_bits le lt
two-fails tol t = above-fails f2 tol t tt tt tt
