-- THE ANGLE THEOREM FROM GATE MATRICES, with nothing assumed but the laws of real numbers: complex numbers are pairs, operators are matrices of order 2^n.
-- And whole numbers modulo 7 are such numbers, so that it speaks of something. Assumes nothing.
use mathlib.Core.Bool.{Bool}
use Prim.Native.Nat.{ℕ}
use Rattle.rings.specs.Rings.{Ops}
use Rattle.formulas.specs.Numbers.{Divides}
use Rattle.formulas.specs.Determinants.{odd}
use Rattle.angles.specs.Qubits.{Operators}
use Rattle.matchgates.specs.Gates.{EveryGate, ExactlyMatchgates}
use Rattle.matchgates.specs.Complex.{complex, Real}
use Rattle.matchgates.specs.Compiled.{EveryCircuit}
use Rattle.matchgates.specs.InWords.{InWords}
use Rattle.angles.specs.Matrices.{tower}
use Rattle.angles.proofs.Matrices.{operators}
use Rattle.matchgates.proofs.Maps.{exactly-matchgates}
use Rattle.matchgates.proofs.Gates.{every-gate}
use Rattle.matchgates.proofs.Compiled.{every-circuit}
use Rattle.matchgates.proofs.Complex.{exact, conjugate}
use Rattle.matchgates.proofs.Words.{in-words}
use Rattle.matchgates.proofs.Quotients.{pair_tests, pairs-divide}
use Rattle.matchgates.proofs.Seven.{mod7, minus_one, real7, tests7, divides7}

module _ {𝓡 : Ops} {below : 𝓡.N → Bool} (𝓕 : Real 𝓡 below) (n : ℕ) where
  pub for-real-numbers : EveryGate (exact 𝓕) (conjugate 𝓕) (operators (exact 𝓕) n) (odd (complex 𝓡) (λ s. below s.re))
  for-real-numbers = every-gate (exact 𝓕) (conjugate 𝓕) (operators (exact 𝓕) n)

  pub real-matchgates : ExactlyMatchgates (exact 𝓕) (conjugate 𝓕) (operators (exact 𝓕) n)
  real-matchgates = exactly-matchgates (exact 𝓕) (conjugate 𝓕) (operators (exact 𝓕) n)

  -- and of circuits, with the modes in any order
  pub real-circuits : (𝓦 : Operators (complex 𝓡) (exact 𝓕).i n (tower (complex 𝓡) n))
      → EveryCircuit (exact 𝓕) (conjugate 𝓕) (operators (exact 𝓕) n) 𝓦 (odd (complex 𝓡) (λ s. below s.re))
  real-circuits 𝓦 = every-circuit (exact 𝓕) (conjugate 𝓕) (operators (exact 𝓕) n) 𝓦

pub for-mod7 : (n : ℕ) → EveryGate (exact real7) (conjugate real7) (operators (exact real7) n) (odd (complex mod7) (λ s. minus_one s.re))
for-mod7 = for-real-numbers real7

pub words-of-mod7 : InWords (exact real7) (conjugate real7) tests7
words-of-mod7 = in-words real7 divides7

pub pairs-of-mod7 : Divides (complex mod7) (pair_tests mod7 tests7)
pairs-of-mod7 = pairs-divide real7 divides7
