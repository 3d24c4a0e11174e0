-- WHAT IT MEANS THAT A PHASE IS A ROTATION: the map that the engine computes of 1 and e on the diagonal is the rotation that it applies in its place (crate
-- `classify`, Diagonal: "The rotation of (re, im) is [[re, -im], [im, re]]"); and such a matrix is a matchgate. Definitions only.
-- A public promise rests on this.
use Rattle.std.specs.Prelude.{◌≡◌, Bool, ℕ, zero, suc}
use Rattle.rings.specs.Rings.{Ops}
use Rattle.formulas.specs.Numbers.{Exact, Tests}
use Rattle.formulas.specs.Engine.{Mat}
use Rattle.matchgates.specs.Maps.{Conjugate, Still, Unitary}
use Rattle.matchgates.specs.Complex.{Pair, complex}
use Rattle.matchgates.specs.Words.{entry_of}
use Rattle.matchgates.specs.Regrouped.{phase}

-- [[re, -im], [im, re]]
abbrev pub rotation : (𝓡 : Ops) → Pair 𝓡 → Mat 𝓡
rotation 𝓡 e zero zero = e.re
rotation 𝓡 e zero (suc c) = 𝓡.neg e.im
rotation 𝓡 e (suc r) zero = e.im
rotation 𝓡 e (suc r) (suc c) = e.re

-- THE STATEMENT
pub record PhasesTurn {𝓡 : Ops} (𝓣 : Tests 𝓡) {below : (complex 𝓡).N → Bool} (𝓔 : Exact (complex 𝓡) below) (𝓙 : Conjugate (complex 𝓡) 𝓔.i) : Type 0 where
  pub turns : (e : Pair 𝓡) (a b : ℕ) → entry_of 𝓡 𝓣 1 (phase (complex 𝓡) e) a b ≡ rotation 𝓡 e a b
  pub still : (e : Pair 𝓡) → Still 𝓔 𝓙 1 (phase (complex 𝓡) e)
  pub unitary : (e : Pair 𝓡) → 𝓡.add (𝓡.mul e.re e.re) (𝓡.mul e.im e.im) ≡ 𝓡.one → Unitary 𝓙 2 (phase (complex 𝓡) e)
