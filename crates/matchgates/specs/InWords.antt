-- WHAT IT MEANS THAT THE ENGINE'S WORDS SAY THE FORMULAS OF Maps AND OF Residuals, in exact numbers that are pairs. Definitions only.
-- A public promise rests on this.
use Rattle.std.specs.Prelude.{◌≡◌, ◌⊎◌, Bool, ℕ, ◌*◌}
use Rattle.rings.specs.Rings.{Ops}
use Rattle.formulas.specs.Numbers.{Exact, Tests}
use Rattle.formulas.specs.Engine.{Mat}
use Rattle.matchgates.specs.Maps.{Conjugate, map_of, rest}
use Rattle.matchgates.specs.Residuals.{Sizes, distance, residual}
use Rattle.matchgates.specs.Complex.{complex, flat}
use Rattle.matchgates.specs.Words.{Roots, entry_of, rest_of, distance_of, residual_of}

module _ {𝓡 : Ops} {below : (complex 𝓡).N → Bool} (𝓔 : Exact (complex 𝓡) below) (𝓙 : Conjugate (complex 𝓡) 𝓔.i) where
  -- roots, and the larger of two, of real numbers
  pub record Keeps (𝓢 : Sizes 𝓔 𝓙) (𝓦 : Roots 𝓡) : Type 0 where
    pub root : (s : 𝓡.N) → 𝓢.root (flat 𝓡 s) ≡ flat 𝓡 (𝓦.root s)
    pub larger : (s t : 𝓡.N) → 𝓢.larger (flat 𝓡 s) (flat 𝓡 t) ≡ flat 𝓡 (𝓦.larger s t)

  -- THE STATEMENT: map, rest and distances, with no imaginary part; and so the residual is that of `ResidualTells`
  pub record InWords (𝓣 : Tests 𝓡) : Type 1 where
    pub in-map : (modes : ℕ) → (modes ≡ 1) ⊎ (modes ≡ 2) → (u : Mat (complex 𝓡)) (a b : ℕ)
        → flat 𝓡 (entry_of 𝓡 𝓣 modes u a b) ≡ map_of 𝓔 𝓙 modes u a b
    pub in-rest : (modes : ℕ) → (modes ≡ 1) ⊎ (modes ≡ 2) → (u : Mat (complex 𝓡)) (a r c : ℕ)
        → rest_of 𝓡 𝓣 modes u a r c ≡ rest 𝓔 𝓙 modes u a r c
    pub in-distance : (modes : ℕ) → (modes ≡ 1) ⊎ (modes ≡ 2) → (u : Mat (complex 𝓡)) (a : ℕ)
        → flat 𝓡 (distance_of 𝓡 𝓣 modes u a) ≡ distance 𝓔 𝓙 modes u a
    pub in-residual : (𝓢 : Sizes 𝓔 𝓙) (𝓦 : Roots 𝓡) → Keeps 𝓢 𝓦 → (modes : ℕ) → (modes ≡ 1) ⊎ (modes ≡ 2) → (u : Mat (complex 𝓡))
        → flat 𝓡 (residual_of 𝓡 𝓣 𝓦 modes u (2 * modes)) ≡ residual 𝓢 modes u
