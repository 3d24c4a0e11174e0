-- REAL NUMBERS WITH i ADJOINED: pairs, with the engine's sums and products. Definitions only. A public promise rests on this.
use Rattle.std.specs.Prelude.{◌≡◌, ◌⊎◌, ◌≢◌, Bool, true, false}
use Rattle.rings.specs.Rings.{Ops, IsCommutative}

-- re + i im
pub record Pair (𝓡 : Ops) : Type 0 where
  pub re : 𝓡.N
  pub im : 𝓡.N

-- their numbers
abbrev pub complex : Ops → Ops
complex 𝓡 = record {
  N = Pair 𝓡;
  zero = record { re = 𝓡.zero; im = 𝓡.zero };
  one = record { re = 𝓡.one; im = 𝓡.zero };
  add = λ s t. record { re = 𝓡.add s.re t.re; im = 𝓡.add s.im t.im };
  mul = λ s t. record {
    re = 𝓡.add (𝓡.mul s.re t.re) (𝓡.neg (𝓡.mul s.im t.im));
    im = 𝓡.add (𝓡.mul s.re t.im) (𝓡.mul s.im t.re);
  };
  neg = λ s. record { re = 𝓡.neg s.re; im = 𝓡.neg s.im };
}

-- a real number among them
abbrev pub flat : (𝓡 : Ops) → 𝓡.N → Pair 𝓡
flat 𝓡 s = record { re = s; im = 𝓡.zero }

-- real numbers, as far as they matter here: a commutative ring with a half, in which a product is nought only if a factor is, and -1 is no square
pub record Real (𝓡 : Ops) (below : 𝓡.N → Bool) : Type 0 where
  pub laws : IsCommutative 𝓡
  pub half : 𝓡.N
  pub halves : 𝓡.add half half ≡ 𝓡.one
  pub factor : (s t : 𝓡.N) → 𝓡.mul s t ≡ 𝓡.zero → (s ≡ 𝓡.zero) ⊎ (t ≡ 𝓡.zero)
  pub no-root : (s : 𝓡.N) → 𝓡.mul s s ≢ 𝓡.neg 𝓡.one
  pub not-below : below 𝓡.one ≡ false
  pub is-below : below (𝓡.neg 𝓡.one) ≡ true
