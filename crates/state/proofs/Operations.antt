-- Laws of operations: a decoded one has its modes below n; what was written as a mode is read back. Assumes nothing.
use Rattle.std.proofs.Common.{◌≡◌, ℕ, ◌+◌, ◌-◌, ◌<◌, Bool, true, false, cond, eqb, ltb, List, length, Option, Some, None, refl, arith, ltb-true}
use lib.Ieee.{Float, to_unsigned}
use Rattle.laws.specs.Bounds.{op_places}
use Rattle.real.specs.declared.maps.Map2.{Map2}
use Rattle.real.specs.declared.maps.Map4.{Map4}
use Rattle.state.specs.Operation.{is_whole, mode_of, place_of, map2_of, map4_of, interaction_at, kind_is, one_of, two_of, decode_of, Fits}
use Rattle.state.specs.declared.operation.Operation.{Operation}
use Rattle.state.specs.declared.operation.Operation.TheVariants.{One, Two}

-- ---- modes below n

pub fits_one : (n : ℕ) (o : Operation) (mode : ℕ) (q : Map2) → o ≡ One mode q → Fits n o → mode < n
unfolding Fits
fits_one n o mode q e f = rw e at f

pub fits-two : (n : ℕ) (o : Operation) (mode : ℕ) (q : Map4) → o ≡ Two mode q → Fits n o → mode + 1 < n
unfolding Fits
fits-two n o mode q e f = rw e at f

mode-below : (x : Float) (n k : ℕ) → mode_of x n ≡ Some k → k < n
unfolding mode_of
mode-below x n k e = by (is_whole x) (ltb (to_unsigned 64 x) n) refl e
  where
    by : (s t : Bool) → ltb (to_unsigned 64 x) n ≡ t → cond s (cond t (Some (to_unsigned 64 x)) None) None ≡ Some k → k < n
    by true true h e = let u : to_unsigned 64 x ≡ k = cc in omega (arith, ltb-true (to_unsigned 64 x) n h)
    by true false h e = absurd (cc)
    by false t h e = absurd (cc)

one-fits : (n : ℕ) (s : List Float) (o : Operation) (m : Option ℕ) → ((k : ℕ) → m ≡ Some k → k < n) → one_of s m ≡ Some o → Fits n o
unfolding one_of Fits
one-fits n s o (Some k) h e = let u : o ≡ One k (map2_of s) = cc in rw u (h k refl)
one-fits n s o None h e = absurd (cc)

two_fits : (n : ℕ) (s : List Float) (o : Operation) (m : Option ℕ) → ((k : ℕ) → m ≡ Some k → k + 1 < n) → two_of s m ≡ Some o → Fits n o
unfolding two_of Fits
two_fits n s o (Some k) h e = let u : o ≡ Two k (map4_of s) = cc in rw u (h k refl)
two_fits n s o None h e = absurd (cc)

any-fits : (n : ℕ) (s : List Float) (o : Operation) → Some (interaction_at s) ≡ Some o → Fits n o
unfolding Fits
any-fits n s o e = let u : o ≡ interaction_at s = cc in rw u tt

pub decode-fits : (n : ℕ) (s : List Float) (o : Operation) → decode_of n s ≡ Some o → Fits n o
unfolding decode_of
decode-fits n s o e =
    by (ltb (length s) op_places) (kind_is s 0x3ff0_0000_0000_0000) (kind_is s 0x4000_0000_0000_0000) (eqb n 0) refl (kind_is s 0x4008_0000_0000_0000) e
  where
    by : (t k₁ k₂ z : Bool) → eqb n 0 ≡ z → (k₃ : Bool)
        → cond t None (cond k₁ (one_of s (mode_of (place_of s 1) n)) (cond k₂ (cond z None (two_of s (mode_of (place_of s 1) (n - 1)))) (cond k₃ (Some
        (interaction_at s)) None))) ≡ Some o
        → Fits n o
    by true k₁ k₂ z h k₃ e = absurd (cc)
    by false true k₂ z h k₃ e = one-fits n s o (mode_of (place_of s 1) n) (λ k g. mode-below (place_of s 1) n k g) e
    by false false true true h k₃ e = absurd (cc)
    by false false true false h k₃ e =
        two_fits n s o (mode_of (place_of s 1) (n - 1)) (λ k g. omega (arith, mode-below (place_of s 1) (n - 1) k g)) e
    by false false false z h true e = any-fits n s o e
    by false false false z h false e = absurd (cc)
