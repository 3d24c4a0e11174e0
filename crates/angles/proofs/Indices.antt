-- Where an index stands: before a map, inside it, or after it. Assumes nothing.
use mathlib.Core.Path.{◌≡◌, refl, ap}
use mathlib.Core.Bool.{Bool, true, false, ◌&&◌}
use Prim.Native.Nat.{ℕ, ◌+◌, ◌-◌, ◌≤◌, ◌<◌}
use native.Mathlib.Omega.{arith}
use lib.Dec.{leb, ltb}
use borrow.Author.Tests.{leb-true, leb-false, le-leb, lt-leb, lt-ltb, le-ltb}
use Rattle.rings.specs.Rings.{Ops}
use Rattle.formulas.specs.Engine.{Local, inside, later}

pub data Place {𝓝 : Ops} (o : Local 𝓝) (r : ℕ) : Type 0 where
  before : r < o.start → inside o r ≡ false → later o r ≡ false → Place o r
  within : (j : ℕ) → j < o.width → o.start + j ≡ r → r - o.start ≡ j → inside o r ≡ true → later o r ≡ false → Place o r
  after : o.start + o.width ≤ r → inside o r ≡ false → later o r ≡ true → Place o r

module _ {𝓝 : Ops} (o : Local 𝓝) where
  pub inside-own : (j : ℕ) → j < o.width → inside o (o.start + j) ≡ true
  inside-own j h = λ i. le-leb o.start (o.start + j) (omega arith) i && lt-ltb (o.start + j) (o.start + o.width) (omega arith) i

  pub place : (r : ℕ) → Place o r
  place r = by (leb o.start r) refl (leb (o.start + o.width) r) refl
    where
      by : (a : Bool) → leb o.start r ≡ a → (b : Bool) → leb (o.start + o.width) r ≡ b → Place o r
      by false e b f =
          before (leb-false o.start r e) (ap (λ t. t && ltb r (o.start + o.width)) e)
          (lt-leb (o.start + o.width) r (omega (arith, leb-false o.start r e)))
      by true e true f =
          after (leb-true (o.start + o.width) r f)
          ((λ i. e i && le-ltb r (o.start + o.width) (leb-true (o.start + o.width) r f) i)) f
      by true e false f =
          within (r - o.start) (omega (arith, leb-true o.start r e, leb-false (o.start + o.width) r f)) (omega (arith, leb-true o.start r e)) refl
          (λ i. e i && lt-ltb r (o.start + o.width) (leb-false (o.start + o.width) r f) i) f
