-- The whole numbers modulo p, each with its place: sums, products and quotients by places, and laws by trying all numbers. The inverse is the power p - 2.
-- Zero is smaller than all others, which are equally large. Assumes nothing.
use mathlib.Core.Path.{◌≡◌, refl, sym, ap, ◌∙◌}
use mathlib.Core.Bool.{Bool, true, false, ◌&&◌, ◌||◌, not, false≢true}
use Prim.Native.Nat.{◌+◌, ◌*◌, ◌-◌, ◌^◌}
use lib.Dec.{eqb}
use borrow.Author.Tests.{eqb-true}
use Rattle.rings.specs.Rings.{Ops, IsCommutative}
use Rattle.formulas.specs.Numbers.{Tests, Divides}
use Rattle.rings.proofs.Trials.{Placed, all, every2, same, same-is, law1, law2, law3}

module _ {M : Type 0} (𝓜 : Placed M) where
  abbrev pub modulo : Ops
  modulo = record {
    N = M;
    zero = 𝓜.from 0;
    one = 𝓜.from 1;
    add = λ s t. 𝓜.from (𝓜.to s + 𝓜.to t);
    mul = λ s t. 𝓜.from (𝓜.to s * 𝓜.to t);
    neg = λ s. 𝓜.from (𝓜.p - 𝓜.to s);
  }

  abbrev pub last : M → Bool
  last s = eqb (𝓜.to s) (𝓜.p - 1)

  abbrev null : M → Bool
  null s = eqb (𝓜.to s) 0

  abbrev pub tests : Tests modulo
  tests = record {
    div = λ s t. modulo.mul s (𝓜.from (𝓜.to t ^ (𝓜.p - 2)));
    null = null;
    size = λ s. s;
    less = λ s t. null s && not (null t);
    not_below = λ s t. not (null s) || null t;
    nothing = modulo.zero;
  }

  abbrev add : M → M → M
  add = modulo.add

  abbrev mul : M → M → M
  mul = modulo.mul

  -- ---- what is tried

  abbrev One : (l r : M → M) → Type 0
  One l r = all 𝓜 (λ s. same 𝓜 (l s) (r s)) ≡ true

  abbrev Two : (l r : M → M → M) → Type 0
  Two l r = all 𝓜 (λ s. all 𝓜 (λ t. same 𝓜 (l s t) (r s t))) ≡ true

  abbrev Three : (l r : M → M → M → M) → Type 0
  Three l r = all 𝓜 (λ s. all 𝓜 (λ t. all 𝓜 (λ u. same 𝓜 (l s t u) (r s t u)))) ≡ true

  pub record Tried : Type 0 where
    pub add-assoc : Three (λ s t u. add (add s t) u) (λ s t u. add s (add t u))
    pub add-comm : Two add (λ s t. add t s)
    pub add-zero : One (λ s. add s modulo.zero) (λ s. s)
    pub add-neg : One (λ s. add s (modulo.neg s)) (λ s. modulo.zero)
    pub mul-assoc : Three (λ s t u. mul (mul s t) u) (λ s t u. mul s (mul t u))
    pub mul-comm : Two mul (λ s t. mul t s)
    pub one-mul : One (λ s. mul modulo.one s) (λ s. s)
    pub mul-one : One (λ s. mul s modulo.one) (λ s. s)
    pub left : Three (λ s t u. mul s (add t u)) (λ s t u. add (mul s t) (mul s u))
    pub right : Three (λ s t u. mul (add s t) u) (λ s t u. add (mul s u) (mul t u))
    pub null-zero : null modulo.zero ≡ true
    -- t is zero, or s / t * t is s
    pub quotients : all 𝓜 (λ s. all 𝓜 (λ t. null t || same 𝓜 (mul (tests.div s t) t) s)) ≡ true

  module _ (h : Tried) where
    pub commutative : IsCommutative modulo
    commutative = record {
      ring = record {
        add-assoc = law3 𝓜 (λ s t u. add (add s t) u) (λ s t u. add s (add t u)) h.add-assoc;
        add-comm = law2 𝓜 add (λ s t. add t s) h.add-comm;
        add-zero = law1 𝓜 (λ s. add s modulo.zero) (λ s. s) h.add-zero;
        add-neg = law1 𝓜 (λ s. add s (modulo.neg s)) (λ s. modulo.zero) h.add-neg;
        mul-assoc = law3 𝓜 (λ s t u. mul (mul s t) u) (λ s t u. mul s (mul t u)) h.mul-assoc;
        one-mul = law1 𝓜 (λ s. mul modulo.one s) (λ s. s) h.one-mul;
        mul-one = law1 𝓜 (λ s. mul s modulo.one) (λ s. s) h.mul-one;
        left = law3 𝓜 (λ s t u. mul s (add t u)) (λ s t u. add (mul s t) (mul s u)) h.left;
        right = law3 𝓜 (λ s t u. mul (add s t) u) (λ s t u. add (mul s u) (mul t u)) h.right;
      };
      comm = law2 𝓜 mul (λ s t. mul t s) h.mul-comm;
    }

    pub divides : Divides modulo tests
    divides = record {
      quotient = λ s t e.
          same-is 𝓜 (mul (tests.div s t) t) s
          (ap (λ b. b || same 𝓜 (mul (tests.div s t) t) s) (sym e)
          ∙ every2 𝓜 (λ s t. null t || same 𝓜 (mul (tests.div s t) t) s) h.quotients s t);
      is-null = λ s e. sym (𝓜.from-to s).1 ∙ ap 𝓜.from (eqb-true (𝓜.to s) 0 e);
      zero-null = h.null-zero;
      size-null = λ s. refl;
      larger = λ s t e k. absurd (false≢true (sym (and-false (null s)) ∙ ap (λ b. null s && not b) (sym k) ∙ e));
      not-larger = λ s t e k. twice-not (null t) (ap (λ b. b && not (null t)) (sym k) ∙ e);
      smallest = λ s t e k. ap (λ b. not b || null t) (sym k) ∙ e;
      smaller = λ s t e k. absurd (false≢true (sym e ∙ ap (λ b. not (null s) || b) k ∙ or-true (not (null s))));
    }
      where
        and-false : (b : Bool) → b && false ≡ false
        and-false true = refl
        and-false false = refl

        or-true : (b : Bool) → b || true ≡ true
        or-true true = refl
        or-true false = refl

        twice-not : (b : Bool) → not b ≡ false → b ≡ true
        twice-not true e = refl
        twice-not false e = absurd (false≢true (sym e))
