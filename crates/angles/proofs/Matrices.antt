-- Matrices of order 2^n are operators of n qubits, over every exact numbers (specs/Matrices.antt): two by two matrices over operators of n qubits are those of
-- n + 1. Assumes nothing.
use mathlib.Core.Path.{◌≡◌, refl, sym, ap, ◌∙◌}
use mathlib.Core.Logic.{◌≢◌}
use mathlib.Core.Bool.{Bool, true, false, cond, xor}
use mathlib.Core.List.{[], ◌∷◌}
use Prim.Native.Nat.{ℕ, zero, suc, ◌<◌}
use native.Mathlib.Nat.{not-suc-le-zero}
use native.Mathlib.Omega.{arith}
use lib.Dec.{eqb}
use borrow.Author.Tests.{eqb-true, eqb-false}
use Rattle.rings.specs.Rings.{Ops, IsRing}
use Rattle.formulas.specs.Numbers.{Exact}
use Rattle.angles.specs.Qubits.{Axis, x, y, z, Operators}
use Rattle.angles.specs.Matrices.{Four, matrices, diag, outer, tower, number, sigma, corner, ForMatrices}
use Rattle.rings.proofs.Rings.{zero-add, zero-mul, mul-zero, neg-neg, mul-neg, neg-mul}
use Rattle.angles.proofs.Majoranas.{i-i}
use Rattle.rings.proofs.Solve.{Exp, var, nought, unit, plus, times, minus, left-of, value, listed, free, by-free}

module _ (𝓡 : Ops) (𝓛 : IsRing 𝓡) where
  -- row times column, rows and columns of two
  abbrev dot2 : Exp → Exp → Exp → Exp → Exp
  dot2 p q r s = plus (times p r) (times q s)

  -- (p q) times the matrix (r s; t u) times the column (v; w)
  three : (p q r s t u v w : 𝓡.N)
      → 𝓡.add (𝓡.mul (𝓡.add (𝓡.mul p r) (𝓡.mul q t)) v) (𝓡.mul (𝓡.add (𝓡.mul p s) (𝓡.mul q u)) w)
      ≡ 𝓡.add (𝓡.mul p (𝓡.add (𝓡.mul r v) (𝓡.mul s w))) (𝓡.mul q (𝓡.add (𝓡.mul t v) (𝓡.mul u w)))
  unfolding xor
  three p q r s t u v w = by-free 𝓛 (p ∷ q ∷ r ∷ s ∷ t ∷ u ∷ v ∷ w ∷ [])
      (plus (times (plus (times (var 0) (var 2)) (times (var 1) (var 4))) (var 6)) (times (plus (times (var 0) (var 3)) (times (var 1) (var 5))) (var 7)))
      (plus (times (var 0) (plus (times (var 2) (var 6)) (times (var 3) (var 7)))) (times (var 1) (plus (times (var 4) (var 6)) (times (var 5) (var 7))))) refl

  -- p (r + s) + q (t + u)
  apart-left : (p q r s t u : 𝓡.N)
      → 𝓡.add (𝓡.mul p (𝓡.add r s)) (𝓡.mul q (𝓡.add t u)) ≡ 𝓡.add (𝓡.add (𝓡.mul p r) (𝓡.mul q t)) (𝓡.add (𝓡.mul p s) (𝓡.mul q u))
  unfolding xor
  apart-left p q r s t u = by-free 𝓛 (p ∷ q ∷ r ∷ s ∷ t ∷ u ∷ [])
      (plus (times (var 0) (plus (var 2) (var 3))) (times (var 1) (plus (var 4) (var 5))))
      (plus (plus (times (var 0) (var 2)) (times (var 1) (var 4))) (plus (times (var 0) (var 3)) (times (var 1) (var 5)))) refl

  -- (p + q) t + (r + s) u
  apart-right : (p q r s t u : 𝓡.N)
      → 𝓡.add (𝓡.mul (𝓡.add p q) t) (𝓡.mul (𝓡.add r s) u) ≡ 𝓡.add (𝓡.add (𝓡.mul p t) (𝓡.mul r u)) (𝓡.add (𝓡.mul q t) (𝓡.mul s u))
  unfolding xor
  apart-right p q r s t u = by-free 𝓛 (p ∷ q ∷ r ∷ s ∷ t ∷ u ∷ [])
      (plus (times (plus (var 0) (var 1)) (var 4)) (times (plus (var 2) (var 3)) (var 5)))
      (plus (plus (times (var 0) (var 4)) (times (var 2) (var 5))) (plus (times (var 1) (var 4)) (times (var 3) (var 5)))) refl

  -- p s + 0 t, 0 s + p t, s p + t 0, s 0 + t p
  first-only : (p s t : 𝓡.N) → 𝓡.add (𝓡.mul p s) (𝓡.mul 𝓡.zero t) ≡ 𝓡.mul p s
  first-only p s t = ap (𝓡.add (𝓡.mul p s)) (zero-mul 𝓛 t) ∙ 𝓛.add-zero (𝓡.mul p s)

  second-only : (p s t : 𝓡.N) → 𝓡.add (𝓡.mul 𝓡.zero s) (𝓡.mul p t) ≡ 𝓡.mul p t
  second-only p s t = ap (λ w. 𝓡.add w (𝓡.mul p t)) (zero-mul 𝓛 s) ∙ zero-add 𝓛 (𝓡.mul p t)

  first-of : (p s t : 𝓡.N) → 𝓡.add (𝓡.mul s p) (𝓡.mul t 𝓡.zero) ≡ 𝓡.mul s p
  first-of p s t = ap (𝓡.add (𝓡.mul s p)) (mul-zero 𝓛 t) ∙ 𝓛.add-zero (𝓡.mul s p)

  second-of : (p s t : 𝓡.N) → 𝓡.add (𝓡.mul s 𝓡.zero) (𝓡.mul t p) ≡ 𝓡.mul t p
  second-of p s t = ap (λ w. 𝓡.add w (𝓡.mul t p)) (mul-zero 𝓛 s) ∙ zero-add 𝓛 (𝓡.mul t p)

  matrices-ring : IsRing (matrices 𝓡)
  matrices-ring = record {
    add-assoc = λ s t u. λ i. record {
      a = 𝓛.add-assoc s.a t.a u.a i;
      b = 𝓛.add-assoc s.b t.b u.b i;
      c = 𝓛.add-assoc s.c t.c u.c i;
      d = 𝓛.add-assoc s.d t.d u.d i;
    };
    add-comm = λ s t. λ i. record {
      a = 𝓛.add-comm s.a t.a i;
      b = 𝓛.add-comm s.b t.b i;
      c = 𝓛.add-comm s.c t.c i;
      d = 𝓛.add-comm s.d t.d i;
    };
    add-zero = λ s. λ i. record { a = 𝓛.add-zero s.a i; b = 𝓛.add-zero s.b i; c = 𝓛.add-zero s.c i; d = 𝓛.add-zero s.d i };
    add-neg = λ s. λ i. record { a = 𝓛.add-neg s.a i; b = 𝓛.add-neg s.b i; c = 𝓛.add-neg s.c i; d = 𝓛.add-neg s.d i };
    mul-assoc = λ s t u. λ i. record {
      a = three s.a s.b t.a t.b t.c t.d u.a u.c i;
      b = three s.a s.b t.a t.b t.c t.d u.b u.d i;
      c = three s.c s.d t.a t.b t.c t.d u.a u.c i;
      d = three s.c s.d t.a t.b t.c t.d u.b u.d i;
    };
    one-mul = λ s. λ i. record {
      a = (first-only 𝓡.one s.a s.c ∙ 𝓛.one-mul s.a) i;
      b = (first-only 𝓡.one s.b s.d ∙ 𝓛.one-mul s.b) i;
      c = (second-only 𝓡.one s.a s.c ∙ 𝓛.one-mul s.c) i;
      d = (second-only 𝓡.one s.b s.d ∙ 𝓛.one-mul s.d) i;
    };
    mul-one = λ s. λ i. record {
      a = (first-of 𝓡.one s.a s.b ∙ 𝓛.mul-one s.a) i;
      b = (second-of 𝓡.one s.a s.b ∙ 𝓛.mul-one s.b) i;
      c = (first-of 𝓡.one s.c s.d ∙ 𝓛.mul-one s.c) i;
      d = (second-of 𝓡.one s.c s.d ∙ 𝓛.mul-one s.d) i;
    };
    left = λ s t u. λ i. record {
      a = apart-left s.a s.b t.a u.a t.c u.c i;
      b = apart-left s.a s.b t.b u.b t.d u.d i;
      c = apart-left s.c s.d t.a u.a t.c u.c i;
      d = apart-left s.c s.d t.b u.b t.d u.d i;
    };
    right = λ s t u. λ i. record {
      a = apart-right s.a t.a s.b t.b u.a u.c i;
      b = apart-right s.a t.a s.b t.b u.b u.d i;
      c = apart-right s.c t.c s.d t.d u.a u.c i;
      d = apart-right s.c t.c s.d t.d u.b u.d i;
    };
  }

  abbrev entrywise : (𝓡.N → 𝓡.N) → Four 𝓡.N → Four 𝓡.N
  entrywise f t = record { a = f t.a; b = f t.b; c = f t.c; d = f t.d }

  abbrev ◌·◌ : Four 𝓡.N → Four 𝓡.N → Four 𝓡.N
  ◌·◌ = (matrices 𝓡).mul

  infixl 70 ◌·◌
  diag-left : (m : 𝓡.N) (t : Four 𝓡.N) → diag 𝓡 m · t ≡ entrywise (λ s. 𝓡.mul m s) t
  diag-left m t = λ i. record {
    a = first-only m t.a t.c i;
    b = first-only m t.b t.d i;
    c = second-only m t.a t.c i;
    d = second-only m t.b t.d i;
  }

  diag-right : (m : 𝓡.N) (t : Four 𝓡.N) → t · diag 𝓡 m ≡ entrywise (λ s. 𝓡.mul s m) t
  diag-right m t = λ i. record {
    a = first-of m t.a t.b i;
    b = second-of m t.a t.b i;
    c = first-of m t.c t.d i;
    d = second-of m t.c t.d i;
  }

  diag-mul : (s t : 𝓡.N) → diag 𝓡 s · diag 𝓡 t ≡ diag 𝓡 (𝓡.mul s t)
  diag-mul s t = diag-left s (diag 𝓡 t) ∙ (λ i. record { a = 𝓡.mul s t; b = mul-zero 𝓛 s i; c = mul-zero 𝓛 s i; d = 𝓡.mul s t })

  -- m commutes with the entries
  abbrev Meets : 𝓡.N → 𝓡.N → Type 0
  Meets m s = 𝓡.mul m s ≡ 𝓡.mul s m

  diag-comm : (m : 𝓡.N) (t : Four 𝓡.N) → Meets m t.a → Meets m t.b → Meets m t.c → Meets m t.d → diag 𝓡 m · t ≡ t · diag 𝓡 m
  diag-comm m t p q r s = diag-left m t ∙ (λ i. record { a = p i; b = q i; c = r i; d = s i }) ∙ sym (diag-right m t)

  meets-zero : (m : 𝓡.N) → Meets m 𝓡.zero
  meets-zero m = mul-zero 𝓛 m ∙ sym (zero-mul 𝓛 m)

  meets-one : (m : 𝓡.N) → Meets m 𝓡.one
  meets-one m = 𝓛.mul-one m ∙ sym (𝓛.one-mul m)

  meets-neg : (m s : 𝓡.N) → Meets m s → Meets m (𝓡.neg s)
  meets-neg m s e = mul-neg 𝓛 m s ∙ ap 𝓡.neg e ∙ sym (neg-mul 𝓛 s m)

  -- ---- the Pauli matrices, with i in the ring

  module _ (I : 𝓡.N) (I-I : 𝓡.mul I I ≡ 𝓡.neg 𝓡.one) where
    outer-meets : (m : 𝓡.N) → Meets m I → (p : Axis) → diag 𝓡 m · outer 𝓡 I p ≡ outer 𝓡 I p · diag 𝓡 m
    outer-meets m e x = diag-comm m (outer 𝓡 I x) (meets-zero m) (meets-one m) (meets-one m) (meets-zero m)
    outer-meets m e y = diag-comm m (outer 𝓡 I y) (meets-zero m) (meets-neg m I e) e (meets-zero m)
    outer-meets m e z = diag-comm m (outer 𝓡 I z) (meets-one m) (meets-zero m) (meets-zero m) (meets-neg m 𝓡.one (meets-one m))

    -- terms in I
    abbrev in-I : (e f : Exp) → left-of free (plus e (minus f)) ≡ [] → value 𝓡 (listed 𝓡 (I ∷ [])) e ≡ value 𝓡 (listed 𝓡 (I ∷ [])) f
    in-I = by-free 𝓛 (I ∷ [])

    -- - I I = 1
    minus-I : 𝓡.neg (𝓡.mul I I) ≡ 𝓡.one
    minus-I = ap 𝓡.neg I-I ∙ neg-neg 𝓛 𝓡.one

    abbrev n0 : Exp
    n0 = nought

    abbrev u1 : Exp
    u1 = unit

    abbrev v_i : Exp
    v_i = var 0

    outer-square : (p : Axis) → outer 𝓡 I p · outer 𝓡 I p ≡ (matrices 𝓡).one
    unfolding xor
    outer-square x = λ i. record {
      a = in-I (dot2 n0 u1 n0 u1) unit refl i;
      b = in-I (dot2 n0 u1 u1 n0) nought refl i;
      c = in-I (dot2 u1 n0 n0 u1) nought refl i;
      d = in-I (dot2 u1 n0 u1 n0) unit refl i;
    }
    outer-square y = λ i. record {
      a = (in-I (dot2 n0 (minus v_i) n0 v_i) (minus (times v_i v_i)) refl ∙ minus-I) i;
      b = in-I (dot2 n0 (minus v_i) (minus v_i) n0) nought refl i;
      c = in-I (dot2 v_i n0 n0 v_i) nought refl i;
      d = (in-I (dot2 v_i n0 (minus v_i) n0) (minus (times v_i v_i)) refl ∙ minus-I) i;
    }
    outer-square z = λ i. record {
      a = in-I (dot2 u1 n0 u1 n0) unit refl i;
      b = in-I (dot2 u1 n0 n0 (minus u1)) nought refl i;
      c = in-I (dot2 n0 (minus u1) u1 n0) nought refl i;
      d = in-I (dot2 n0 (minus u1) n0 (minus u1)) unit refl i;
    }

    outer-xy : outer 𝓡 I x · outer 𝓡 I y ≡ diag 𝓡 I · outer 𝓡 I z
    unfolding xor
    outer-xy = λ i. record {
      a = in-I (dot2 n0 u1 n0 v_i) (dot2 v_i n0 u1 n0) refl i;
      b = in-I (dot2 n0 u1 (minus v_i) n0) (dot2 v_i n0 n0 (minus u1)) refl i;
      c = in-I (dot2 u1 n0 n0 v_i) (dot2 n0 v_i u1 n0) refl i;
      d = in-I (dot2 u1 n0 (minus v_i) n0) (dot2 n0 v_i n0 (minus u1)) refl i;
    }

    outer-yz : outer 𝓡 I y · outer 𝓡 I z ≡ diag 𝓡 I · outer 𝓡 I x
    unfolding xor
    outer-yz = λ i. record {
      a = in-I (dot2 n0 (minus v_i) u1 n0) (dot2 v_i n0 n0 u1) refl i;
      b = in-I (dot2 n0 (minus v_i) n0 (minus u1)) (dot2 v_i n0 u1 n0) refl i;
      c = in-I (dot2 v_i n0 u1 n0) (dot2 n0 v_i n0 u1) refl i;
      d = in-I (dot2 v_i n0 n0 (minus u1)) (dot2 n0 v_i u1 n0) refl i;
    }

    outer-zx : outer 𝓡 I z · outer 𝓡 I x ≡ diag 𝓡 I · outer 𝓡 I y
    unfolding xor
    outer-zx = λ i. record {
      a = in-I (dot2 u1 n0 n0 u1) (dot2 v_i n0 n0 v_i) refl i;
      b = (in-I (dot2 u1 n0 u1 n0) unit refl ∙ sym (in-I (dot2 v_i n0 (minus v_i) n0) (minus (times v_i v_i)) refl ∙ minus-I)) i;
      c = (in-I (dot2 n0 (minus u1) n0 u1) (minus unit) refl ∙ sym (in-I (dot2 n0 v_i n0 v_i) (times v_i v_i) refl ∙ I-I)) i;
      d = in-I (dot2 n0 (minus u1) u1 n0) (dot2 n0 v_i (minus v_i) n0) refl i;
    }

-- ---- the tower

module _ {𝓝 : Ops} {below : 𝓝.N → Bool} (𝓔 : Exact 𝓝 below) where
  -- no qubit
  none : Operators 𝓝 𝓔.i 0 𝓝
  none = record {
    ring = 𝓔.laws.ring;
    num = λ s. s;
    num-add = λ s t. refl;
    num-mul = λ s t. refl;
    num-one = refl;
    central = 𝓔.laws.comm;
    pauli = λ p k. 𝓝.zero;
    square = λ p k h. absurd (not-suc-le-zero h);
    xy = λ k h. absurd (not-suc-le-zero h);
    yz = λ k h. absurd (not-suc-le-zero h);
    zx = λ k h. absurd (not-suc-le-zero h);
    apart = λ p q j k h l d. absurd (not-suc-le-zero h);
    vac = λ s. s;
    vac-add = λ s t. refl;
    vac-num = λ s t. refl;
    vac-one = refl;
    ket = λ k s h. absurd (not-suc-le-zero h);
    bra = λ k s h. absurd (not-suc-le-zero h);
  }

  -- one qubit more
  module _ (n : ℕ) (𝓐 : Ops) (𝓠 : Operators 𝓝 𝓔.i n 𝓐) where
    abbrev 𝓛 : IsRing 𝓐
    𝓛 = 𝓠.ring

    abbrev I : 𝓐.N
    I = 𝓠.num 𝓔.i

    abbrev II : 𝓐.mul I I ≡ 𝓐.neg 𝓐.one
    II = i-i 𝓔 𝓠

    abbrev top : Axis → Four 𝓐.N
    top p = outer 𝓐 I p

    abbrev low : Axis → ℕ → Four 𝓐.N
    low p j = diag 𝓐 (𝓠.pauli p j)

    -- the new qubit has number n
    abbrev paulis : Axis → ℕ → Four 𝓐.N
    paulis p j = cond (eqb j n) (top p) (low p j)

    -- what holds of the new qubit and of the others
    each : (P : (Axis → Four 𝓐.N) → Type 0) → P top → (j : ℕ) → (j < n → P (λ p. low p j)) → j < suc n → P (λ p. paulis p j)
    each P t j l h = by (eqb j n) refl
      where
        by : (b : Bool) → eqb j n ≡ b → P (λ p. cond b (top p) (low p j))
        by true e = t
        by false e = l (omega (arith, eqb-false j n e))

    -- a number, on the diagonal
    abbrev num_m : 𝓝.N → Four 𝓐.N
    num_m s = diag 𝓐 (𝓠.num s)

    abbrev ◌⊙◌ : Four 𝓐.N → Four 𝓐.N → Four 𝓐.N
    ◌⊙◌ = (matrices 𝓐).mul

    infixl 70 ◌⊙◌
    -- what holds of two operators holds of them on the diagonal
    diag-same : (r s t u : 𝓐.N) → 𝓐.mul r s ≡ 𝓐.mul t u → diag 𝓐 r ⊙ diag 𝓐 s ≡ diag 𝓐 t ⊙ diag 𝓐 u
    diag-same r s t u e = diag-mul 𝓐 𝓛 r s ∙ ap (diag 𝓐) e ∙ sym (diag-mul 𝓐 𝓛 t u)

    num-meets : (s : 𝓝.N) (t : Four 𝓐.N) → num_m s ⊙ t ≡ t ⊙ num_m s
    num-meets s t =
        diag-comm 𝓐 𝓛 (𝓠.num s) t (𝓠.central s t.a) (𝓠.central s t.b) (𝓠.central s t.c) (𝓠.central s t.d)

    low-top : (p q : Axis) (j : ℕ) → low p j ⊙ top q ≡ top q ⊙ low p j
    low-top p q j = outer-meets 𝓐 𝓛 I II (𝓠.pauli p j) (sym (𝓠.central 𝓔.i (𝓠.pauli p j))) q

    apart_m : (p q : Axis) (j k : ℕ) → j < suc n → k < suc n → j ≢ k → paulis p j ⊙ paulis q k ≡ paulis q k ⊙ paulis p j
    apart_m p q j k h l d = by (eqb j n) refl (eqb k n) refl
      where
        by : (b : Bool) → eqb j n ≡ b → (c : Bool) → eqb k n ≡ c
            → cond b (top p) (low p j) ⊙ cond c (top q) (low q k) ≡ cond c (top q) (low q k) ⊙ cond b (top p) (low p j)
        by true e true f = absurd (d (eqb-true j n e ∙ sym (eqb-true k n f)))
        by true e false f = sym (low-top q p k)
        by false e true f = low-top p q j
        by false e false f =
            diag-same (𝓠.pauli p j) (𝓠.pauli q k) (𝓠.pauli q k) (𝓠.pauli p j)
            (𝓠.apart p q j k (omega (arith, eqb-false j n e)) (omega (arith, eqb-false k n f)) d)

    more : Operators 𝓝 𝓔.i (suc n) (matrices 𝓐)
    more = record {
      ring = matrices-ring 𝓐 𝓛;
      num = num_m;
      num-add = λ s t. λ i. record {
        a = 𝓠.num-add s t i;
        b = sym (𝓛.add-zero 𝓐.zero) i;
        c = sym (𝓛.add-zero 𝓐.zero) i;
        d = 𝓠.num-add s t i;
      };
      num-mul = λ s t. ap (diag 𝓐) (𝓠.num-mul s t) ∙ sym (diag-mul 𝓐 𝓛 (𝓠.num s) (𝓠.num t));
      num-one = ap (diag 𝓐) 𝓠.num-one;
      central = num-meets;
      pauli = paulis;
      square = λ p k h. each (λ σ. σ p ⊙ σ p ≡ (matrices 𝓐).one) (outer-square 𝓐 𝓛 I II p) k
          (λ l. diag-mul 𝓐 𝓛 (𝓠.pauli p k) (𝓠.pauli p k) ∙ ap (diag 𝓐) (𝓠.square p k l)) h;
      xy = λ k h. each (λ σ. σ x ⊙ σ y ≡ num_m 𝓔.i ⊙ σ z) (outer-xy 𝓐 𝓛 I II) k
          (λ l. diag-same (𝓠.pauli x k) (𝓠.pauli y k) I (𝓠.pauli z k) (𝓠.xy k l)) h;
      yz = λ k h. each (λ σ. σ y ⊙ σ z ≡ num_m 𝓔.i ⊙ σ x) (outer-yz 𝓐 𝓛 I II) k
          (λ l. diag-same (𝓠.pauli y k) (𝓠.pauli z k) I (𝓠.pauli x k) (𝓠.yz k l)) h;
      zx = λ k h. each (λ σ. σ z ⊙ σ x ≡ num_m 𝓔.i ⊙ σ y) (outer-zx 𝓐 𝓛 I II) k
          (λ l. diag-same (𝓠.pauli z k) (𝓠.pauli x k) I (𝓠.pauli y k) (𝓠.zx k l)) h;
      apart = apart_m;
      vac = λ t. 𝓠.vac t.a;
      vac-add = λ s t. 𝓠.vac-add s.a t.a;
      vac-num = λ s t. ap 𝓠.vac (first-only 𝓐 𝓛 (𝓠.num s) t.a t.c) ∙ 𝓠.vac-num s t.a;
      vac-one = 𝓠.vac-one;
      ket = λ k t h. each (λ σ. 𝓠.vac (t ⊙ σ z).a ≡ 𝓠.vac t.a) (ap 𝓠.vac (first-of 𝓐 𝓛 𝓐.one t.a t.b ∙ 𝓛.mul-one t.a)) k
          (λ l. ap 𝓠.vac (first-of 𝓐 𝓛 (𝓠.pauli z k) t.a t.b) ∙ 𝓠.ket k t.a l) h;
      bra = λ k t h. each (λ σ. 𝓠.vac (σ z ⊙ t).a ≡ 𝓠.vac t.a) (ap 𝓠.vac (first-only 𝓐 𝓛 𝓐.one t.a t.c ∙ 𝓛.one-mul t.a)) k
          (λ l. ap 𝓠.vac (first-only 𝓐 𝓛 (𝓠.pauli z k) t.a t.c) ∙ 𝓠.bra k t.a l) h;
    }

pub operators : {𝓝 : Ops} {below : 𝓝.N → Bool} (𝓔 : Exact 𝓝 below) (n : ℕ) → Operators 𝓝 𝓔.i n (tower 𝓝 n)
operators 𝓔 zero = none 𝓔
operators {𝓝} 𝓔 (suc n) = more 𝓔 n (tower 𝓝 n) (operators 𝓔 n)

-- ---- numbers, Pauli operators and the vacuum are those of the page

module _ {𝓝 : Ops} {below : 𝓝.N → Bool} (𝓔 : Exact 𝓝 below) where
  num-is : (n : ℕ) → (operators 𝓔 n).num ≡ number 𝓝 n
  unfolding operators none more
  num-is zero = refl
  num-is (suc n) = λ j s. diag (tower 𝓝 n) (num-is n j s)

  pauli-is : (n : ℕ) → (operators 𝓔 n).pauli ≡ sigma 𝓝 𝓔.i n
  unfolding operators none more
  pauli-is zero = refl
  pauli-is (suc n) = λ j p k. cond (eqb k n) (outer (tower 𝓝 n) (num-is n j 𝓔.i) p) (diag (tower 𝓝 n) (pauli-is n j p k))

  vac-is : (n : ℕ) → (operators 𝓔 n).vac ≡ corner 𝓝 n
  unfolding operators none more
  vac-is zero = refl
  vac-is (suc n) = λ j m. vac-is n j m.a

-- THE STATEMENT
pub for-matrices : ForMatrices
for-matrices 𝓝 below 𝓔 n = record { operators = operators 𝓔 n; num = num-is 𝓔 n; pauli = pauli-is 𝓔 n; vac = vac-is 𝓔 n }
