-- Circuits that are alike are the same to every observable. Assumes nothing.
use mathlib.Core.Path.{◌≡◌, refl, sym, ap, ◌∙◌}
use mathlib.Core.Logic.{◌≢◌}
use mathlib.Core.Bool.{Bool, true, false, cond, xor}
use mathlib.Core.List.{List, [], ◌∷◌, ◌++◌}
use lib.Dec.{eqb}
use borrow.Author.Tests.{eqb-true, eqb-false}
use Prim.Native.Nat.{ℕ, ◌/◌, ◌%◌, ◌<◌}
use Rattle.laws.specs.Lists.{All}
use Rattle.rings.specs.Rings.{Ops, IsRing}
use Rattle.formulas.specs.Numbers.{Exact}
use Rattle.formulas.specs.Engine.{Mat}
use Rattle.angles.specs.Qubits.{Axis, Operators}
use Rattle.matchgates.specs.Matrices.{identity, kron}
use Rattle.matchgates.specs.Maps.{Conjugate, adjoint}
use Rattle.matchgates.specs.Gates.{on_one, placed}
use Rattle.matchgates.specs.Circuits.{Act, one, two, Fits, operator, reverse, conjugated}
use Rattle.matchgates.specs.Fused.{fused, parts_acts, FusedRight}
use Rattle.matchgates.specs.Regrouped.{phase, Away, Disjoint, Alike, same, chain, later, exchange, idle, gathered, parted, AlikeRight}
use Rattle.rings.proofs.Solve.{Exp, var, nought, exps, by-comm, by-free}
use Rattle.rings.proofs.Solve as Solve
use Rattle.angles.proofs.Passing.{Pass, pass-back}
use Rattle.laws.proofs.Below.{below-four}
use Rattle.matchgates.proofs.Placed.{one-same, one-whole, one-commutes, placed-same, placed-scale, placed-kron, placed-commutes}
use Rattle.matchgates.proofs.MatrixLaws.{adjoint-identity}
use Rattle.matchgates.proofs.Circuits.{conjugated-step, conjugated-join}
use Rattle.matchgates.proofs.Fused.{every-fused}

-- ---- a diagonal matrix in its two phases

-- d 0, d 1, .. on the diagonal
abbrev diagonal : (𝓝 : Ops) → (ℕ → 𝓝.N) → Mat 𝓝
diagonal 𝓝 d r c = cond (eqb r c) (d r) 𝓝.zero

-- terms: the phases are the variables 0 and 1, d 0 is var 2
abbrev entry_e : ℕ → ℕ → Exp
entry_e r c = Solve.times (kron exps (phase exps (var 0)) (phase exps (var 1)) r c) (var 2)

module _ {𝓝 : Ops} {below : 𝓝.N → Bool} (𝓔 : Exact 𝓝 below) (𝓙 : Conjugate 𝓝 𝓔.i) (d : ℕ → 𝓝.N)
    (size : 𝓝.mul (𝓙.conj (d 0)) (d 0) ≡ 𝓝.one) (none : 𝓝.mul (d 0) (d 3) ≡ 𝓝.mul (d 1) (d 2)) where
  abbrev pa : 𝓝.N
  pa = 𝓝.mul (d 2) (𝓙.conj (d 0))

  abbrev pb : 𝓝.N
  pb = 𝓝.mul (d 1) (𝓙.conj (d 0))

  -- d 0 of the two phases
  abbrev entry : ℕ → ℕ → 𝓝.N
  entry r c = 𝓝.mul (kron 𝓝 (phase 𝓝 pa) (phase 𝓝 pb) r c) (d 0)

  -- (s c) d0 = s
  restored : (s : 𝓝.N) → 𝓝.mul (𝓝.mul s (𝓙.conj (d 0))) (d 0) ≡ s
  restored s = 𝓔.laws.ring.mul-assoc s (𝓙.conj (d 0)) (d 0) ∙ ap (𝓝.mul s) size ∙ 𝓔.laws.ring.mul-one s

  entries : (r c : ℕ) → r < 4 → c < 4 → entry r c ≡ diagonal 𝓝 d r c
  unfolding xor
  entries r c hr hc =
      below-four (λ r. entry r c ≡ diagonal 𝓝 d r c)
      (below-four (λ c. entry 0 c ≡ diagonal 𝓝 d 0 c) (by (entry_e 0 0) (var 2) refl) (by (entry_e 0 1) nought refl)
      (by (entry_e 0 2) nought refl) (by (entry_e 0 3) nought refl) c hc)
      (below-four (λ c. entry 1 c ≡ diagonal 𝓝 d 1 c) (by (entry_e 1 0) nought refl) (by (entry_e 1 1) (Solve.times (var 1) (var 2)) refl ∙ restored (d 1))
      (by (entry_e 1 2) nought refl) (by (entry_e 1 3) nought refl) c hc)
      (below-four (λ c. entry 2 c ≡ diagonal 𝓝 d 2 c) (by (entry_e 2 0) nought refl) (by (entry_e 2 1) nought refl)
      (by (entry_e 2 2) (Solve.times (var 0) (var 2)) refl ∙ restored (d 2)) (by (entry_e 2 3) nought refl) c hc)
      (below-four (λ c. entry 3 c ≡ diagonal 𝓝 d 3 c) (by (entry_e 3 0) nought refl) (by (entry_e 3 1) nought refl)
      (by (entry_e 3 2) nought refl) last c hc) r hr
    where
      by : (e f : Exp) → Solve.left-of Solve.commuting (Solve.plus e (Solve.minus f)) ≡ []
          → Solve.value 𝓝 (Solve.listed 𝓝 (pa ∷ pb ∷ d 0 ∷ [])) e ≡ Solve.value 𝓝 (Solve.listed 𝓝 (pa ∷ pb ∷ d 0 ∷ [])) f
      by = by-comm 𝓔.laws (pa ∷ pb ∷ d 0 ∷ [])

      -- d2 c d1 c d0 = d1 d2 c = d0 d3 c = d3
      last : 𝓝.mul (𝓝.mul pa pb) (d 0) ≡ d 3
      last =
          𝓔.laws.ring.mul-assoc pa pb (d 0)
          ∙ ap (𝓝.mul pa) (restored (d 1))
          ∙ by-comm 𝓔.laws (d 2 ∷ 𝓙.conj (d 0) ∷ d 1 ∷ []) (Solve.times (Solve.times (var 0) (var 1)) (var 2))
          (Solve.times (Solve.times (var 2) (var 0)) (var 1)) refl
          ∙ ap (λ s. 𝓝.mul s (𝓙.conj (d 0))) (sym none ∙ 𝓔.laws.comm (d 0) (d 3))
          ∙ 𝓔.laws.ring.mul-assoc (d 3) (d 0) (𝓙.conj (d 0))
          ∙ ap (𝓝.mul (d 3)) (𝓔.laws.comm (d 0) (𝓙.conj (d 0)) ∙ size)
          ∙ 𝓔.laws.ring.mul-one (d 3)

-- what holds of a list holds of its end
all-after : {A : Type 0} (P : A → Type 0) (xs ys : List A) → All P (xs ++ ys) → All P ys
all-after P [] ys h = h
all-after P (x ∷ xs) ys h = all-after P xs ys h.1

module _ {𝓝 : Ops} {below : 𝓝.N → Bool} (𝓔 : Exact 𝓝 below) (𝓙 : Conjugate 𝓝 𝓔.i) {n : ℕ} {𝓐 : Ops} (𝓠 : Operators 𝓝 𝓔.i n 𝓐) where
  open 𝓐 use {N, one as 𝟙, mul as ◌⋆◌}

  infixl 70 ◌⋆◌
  abbrev 𝓛 : IsRing 𝓐
  𝓛 = 𝓠.ring

  -- ---- gates on other qubits commute

  pauli-pass : (b : Axis) (k : ℕ) → k < n → (h : Act 𝓝) → Fits n h → Away k h → Pass 𝓐 false (𝓠.pauli b k) (operator 𝓔 𝓠 h)
  pauli-pass b k l (one q u) f e = one-commutes 𝓔 𝓠 q f (𝓠.pauli b k) (λ c. 𝓠.apart b c k q l f e) u
  pauli-pass b k l (two p q u) f e =
      placed-commutes 𝓔 𝓠 p q f.0 f.1 f.2 (𝓠.pauli b k) (λ c. 𝓠.apart b c k p l f.0 e.0) (λ c. 𝓠.apart b c k q l f.1 e.1) u

  pass-pauli : (b : Axis) (k : ℕ) → k < n → (h : Act 𝓝) → Fits n h → Away k h → Pass 𝓐 false (operator 𝓔 𝓠 h) (𝓠.pauli b k)
  pass-pauli b k l h f e = pass-back 𝓛 false (𝓠.pauli b k) (operator 𝓔 𝓠 h) (pauli-pass b k l h f e)

  disjoint-pass : (g h : Act 𝓝) → Fits n g → Fits n h → Disjoint g h → Pass 𝓐 false (operator 𝓔 𝓠 h) (operator 𝓔 𝓠 g)
  disjoint-pass (one q u) h f l e = one-commutes 𝓔 𝓠 q f (operator 𝓔 𝓠 h) (λ b. pass-pauli b q f h l e) u
  disjoint-pass (two p q u) h f l e =
      placed-commutes 𝓔 𝓠 p q f.0 f.1 f.2 (operator 𝓔 𝓠 h) (λ b. pass-pauli b p f.0 h l e.0) (λ b. pass-pauli b q f.1 h l e.1) u

  -- the gate with the adjoint matrix
  flipped : Act 𝓝 → Act 𝓝
  flipped (one q u) = one q (adjoint 𝓙 u)
  flipped (two p q u) = two p q (adjoint 𝓙 u)

  back-pass : (g h : Act 𝓝) → Fits n g → Fits n h → Disjoint g h → Pass 𝓐 false (reverse 𝓔 𝓙 𝓠 h) (reverse 𝓔 𝓙 𝓠 g)
  unfolding flipped
  back-pass (one q u) (one k v) = disjoint-pass (flipped (one q u)) (flipped (one k v))
  back-pass (one q u) (two j k v) = disjoint-pass (flipped (one q u)) (flipped (two j k v))
  back-pass (two p q u) (one k v) = disjoint-pass (flipped (two p q u)) (flipped (one k v))
  back-pass (two p q u) (two j k v) = disjoint-pass (flipped (two p q u)) (flipped (two j k v))

  -- ---- two steps

  regroup : (r s a f g : N) → r ⋆ (s ⋆ (a ⋆ f) ⋆ g) ≡ r ⋆ s ⋆ (a ⋆ (f ⋆ g))
  unfolding xor
  regroup r s a f g = by-free 𝓛 (r ∷ s ∷ a ∷ f ∷ g ∷ [])
      (Solve.times (var 0) (Solve.times (Solve.times (var 1) (Solve.times (var 2) (var 3))) (var 4)))
      (Solve.times (Solve.times (var 0) (var 1)) (Solve.times (var 2) (Solve.times (var 3) (var 4)))) refl

  two-steps : (g h : Act 𝓝) (gs : List (Act 𝓝)) (a : N)
      → conjugated 𝓔 𝓙 𝓠 (g ∷ h ∷ gs) a
      ≡ reverse 𝓔 𝓙 𝓠 g ⋆ reverse 𝓔 𝓙 𝓠 h ⋆ (conjugated 𝓔 𝓙 𝓠 gs a ⋆ (operator 𝓔 𝓠 h ⋆ operator 𝓔 𝓠 g))
  two-steps g h gs a =
      conjugated-step 𝓔 𝓙 𝓠 g (h ∷ gs) a
      ∙ ap (λ b. reverse 𝓔 𝓙 𝓠 g ⋆ (b ⋆ operator 𝓔 𝓠 g)) (conjugated-step 𝓔 𝓙 𝓠 h gs a)
      ∙ regroup (reverse 𝓔 𝓙 𝓠 g) (reverse 𝓔 𝓙 𝓠 h) (conjugated 𝓔 𝓙 𝓠 gs a) (operator 𝓔 𝓠 h) (operator 𝓔 𝓠 g)

  -- ---- phases

  module _ (p q : ℕ) (hp : p < n) (hq : q < n) (other : p ≢ q) (u : Mat 𝓝) (off : (r c : ℕ) → r < 4 → c < 4 → r ≢ c → u r c ≡ 𝓝.zero)
      (size : 𝓝.mul (𝓙.conj (u 0 0)) (u 0 0) ≡ 𝓝.one) (none : 𝓝.mul (u 0 0) (u 3 3) ≡ 𝓝.mul (u 1 1) (u 2 2)) where
    abbrev T : Mat 𝓝 → N
    T = placed 𝓔 𝓠 p q

    abbrev first : Act 𝓝
    first = one p (phase 𝓝 (𝓝.mul (u 2 2) (𝓙.conj (u 0 0))))

    abbrev second : Act 𝓝
    second = one q (phase 𝓝 (𝓝.mul (u 1 1) (𝓙.conj (u 0 0))))

    abbrev d : ℕ → 𝓝.N
    d r = u r r

    abbrev E : Mat 𝓝
    E = entry 𝓔 𝓙 d size none

    -- d 0 of the two phases is u
    whole : (r c : ℕ) → r < 4 → c < 4 → E r c ≡ u r c
    whole r c hr hc = entries 𝓔 𝓙 d size none r c hr hc ∙ by (eqb r c) refl
      where
        by : (b : Bool) → eqb r c ≡ b → cond b (u r r) 𝓝.zero ≡ u r c
        by true e = ap (u r) (eqb-true r c e)
        by false e = sym (off r c hr hc (eqb-false r c e))

    parted-forth : T u ≡ 𝓠.num (u 0 0) ⋆ (operator 𝓔 𝓠 second ⋆ operator 𝓔 𝓠 first)
    parted-forth =
        placed-same 𝓔 𝓠 p q hp hq other u E (λ r c hr hc. sym (whole r c hr hc))
        ∙ placed-scale 𝓔 𝓠 p q hp hq other (u 0 0) (kron 𝓝 (phase 𝓝 (𝓝.mul (u 2 2) (𝓙.conj (u 0 0)))) (phase 𝓝 (𝓝.mul (u 1 1) (𝓙.conj (u 0 0)))))
        ∙ ap (λ b. 𝓠.num (u 0 0) ⋆ b)
        (placed-kron 𝓔 𝓠 p q hp hq other (phase 𝓝 (𝓝.mul (u 2 2) (𝓙.conj (u 0 0)))) (phase 𝓝 (𝓝.mul (u 1 1) (𝓙.conj (u 0 0))))
        ∙ sym (disjoint-pass first second hp hq other))

    parted-back : T (adjoint 𝓙 u) ≡ 𝓠.num (𝓙.conj (u 0 0)) ⋆ (reverse 𝓔 𝓙 𝓠 first ⋆ reverse 𝓔 𝓙 𝓠 second)
    parted-back =
        placed-same 𝓔 𝓠 p q hp hq other (adjoint 𝓙 u) (adjoint 𝓙 E) (λ r c hr hc. ap 𝓙.conj (sym (whole c r hc hr)))
        ∙ (λ i. T (λ r c. (𝓙.conj-mul (K c r) (u 0 0) ∙ ap (λ s. 𝓝.mul s (𝓙.conj (u 0 0))) (𝓙.conj-mul (A (c / 2) (r / 2)) (B (c % 2) (r % 2)))) i))
        ∙ placed-scale 𝓔 𝓠 p q hp hq other (𝓙.conj (u 0 0)) (kron 𝓝 (adjoint 𝓙 A) (adjoint 𝓙 B))
        ∙ ap (λ b. 𝓠.num (𝓙.conj (u 0 0)) ⋆ b) (placed-kron 𝓔 𝓠 p q hp hq other (adjoint 𝓙 A) (adjoint 𝓙 B))
      where
        A : Mat 𝓝
        A = phase 𝓝 (𝓝.mul (u 2 2) (𝓙.conj (u 0 0)))

        B : Mat 𝓝
        B = phase 𝓝 (𝓝.mul (u 1 1) (𝓙.conj (u 0 0)))

        K : Mat 𝓝
        K = kron 𝓝 A B

    -- numbers come together
    numbers : (s t : 𝓝.N) (k a l : N) → 𝓠.num s ⋆ k ⋆ (a ⋆ (𝓠.num t ⋆ l)) ≡ 𝓠.num (𝓝.mul s t) ⋆ (k ⋆ (a ⋆ l))
    unfolding xor
    numbers s t k a l =
        ap (λ b. 𝓠.num s ⋆ k ⋆ b) (sym (𝓛.mul-assoc a (𝓠.num t) l) ∙ ap (λ b. b ⋆ l) (sym (𝓠.central t a)) ∙ 𝓛.mul-assoc (𝓠.num t) a l)
        ∙ 𝓛.mul-assoc (𝓠.num s) k (𝓠.num t ⋆ (a ⋆ l))
        ∙ ap (λ b. 𝓠.num s ⋆ b) (sym (𝓛.mul-assoc k (𝓠.num t) (a ⋆ l)) ∙ ap (λ b. b ⋆ (a ⋆ l)) (sym (𝓠.central t k)) ∙ 𝓛.mul-assoc (𝓠.num t) k (a ⋆ l))
        ∙ sym (𝓛.mul-assoc (𝓠.num s) (𝓠.num t) (k ⋆ (a ⋆ l)))
        ∙ ap (λ b. b ⋆ (k ⋆ (a ⋆ l))) (sym (𝓠.num-mul s t))

    parted-right : (gs : List (Act 𝓝)) (a : N) → conjugated 𝓔 𝓙 𝓠 (two p q u ∷ gs) a ≡ conjugated 𝓔 𝓙 𝓠 (first ∷ second ∷ gs) a
    parted-right gs a =
        conjugated-step 𝓔 𝓙 𝓠 (two p q u) gs a
        ∙ (λ i. parted-back i ⋆ (X ⋆ parted-forth i))
        ∙ numbers (𝓙.conj (u 0 0)) (u 0 0) V X W
        ∙ ap (λ b. b ⋆ (V ⋆ (X ⋆ W))) (ap 𝓠.num size ∙ 𝓠.num-one)
        ∙ 𝓛.one-mul (V ⋆ (X ⋆ W))
        ∙ sym (two-steps first second gs a)
      where
        X : N
        X = conjugated 𝓔 𝓙 𝓠 gs a

        V : N
        V = reverse 𝓔 𝓙 𝓠 first ⋆ reverse 𝓔 𝓙 𝓠 second

        W : N
        W = operator 𝓔 𝓠 second ⋆ operator 𝓔 𝓠 first

  -- ---- all of them

  pub fits-alike : {gs hs : List (Act 𝓝)} → All (Fits n) gs → Alike 𝓙 n gs hs → All (Fits n) hs
  fits-alike f same = f
  fits-alike f (chain s t) = fits-alike (fits-alike f s) t
  fits-alike f (later s) = (f.0, fits-alike f.1 s)
  fits-alike f (exchange e) = (f.1.0, (f.0, f.1.1))
  fits-alike f (idle u e) = f.1
  fits-alike f (gathered {p = p} {q = q} hp hq d xs {gs = gs}) = ((hp, hq, d), all-after (Fits n) (parts_acts p q xs) gs f)
  fits-alike f (parted u o s e) = (f.0.0, (f.0.1, f.1))

  alike : {gs hs : List (Act 𝓝)} → All (Fits n) gs → Alike 𝓙 n gs hs → (a : N) → conjugated 𝓔 𝓙 𝓠 gs a ≡ conjugated 𝓔 𝓙 𝓠 hs a
  alike f same a = refl
  alike f (chain s t) a = alike f s a ∙ alike (fits-alike f s) t a
  alike f (later {g = g} {gs = gs} {hs = hs} s) a =
      conjugated-step 𝓔 𝓙 𝓠 g gs a ∙ ap (λ b. reverse 𝓔 𝓙 𝓠 g ⋆ (b ⋆ operator 𝓔 𝓠 g)) (alike f.1 s a) ∙ sym (conjugated-step 𝓔 𝓙 𝓠 g hs a)
  alike f (exchange {g = g} {h = h} {gs = gs} e) a =
      two-steps g h gs a
      ∙ (λ i. sym (back-pass g h f.0 f.1.0 e) i ⋆ (conjugated 𝓔 𝓙 𝓠 gs a ⋆ disjoint-pass g h f.0 f.1.0 e i))
      ∙ sym (two-steps h g gs a)
  alike f (idle {q = q} u {gs = gs} e) a =
      conjugated-step 𝓔 𝓙 𝓠 (one q u) gs a
      ∙ (λ i. same-as-one (adjoint 𝓙 u) (λ r c hr hc. ap 𝓙.conj (e c r hc hr) ∙ adjoint-identity 𝓔 𝓙 r c) i ⋆ (conjugated 𝓔 𝓙 𝓠 gs a ⋆ same-as-one u e i))
      ∙ 𝓛.one-mul (conjugated 𝓔 𝓙 𝓠 gs a ⋆ 𝟙)
      ∙ 𝓛.mul-one (conjugated 𝓔 𝓙 𝓠 gs a)
    where
      same-as-one : (v : Mat 𝓝) → ((r c : ℕ) → r < 2 → c < 2 → v r c ≡ identity 𝓝 r c) → on_one 𝓔 𝓠 q v ≡ 𝟙
      same-as-one v h = one-same 𝓔 𝓠 q f.0 v (identity 𝓝) h ∙ one-whole 𝓔 𝓠 q f.0
  alike f (gathered {p = p} {q = q} hp hq d xs {gs = gs}) a =
      conjugated-join 𝓔 𝓙 𝓠 (parts_acts p q xs) gs a
      ∙ (λ i. right.undone i ⋆ (conjugated 𝓔 𝓙 𝓠 gs a ⋆ right.together i))
      ∙ sym (conjugated-step 𝓔 𝓙 𝓠 (two p q (fused 𝓝 xs)) gs a)
    where
      right : FusedRight 𝓔 𝓙 𝓠 p q xs
      right = every-fused 𝓔 𝓙 𝓠 p q hp hq d xs
  alike f (parted {p = p} {q = q} u {gs = gs} o s e) a = parted-right p q f.0.0 f.0.1 f.0.2 u o s e gs a

  pub alike-right : AlikeRight 𝓔 𝓙 𝓠
  alike-right gs hs f s a = alike f s a
