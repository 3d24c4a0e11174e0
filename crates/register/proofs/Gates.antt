-- The gates of an accepted register tape are what the register takes them for: their matrices have blocks, with an even sum of phases, that turn and
-- exchange the bits; and without Swap the blocks fit. Assumes nothing.
use mathlib.Core.Path.{◌≡◌, refl, sym, ap, ◌∙◌, subst}
use mathlib.Core.Logic.{◌≢◌}
use mathlib.Core.Bool.{true, false, not}
use mathlib.Core.List.{List, [], ◌∷◌, Memᴰ}
use Prim.Native.Nat.{ℕ, ◌+◌, ◌-◌, ◌≤◌, ◌<◌}
use native.Mathlib.Omega.{arith}
use lib.Dec.{T, eqb, leb}
use lib.Ieee.Bits.{is_true}
use lib.Ieee.Fits.{and_l, and_r}
use borrow.Author.Tests.{leb-true, eqb-false, ne_eqb, not-true}
use Rattle.laws.specs.Lists.{All}
use Rattle.gate.specs.declared.matrix.Mat2.{Mat2}
use Rattle.gate.specs.declared.matrix.Mat4.{Mat4}
use Rattle.named.specs.Table.{matrix2q_of}
use Rattle.tape.specs.Good.{GoodOne, GoodTwo, GoodGate}
use Rattle.tape.specs.declared.gates.Gate.{Gate}
use Rattle.tape.specs.declared.gates.Gate.TheVariants.{One, Two, Three}
use Rattle.monomial.specs.Monomial.{Mono4, Has2, Has4, w_of, matchgate_phase, IsMatchgate}
use Rattle.monomial.specs.Algebra.{Even, mono1q_of, mono2q_from}
use Rattle.monomial.proofs.Tests.{at_each}
use Rattle.monomial.proofs.Gates.{code1-has, code1-turns, code2-has, code2-exchanges, code2-even}
use Rattle.fuse.specs.Relabel.{swap_code}
use Rattle.register.specs.Register.{register_one, register_two, RegisterGate, Beside, PlainGate, exchanges}
use Rattle.register.specs.Blocks.{EvenSum, GateIs}

-- ---- the codes

module _ (code : ℕ) where
  one_code : T (register_one code) → (code < 7) × (code ≢ 1)
  one_code t =
      let l : code ≤ 6 = leb-true code 6 (is_true (leb code 6) (and_l (leb code 6) (not (eqb code 1)) t)) in
      (omega arith, eqb-false code 1 (not-true (eqb code 1) (is_true (not (eqb code 1)) (and_r (leb code 6) (not (eqb code 1)) t))))

  two-code : T (register_two code) → (code - swap_code < 3) × (code ≡ swap_code + (code - swap_code))
  two-code t =
      let l : swap_code ≤ code = leb-true swap_code code (is_true (leb swap_code code) (and_l (leb swap_code code) (leb code 0x14) t)) in
      let h : code ≤ 0x14 = leb-true code 0x14 (is_true (leb code 0x14) (and_r (leb swap_code code) (leb code 0x14) t)) in
      (omega arith, omega arith)

code2-all : (j : ℕ) → j < 3 → exchanges (swap_code + j) ≡ true
code2-all = at_each 3 (λ j. exchanges (swap_code + j) ≡ true) (refl, (refl, (refl, tt)))

code2-swap : (j : ℕ) → j < 3 → (mono2q_from j).swap ≡ true
code2-swap = at_each 3 (λ j. (mono2q_from j).swap ≡ true) (refl, (refl, (refl, tt)))

-- ISwap and its adjoint fit
code2-fits : (code : ℕ) → T (register_two code) → code ≢ swap_code → IsMatchgate (mono2q_from (code - swap_code))
code2-fits code t ne =
    let c = two-code code t in
    let e : eqb (code - swap_code) 0 ≡ false = ne_eqb (code - swap_code) 0 (λ z. ne (c.1 ∙ ap (λ j. swap_code + j) z)) in
    subst (λ s. w_of (mono2q_from (code - swap_code)).phases ≡ matchgate_phase s) (sym (code2-swap (code - swap_code) c.0))
    (subst (λ s. Even (not s) (mono2q_from (code - swap_code))) e (code2-even (code - swap_code) c.0))

-- ---- the gates

module _ (n : ℕ) (Q : Mono4 → Type 0) (P : ℕ → ℕ → Type 0) (Still : Type 0) where
  one-is : (code q : ℕ) (m : Mat2) → GoodOne n code q m → T (register_one code) → GateIs n Q P Still (One code q m)
  one-is code q m g t =
      let c = one_code code t in (
        g.below,
        (
          mono1q_of code,
          subst (λ u. Has2 u (mono1q_of code)) (sym (g.named (λ e. omega arith))) (code1-has code c.0 c.1),
          code1-turns code c.0,
        ),
      )

  two_is : (code a b : ℕ) (m : Mat4) → GoodTwo n code a b m → T (register_two code)
      → Q (mono2q_from (code - swap_code)) → (Still → (code ≢ swap_code) × P a b)
      → GateIs n Q P Still (Two code a b m)
  two_is code a b m g t q s =
      let c = two-code code t in
      let j = code - swap_code in
      let has : Has4 (matrix2q_of code) (mono2q_from j) = subst (λ k. Has4 (matrix2q_of k) (mono2q_from j)) (sym c.1) (code2-has j c.0) in (
        g.below-a,
        g.below-b,
        g.differ,
        ap exchanges c.1 ∙ code2-all (code - swap_code) c.0,
        s,
        (
          mono2q_from j,
          subst (λ u. Has4 u (mono2q_from j)) (sym (g.named (λ e. omega arith))) has,
          q,
          (λ x y. (code2-exchanges j c.0 x y).0),
          (λ x y. (code2-exchanges j c.0 x y).1),
        ),
      )

-- ---- from the tape's lists

pub all-members : {A : Type 0} {P : A → Type 0} (xs : List A) → ((x : A) → Memᴰ x xs → P x) → All P xs
all-members [] h = tt
all-members (x ∷ xs) h = (h x (Memᴰ.head refl), all-members xs (λ y m. h y (Memᴰ.tail m)))

pub register-gate : (n : ℕ) (P : ℕ → ℕ → Type 0) (x : Gate) → GoodGate n x → RegisterGate x → GateIs n EvenSum P ⊥ x
register-gate n P (One code q m) g t = one-is n EvenSum P ⊥ code q m g t
register-gate n P (Two code a b m) g t =
    two_is n EvenSum P ⊥ code a b m g t (not (eqb (code - swap_code) 0), code2-even (code - swap_code) (two-code code t).0) (λ s. absurd s)
register-gate n P (Three a b c) g t = absurd t

-- no Swap, and on neighbours
pub fitting-gate : (n : ℕ) (x : Gate) → GoodGate n x → RegisterGate x → PlainGate x → GateIs n IsMatchgate Beside (Unit {0}) x
fitting-gate n (One code q m) g t c = one-is n IsMatchgate Beside (Unit {0}) code q m g t
fitting-gate n (Two code a b m) g t c = two_is n IsMatchgate Beside (Unit {0}) code a b m g t (code2-fits code t c.0) (λ s. c)
fitting-gate n (Three a b d) g t c = absurd t
