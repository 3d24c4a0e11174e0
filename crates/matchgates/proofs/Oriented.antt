-- A matrix on two qubits is its turned matrix on them in the other order. Assumes nothing.
use mathlib.Core.Path.{◌≡◌, refl, sym}
use mathlib.Core.Logic.{◌≢◌}
use mathlib.Core.Bool.{Bool, true, false, cond, ◌&&◌, not, xor, false≢true}
use Prim.Native.Nat.{ℕ, ◌+◌, ◌*◌, ◌-◌, ◌/◌, ◌%◌, ◌<◌}
use lib.Dec.{ltb}
use Rattle.rings.specs.Rings.{Ops}
use Rattle.formulas.specs.Numbers.{Exact}
use Rattle.formulas.specs.Engine.{Mat}
use Rattle.angles.specs.Qubits.{Operators}
use Rattle.matchgates.specs.Gates.{ket_bra, placed}
use Rattle.matchgates.specs.Fused.{crossed, swap_qubits}
use Rattle.rings.proofs.Solve.{Exp, var, plus, times, Rules, Obeys, solve}
use Rattle.angles.proofs.Passing.{Pass}
use Rattle.matchgates.proofs.Placed.{units-pass}

-- ---- terms: the entries are the variables 0 to 15, the units of the first qubit 16 to 19, those of the second 20 to 23

-- the second's units may be moved past the first's
abbrev after : Rules
after = record { moves = λ a b. not (ltb a 20) && (ltb b 20 && not (ltb b 16)); odd = λ a. false }

-- a sum over the units from e on
abbrev spread_e : ℕ → (ℕ → ℕ → Exp) → Exp
spread_e e f =
    plus (plus (times (f 0 0) (var e)) (times (f 0 1) (var (e + 1)))) (plus (times (f 1 0) (var (e + 2))) (times (f 1 1) (var (e + 3))))

module _ {𝓝 : Ops} {below : 𝓝.N → Bool} (𝓔 : Exact 𝓝 below) {n : ℕ} {𝓐 : Ops} (𝓠 : Operators 𝓝 𝓔.i n 𝓐) where
  module _ (p q : ℕ) (hp : p < n) (hq : q < n) (other : p ≢ q) (u : Mat 𝓝) where
    abbrev units : ℕ → 𝓐.N
    units j = cond (ltb j 20) (ket_bra 𝓔 𝓠 p ((j - 16) / 2) ((j - 16) % 2)) (ket_bra 𝓔 𝓠 q ((j - 20) / 2) ((j - 20) % 2))

    abbrev ρ : ℕ → 𝓐.N
    ρ j = cond (ltb j 16) (𝓠.num (u (j / 4) (j % 4))) (units j)

    follows : Obeys 𝓐 ρ after
    follows = record { swap = swap; square = λ a e. absurd (false≢true e) }
      where
        swap : (a b : ℕ) → not (ltb a 20) && (ltb b 20 && not (ltb b 16)) ≡ true → 𝓐.mul (ρ a) (ρ b) ≡ 𝓐.mul (ρ b) (ρ a)
        swap a b e = by (ltb a 16) (ltb a 20) (ltb b 16) (ltb b 20) e
          where
            by : (a₁ a₂ b₁ b₂ : Bool) → not a₂ && (b₂ && not b₁) ≡ true
                → Pass 𝓐 false
                (cond a₁ (𝓠.num (u (a / 4) (a % 4))) (cond a₂ (ket_bra 𝓔 𝓠 p ((a - 16) / 2) ((a - 16) % 2)) (ket_bra 𝓔 𝓠 q ((a - 20) / 2) ((a - 20) % 2))))
                (cond b₁ (𝓠.num (u (b / 4) (b % 4))) (cond b₂ (ket_bra 𝓔 𝓠 p ((b - 16) / 2) ((b - 16) % 2)) (ket_bra 𝓔 𝓠 q ((b - 20) / 2) ((b - 20) % 2))))
            by true a₂ b₁ b₂ h = 𝓠.central (u (a / 4) (a % 4)) _
            by false true b₁ b₂ h = absurd (false≢true h)
            by false false b₁ false h = absurd (false≢true h)
            by false false true true h = absurd (false≢true h)
            by false false false true h =
                sym (units-pass 𝓔 𝓠 p q hp hq other ((b - 16) / 2) ((b - 16) % 2) ((a - 20) / 2) ((a - 20) % 2))

    pub oriented : placed 𝓔 𝓠 q p u ≡ placed 𝓔 𝓠 p q (swap_qubits 𝓝 u)
    unfolding xor
    oriented =
        solve 𝓠.ring ρ after follows
        (spread_e 20 (λ s t. spread_e 16 (λ r c. var (4 * (2 * s + r) + (2 * t + c)))))
        (spread_e 16 (λ r c. spread_e 20 (λ s t. var (4 * crossed (2 * r + s) + crossed (2 * c + t))))) refl
