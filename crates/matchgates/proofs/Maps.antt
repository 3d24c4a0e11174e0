-- A gate sends its Majorana operators to sums of them exactly if it leaves no residual, and then by the map that the engine computes. Assumes nothing.
use mathlib.Core.Path.{◌≡◌, sym, ap, ◌∙◌}
use mathlib.Core.Bool.{Bool, false}
use Prim.Native.Nat.{ℕ, zero, suc, ◌+◌, ◌*◌, ◌≤◌, ◌<◌}
use native.Mathlib.Omega.{arith}
use Rattle.rings.specs.Rings.{Ops, IsRing}
use Rattle.formulas.specs.Numbers.{Exact}
use Rattle.formulas.specs.Engine.{Mat}
use Rattle.angles.specs.Qubits.{Operators, zs, gamma}
use Rattle.angles.specs.Angles.{combined}
use Rattle.matchgates.specs.Matrices.{product, majoranas, less_sum}
use Rattle.matchgates.specs.Maps.{Conjugate, adjoint, image, map_of, rest, Still}
use Rattle.matchgates.specs.Gates.{on, Sends, ExactlyMatchgates}
use Rattle.rings.proofs.Rings.{mul-zero, neg-zero, neg-sum, same-of}
use Rattle.angles.proofs.Passing.{Pass}
use Rattle.angles.proofs.Majoranas.{zs-early, zs-square}
use Rattle.matchgates.proofs.Traces.{mixed, engine's, nothing-left}
use Rattle.matchgates.proofs.Realises.{Realises, realises}

module _ {𝓝 : Ops} {below : 𝓝.N → Bool} (𝓔 : Exact 𝓝 below) (𝓙 : Conjugate 𝓝 𝓔.i) {n : ℕ} {𝓐 : Ops} (𝓠 : Operators 𝓝 𝓔.i n 𝓐) where
  open 𝓐 use {N, zero as 𝟘, add as ◌⊹◌, mul as ◌⋆◌, neg}

  infixl 65 ◌⊹◌
  infixl 70 ◌⋆◌
  abbrev 𝓛 : IsRing 𝓐
  𝓛 = 𝓠.ring

  abbrev num : 𝓝.N → N
  num = 𝓠.num

  abbrev cs : ℕ → ℕ → Mat 𝓝
  cs = majoranas 𝓝 𝓔.i

  -- ---- the map

  abbrev sums : (ℕ → 𝓝.N) → (ℕ → N) → ℕ → N
  sums = combined 𝓠

  module _ (modes k : ℕ) (R : Mat 𝓝 → N) (𝓡 : Realises 𝓔 𝓠 modes k R) (room : k + modes ≤ n) where
    -- the operator of what is left
    less-is : (m : Mat 𝓝) (q : ℕ → 𝓝.N) (j : ℕ) → R (less_sum 𝓝 𝓔.i modes m q j) ≡ R m ⊹ neg (sums q (λ b. R (cs modes b)) j)
    unfolding combined
    less-is m q zero = sym (ap (λ a. R m ⊹ a) (neg-zero 𝓛) ∙ 𝓛.add-zero (R m))
    less-is m q (suc j) =
        𝓡.sum (less_sum 𝓝 𝓔.i modes m q j) (λ r c. 𝓝.neg (𝓝.mul (cs modes j r c) (q j)))
        ∙ (λ i. less-is m q j i ⊹ (𝓡.minus (λ r c. 𝓝.mul (cs modes j r c) (q j)) ∙ ap neg (𝓡.scale (q j) (cs modes j))) i)
        ∙ 𝓛.add-assoc (R m) (neg (sums q (λ b. R (cs modes b)) j)) (neg (num (q j) ⋆ R (cs modes j)))
        ∙ ap (λ a. R m ⊹ a) (sym (neg-sum 𝓛 (sums q (λ b. R (cs modes b)) j) (num (q j) ⋆ R (cs modes j))))

    -- the Zs in front
    strings : (q : ℕ → 𝓝.N) (j : ℕ) → j ≤ 2 * modes → zs 𝓠 k ⋆ sums q (λ b. R (cs modes b)) j ≡ sums q (λ b. gamma 𝓠 (2 * k + b)) j
    unfolding combined
    strings q zero l = mul-zero 𝓛 (zs 𝓠 k)
    strings q (suc j) l =
        𝓛.left (zs 𝓠 k) (sums q (λ b. R (cs modes b)) j) (num (q j) ⋆ R (cs modes j))
        ∙ (λ i. strings q j (omega arith) i ⊹ turn i)
      where
        turn : zs 𝓠 k ⋆ (num (q j) ⋆ R (cs modes j)) ≡ num (q j) ⋆ gamma 𝓠 (2 * k + j)
        turn =
            sym (𝓛.mul-assoc (zs 𝓠 k) (num (q j)) (R (cs modes j)))
            ∙ ap (λ a. a ⋆ R (cs modes j)) (sym (𝓠.central (q j) (zs 𝓠 k)))
            ∙ 𝓛.mul-assoc (num (q j)) (zs 𝓠 k) (R (cs modes j))
            ∙ ap (λ a. num (q j) ⋆ a) (sym (𝓡.string j l))

    -- the Zs before the gate commute with it
    zs-pass : (u : Mat 𝓝) → Pass 𝓐 false (zs 𝓠 k) (R u)
    zs-pass u = 𝓡.commutes (zs 𝓠 k) (λ p j l m. sym (zs-early 𝓔 𝓠 p j k (omega arith) l)) u

    module _ (u : Mat 𝓝) where
      abbrev v : Mat 𝓝
      v = adjoint 𝓙 u

      abbrev w : ℕ → Mat 𝓝
      w a = image 𝓙 (2 * modes) (cs modes a) u

      -- U* gamma_a U is the Zs times the operator of u* c_a u
      conjugated : (a : ℕ) → a < 2 * modes → R v ⋆ (gamma 𝓠 (2 * k + a) ⋆ R u) ≡ zs 𝓠 k ⋆ R (w a)
      conjugated a l =
          ap (λ b. R v ⋆ (b ⋆ R u)) (𝓡.string a l)
          ∙ ap (λ b. R v ⋆ b) (𝓛.mul-assoc (zs 𝓠 k) (R (cs modes a)) (R u))
          ∙ sym (𝓛.mul-assoc (R v) (zs 𝓠 k) (R (cs modes a) ⋆ R u))
          ∙ ap (λ b. b ⋆ (R (cs modes a) ⋆ R u)) (sym (zs-pass v))
          ∙ 𝓛.mul-assoc (zs 𝓠 k) (R v) (R (cs modes a) ⋆ R u)
          ∙ ap (λ b. zs 𝓠 k ⋆ b) (ap (λ b. R v ⋆ b) (sym (𝓡.times (cs modes a) u)) ∙ sym (𝓡.times v (product 𝓝 (2 * modes) (cs modes a) u)))

      -- THE MAP: no residual
      pub maps : Still 𝓔 𝓙 modes u → (a : ℕ) → a < 2 * modes
          → R v ⋆ (gamma 𝓠 (2 * k + a) ⋆ R u) ≡ sums (map_of 𝓔 𝓙 modes u a) (λ b. gamma 𝓠 (2 * k + b)) (2 * modes)
      maps still a l =
          conjugated a l
          ∙ ap (λ b. zs 𝓠 k ⋆ b) (same-of 𝓛 (R (w a)) (sums q (λ b. R (cs modes b)) (2 * modes)) gone)
          ∙ strings q (2 * modes) (omega arith)
        where
          q : ℕ → 𝓝.N
          q = map_of 𝓔 𝓙 modes u a

          gone : R (w a) ⊹ neg (sums q (λ b. R (cs modes b)) (2 * modes)) ≡ 𝟘
          gone =
              sym (less-is (w a) q (2 * modes))
              ∙ 𝓡.same (rest 𝓔 𝓙 modes u a) (λ r c. 𝓝.zero) (λ r c hr hc. still a r c l hr hc)
              ∙ 𝓡.nought

      -- ---- back: a map that the operator has is the engine's

      mixed-is : (q : ℕ → 𝓝.N) (j : ℕ) → R (mixed 𝓝 𝓔.i modes q j) ≡ sums q (λ b. R (cs modes b)) j
      unfolding combined
      mixed-is q zero = 𝓡.nought
      mixed-is q (suc j) =
          𝓡.sum (mixed 𝓝 𝓔.i modes q j) (λ r c. 𝓝.mul (cs modes j r c) (q j)) ∙ (λ i. mixed-is q j i ⊹ 𝓡.scale (q j) (cs modes j) i)

      -- the Zs square to one
      unstrung : (a b : N) → zs 𝓠 k ⋆ a ≡ zs 𝓠 k ⋆ b → a ≡ b
      unstrung a b e = sym (twice a) ∙ ap (λ d. zs 𝓠 k ⋆ d) e ∙ twice b
        where
          twice : (d : N) → zs 𝓠 k ⋆ (zs 𝓠 k ⋆ d) ≡ d
          twice d = sym (𝓛.mul-assoc (zs 𝓠 k) (zs 𝓠 k) d) ∙ ap (λ f. f ⋆ d) (zs-square 𝓔 𝓠 k (omega arith)) ∙ 𝓛.one-mul d

      is-mixed : (q : ℕ → 𝓝.N) (a : ℕ) → a < 2 * modes
          → R v ⋆ (gamma 𝓠 (2 * k + a) ⋆ R u) ≡ sums q (λ b. gamma 𝓠 (2 * k + b)) (2 * modes)
          → (r c : ℕ) → r < 2 * modes → c < 2 * modes → w a r c ≡ mixed 𝓝 𝓔.i modes q (2 * modes) r c
      is-mixed q a l e =
          𝓡.injective (w a) (mixed 𝓝 𝓔.i modes q (2 * modes))
          (unstrung (R (w a)) (R (mixed 𝓝 𝓔.i modes q (2 * modes)))
          (sym (conjugated a l) ∙ e ∙ sym (strings q (2 * modes) (omega arith)) ∙ ap (λ b. zs 𝓠 k ⋆ b) (sym (mixed-is q (2 * modes)))))

  -- THE ENGINE'S MAP IS THE MAP: whatever the matrix
  pub exactly-matchgates : ExactlyMatchgates 𝓔 𝓙 𝓠
  exactly-matchgates modes k few room u = record {
    if-still = maps modes k (on 𝓔 𝓠 modes k) 𝓡 room u;
    only-if = λ q s a r c la hr hc. nothing-left 𝓔 𝓙 modes few u a la (q a) (mixes q s a la) r c hr hc;
    no-other = λ q s a b la lb. sym (engine's 𝓔 𝓙 modes few u a la (q a) (mixes q s a la) b lb);
  }
    where
      𝓡 : Realises 𝓔 𝓠 modes k (on 𝓔 𝓠 modes k)
      𝓡 = realises 𝓔 𝓠 modes k few room

      mixes : (q : Mat 𝓝) → Sends 𝓔 𝓙 𝓠 modes k u q → (a : ℕ) → a < 2 * modes
          → (r c : ℕ) → r < 2 * modes → c < 2 * modes → image 𝓙 (2 * modes) (cs modes a) u r c ≡ mixed 𝓝 𝓔.i modes (q a) (2 * modes) r c
      mixes q s a la = is-mixed modes k (on 𝓔 𝓠 modes k) 𝓡 room u (q a) a la (s a la)
