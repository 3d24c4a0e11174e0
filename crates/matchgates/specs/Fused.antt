-- WHAT IT MEANS THAT FUSING IS RIGHT, in exact numbers: the gates of a block on two qubits become one 4 by 4 matrix by the products of crates `fuse` and
-- `resolve` (`grown`, `chosen`), and that matrix on the two qubits is all the gates, one after the other. So a list of fused blocks is a list of gates as in
-- `EveryGate`. Definitions only. A public promise rests on this.
use Rattle.std.specs.Prelude.{◌≡◌, ◌⊎◌, ◌≢◌, Bool, List, [], ◌∷◌, ◌++◌, map, ℕ, suc, ◌+◌, ◌*◌, ◌/◌, ◌%◌, ◌≤◌, ◌<◌}
use Rattle.rings.specs.Rings.{Ops}
use Rattle.formulas.specs.Numbers.{Exact}
use Rattle.formulas.specs.Engine.{Mat, Local, Item, applied, interaction, each, run, vacuum, get}
use Rattle.angles.specs.Qubits.{Operators}
use Rattle.matchgates.specs.Matrices.{product, identity, kron}
use Rattle.matchgates.specs.Maps.{Conjugate, adjoint, Still, Unitary}
use Rattle.matchgates.specs.Gates.{placed, Gate, computed, RightEntries}
use Rattle.matchgates.specs.Circuits.{Act, one, two, forth, back, conjugated}

-- ---- the engine's products

-- the indices 1 and 2 change places
abbrev pub crossed : ℕ → ℕ
crossed r = 2 * (r % 2) + r / 2

-- a block's gates, in time order
pub data Part (𝓝 : Ops) : Type 0 where
  -- 2 by 2 matrices on the first qubit and on the second, each list in time order
  singles : List (Mat 𝓝) → List (Mat 𝓝) → Part 𝓝
  -- a 4 by 4 matrix on both, and one with its qubits in the other order
  both : Mat 𝓝 → Part 𝓝
  turned : Mat 𝓝 → Part 𝓝

module _ (𝓝 : Ops) where
  -- `mat4_swap_qubits`: the same gate with its qubits named in the other order
  abbrev pub swap_qubits : Mat 𝓝 → Mat 𝓝
  swap_qubits u r c = u (crossed r) (crossed c)

  -- SWAP
  abbrev pub swap : Mat 𝓝
  swap r c = identity 𝓝 (crossed r) c

  -- `time_product_from`: one gate after the other on top of acc, the later one on the left
  unfoldable pub in_time : ℕ → Mat 𝓝 → List (Mat 𝓝) → Mat 𝓝
  in_time w acc [] = acc
  in_time w acc (g ∷ gs) = in_time w (product 𝓝 w g acc) gs

  -- `time_product`: from the identity
  abbrev pub time_product : ℕ → List (Mat 𝓝) → Mat 𝓝
  time_product w = in_time w (identity 𝓝)

  -- the matrix of a part
  abbrev pub part_matrix : Part 𝓝 → Mat 𝓝
  part_matrix (singles us vs) = kron 𝓝 (time_product 2 us) (time_product 2 vs)
  part_matrix (both m) = m
  part_matrix (turned m) = swap_qubits m

  -- one part after the other
  abbrev pub fused : List (Part 𝓝) → Mat 𝓝
  fused xs = time_product 4 (map part_matrix xs)

-- ---- the gates themselves, on the qubits p and q

module _ {𝓝 : Ops} (p q : ℕ) where
  -- of a part, and of a list of them
  abbrev pub part_acts : Part 𝓝 → List (Act 𝓝)
  part_acts (singles us vs) = map (one p) us ++ map (one q) vs
  part_acts (both m) = two p q m ∷ []
  part_acts (turned m) = two q p m ∷ []

  abbrev pub parts_acts : List (Part 𝓝) → List (Act 𝓝)
  parts_acts [] = []
  parts_acts (x ∷ xs) = part_acts x ++ parts_acts xs

module _ {𝓝 : Ops} {below : 𝓝.N → Bool} (𝓔 : Exact 𝓝 below) (𝓙 : Conjugate 𝓝 𝓔.i) {n : ℕ} {𝓐 : Ops} (𝓠 : Operators 𝓝 𝓔.i n 𝓐) where
  -- THE STATEMENT: the fused matrix on any two qubits is all the gates; and its adjoint undoes them
  pub record FusedRight (p q : ℕ) (xs : List (Part 𝓝)) : Type 0 where
    pub together : forth 𝓔 𝓠 (parts_acts p q xs) ≡ placed 𝓔 𝓠 p q (fused 𝓝 xs)
    pub undone : back 𝓔 𝓙 𝓠 (parts_acts p q xs) ≡ placed 𝓔 𝓠 p q (adjoint 𝓙 (fused 𝓝 xs))

  -- of any two qubits
  abbrev pub EveryFused : Type 0
  EveryFused = (p q : ℕ) → p < n → q < n → p ≢ q → (xs : List (Part 𝓝)) → FusedRight p q xs

-- ---- fused blocks on one mode or two neighbours

-- 2 by 2 matrices on one qubit, or parts on two
pub data Gathered (𝓝 : Ops) : Type 0 where
  lone : List (Mat 𝓝) → Gathered 𝓝
  pair : List (Part 𝓝) → Gathered 𝓝

module _ {𝓝 : Ops} where
  -- how many modes, the product, and the gates themselves from qubit k on
  abbrev pub modes_of : Gathered 𝓝 → ℕ
  modes_of (lone us) = 1
  modes_of (pair xs) = 2

  abbrev pub matrix_of : Gathered 𝓝 → Mat 𝓝
  matrix_of (lone us) = time_product 𝓝 2 us
  matrix_of (pair xs) = fused 𝓝 xs

  abbrev pub acts_from : ℕ → Gathered 𝓝 → List (Act 𝓝)
  acts_from k (lone us) = map (one k) us
  acts_from k (pair xs) = parts_acts k (suc k) xs

-- the product is a matchgate
pub record Fusion {𝓝 : Ops} {below : 𝓝.N → Bool} (𝓔 : Exact 𝓝 below) (𝓙 : Conjugate 𝓝 𝓔.i) (n : ℕ) : Type 0 where
  pub start : ℕ
  pub gates : Gathered 𝓝
  -- this is so of both kinds
  pub few : (modes_of gates ≡ 1) ⊎ (modes_of gates ≡ 2)
  pub fits : start + modes_of gates ≤ n
  pub unitary : Unitary 𝓙 (2 * modes_of gates) (matrix_of gates)
  pub still : Still 𝓔 𝓙 (modes_of gates) (matrix_of gates)

module _ {𝓝 : Ops} {below : 𝓝.N → Bool} {𝓔 : Exact 𝓝 below} {𝓙 : Conjugate 𝓝 𝓔.i} {n : ℕ} where
  -- one gate, as in `EveryGate`
  abbrev pub fusion_gate : Fusion 𝓔 𝓙 n → Gate 𝓔 𝓙 n
  fusion_gate b = record {
    start = b.start;
    modes = modes_of b.gates;
    few = b.few;
    fits = b.fits;
    matrix = matrix_of b.gates;
    unitary = b.unitary;
    still = b.still;
  }

  -- all gates of a list of blocks
  abbrev pub fusions_acts : List (Item (Fusion 𝓔 𝓙 n)) → List (Act 𝓝)
  fusions_acts [] = []
  fusions_acts (applied b ∷ bs) = acts_from b.start b.gates ++ fusions_acts bs
  fusions_acts (interaction ∷ bs) = fusions_acts bs

module _ {𝓝 : Ops} {below : 𝓝.N → Bool} (𝓔 : Exact 𝓝 below) (𝓙 : Conjugate 𝓝 𝓔.i) {n : ℕ} {𝓐 : Ops} (𝓠 : Operators 𝓝 𝓔.i n 𝓐) where
  -- THE STATEMENT: from the gates of fused blocks to the covariance
  abbrev pub EveryFusion : (Local 𝓝 → Bool) → Type 0
  EveryFusion odd = (bs : List (Item (Fusion 𝓔 𝓙 n)))
      → RightEntries 𝓝 (λ s. s) 𝓠 (get 𝓝 (run 𝓝 below odd (map (each computed) (map (each fusion_gate) bs)) (vacuum 𝓝)))
      (λ a. 𝓠.vac (conjugated 𝓔 𝓙 𝓠 (fusions_acts bs) a))
