-- THE ENGINE'S MAJORANA MAP over exact numbers: the formulas of crate `majorana` (`majorana_map1` and `majorana_map2` of detect.rs), what they leave, and
-- which matrices are unitary. Definitions only. A public promise rests on this.
use Rattle.std.specs.Prelude.{◌≡◌, Bool, cond, ℕ, ◌*◌, ◌<◌, eqb}
use Rattle.rings.specs.Rings.{Ops}
use Rattle.formulas.specs.Numbers.{Exact}
use Rattle.formulas.specs.Engine.{Mat}
use Rattle.matchgates.specs.Matrices.{product, identity, trace, majoranas, less_sum}

-- the conjugate of numbers
pub record Conjugate (𝓝 : Ops) (i : 𝓝.N) : Type 0 where
  pub conj : 𝓝.N → 𝓝.N
  pub conj-add : (s t : 𝓝.N) → conj (𝓝.add s t) ≡ 𝓝.add (conj s) (conj t)
  pub conj-mul : (s t : 𝓝.N) → conj (𝓝.mul s t) ≡ 𝓝.mul (conj s) (conj t)
  pub conj-conj : (s : 𝓝.N) → conj (conj s) ≡ s
  pub conj-i : conj i ≡ 𝓝.neg i

module _ {𝓝 : Ops} {i : 𝓝.N} (𝓙 : Conjugate 𝓝 i) where
  -- u*
  abbrev pub adjoint : Mat 𝓝 → Mat 𝓝
  adjoint u r c = 𝓙.conj (u c r)

  -- u* c u
  abbrev pub image : ℕ → Mat 𝓝 → Mat 𝓝 → Mat 𝓝
  image w c u = product 𝓝 w (adjoint u) (product 𝓝 w c u)

  -- u* u = u u* = 1
  pub record Unitary (w : ℕ) (u : Mat 𝓝) : Type 0 where
    pub after-u : (r c : ℕ) → r < w → c < w → product 𝓝 w (adjoint u) u r c ≡ identity 𝓝 r c
    pub before-u : (r c : ℕ) → r < w → c < w → product 𝓝 w u (adjoint u) r c ≡ identity 𝓝 r c

module _ {𝓝 : Ops} {below : 𝓝.N → Bool} (𝓔 : Exact 𝓝 below) where
  -- 1 / 2, and 1 / 4
  abbrev pub part : ℕ → 𝓝.N
  part modes = cond (eqb modes 1) 𝓔.half (𝓝.mul 𝓔.half 𝓔.half)

  module _ (𝓙 : Conjugate 𝓝 𝓔.i) where
    -- the real part: half of s and its conjugate
    abbrev pub re : 𝓝.N → 𝓝.N
    re s = 𝓝.mul 𝓔.half (𝓝.add s (𝓙.conj s))

    -- Q_ab = re Tr(c_b u* c_a u) / 2 or 4
    abbrev pub map_of : ℕ → Mat 𝓝 → Mat 𝓝
    map_of modes u a b =
        𝓝.mul (re (trace 𝓝 (2 * modes) (majoranas 𝓝 𝓔.i modes b) (image 𝓙 (2 * modes) (majoranas 𝓝 𝓔.i modes a) u) (2 * modes))) (part modes)

    -- u* c_a u - sum_b Q_ab c_b: what the residual measures
    abbrev pub rest : ℕ → Mat 𝓝 → ℕ → Mat 𝓝
    rest modes u a = less_sum 𝓝 𝓔.i modes (image 𝓙 (2 * modes) (majoranas 𝓝 𝓔.i modes a) u) (map_of modes u a) (2 * modes)

    -- no residual: every entry of every rest is nought
    abbrev pub Still : ℕ → Mat 𝓝 → Type 0
    Still modes u = (a r c : ℕ) → a < 2 * modes → r < 2 * modes → c < 2 * modes → rest modes u a r c ≡ 𝓝.zero
