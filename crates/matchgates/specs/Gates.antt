-- THE ANGLE THEOREM FOR GATES: a gate is a unitary 2 by 2 or 4 by 4 matrix that leaves no residual; the engine is given the map that it computes from the
-- matrix, and quantum mechanics the operator with that matrix on the gate's qubits. And which matrices are such gates. Definitions only.
-- A public promise rests on this.
use Rattle.std.specs.Prelude.{◌≡◌, ◌⊎◌, ◌≢◌, Bool, cond, List, [], ◌∷◌, map, ℕ, zero, suc, ◌+◌, ◌*◌, ◌≤◌, ◌<◌, eqb}
use Rattle.rings.specs.Rings.{Ops}
use Rattle.formulas.specs.Numbers.{Exact, Tests, Divides}
use Rattle.formulas.specs.Engine.{Mat, Local, Item, applied, interaction, each, run, vacuum, get}
use Rattle.formulas.specs.Determinants.{own_odd}
use Rattle.angles.specs.Qubits.{x, y, z, Operators, gamma}
use Rattle.angles.specs.Angles.{combined, entry_of}
use Rattle.matchgates.specs.Maps.{Conjugate, adjoint, map_of, Still, Unitary}

-- ---- the operator with a given matrix

module _ {𝓝 : Ops} {below : 𝓝.N → Bool} (𝓔 : Exact 𝓝 below) {n : ℕ} {𝓐 : Ops} (𝓠 : Operators 𝓝 𝓔.i n 𝓐) where
  -- |r><c| of qubit k: half of 1 + Z, X + i Y, X - i Y, 1 - Z
  abbrev pub ket_bra : ℕ → ℕ → ℕ → 𝓐.N
  ket_bra k zero zero = 𝓐.mul (𝓠.num 𝓔.half) (𝓐.add 𝓐.one (𝓠.pauli z k))
  ket_bra k zero (suc c) = 𝓐.mul (𝓠.num 𝓔.half) (𝓐.add (𝓠.pauli x k) (𝓐.mul (𝓠.num 𝓔.i) (𝓠.pauli y k)))
  ket_bra k (suc r) zero = 𝓐.mul (𝓠.num 𝓔.half) (𝓐.add (𝓠.pauli x k) (𝓐.neg (𝓐.mul (𝓠.num 𝓔.i) (𝓠.pauli y k))))
  ket_bra k (suc r) (suc c) = 𝓐.mul (𝓠.num 𝓔.half) (𝓐.add 𝓐.one (𝓐.neg (𝓠.pauli z k)))

  -- the sum of f r c |r><c|
  abbrev pub spread : ℕ → (ℕ → ℕ → 𝓐.N) → 𝓐.N
  spread k f =
      𝓐.add (𝓐.add (𝓐.mul (f 0 0) (ket_bra k 0 0)) (𝓐.mul (f 0 1) (ket_bra k 0 1)))
      (𝓐.add (𝓐.mul (f 1 0) (ket_bra k 1 0)) (𝓐.mul (f 1 1) (ket_bra k 1 1)))

  -- a 2 by 2 matrix on qubit k
  abbrev pub on_one : ℕ → Mat 𝓝 → 𝓐.N
  on_one k u = spread k (λ r c. 𝓠.num (u r c))

  -- a 4 by 4 matrix on the qubits p and q; the first is the high bit of its indices
  abbrev pub placed : ℕ → ℕ → Mat 𝓝 → 𝓐.N
  placed p q u = spread p (λ r c. on_one q (λ s t. u (2 * r + s) (2 * c + t)))

  -- a matrix on qubit k, or on the qubits k and k + 1
  abbrev pub on : ℕ → ℕ → Mat 𝓝 → 𝓐.N
  on modes k u = cond (eqb modes 1) (on_one k u) (placed k (suc k) u)

-- ---- gates

-- a covariance e, read by ι among the numbers of quantum mechanics, is right for the values that v gives: every entry, nought on the diagonal, Z of every mode
pub record RightEntries (𝓡 : Ops) {𝓝 : Ops} (ι : 𝓡.N → 𝓝.N) {i : 𝓝.N} {n : ℕ} {𝓐 : Ops} (𝓠 : Operators 𝓝 i n 𝓐) (e : Mat 𝓡) (v : 𝓐.N → 𝓝.N) : Type 0 where
  pub covariance : (r c : ℕ) → r < 2 * n → c < 2 * n → r ≢ c → ι (e r c) ≡ v (entry_of 𝓠 r c)
  pub diagonal : (r : ℕ) → r < 2 * n → e r r ≡ 𝓡.zero
  pub parity : (k : ℕ) → k < n → ι (e (2 * k) (2 * k + 1)) ≡ v (𝓠.pauli z k)

-- a matchgate of the qubits start, .., start + modes - 1
pub record Gate {𝓝 : Ops} {below : 𝓝.N → Bool} (𝓔 : Exact 𝓝 below) (𝓙 : Conjugate 𝓝 𝓔.i) (n : ℕ) : Type 0 where
  pub start : ℕ
  pub modes : ℕ
  pub few : (modes ≡ 1) ⊎ (modes ≡ 2)
  pub fits : start + modes ≤ n
  pub matrix : Mat 𝓝
  pub unitary : Unitary 𝓙 (2 * modes) matrix
  pub still : Still 𝓔 𝓙 modes matrix

-- to the engine
abbrev pub computed : {𝓝 : Ops} {below : 𝓝.N → Bool} {𝓔 : Exact 𝓝 below} {𝓙 : Conjugate 𝓝 𝓔.i} {n : ℕ} → Gate 𝓔 𝓙 n → Local 𝓝
computed {𝓔 = 𝓔} {𝓙 = 𝓙} g = record { start = 2 * g.start; width = 2 * g.modes; map = map_of 𝓔 𝓙 g.modes g.matrix }

module _ {𝓝 : Ops} {below : 𝓝.N → Bool} (𝓔 : Exact 𝓝 below) (𝓙 : Conjugate 𝓝 𝓔.i) {n : ℕ} {𝓐 : Ops} (𝓠 : Operators 𝓝 𝓔.i n 𝓐) where
  -- U* a U for the product U of the gates: the last one comes first, and interactions are passed over
  unfoldable pub through : List (Item (Gate 𝓔 𝓙 n)) → 𝓐.N → 𝓐.N
  through [] a = a
  through (applied g ∷ gs) a = 𝓐.mul (on 𝓔 𝓠 g.modes g.start (adjoint 𝓙 g.matrix)) (𝓐.mul (through gs a) (on 𝓔 𝓠 g.modes g.start g.matrix))
  through (interaction ∷ gs) a = through gs a

  -- <0..0| U* a U |0..0>
  abbrev pub expected : List (Item (Gate 𝓔 𝓙 n)) → 𝓐.N → 𝓝.N
  expected gs a = 𝓠.vac (through gs a)

  -- THE STATEMENT: from matrices to the covariance, by an engine that asks `odd` whether a determinant is below zero
  abbrev pub EveryGate : (Local 𝓝 → Bool) → Type 0
  EveryGate odd = (gs : List (Item (Gate 𝓔 𝓙 n))) → RightEntries 𝓝 (λ s. s) 𝓠 (get 𝓝 (run 𝓝 below odd (map (each computed) gs) (vacuum 𝓝))) (expected gs)

  -- ---- which matrices

  -- u on the modes from k on sends their Majorana operators to sums of them, by the map q
  abbrev pub Sends : ℕ → ℕ → Mat 𝓝 → Mat 𝓝 → Type 0
  Sends modes k u q =
      (a : ℕ) → a < 2 * modes
      → 𝓐.mul (on 𝓔 𝓠 modes k (adjoint 𝓙 u)) (𝓐.mul (gamma 𝓠 (2 * k + a)) (on 𝓔 𝓠 modes k u))
      ≡ combined 𝓠 (q a) (λ b. gamma 𝓠 (2 * k + b)) (2 * modes)

  -- THE STATEMENT: it does exactly if no residual is left, and then by the engine's map and by no other; whatever the matrix
  pub record Exactly (modes k : ℕ) (u : Mat 𝓝) : Type 0 where
    pub if-still : Still 𝓔 𝓙 modes u → Sends modes k u (map_of 𝓔 𝓙 modes u)
    pub only-if : (q : Mat 𝓝) → Sends modes k u q → Still 𝓔 𝓙 modes u
    pub no-other : (q : Mat 𝓝) → Sends modes k u q → (a b : ℕ) → a < 2 * modes → b < 2 * modes → q a b ≡ map_of 𝓔 𝓙 modes u a b

  -- of every matrix
  abbrev pub ExactlyMatchgates : Type 0
  ExactlyMatchgates = (modes k : ℕ) → (modes ≡ 1) ⊎ (modes ≡ 2) → k + modes ≤ n → (u : Mat 𝓝) → Exactly modes k u

-- THE WHOLE STATEMENT: over all exact numbers that divide, of the engine with its own elimination. Which matrices are gates asks for less
pub record GateTheorem : Type 1 where
  pub gates : {𝓝 : Ops} {𝓣 : Tests 𝓝} → Divides 𝓝 𝓣 → {below : 𝓝.N → Bool} (𝓔 : Exact 𝓝 below) (𝓙 : Conjugate 𝓝 𝓔.i) {n : ℕ} {𝓐 : Ops}
      (𝓠 : Operators 𝓝 𝓔.i n 𝓐) → EveryGate 𝓔 𝓙 𝓠 (own_odd 𝓝 𝓣 below)
  pub matrices : {𝓝 : Ops} {below : 𝓝.N → Bool} (𝓔 : Exact 𝓝 below) (𝓙 : Conjugate 𝓝 𝓔.i) {n : ℕ} {𝓐 : Ops} (𝓠 : Operators 𝓝 𝓔.i n 𝓐)
      → ExactlyMatchgates 𝓔 𝓙 𝓠
