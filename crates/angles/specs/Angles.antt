-- WHAT THE ANGLE THEOREM SAYS. A block is an operator U with its inverse on one mode or on two neighbours, which commutes with the Pauli operators of all
-- other qubits and sends its own Majorana operators to sums of them: U^-1 gamma_a U = sum_b Q_ab gamma_b, at any angle. The engine is given the maps Q, in
-- order, from the vacuum; interactions may stand between. Quantum mechanics pulls an observable back through the blocks, the last one first, and takes its
-- value in |0..0>. The two agree, in exact numbers: the engine's formula is quantum mechanics, and floats only round it. Nothing on the right side speaks
-- of determinants, of later modes or of postponed signs. Definitions only. A public promise rests on this.
use Rattle.std.specs.Prelude.{◌≡◌, ◌⊎◌, ◌≢◌, Bool, List, [], ◌∷◌, map, ℕ, zero, suc, ◌+◌, ◌*◌, ◌≤◌, ◌<◌}
use Rattle.laws.specs.Lists.{in_order}
use Rattle.rings.specs.Rings.{Ops}
use Rattle.formulas.specs.Numbers.{Exact, Tests, Divides}
use Rattle.formulas.specs.Engine.{Mat, Local, State, Item, applied, interaction, each, Engine, effect, run, vacuum, get}
use Rattle.formulas.specs.Determinants.{odd, own_odd}
use Rattle.angles.specs.Qubits.{Axis, z, Operators, gamma}

module _ {𝓝 : Ops} {i : 𝓝.N} {n : ℕ} {𝓐 : Ops} (𝓠 : Operators 𝓝 i n 𝓐) where
  -- q 0 * g 0 + .. + q (k - 1) * g (k - 1), numbers before operators
  unfoldable pub combined : (ℕ → 𝓝.N) → (ℕ → 𝓐.N) → ℕ → 𝓐.N
  combined q g zero = 𝓐.zero
  combined q g (suc k) = 𝓐.add (combined q g k) (𝓐.mul (𝓠.num (q k)) (g k))

  pub record Block : Type 0 where
    -- the modes start, .., start + modes - 1: one or two
    pub start : ℕ
    pub modes : ℕ
    pub few : (modes ≡ 1) ⊎ (modes ≡ 2)
    pub fits : start + modes ≤ n
    -- U and its inverse
    pub u : 𝓐.N
    pub v : 𝓐.N
    pub vu : 𝓐.mul v u ≡ 𝓐.one
    pub uv : 𝓐.mul u v ≡ 𝓐.one
    -- it acts on its own qubits only
    pub own : (p : Axis) (j : ℕ) → j < n → (j < start) ⊎ (start + modes ≤ j) → 𝓐.mul (𝓠.pauli p j) u ≡ 𝓐.mul u (𝓠.pauli p j)
    -- its map
    pub map : Mat 𝓝
    pub sends : (a : ℕ) → a < 2 * modes → 𝓐.mul v (𝓐.mul (gamma 𝓠 (2 * start + a)) u) ≡ combined (map a) (λ b. gamma 𝓠 (2 * start + b)) (2 * modes)

  -- to the engine
  abbrev pub operation : Block → Local 𝓝
  operation g = record { start = 2 * g.start; width = 2 * g.modes; map = g.map }

  -- to an operator a: U^-1 a U
  abbrev pub acts : Block → 𝓐.N → 𝓐.N
  acts g a = 𝓐.mul g.v (𝓐.mul a g.u)

  -- an operator after the list, as an operator before it: the last block comes first, and interactions are passed over
  unfoldable pub pulled : List (Item Block) → 𝓐.N → 𝓐.N
  pulled [] a = a
  pulled (applied g ∷ gs) a = acts g (pulled gs a)
  pulled (interaction ∷ gs) a = pulled gs a

  -- <0..0| U^-1 a U |0..0>, for the product U of the list
  abbrev pub after : List (Item Block) → 𝓐.N → 𝓝.N
  after gs a = 𝓠.vac (pulled gs a)

  -- what entry (r, c) of the covariance is the value of: -i times two Majorana operators
  abbrev pub entry_of : ℕ → ℕ → 𝓐.N
  entry_of r c = 𝓐.mul (𝓠.num (𝓝.neg i)) (𝓐.mul (gamma 𝓠 r) (gamma 𝓠 c))

  -- a state that is right after the list
  pub record Right (gs : List (Item Block)) (t : State 𝓝) : Type 0 where
    -- every entry of the covariance, and nought on the diagonal
    pub covariance : (r c : ℕ) → r < 2 * n → c < 2 * n → r ≢ c → get 𝓝 t r c ≡ after gs (entry_of r c)
    pub diagonal : (r : ℕ) → r < 2 * n → get 𝓝 t r r ≡ 𝓝.zero
    -- Z of every mode
    pub parity : (k : ℕ) → k < n → get 𝓝 t (2 * k) (2 * k + 1) ≡ after gs (𝓠.pauli z k)

  -- THE STATEMENT, of an engine: what it makes of a state by an item, the engine's or another's
  abbrev pub RightEngine : Engine 𝓝 → Type 0
  RightEngine e = (gs : List (Item Block)) → Right gs (in_order e (map (each operation) gs) (vacuum 𝓝))

-- of the engine, which asks `asked` whether a determinant is below zero: the textbook's, or its own
module _ {𝓝 : Ops} {below : 𝓝.N → Bool} (𝓔 : Exact 𝓝 below) {n : ℕ} {𝓐 : Ops} (𝓠 : Operators 𝓝 𝓔.i n 𝓐) (asked : Local 𝓝 → Bool) where
  abbrev pub EveryAngle : Type 0
  EveryAngle = RightEngine 𝓠 (effect 𝓝 below asked)

  -- the state after the list, from the vacuum
  abbrev pub state_after : List (Item (Block 𝓠)) → State 𝓝
  state_after gs = run 𝓝 below asked (map (each (operation 𝓠)) gs) (vacuum 𝓝)

-- THE WHOLE STATEMENT: over every exact numbers, of every number of qubits, with the textbook's determinant
abbrev pub AngleTheorem : Type 1
AngleTheorem = (𝓝 : Ops) (below : 𝓝.N → Bool) (𝓔 : Exact 𝓝 below) (n : ℕ) (𝓐 : Ops) (𝓠 : Operators 𝓝 𝓔.i n 𝓐) → EveryAngle 𝓔 𝓠 (odd 𝓝 below)

-- THE WHOLE STATEMENT with the engine's own determinant: over those that can divide
abbrev pub OwnAngleTheorem : Type 1
OwnAngleTheorem = (𝓝 : Ops) (below : 𝓝.N → Bool) (𝓔 : Exact 𝓝 below) (n : ℕ) (𝓐 : Ops) (𝓠 : Operators 𝓝 𝓔.i n 𝓐) (𝓣 : Tests 𝓝) → Divides 𝓝 𝓣
    → EveryAngle 𝓔 𝓠 (own_odd 𝓝 𝓣 below)
