-- WHAT THE THEOREM ON SHOTS SAYS. The engine's shot over any numbers (crate `pfaffian`, Shot): modes are measured one after the other, and each projection
-- updates the entries of the modes after it. An outcome is one where its draw is not below p0, zero where it is (`ShotDraws`); that zero therefore has the
-- chance p0, and one 1 - p0, if draws are spread evenly from 0 to 1, is how this page reads them, and is not proved. The product of these chances is the
-- probability that quantum mechanics gives to all outcomes together. Definitions only. A public promise rests on this.
use Rattle.std.specs.Prelude.{◌≡◌, Bool, true, false, cond, ◌&&◌, List, [], ◌∷◌, map, ℕ, zero, suc, ◌+◌, ◌*◌, ◌≤◌, ltb}
use Rattle.laws.specs.Tables.{mode_at}
use Rattle.rings.specs.Rings.{Ops, sg}
use Rattle.formulas.specs.Numbers.{Exact, Tests, Divides}
use Rattle.formulas.specs.Engine.{Mat, Local, Item, each, run, vacuum, get}
use Rattle.formulas.specs.Determinants.{own_odd}
use Rattle.formulas.specs.Pfaffians.{up}
use Rattle.angles.specs.Qubits.{Operators}
use Rattle.angles.specs.Angles.{Block, after, state_after}
use Rattle.matchgates.specs.Maps.{Conjugate}
use Rattle.matchgates.specs.Gates.{Gate, computed, expected}
use Rattle.matchgates.specs.Circuits.{conjugated}
use Rattle.matchgates.specs.Fused.{Fusion, fusion_gate}
use Rattle.matchgates.specs.Renamed.{Step, meant}
use Rattle.matchgates.specs.Compiled.{Compiled}
use Rattle.state.specs.Modes.{is_permutation, qubit_at}
use Rattle.answers.specs.Marginals.{reads, all_read}
use Rattle.answers.specs.Asked.{through, ByTable}

-- what a shot asks of numbers beside quotients: `clamp(-1.0, 1.0)`, `<= 1e-300`, `<=`
pub record Draws (𝓝 : Ops) : Type 0 where
  pub clamp : 𝓝.N → 𝓝.N
  pub tiny : 𝓝.N → Bool
  pub le : 𝓝.N → 𝓝.N → Bool

module _ (𝓝 : Ops) (half : 𝓝.N) (𝓣 : Tests 𝓝) (𝓓 : Draws 𝓝) where
  -- `mab`: Z of mode k, within its bounds
  abbrev pub mab_of : Mat 𝓝 → ℕ → 𝓝.N
  mab_of m k = 𝓓.clamp (m (2 * k) (2 * k + 1))

  -- `p0`
  abbrev pub p0_of : 𝓝.N → 𝓝.N
  p0_of mab = 𝓝.mul half (𝓝.add 𝓝.one mab)

  -- `one`: the outcome of mode k for a draw
  abbrev pub drawn : Mat 𝓝 → ℕ → 𝓝.N → Bool
  drawn m k draw = 𝓓.le (p0_of (mab_of m k)) draw

  -- the chance of an outcome
  abbrev pub chance_of : 𝓝.N → Bool → 𝓝.N
  chance_of mab false = p0_of mab
  chance_of mab true = 𝓝.add 𝓝.one (𝓝.neg (p0_of mab))

  -- `s`: -1.0 for the outcome one, else 1.0
  abbrev pub spin_of : Bool → 𝓝.N
  spin_of one = sg 𝓝 one 𝓝.one

  -- `den`
  abbrev pub den : Mat 𝓝 → ℕ → Bool → 𝓝.N
  den m k one = 𝓝.add 𝓝.one (𝓝.mul (spin_of one) (mab_of m k))

  -- `v`: the new entry (c, e), right of the diagonal: m[c][e] + f * (mcb * mea - mca * meb), where a = 2k and b = 2k + 1
  abbrev pub projected : Mat 𝓝 → 𝓝.N → ℕ → Mat 𝓝
  projected m f k c e =
      𝓝.add (m c e) (𝓝.mul f (𝓝.add (𝓝.mul (m c (2 * k + 1)) (m e (2 * k))) (𝓝.neg (𝓝.mul (m c (2 * k)) (m e (2 * k + 1))))))

  -- the entries after mode k: v right of the diagonal, -v across it
  abbrev pub updated : Mat 𝓝 → 𝓝.N → ℕ → Mat 𝓝
  updated m f k c e =
      cond (ltb (2 * k + 1) c && ltb (2 * k + 1) e)
      (cond (ltb c e) (projected m f k c e) (cond (ltb e c) (𝓝.neg (projected m f k e c)) (m c e)))
      (m c e)

  -- the matrix after mode k: nothing is updated where den <= 1e-300
  abbrev pub after_mode : Mat 𝓝 → ℕ → Bool → Mat 𝓝
  after_mode m k one = cond (𝓓.tiny (den m k one)) m (updated m (𝓣.div (spin_of one) (den m k one)) k)

  -- the outcomes of n modes from k on. Mode k uses draw t k, whatever its den
  unfoldable pub shot : Mat 𝓝 → ℕ → ℕ → (ℕ → 𝓝.N) → List Bool
  shot m k zero t = []
  shot m k (suc n) t = let one = drawn m k (t k) in one ∷ shot (after_mode m k one) (suc k) n t

  -- the chance of the outcomes o of n modes from k on, mode by mode
  unfoldable pub chances : Mat 𝓝 → ℕ → ℕ → (ℕ → Bool) → 𝓝.N
  chances m k zero o = 𝓝.one
  chances m k (suc n) o = 𝓝.mul (chance_of (mab_of m k) (o k)) (chances (after_mode m k (o k)) (suc k) n o)

  -- the draws t give the outcomes o: mode by mode, after the outcomes of o before it
  unfoldable pub Drawing : Mat 𝓝 → ℕ → ℕ → (ℕ → 𝓝.N) → (ℕ → Bool) → Type 0
  Drawing m k zero t o = Unit {0}
  Drawing m k (suc n) t o = (drawn m k (t k) ≡ o k) × Drawing (after_mode m k (o k)) (suc k) n t o

  -- THE STATEMENT on draws: a shot gives the outcomes o exactly if its draws do
  abbrev pub ShotDraws : Type 0
  ShotDraws = (m : Mat 𝓝) (k n : ℕ) (t : ℕ → 𝓝.N) (o : ℕ → Bool)
      → (Drawing m k n t o → shot m k n t ≡ map o (up k n)) × (shot m k n t ≡ map o (up k n) → Drawing m k n t o)

  -- on the way nothing is clamped, and no outcome is (nearly) impossible
  unfoldable pub Regular : Mat 𝓝 → ℕ → ℕ → (ℕ → Bool) → Type 0
  Regular m k zero o = Unit {0}
  Regular m k (suc n) o =
      (mab_of m k ≡ m (2 * k) (2 * k + 1)) × (𝓓.tiny (den m k (o k)) ≡ false) × Regular (after_mode m k (o k)) (suc k) n o

-- what is not tiny is not zero
abbrev pub NotNull : {𝓝 : Ops} → Tests 𝓝 → Draws 𝓝 → Type 0
NotNull {𝓝} 𝓣 𝓓 = (y : 𝓝.N) → 𝓓.tiny y ≡ false → 𝓣.null y ≡ false

-- THE STATEMENT, of the first p modes
module _ {𝓝 : Ops} (𝓣 : Tests 𝓝) (𝓓 : Draws 𝓝) {below : 𝓝.N → Bool} (𝓔 : Exact 𝓝 below) {n : ℕ} {𝓐 : Ops} (𝓠 : Operators 𝓝 𝓔.i n 𝓐) where
  abbrev pub ShotsRight : (Local 𝓝 → Bool) → Type 0
  ShotsRight odd = NotNull 𝓣 𝓓 → (gs : List (Item (Block 𝓠))) (o : ℕ → Bool) (p : ℕ) → p ≤ n
      → Regular 𝓝 𝓔.half 𝓣 𝓓 (get 𝓝 (state_after 𝓔 𝓠 odd gs)) 0 p o
      → chances 𝓝 𝓔.half 𝓣 𝓓 (get 𝓝 (state_after 𝓔 𝓠 odd gs)) 0 p o ≡ after 𝓠 gs (all_read 𝓔 𝓠 o (up 0 p))

-- the chances of outcomes from a covariance e, read by ι among the numbers of quantum mechanics, are what v gives to all of them together; o q is the
-- outcome of qubit q, of whatever mode the table gives it
abbrev pub RightChances : {𝓡 : Ops} → Tests 𝓡 → Draws 𝓡 → 𝓡.N → {𝓝 : Ops} → (𝓡.N → 𝓝.N) → {below : 𝓝.N → Bool} (𝓔 : Exact 𝓝 below) {n : ℕ} {𝓐 : Ops}
    → Operators 𝓝 𝓔.i n 𝓐 → List ℕ → Mat 𝓡 → (𝓐.N → 𝓝.N) → Type 0
RightChances {𝓡} 𝓣 𝓓 half ι 𝓔 {n} {𝓐} 𝓠 modes e v = (o : ℕ → Bool) → Regular 𝓡 half 𝓣 𝓓 e 0 n (λ k. o (qubit_at n modes k))
    → ι (chances 𝓡 half 𝓣 𝓓 e 0 n (λ k. o (qubit_at n modes k))) ≡ v (through 𝓐 (λ q. reads 𝓔 𝓠 (o q) q) n)

-- THE STATEMENT by qubits, of all n: after every list of blocks on the modes,
module _ {𝓝 : Ops} (𝓣 : Tests 𝓝) (𝓓 : Draws 𝓝) {below : 𝓝.N → Bool} (𝓔 : Exact 𝓝 below) (odd : Local 𝓝 → Bool) where
  abbrev pub ShotsByQubit : Type 1
  ShotsByQubit = NotNull 𝓣 𝓓 → (n : ℕ) (𝓐 : Ops) (𝓠 𝓦 : Operators 𝓝 𝓔.i n 𝓐) (modes : List ℕ) → is_permutation n modes ≡ true → ByTable 𝓠 𝓦 modes
      → (gs : List (Item (Block 𝓦))) → RightChances 𝓣 𝓓 𝓔.half (λ s. s) 𝓔 𝓠 modes (get 𝓝 (state_after 𝓔 𝓦 odd gs)) (after 𝓦 gs)

  -- and after every list of gates on them, by their matrices
  abbrev pub GateShots : Conjugate 𝓝 𝓔.i → Type 1
  GateShots 𝓙 = NotNull 𝓣 𝓓 → (n : ℕ) (𝓐 : Ops) (𝓠 𝓦 : Operators 𝓝 𝓔.i n 𝓐) (modes : List ℕ) → is_permutation n modes ≡ true → ByTable 𝓠 𝓦 modes
      → (gs : List (Item (Gate 𝓔 𝓙 n)))
      → RightChances 𝓣 𝓓 𝓔.half (λ s. s) 𝓔 𝓠 modes (get 𝓝 (run 𝓝 below odd (map (each computed) gs) (vacuum 𝓝))) (expected 𝓔 𝓙 𝓦 gs)

  -- and after every circuit that has become blocks on them: the circuit's own, of its qubits
  abbrev pub CircuitShots : Conjugate 𝓝 𝓔.i → Type 1
  CircuitShots 𝓙 = NotNull 𝓣 𝓓 → (n : ℕ) (𝓐 : Ops) (𝓠 𝓦 : Operators 𝓝 𝓔.i n 𝓐) (modes : List ℕ) → is_permutation n modes ≡ true
      → (gs hs : List (Step 𝓝)) (bs : List (Item (Fusion 𝓔 𝓙 n))) (l : ℕ → ℕ) → Compiled 𝓔 𝓙 𝓠 𝓦 gs hs bs l (mode_at modes)
      → RightChances 𝓣 𝓓 𝓔.half (λ s. s) 𝓔 𝓠 modes (get 𝓝 (run 𝓝 below odd (map (each computed) (map (each fusion_gate) bs)) (vacuum 𝓝)))
      (λ a. 𝓠.vac (conjugated 𝓔 𝓙 𝓠 (map meant gs) a))

-- THE WHOLE STATEMENT: over all exact numbers that divide, of the engine with its own elimination
pub record ShotTheorem : Type 1 where
  pub draws : (𝓝 : Ops) (half : 𝓝.N) (𝓣 : Tests 𝓝) (𝓓 : Draws 𝓝) → ShotDraws 𝓝 half 𝓣 𝓓
  pub by-mode : {𝓝 : Ops} {𝓣 : Tests 𝓝} → Divides 𝓝 𝓣 → (𝓓 : Draws 𝓝) {below : 𝓝.N → Bool} (𝓔 : Exact 𝓝 below) {n : ℕ} {𝓐 : Ops}
      (𝓠 : Operators 𝓝 𝓔.i n 𝓐) → ShotsRight 𝓣 𝓓 𝓔 𝓠 (own_odd 𝓝 𝓣 below)
  pub by-qubit : {𝓝 : Ops} {𝓣 : Tests 𝓝} → Divides 𝓝 𝓣 → (𝓓 : Draws 𝓝) {below : 𝓝.N → Bool} (𝓔 : Exact 𝓝 below)
      → ShotsByQubit 𝓣 𝓓 𝓔 (own_odd 𝓝 𝓣 below)
  pub after-gates : {𝓝 : Ops} {𝓣 : Tests 𝓝} → Divides 𝓝 𝓣 → (𝓓 : Draws 𝓝) {below : 𝓝.N → Bool} (𝓔 : Exact 𝓝 below) (𝓙 : Conjugate 𝓝 𝓔.i)
      → GateShots 𝓣 𝓓 𝓔 (own_odd 𝓝 𝓣 below) 𝓙
  pub after-circuits : {𝓝 : Ops} {𝓣 : Tests 𝓝} → Divides 𝓝 𝓣 → (𝓓 : Draws 𝓝) {below : 𝓝.N → Bool} (𝓔 : Exact 𝓝 below) (𝓙 : Conjugate 𝓝 𝓔.i)
      → CircuitShots 𝓣 𝓓 𝓔 (own_odd 𝓝 𝓣 below) 𝓙
