-- THE ENGINE'S FORMULAS OVER ANY NUMBERS: those of crates `laws` (Maps, Steps) and `local` (State, Apply), with the operations of IEEE binary64 made a
-- parameter. That at binary64 they are the engine's, bit for bit, is a theorem (crate `rounded`). Definitions only. A public promise rests on this.
use Rattle.std.specs.Prelude.{Bool, cond, ◌&&◌, List, ℕ, zero, suc, ◌+◌, ◌-◌, ◌%◌, eqb, leb, ltb}
use Rattle.laws.specs.Lists.{in_order}
use Rattle.rings.specs.Rings.{Ops, sg}

abbrev pub Mat : Ops → Type 0
Mat 𝓝 = ℕ → ℕ → 𝓝.N

-- a map of `width` indices, from `start` on
pub record Local (𝓝 : Ops) : Type 0 where
  pub start : ℕ
  pub width : ℕ
  pub map : Mat 𝓝

-- the covariance m with its postponed signs d
pub record State (𝓝 : Ops) : Type 0 where
  pub m : Mat 𝓝
  pub d : ℕ → 𝓝.N

-- an item of a list of operations: something that is applied, or an interaction, which the engine passes over
pub data Item (A : Type 0) : Type 0 where
  applied : A → Item A
  interaction : Item A

abbrev pub each : {A B : Type 0} → (A → B) → Item A → Item B
each f (applied x) = applied (f x)
each f interaction = interaction

-- an engine, by what an item does to the state
abbrev pub Engine : Ops → Type 0
Engine 𝓝 = Item (Local 𝓝) → State 𝓝 → State 𝓝

-- ---- tests on indices

module _ {𝓝 : Ops} (o : Local 𝓝) where
  -- i is one of the map's indices
  abbrev pub inside : ℕ → Bool
  inside i = leb o.start i && ltb i (o.start + o.width)

  -- the index i is of a later mode than the map's
  abbrev pub later : ℕ → Bool
  later i = leb (o.start + o.width) i

-- ---- sums, rows, columns

module _ (𝓝 : Ops) where
  -- q 0 * v 0 + .. + q (k - 1) * v (k - 1)
  unfoldable pub dot : (ℕ → 𝓝.N) → (ℕ → 𝓝.N) → ℕ → 𝓝.N
  dot q v zero = 𝓝.zero
  dot q v (suc k) = 𝓝.add (dot q v k) (𝓝.mul (q k) (v k))

  abbrev pub under : ℕ → Mat 𝓝 → (ℕ → 𝓝.N) → ℕ → 𝓝.N
  under k q v i = dot (q i) v k

  abbrev pub rows : Local 𝓝 → Mat 𝓝 → Mat 𝓝
  rows o m r c = cond (inside o r) (under o.width o.map (λ j. m (o.start + j) c) (r - o.start)) (m r c)

  abbrev pub cols : Local 𝓝 → Mat 𝓝 → Mat 𝓝
  cols o m r c = cond (inside o c) (under o.width o.map (λ j. m r (o.start + j)) (c - o.start)) (m r c)

  -- the rows and the columns that b marks are negated
  abbrev pub negated : (ℕ → Bool) → Mat 𝓝 → Mat 𝓝
  negated b f r c = sg 𝓝 (b r) (sg 𝓝 (b c) (f r c))

  -- ---- a map applied, with its sign turn postponed

  -- `below`: a number is below zero
  module _ (below : 𝓝.N → Bool) where
    abbrev pub unsettled : Local 𝓝 → (ℕ → 𝓝.N) → ℕ → Bool
    unsettled o d i = inside o i && below (d i)

    abbrev pub settled : Local 𝓝 → State 𝓝 → Mat 𝓝
    settled o t = negated (unsettled o t.d) t.m

    abbrev pub calm : Local 𝓝 → (ℕ → 𝓝.N) → ℕ → 𝓝.N
    calm o d i = cond (unsettled o d i) 𝓝.one (d i)

    -- `odd`: the determinant of a map is below zero
    module _ (odd : Local 𝓝 → Bool) where
      abbrev pub step : Local 𝓝 → State 𝓝 → State 𝓝
      step o t = record {
        m = cols o (rows o (settled o t));
        d = λ i. cond (odd o && later o i) (𝓝.neg (calm o t.d i)) (calm o t.d i);
      }

      abbrev pub effect : Engine 𝓝
      effect (applied o) t = step o t
      effect interaction t = t

      abbrev pub run : List (Item (Local 𝓝)) → State 𝓝 → State 𝓝
      run = in_order effect

  -- 1 and -1 beside the diagonal, in pairs, and all signs 1
  abbrev pub vacuum : State 𝓝
  vacuum = record {
    m = λ r c. cond (eqb (r % 2) 0 && eqb c (r + 1)) 𝓝.one (cond (eqb (c % 2) 0 && eqb r (c + 1)) (𝓝.neg 𝓝.one) 𝓝.zero);
    d = λ i. 𝓝.one;
  }

  -- an entry of the covariance, with its signs
  abbrev pub get : State 𝓝 → Mat 𝓝
  get t r c = 𝓝.mul (𝓝.mul (t.m r c) (t.d r)) (t.d c)
