-- WHAT THE THEOREM ON PRODUCTS SAYS. The engine's Z product over any numbers (crate `queries`, Products): the Pfaffian, by its own elimination, of the rows and
-- columns that are the modes'. It is the quantum-mechanical value, after every list of blocks, at every angle. Definitions only.
-- A public promise rests on this.
use Rattle.std.specs.Prelude.{◌≡◌, Bool, List, ℕ}
use Rattle.rings.specs.Rings.{Ops}
use Rattle.formulas.specs.Numbers.{Exact, Tests, Divides}
use Rattle.formulas.specs.Engine.{Mat, Local, Item, get}
use Rattle.formulas.specs.Determinants.{own_odd}
use Rattle.formulas.specs.Pfaffians.{AllBelow, Distinct, own_pfaffian}
use Rattle.angles.specs.Qubits.{Operators}
use Rattle.angles.specs.Angles.{Block, after, state_after}
use Rattle.angles.specs.Wick.{parities}
use Rattle.queries.specs.Products.{index_of, dim_left}

-- the matrix e, only the rows and columns of the modes l
abbrev pub restricted : {A : Type 0} → (ℕ → ℕ → A) → List ℕ → ℕ → ℕ → A
restricted e l r c = e (index_of l r) (index_of l c)

module _ (𝓝 : Ops) (𝓣 : Tests 𝓝) where
  unfoldable pub product_of : Mat 𝓝 → List ℕ → 𝓝.N
  product_of e l = own_pfaffian 𝓝 𝓣 (dim_left l) (restricted e l)

-- THE STATEMENT, of modes that differ
module _ {𝓝 : Ops} (𝓣 : Tests 𝓝) {below : 𝓝.N → Bool} (𝓔 : Exact 𝓝 below) {n : ℕ} {𝓐 : Ops} (𝓠 : Operators 𝓝 𝓔.i n 𝓐) (odd : Local 𝓝 → Bool) where
  abbrev pub OwnProducts : Type 0
  OwnProducts = (gs : List (Item (Block 𝓠))) (ks : List ℕ) → AllBelow n ks → Distinct ks
      → product_of 𝓝 𝓣 (get 𝓝 (state_after 𝓔 𝓠 odd gs)) ks ≡ after 𝓠 gs (parities 𝓠 ks)

-- THE WHOLE STATEMENT: over all exact numbers that divide, of the engine with its own elimination
abbrev pub ProductTheorem : Type 1
ProductTheorem = (𝓝 : Ops) (𝓣 : Tests 𝓝) → Divides 𝓝 𝓣 → (below : 𝓝.N → Bool) (𝓔 : Exact 𝓝 below) (n : ℕ) (𝓐 : Ops) (𝓠 : Operators 𝓝 𝓔.i n 𝓐)
    → OwnProducts 𝓣 𝓔 𝓠 (own_odd 𝓝 𝓣 below)
