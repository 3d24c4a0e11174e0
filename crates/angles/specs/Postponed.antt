-- WHAT IT MEANS THAT POSTPONED SIGNS ARE SIGNS, over any numbers: a plain engine postpones none, but turns the rows and the columns of all later modes at
-- once; what is read of the engine's state with its signs is the plain one's matrix, after every list of maps, whatever `odd` says of each. Definitions only.
-- A public promise rests on this.
use Rattle.std.specs.Prelude.{◌≡◌, Bool, true, false, ◌&&◌, List}
use Rattle.laws.specs.Lists.{in_order}
use Rattle.rings.specs.Rings.{Ops, IsRing}
use Rattle.formulas.specs.Engine.{Mat, Local, Item, applied, interaction, later, rows, cols, negated, run, vacuum, get}

module _ (𝓝 : Ops) (odd : Local 𝓝 → Bool) where
  abbrev pub plain : Local 𝓝 → Mat 𝓝 → Mat 𝓝
  plain o f = negated 𝓝 (λ i. odd o && later o i) (cols 𝓝 o (rows 𝓝 o f))

  abbrev pub plain_effect : Item (Local 𝓝) → Mat 𝓝 → Mat 𝓝
  plain_effect (applied o) f = plain o f
  plain_effect interaction f = f

  abbrev pub plainly : List (Item (Local 𝓝)) → Mat 𝓝 → Mat 𝓝
  plainly = in_order plain_effect

-- THE STATEMENT, of a test `below` that tells -1 from 1
abbrev pub Postponed : (𝓝 : Ops) → (𝓝.N → Bool) → Type 0
Postponed 𝓝 below = (odd : Local 𝓝 → Bool) (os : List (Item (Local 𝓝)))
    → get 𝓝 (run 𝓝 below odd os (vacuum 𝓝)) ≡ plainly 𝓝 odd os (get 𝓝 (vacuum 𝓝))

-- THE WHOLE STATEMENT: over every ring, with such a test
abbrev pub PostponedTheorem : Type 1
PostponedTheorem = (𝓝 : Ops) → IsRing 𝓝 → (below : 𝓝.N → Bool) → below 𝓝.one ≡ false → below (𝓝.neg 𝓝.one) ≡ true → Postponed 𝓝 below
