-- Tables: functions on the numbers, such as what stands at each slot, with one place changed or two places exchanged. A list is such a table too,
-- by `get_or`; the mode table is one. Assumes nothing. A public promise rests on this.
use Rattle.std.specs.Prelude.{cond, List, ℕ, eqb, get_or}

-- f, but v at w
abbrev pub update : {A : Type 0} → ℕ → A → (ℕ → A) → ℕ → A
update w v f x = cond (eqb x w) v (f x)

-- b for a and a for b
abbrev pub exchanged : ℕ → ℕ → ℕ → ℕ
exchanged a b x = cond (eqb x a) b (cond (eqb x b) a x)

-- f with what it has at a and at b exchanged
abbrev pub exchange : {A : Type 0} → ℕ → ℕ → (ℕ → A) → ℕ → A
exchange a b f x = f (exchanged a b x)

-- the mode of qubit q: entry q of the mode table
abbrev pub mode_at : List ℕ → ℕ → ℕ
mode_at modes q = get_or modes q 0
