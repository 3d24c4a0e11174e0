-- Where the events stand in the lent work. Gate i has record i: the floats, of which the first are its matrix, and the marks, its kind and its slots.
-- What the code promises is said of the event that a record holds, `event_at`. Assumes nothing. Only inner functions rest on this.
use Rattle.std.specs.Prelude.{◌≡◌, Bool, false, cond, ◌||◌, List, Option, Some, None, ℕ, ◌+◌, ◌-◌, ◌<◌, ◌≤◌, eqb, length, Float}
use Rattle.laws.specs.Views.{between, seek, Step, Pass}
use Rattle.gate.specs.Lent.{mat2_at, mat4_at, store2_of, store4_of}
use Rattle.gate.specs.declared.matrix.Mat2.{Mat2}
use Rattle.gate.specs.declared.matrix.Mat4.{Mat4}
use Rattle.work.specs.Rows.{record_at}
use Rattle.work.specs.Marks.{mark_at, Only}
use Rattle.work.specs.Columns.{kind_column, a_column, b_column, c_column, one_kind, two_kind, three_kind}
use Rattle.fuse.specs.Events.{Event, gone, one, two, three, clear}
use Rattle.fuse.specs.Fuse.{grown}

-- the slots of the gates from i on are slots
pub record Within (us : List ℕ) (i g n : ℕ) : Type 0 where
  pub a : (j : ℕ) → i ≤ j → j < g → mark_at us j a_column < n
  pub b : (j : ℕ) → i ≤ j → j < g → mark_at us j b_column < n
  pub c : (j : ℕ) → i ≤ j → j < g → mark_at us j c_column < n

-- ---- the matrix of a record

abbrev pub matrix2_of : List Float → ℕ → Mat2
matrix2_of xs i = mat2_at xs (record_at i)

abbrev pub matrix4_of : List Float → ℕ → Mat4
matrix4_of xs i = mat4_at xs (record_at i)

abbrev pub put_matrix2_of : List Float → ℕ → Mat2 → List Float
put_matrix2_of xs i m = store2_of xs (record_at i) m

abbrev pub put_matrix4_of : List Float → ℕ → Mat4 → List Float
put_matrix4_of xs i m = store4_of xs (record_at i) m

-- ---- the event of a record

abbrev pub event : ℕ → ℕ → ℕ → ℕ → Mat2 → Mat4 → Event
event k a b c m u = cond (eqb k one_kind) (one a m) (cond (eqb k two_kind) (two a b u) (cond (eqb k three_kind) (three a b c) gone))

unfoldable pub event_at : List Float → List ℕ → ℕ → Event
event_at xs us i =
    event (mark_at us i kind_column) (mark_at us i a_column) (mark_at us i b_column) (mark_at us i c_column) (matrix2_of xs i) (matrix4_of xs i)

-- its tests, on the marks alone
abbrev pub one_test : ℕ → ℕ → ℕ → Bool
one_test k a w = cond (eqb k one_kind) (eqb a w) false

abbrev pub block_test : ℕ → ℕ → ℕ → ℕ → ℕ → Bool
block_test k a b c w = cond (eqb k two_kind) (eqb a w || eqb b w) (cond (eqb k three_kind) (eqb a w || (eqb b w || eqb c w)) false)

unfoldable pub one_at : List ℕ → ℕ → ℕ → Bool
one_at us w i = one_test (mark_at us i kind_column) (mark_at us i a_column) w

unfoldable pub block_at : List ℕ → ℕ → ℕ → Bool
block_at us w i = block_test (mark_at us i kind_column) (mark_at us i a_column) (mark_at us i b_column) (mark_at us i c_column) w

abbrev pub meets_at : List ℕ → ℕ → ℕ → ℕ → Bool
meets_at us a b i = block_at us a i || block_at us b i

abbrev pub touches_at : List ℕ → ℕ → ℕ → Bool
touches_at us w i = one_at us w i || block_at us w i

-- what a search back found, as `seek` counts it: one more than the index, or 0
abbrev pub sought : Option ℕ → ℕ
sought None = 0
sought (Some j) = j + 1

-- a search back from i: the last index below i that passes, if there is one
pub record Found (q : ℕ → Bool) (i : ℕ) (r : Option ℕ) : Type 0 where
  pub is : sought r ≡ seek q i
  pub within : sought r ≤ i

-- ---- what the passes promise

-- the passes change kinds, and no other mark
abbrev pub kinds : ℕ → Bool
kinds c = eqb c kind_column

-- from k up to i the one-qubit gates on a or b are taken away
pub record Cleared (us vs : List ℕ) (k i a b : ℕ) : Type 0 where
  pub only : Only kinds us vs
  pub inside : (xs : List Float) (j : ℕ) → k ≤ j → j < i → event_at xs vs j ≡ clear a b (event_at xs us j)
  pub below : (xs : List Float) (j : ℕ) → j < k → event_at xs vs j ≡ event_at xs us j
  pub above : (xs : List Float) (j : ℕ) → i ≤ j → event_at xs vs j ≡ event_at xs us j

-- the block t on (c, d) takes the one-qubit gates on its slots from t + 1 up to i, and then the gate i, whose matrix in its orientation is m
pub record Joined (xs ys : List Float) (us vs : List ℕ) (t i c d : ℕ) (m : Mat4) : Type 0 where
  pub floats : ys ≡ put_matrix4_of xs t (grown c d m (matrix4_of xs t) (between (event_at xs us) (t + 1) (i - (t + 1))))
  pub only : Only kinds us vs
  pub inside : (zs : List Float) (j : ℕ) → t + 1 ≤ j → j < i → event_at zs vs j ≡ clear c d (event_at zs us j)
  pub below : (zs : List Float) (j : ℕ) → j < t + 1 → event_at zs vs j ≡ event_at zs us j
  pub here : (zs : List Float) → event_at zs vs i ≡ gone
  pub above : (zs : List Float) (j : ℕ) → i < j → event_at zs vs j ≡ event_at zs us j

-- event i is put to those before it by f
pub record Stepped (f : Event → List Event → List Event) (xs ys : List Float) (us vs : List ℕ) (i : ℕ) : Type 0 where
  pub size : length ys ≡ length xs
  pub only : Only kinds us vs
  pub step : Step f (event_at xs us) (event_at ys vs) i

-- the first i events have gone through F
pub record Passed (F : List Event → List Event) (xs ys : List Float) (us vs : List ℕ) (i : ℕ) : Type 0 where
  pub size : length ys ≡ length xs
  pub only : Only kinds us vs
  pub pass : Pass F (event_at xs us) (event_at ys vs) i
