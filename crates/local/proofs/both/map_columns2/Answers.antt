-- `local::both::map_columns2` meets its contract: stores by rows are those by columns in another order. Assumes nothing.
use mathlib.Core.Path.{◌≡◌, sym, ap, ◌∙◌}
use mathlib.Core.List.{List}
use Prim.Native.Nat.{ℕ, ◌+◌, ◌*◌, ◌≤◌}
use native.Mathlib.Nat.{add-zero}
use native.Mathlib.Omega.{arith}
use lib.ListN.{length, set}
use lib.Seq.{set_comm}
use lib.Ieee.{Float}
use Rattle.laws.specs.Slices.{stores}
use Rattle.laws.specs.Matrix.{at, put_column}
use Rattle.laws.specs.Maps.{column_turn}
use Rattle.laws.proofs.Matrix.{row_of}
use Rattle.laws.proofs.Columns.{column-other}
use Rattle.real.specs.Maps.{row2, local2}
use Rattle.real.specs.declared.maps.Map2.{Map2}
use Rattle.real.specs.declared.maps.Real2.{Real2}
use Rattle.local.specs.Parts.{under2, column2_of}
use Rattle.local.proofs.Structs.{turn2}
use Rattle.local.proofs.both.map_columns2.Goals as goal

-- four stores by rows, of what was read before them

module _ (dim s c : ℕ) (q : Map2) (m : List Float) (band : s + 2 ≤ dim) (near : c + 2 ≤ dim) (room : dim * dim ≤ length m) where
  v : Real2
  v = under2 q (column2_of dim m s c)

  w : Real2
  w = under2 q (column2_of dim m s (c + 1))

  first : List Float
  first = column_turn (local2 s q) dim c m

  -- the second column is not touched by the first turn
  other : (r : ℕ) → at dim first r (c + 1) ≡ at dim m r (c + 1)
  unfolding first
  other r = column-other dim s 2 c _ m (omega arith) band r (c + 1) (omega arith) (λ e. omega arith)

  kept : under2 q (column2_of dim first s (c + 1)) ≡ w
  unfolding w
  kept = λ i. under2 q (record { x0 = other s i; x1 = other (s + 1) i })

  -- the two stores in the middle change places
  crossed : set (set (set (set m (s * dim + c) v.x0) (s * dim + (c + 1)) w.x0) ((s + 1) * dim + c) v.x1) ((s + 1) * dim + (c + 1)) w.x1
      ≡ put_column 2 dim s (c + 1) (row2 w) (put_column 2 dim s c (row2 v) m)
  unfolding stores
  crossed =
      rw add-zero
      (ap (λ l. set l ((s + 1) * dim + (c + 1)) w.x1)
      (set_comm (set m (s * dim + c) v.x0) (s * dim + (c + 1)) ((s + 1) * dim + c) w.x0 v.x1
      (λ e. omega (arith, row_of dim s (c + 1) (s + 1) c (omega arith) (omega arith) e))))

  by_rows : (x y : Real2) (m₁ m₂ : List Float) → x ≡ v → y ≡ w → m₁ ≡ set (set m (s * dim + c) x.x0) (s * dim + (c + 1)) y.x0
      → m₂ ≡ set (set m₁ ((s + 1) * dim + c) x.x1) ((s + 1) * dim + (c + 1)) y.x1
      → m₂ ≡ column_turn (local2 s q) dim (c + 1) (column_turn (local2 s q) dim c m)
  unfolding v first
  by_rows x y m₁ m₂ ex ey e₁ e₂ =
      e₂
      ∙ (λ i. set (set (e₁ i) ((s + 1) * dim + c) x.x1) ((s + 1) * dim + (c + 1)) y.x1)
      ∙ (λ i. set (set (set (set m (s * dim + c) (ex i).x0) (s * dim + (c + 1)) (ey i).x0) ((s + 1) * dim + c) (ex i).x1) ((s + 1) * dim + (c + 1)) (ey i).x1)
      ∙ crossed
      ∙ (λ i. put_column 2 dim s (c + 1) (row2 w) (turn2 s dim c m q i))
      ∙ (λ i. put_column 2 dim s (c + 1) (row2 (sym kept i)) first)
      ∙ turn2 s dim (c + 1) first q

pub returns : goal.returns
unfolding v w
returns c =
    by_rows c.args.dim c.args.s c.args.c c.args.q c.args.m.now c.requires.map_rows.band c.requires.columns.band c.requires.map_rows.room _ _ _ _
    (c.mapped2-v.ensures ∙ ap (under2 c.args.q) c.column2.ensures)
    (c.mapped2-w.ensures ∙ ap (under2 c.args.q) c.column2-2.ensures)
    c.put2.ensures
    c.put2-2.ensures
