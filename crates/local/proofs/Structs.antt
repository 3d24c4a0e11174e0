-- A column that is read to a struct, mapped and stored is a turn of the rows step. Assumes nothing.
use mathlib.Core.Path.{◌≡◌}
use mathlib.Core.List.{List}
use Prim.Native.Nat.{ℕ}
use native.Mathlib.Nat.{add-zero}
use lib.Ieee.{Float}
use Rattle.laws.specs.Slices.{stores}
use Rattle.laws.specs.Matrix.{put_column}
use Rattle.laws.specs.Maps.{dot, column_turn}
use Rattle.real.specs.Maps.{row2, row4, local2, local4}
use Rattle.real.specs.declared.maps.Map2.{Map2}
use Rattle.real.specs.declared.maps.Map4.{Map4}
use Rattle.local.specs.Parts.{under2, under4, column2_of, column4_of}

module _ (s dim c : ℕ) (m : List Float) where
  pub turn2 : (q : Map2) → put_column 2 dim s c (row2 (under2 q (column2_of dim m s c))) m ≡ column_turn (local2 s q) dim c m
  unfolding stores dot
  turn2 q = rw add-zero

  pub turn4 : (q : Map4) → put_column 4 dim s c (row4 (under4 q (column4_of dim m s c))) m ≡ column_turn (local4 s q) dim c m
  unfolding stores dot
  turn4 q = rw add-zero
