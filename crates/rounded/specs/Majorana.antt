-- WHAT IT MEANS THAT THE ENGINE'S MAJORANA MAP IS THE FORMULA, ROUNDED: `majorana_map1_of` and `majorana_map2_of` of crate `majorana`, by their maps and their
-- residuals, are `entry_of` and `residual_of` of crate `matchgates`, at binary64. Any matrix is meant, of a gate or not, and every bit. Definitions only.
-- A public promise rests on this.
use Rattle.std.specs.Prelude.{◌≡◌, ℕ, ◌<◌}
use Rattle.real.specs.Maps.{entry2, entry4}
use Rattle.num.specs.Order.{max_of}
use Rattle.num.specs.Root.{sqrt_of}
use Rattle.gate.specs.declared.matrix.Mat2.{Mat2}
use Rattle.gate.specs.declared.matrix.Mat4.{Mat4}
use Rattle.majorana.specs.Majorana.{majorana_map1_of, majorana_map2_of}
use Rattle.matchgates.specs.Words.{Roots, entry_of, residual_of}
use Rattle.rounded.specs.Floats.{floats, float_tests}
use Rattle.rounded.specs.Matrices.{in_mat2, in_mat4}

-- what a residual asks
abbrev pub float_roots : Roots floats
float_roots = record { root = sqrt_of; larger = max_of }

-- of one mode, and of two
pub record RoundedMaps : Type 0 where
  pub entry_one : (u : Mat2) (a b : ℕ) → a < 2 → b < 2 → entry2 (majorana_map1_of u).q a b ≡ entry_of floats float_tests 1 (in_mat2 u) a b
  pub entry_two : (u : Mat4) (a b : ℕ) → a < 4 → b < 4 → entry4 (majorana_map2_of u).q a b ≡ entry_of floats float_tests 2 (in_mat4 u) a b
  pub residual_one : (u : Mat2) → (majorana_map1_of u).residual ≡ residual_of floats float_tests float_roots 1 (in_mat2 u) 2
  pub residual_two : (u : Mat4) → (majorana_map2_of u).residual ≡ residual_of floats float_tests float_roots 2 (in_mat4 u) 4
