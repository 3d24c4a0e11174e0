-- Laws of the matrix definitions that hold for all entries, NaN and infinities too: a time product grows at its end, and naming
-- the qubits in the other order twice is nothing. Assumes nothing.
use mathlib.Core.Path.{◌≡◌, refl}
use mathlib.Core.List.{List, [], ◌∷◌, ◌++◌}
use Rattle.gate.specs.Matrix.{id2, time_step_of, time_product_from, time_product_of, mat4_swap_qubits_of}
use Rattle.gate.specs.declared.matrix.Mat2.{Mat2}
use Rattle.gate.specs.declared.matrix.Mat4.{Mat4}

pub time-more : (acc : Mat2) (gs : List Mat2) (g : Mat2) → time_product_from acc (gs ++ (g ∷ [])) ≡ time_step_of (time_product_from acc gs) g
unfolding time_product_from
time-more acc [] g = refl
time-more acc (h ∷ gs) g = time-more (time_step_of acc h) gs g

-- a loop that takes one gate more
pub time-product-more : (gs : List Mat2) (g : Mat2) → time_product_of (gs ++ (g ∷ [])) ≡ time_step_of (time_product_of gs) g
unfolding time_product_of
time-product-more gs g = time-more id2 gs g

pub swap-swap : (m : Mat4) → mat4_swap_qubits_of (mat4_swap_qubits_of m) ≡ m
unfolding mat4_swap_qubits_of
swap-swap m = refl
