-- A matrix that is stored in a slice is read back, and what lies beside it stays. Rows of eight floats first; the matrices are made of them.
-- Assumes nothing.
use mathlib.Core.Path.{◌≡◌, ◌∙◌}
use mathlib.Core.Logic.{◌⊎◌, inl, inr}
use mathlib.Core.List.{List}
use Prim.Native.Nat.{ℕ, ◌+◌, ◌≤◌, ◌<◌}
use native.Mathlib.Omega.{arith}
use lib.ListN.{length, get_or}
use lib.Ieee.{Float, nan}
use Rattle.laws.proofs.Stores.{length-stores, row-own, row_first, row_before, row-after}
use Rattle.gate.specs.Matrix.{mat4}
use Rattle.gate.specs.Lent.{row_at, mat2_at, mat4_at, floats, flat, folded, store_row_of, store2_of, store4_of}
use Rattle.gate.specs.declared.matrix.Row4.{Row4}
use Rattle.gate.specs.declared.matrix.Mat2.{Mat2}
use Rattle.gate.specs.declared.matrix.Mat4.{Mat4}

-- ---- a row

module _ (l : List Float) (p : ℕ) (r : Row4) where
  pub length-row : length (store_row_of l p r) ≡ length l
  unfolding store_row_of
  length-row = length-stores (λ i. p + i) (floats r) l 8

  pub row_back : p + 8 ≤ length l → row_at (store_row_of l p r) p ≡ r
  unfolding store_row_of row_at
  row_back room = rw (row_first 8 p (floats r) l nan (omega arith) room, own 1 (omega arith), own 2 (omega arith), own 3 (omega arith), own 4 (omega arith), own 5 (omega arith), own 6 (omega arith), own 7 (omega arith))
    where
      own : (i : ℕ) → i < 8 → get_or (store_row_of l p r) (p + i) nan ≡ floats r i
      own i h = row-own 8 p (floats r) l i nan h room

  -- a place outside the row
  pub place-stays : (i : ℕ) → (i < p) ⊎ (p + 8 ≤ i) → get_or (store_row_of l p r) i nan ≡ get_or l i nan
  unfolding store_row_of
  place-stays i (inl h) = row_before 8 p (floats r) l i nan h
  place-stays i (inr h) = row-after 8 p (floats r) l i nan h

-- ---- where the places are alike, so is what is read

pub rows_alike : (l l' : List Float) (q : ℕ) → ((i : ℕ) → q ≤ i → i < q + 8 → get_or l' i nan ≡ get_or l i nan) → row_at l' q ≡ row_at l q
unfolding row_at
rows_alike l l' q e =
    rw (
      e q (omega arith) (omega arith),
      e (q + 1) (omega arith) (omega arith),
      e (q + 2) (omega arith) (omega arith),
      e (q + 3) (omega arith) (omega arith),
      e (q + 4) (omega arith) (omega arith),
      e (q + 5) (omega arith) (omega arith),
      e (q + 6) (omega arith) (omega arith),
      e (q + 7) (omega arith) (omega arith),
    )

pub mat2-alike : (l l' : List Float) (q : ℕ) → ((i : ℕ) → q ≤ i → i < q + 8 → get_or l' i nan ≡ get_or l i nan) → mat2_at l' q ≡ mat2_at l q
mat2-alike l l' q e = λ t. folded (rows_alike l l' q e t)

pub mat4-alike : (l l' : List Float) (q : ℕ) → ((i : ℕ) → q ≤ i → i < q + 32 → get_or l' i nan ≡ get_or l i nan) → mat4_at l' q ≡ mat4_at l q
unfolding mat4_at
mat4-alike l l' q e =
    λ t. mat4 (part q (omega arith) (omega arith) t) (part (q + 8) (omega arith) (omega arith) t) (part (q + 16) (omega arith) (omega arith) t) (part (q + 24) (omega arith) (omega arith) t)
  where
    part : (p : ℕ) → q ≤ p → p + 8 ≤ q + 32 → row_at l' p ≡ row_at l p
    part p h g = rows_alike l l' p (λ i a b. e i (omega arith) (omega arith))

-- ---- matrices

pub mat2-back : (l : List Float) (p : ℕ) (m : Mat2) → p + 8 ≤ length l → mat2_at (store2_of l p m) p ≡ m
mat2-back l p m room = λ t. folded (row_back l p (flat m) room t)

module _ (l : List Float) (p : ℕ) (m : Mat4) where
  -- the slice after one, two and three rows
  after1 : List Float
  after1 = store_row_of l p m.r0

  after2 : List Float
  after2 = store_row_of after1 (p + 8) m.r1

  after3 : List Float
  after3 = store_row_of after2 (p + 16) m.r2

  length1 : length after1 ≡ length l
  unfolding after1
  length1 = length-row l p m.r0

  length2 : length after2 ≡ length l
  unfolding after2
  length2 = length-row after1 (p + 8) m.r1 ∙ length1

  length3 : length after3 ≡ length l
  unfolding after3
  length3 = length-row after2 (p + 16) m.r2 ∙ length2

  pub length4 : length (store4_of l p m) ≡ length l
  unfolding store4_of after1 after2 after3
  length4 = length-row after3 (p + 24) m.r3 ∙ length3

  pub place-stays4 : (i : ℕ) → (i < p) ⊎ (p + 32 ≤ i) → get_or (store4_of l p m) i nan ≡ get_or l i nan
  unfolding store4_of after1 after2 after3
  place-stays4 i (inl h) =
      place-stays after3 (p + 24) m.r3 i (inl (omega arith)) ∙ place-stays after2 (p + 16) m.r2 i (inl (omega arith))
      ∙ place-stays after1 (p + 8) m.r1 i (inl (omega arith)) ∙ place-stays l p m.r0 i (inl h)
  place-stays4 i (inr h) =
      place-stays after3 (p + 24) m.r3 i (inr (omega arith)) ∙ place-stays after2 (p + 16) m.r2 i (inr (omega arith))
      ∙ place-stays after1 (p + 8) m.r1 i (inr (omega arith)) ∙ place-stays l p m.r0 i (inr (omega arith))

  pub mat4-back : p + 32 ≤ length l → mat4_at (store4_of l p m) p ≡ m
  unfolding store4_of mat4_at after1 after2 after3
  mat4-back room = λ t. mat4 (first t) (second t) (third t) (fourth t)
    where
      -- a row that lies before the one that is stored
      kept : (l' : List Float) (q s : ℕ) (r : Row4) → s + 8 ≤ q → row_at (store_row_of l' q r) s ≡ row_at l' s
      kept l' q s r h = rows_alike l' (store_row_of l' q r) s (λ i a b. place-stays l' q r i (inl (omega arith)))

      first : row_at (store_row_of after3 (p + 24) m.r3) p ≡ m.r0
      first =
          kept after3 (p + 24) p m.r3 (omega arith) ∙ kept after2 (p + 16) p m.r2 (omega arith) ∙ kept after1 (p + 8) p m.r1 (omega arith)
          ∙ row_back l p m.r0 (omega arith)

      second : row_at (store_row_of after3 (p + 24) m.r3) (p + 8) ≡ m.r1
      second =
          kept after3 (p + 24) (p + 8) m.r3 (omega arith) ∙ kept after2 (p + 16) (p + 8) m.r2 (omega arith)
          ∙ row_back after1 (p + 8) m.r1 (omega (arith, length1))

      third : row_at (store_row_of after3 (p + 24) m.r3) (p + 16) ≡ m.r2
      third = kept after3 (p + 24) (p + 16) m.r3 (omega arith) ∙ row_back after2 (p + 16) m.r2 (omega (arith, length2))

      fourth : row_at (store_row_of after3 (p + 24) m.r3) (p + 24) ≡ m.r3
      fourth = row_back after3 (p + 24) m.r3 (omega (arith, length3))
