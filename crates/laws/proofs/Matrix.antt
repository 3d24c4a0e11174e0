-- Laws of a matrix that a list holds by rows: its places; `Is` and `matrix`, the two ways to say that it was made anew; one step after another; one store.
-- The one fact that is not linear is `digits_lt`. Assumes nothing.
use mathlib.Core.Path.{◌≡◌, refl, sym, ap, subst, ◌∙◌}
use mathlib.Core.Logic.{◌⊎◌, inl, inr, ◌≢◌}
use mathlib.Core.List.{List}
use Prim.Native.Nat.{ℕ, zero, suc, ◌+◌, ◌*◌, ◌/◌, ◌%◌, ◌≤◌, ◌<◌, zero-le, suc-le-suc}
use native.Mathlib.Nat.{mul-le-mul_right, suc-mul, div-lt_iff_lt-mul, div-add-mod', mod-lt, not-suc-le-zero, zero-mul, le_trans}
use native.Mathlib.Omega.{arith}
use lib.Arith.{digits_lt, digits_div, digits_mod}
use lib.ListN.{length, get_or, set, get_or-eq_default}
use lib.Seq.{ext_get_or, get_or-set_same, get_or-set_other}
use lib.Ieee.{Float, nan}
use borrow.Author.Tests.{lt-ltb, le-ltb}
use Rattle.laws.specs.Slices.{filled}
use Rattle.laws.specs.Matrix.{Mat, at, matrix, Is}
use Rattle.std.proofs.lemmas.Bool.{cases_lt}
use Rattle.std.proofs.lemmas.Nat.{same_from_place}
use Rattle.laws.proofs.Slices.{filled-over}
use Rattle.laws.proofs.Views.{length-list_of, get_or-list_of}

-- ---- a place by its row and column

pub place_in : (dim r c : ℕ) → r < dim → c < dim → r * dim + c < dim * dim
place_in dim r c h g = digits_lt h g

-- the k places from column s of row r on
pub part_in : (dim r s k : ℕ) → r < dim → s + k ≤ dim → r * dim + s + k ≤ dim * dim
part_in dim r s k h b = omega (arith, suc-mul r dim, mul-le-mul_right {m = suc r} dim h)

-- a place of another row lies outside that part
pub outside-part : (dim r r' c s k : ℕ) → c < dim → s + k ≤ dim → r' ≢ r → (r' * dim + c < r * dim + s) ⊎ (r * dim + s + k ≤ r' * dim + c)
outside-part dim r r' c s k g b ne = by (cases_lt r' r) (cases_lt r r')
  where
    by : (r' < r) ⊎ (r ≤ r') → (r < r') ⊎ (r' ≤ r) → (r' * dim + c < r * dim + s) ⊎ (r * dim + s + k ≤ r' * dim + c)
    by (inl l) _ = inl (omega (arith, suc-mul r' dim, mul-le-mul_right {m = suc r'} dim l))
    by (inr _) (inl l) = inr (omega (arith, suc-mul r dim, mul-le-mul_right {m = suc r} dim l))
    by (inr l) (inr l') = absurd (ne (omega arith))

-- two places are equal only if their rows and columns are
pub row_of : (dim r c r' c' : ℕ) → c < dim → c' < dim → r * dim + c ≡ r' * dim + c' → r ≡ r'
row_of dim r c r' c' g g' e = (same_from_place r c r' c' dim g g' e).0

-- a place below dim * dim has a row and a column
record Place (dim i : ℕ) : Type 0 where
  row : i / dim < dim
  col : i % dim < dim
  here : i / dim * dim + i % dim ≡ i

place : (dim i : ℕ) → i < dim * dim → Place dim i
place zero i h = absurd (not-suc-le-zero (subst (λ n. i < n) (zero-mul zero) h))
place (suc d) i h = record {
  row = (div-lt_iff_lt-mul (suc-le-suc zero-le)).1 h;
  col = mod-lt i (suc-le-suc zero-le);
  here = div-add-mod' i (suc d);
}

-- ---- the two ways to say that a matrix was made anew

pub is-matrix : (dim : ℕ) (m₀ : List Float) (f : Mat) (m : List Float) → Is dim m₀ f m → m ≡ matrix dim f m₀
unfolding matrix
is-matrix dim m₀ f m w = ext_get_or nan m (matrix dim f m₀) (w.long ∙ sym (length-list_of _ _)) (λ i h. one i (rw w.long at h) (cases_lt i (dim * dim)))
  where
    one : (i : ℕ) → i < length m₀ → (i < dim * dim) ⊎ (dim * dim ≤ i) → get_or m i nan ≡ get_or (matrix dim f m₀) i nan
    one i h (inl g) =
        let p = place dim i g in
        rw (get_or-list_of _ _ i nan h, lt-ltb i (dim * dim) g) (ap (λ n. get_or m n nan) (sym p.here) ∙ w.each (i / dim) (i % dim) p.row p.col)
    one i h (inr g) = rw (get_or-list_of _ _ i nan h, le-ltb i (dim * dim) g) (w.after i g)

pub matrix-is : (dim : ℕ) (m₀ : List Float) (f : Mat) (m : List Float) → dim * dim ≤ length m₀ → m ≡ matrix dim f m₀ → Is dim m₀ f m
unfolding matrix
matrix-is dim m₀ f m room e = record {
  long = rw e (length-list_of _ _);
  each = λ r c h g.
      let p = place_in dim r c h g in
      let q : r * dim + c < length m₀ = omega arith in
      rw (e, get_or-list_of _ _ (r * dim + c) nan q, lt-ltb (r * dim + c) (dim * dim) p, digits_div r g, digits_mod r g);
  after = λ i h. rw e (past i h (cases_lt i (length m₀)));
}
  where
    past : (i : ℕ) → dim * dim ≤ i → (i < length m₀) ⊎ (length m₀ ≤ i) → get_or (matrix dim f m₀) i nan ≡ get_or m₀ i nan
    past i h (inl g) = rw (get_or-list_of _ _ i nan g, le-ltb i (dim * dim) h)
    past i h (inr g) = get_or-eq_default (matrix dim f m₀) nan (rw length-list_of g) ∙ sym (get_or-eq_default m₀ nan g)

pub length-matrix : (dim : ℕ) (f : Mat) (m : List Float) → length (matrix dim f m) ≡ length m
unfolding matrix
length-matrix dim f m = length-list_of (length m) _

-- nothing made anew
pub same : (dim : ℕ) (m : List Float) → Is dim m (at dim m) m
same dim m = record { long = refl; each = λ r c h g. refl; after = λ i h. refl }

-- one step after another; the second is said of what the first left
pub is-then : (dim : ℕ) (m₀ m m' : List Float) (f g h : Mat) → Is dim m₀ f m → Is dim m g m' → ((r c : ℕ) → r < dim → c < dim → g r c ≡ h r c) → Is dim m₀ h m'
is-then dim m₀ m m' f g h w w' e = record {
  long = w'.long ∙ w.long;
  each = λ r c a b. w'.each r c a b ∙ e r c a b;
  after = λ i b. w'.after i b ∙ w.after i b;
}

-- a step that reads only entries of the matrix
abbrev pub Within : ℕ → (Mat → Mat) → Type 0
Within dim step = (f g : Mat) → ((r c : ℕ) → r < dim → c < dim → f r c ≡ g r c) → (r c : ℕ) → r < dim → c < dim → step f r c ≡ step g r c

-- such a step after one that made f: of the lists, so of the functions
pub matrix-then : (dim : ℕ) (m₀ m m' : List Float) (f : Mat) (step : Mat → Mat) → dim * dim ≤ length m₀ → Within dim step
    → m ≡ matrix dim f m₀ → m' ≡ matrix dim (step (at dim m)) m → m' ≡ matrix dim (step f) m₀
matrix-then dim m₀ m m' f step room within e e' =
    let w = matrix-is dim m₀ f m room e in
    let w' = matrix-is dim m (step (at dim m)) m' (rw w.long room) e' in
    is-matrix dim m₀ (step f) m' (is-then dim m₀ m m' f (step (at dim m)) (step f) w w' (within (at dim m) f w.each))

-- a work matrix whose places are filled is left as if nobody had used it
pub filled_is : (dim : ℕ) (v : Float) (m₀ m : List Float) (f : Mat) → Is dim m₀ f m → filled (dim * dim) v m ≡ filled (dim * dim) v m₀
filled_is dim v m₀ m f w = filled-over (dim * dim) v nan m₀ m w.long w.after

-- ---- one store

pub at_set_same : (dim r c : ℕ) (m : List Float) (x : Float) → r < dim → c < dim → dim * dim ≤ length m → at dim (set m (r * dim + c) x) r c ≡ x
at_set_same dim r c m x h g room = get_or-set_same m (r * dim + c) x nan (le_trans (place_in dim r c h g) room)

pub at_set_other : (dim r c r' c' : ℕ) (m : List Float) (x : Float) → c < dim → c' < dim → (r' ≡ r → c' ≡ c → ⊥) → at dim (set m (r * dim + c) x) r' c' ≡ at dim m r' c'
at_set_other dim r c r' c' m x g g' ne =
    get_or-set_other m (r * dim + c) (r' * dim + c') x nan (λ e. let p = same_from_place r' c' r c dim g' g e in ne p.0 p.1)

pub after-set : (dim r c i : ℕ) (m : List Float) (x : Float) → r < dim → c < dim → dim * dim ≤ i → get_or (set m (r * dim + c) x) i nan ≡ get_or m i nan
after-set dim r c i m x h g b = get_or-set_other m (r * dim + c) i x nan (λ e. omega (arith, e, place_in dim r c h g))

-- a store after the matrix
pub at-set-after : (dim i r c : ℕ) (m : List Float) (x : Float) → dim * dim ≤ i → r < dim → c < dim → at dim (set m i x) r c ≡ at dim m r c
at-set-after dim i r c m x b h g = get_or-set_other m i (r * dim + c) x nan (λ e. omega (arith, e, place_in dim r c h g))
