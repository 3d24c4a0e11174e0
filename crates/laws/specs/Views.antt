-- Lists by their places: the results e 0, e 1, .. of a function, counted up or seen from the newest, and the search for the newest that passes a test.
-- A list of events in a slice is such a list: e reads event i from the slice. Assumes nothing. A public promise rests on this.
use Rattle.std.specs.Prelude.{◌≡◌, Bool, cond, List, [], ◌∷◌, ℕ, zero, suc, ◌+◌, ◌≤◌, ◌<◌}

-- ---- the list

-- e k, e (k + 1), ..: n of them
unfoldable pub up_from : {A : Type 0} → (ℕ → A) → ℕ → ℕ → List A
up_from e k zero = []
up_from e k (suc n) = e k ∷ up_from e (suc k) n

-- e 0, e 1, .., e (n - 1)
abbrev pub list_of : {A : Type 0} → ℕ → (ℕ → A) → List A
list_of n e = up_from e 0 n

-- the newest first: e (n - 1), .., e 0
unfoldable pub down_to : {A : Type 0} → (ℕ → A) → ℕ → List A
down_to e zero = []
down_to e (suc n) = e n ∷ down_to e n

-- n of them from k on, the newest first: e (k + n - 1), .., e k
unfoldable pub between : {A : Type 0} → (ℕ → A) → ℕ → ℕ → List A
between e k zero = []
between e k (suc n) = e (k + n) ∷ between e k n

-- ---- the search

-- what stands before the first that passes
unfoldable pub until : {A : Type 0} → (A → Bool) → List A → List A
until p [] = []
until p (x ∷ xs) = cond (p x) [] (x ∷ until p xs)

-- the first that passes, with what follows
unfoldable pub from : {A : Type 0} → (A → Bool) → List A → List A
from p [] = []
from p (x ∷ xs) = cond (p x) (x ∷ xs) (from p xs)

-- one more than the last index below n that passes, or 0
unfoldable pub seek : (ℕ → Bool) → ℕ → ℕ
seek q zero = 0
seek q (suc n) = cond (q n) (suc n) (seek q n)

-- how many indices that search passes over
unfoldable pub gap : (ℕ → Bool) → ℕ → ℕ
gap q zero = 0
gap q (suc n) = cond (q n) 0 (suc (gap q n))

-- ---- a pass over the list, from the oldest on

-- result n is put to those before it by f; later ones are as they were
pub record Step {A : Type 0} (f : A → List A → List A) (e e' : ℕ → A) (n : ℕ) : Type 0 where
  pub list : down_to e' (n + 1) ≡ f (e n) (down_to e n)
  pub later : (i : ℕ) → n < i → e' i ≡ e i

-- the first n results have gone through F; later ones are as they were
pub record Pass {A : Type 0} (F : List A → List A) (e e' : ℕ → A) (n : ℕ) : Type 0 where
  pub list : down_to e' n ≡ F (down_to e n)
  pub later : (i : ℕ) → n ≤ i → e' i ≡ e i
