-- What code makes of a slice, as functions on its list: a part put anew, a loop's turns, a first part made anew, a run of stores.
-- Over any element type. Assumes nothing. A public promise rests on this.
use Rattle.std.specs.Prelude.{List, [], ◌∷◌, ◌++◌, ℕ, zero, suc, ◌+◌, get_or, set, take, drop}

-- the k places from a on are put anew: as a list they are f of what they were
unfoldable pub on_part : {A : Type 0} → ℕ → ℕ → (List A → List A) → List A → List A
on_part a k f l = take a l ++ (f (take k (drop a l)) ++ drop k (drop a l))

-- a loop's turns: f 0, then f 1, .., then f (n - 1)
unfoldable pub turns : {A : Type 0} → (ℕ → A → A) → ℕ → A → A
turns f zero a = a
turns f (suc n) a = f n (turns f n a)

-- f of each of the first n elements
unfoldable pub mapped_to : {A : Type 0} → (A → A) → ℕ → List A → List A
mapped_to f zero l = l
mapped_to f (suc n) [] = []
mapped_to f (suc n) (x ∷ l) = f x ∷ mapped_to f n l

-- the first n elements are v
abbrev pub filled : {A : Type 0} → ℕ → A → List A → List A
filled n v l = mapped_to (λ x. v) n l

-- stores at the places p 0, p 1, .., p (n - 1), in this order
unfoldable pub stores : {A : Type 0} → ℕ → (ℕ → ℕ) → (ℕ → A) → List A → List A
stores zero p v l = l
stores (suc n) p v l = set (stores n p v l) (p n) (v n)

-- a row of n elements, stored from a on
abbrev pub put_row : {A : Type 0} → ℕ → ℕ → (ℕ → A) → List A → List A
put_row n a v l = stores n (λ i. a + i) v l

-- the elements at a and b change places; d is what is read past the end
abbrev pub traded : {A : Type 0} → A → ℕ → ℕ → List A → List A
traded d a b l = set (set l a (get_or l b d)) b (get_or l a d)
