-- Lists all of whose elements have a property, lists whose elements are put to something in order, and rows of which one is brought to the front. Assumes
-- nothing. A public promise rests on this.
use Rattle.std.specs.Prelude.{List, [], ◌∷◌, ℕ, zero, suc}

-- each element of a list
abbrev pub All : {A : Type 0} → (A → Type 0) → List A → Type 0
All P [] = Unit {0}
All P (x ∷ xs) = P x × All P xs

-- the elements are put to b in order, the first first
unfoldable pub in_order : {A B : Type 0} → (A → B → B) → List A → B → B
in_order f [] b = b
in_order f (x ∷ xs) b = in_order f xs (f x b)

-- ---- row p of r ∷ rs and the first row r change places

-- the row that is brought to the front
abbrev pub pivot_row : {A : Type 0} → ℕ → A → List A → A
pivot_row zero r rs = r
pivot_row (suc p) r [] = r
pivot_row (suc p) r (s ∷ rs) = pivot_row p s rs

-- r stands in the place of row p
abbrev pub put : {A : Type 0} → ℕ → A → List A → List A
put p r [] = []
put zero r (s ∷ rs) = r ∷ rs
put (suc p) r (s ∷ rs) = s ∷ put p r rs

-- the rows after it
abbrev pub other_rows : {A : Type 0} → ℕ → A → List A → List A
other_rows zero r rs = rs
other_rows (suc p) r rs = put p r rs
