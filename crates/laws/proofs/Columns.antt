-- Laws of k entries that are stored in one column, from row s on: what the matrix holds then; a turn of a loop over the columns that stores such
-- entries, and one that stores a single entry. Assumes nothing.
use mathlib.Core.Path.{◌≡◌, sym, ap, ◌∙◌}
use mathlib.Core.Logic.{◌⊎◌, inl, inr, ◌≢◌}
use mathlib.Core.List.{List}
use Prim.Native.Nat.{ℕ, ◌+◌, ◌*◌, ◌-◌, ◌≤◌, ◌<◌}
use native.Mathlib.Nat.{add-zero, le_refl, le_trans}
use native.Mathlib.Omega.{arith}
use lib.ListN.{length, get_or, set}
use lib.Ieee.{Float, nan}
use Rattle.laws.specs.Matrix.{Mat, at, put_column, Is}
use Rattle.laws.specs.Loops.{up_to, by_col}
use Rattle.std.proofs.lemmas.Bool.{cases_lt}
use Rattle.laws.proofs.Stores.{length-stores, stores-other, stores-own, stores-first}
use Rattle.std.proofs.lemmas.Nat.{same_from_place}
use Rattle.laws.proofs.Matrix.{place_in}
use Rattle.laws.proofs.Loops.{up_left, more}

-- ---- the matrix after the stores

module _ (dim s k c : ℕ) (v : ℕ → Float) (m : List Float) (g : c < dim) (band : s + k ≤ dim) where
  abbrev p : ℕ → ℕ
  p i = (s + i) * dim + c

  pub column-long : length (put_column k dim s c v m) ≡ length m
  column-long = length-stores p v m k

  pub column-after : (i : ℕ) → dim * dim ≤ i → get_or (put_column k dim s c v m) i nan ≡ get_or m i nan
  column-after i b = stores-other p v m k i nan (λ j l e. omega (arith, e, place_in dim (s + j) c (omega arith) g))

  pub column-other : (r c' : ℕ) → c' < dim → c' ≢ c → at dim (put_column k dim s c v m) r c' ≡ at dim m r c'
  column-other r c' g' ne = stores-other p v m k (r * dim + c') nan (λ j l e. ne (same_from_place r c' (s + j) c dim g' g e).1)

  -- column c itself is new, if new has what is stored, and what was there in the other rows
  pub column-is : (new : ℕ → Float) → dim * dim ≤ length m → ((r : ℕ) → r < dim → (r < s) ⊎ (s + k ≤ r) → at dim m r c ≡ new r)
      → ((i : ℕ) → i < k → v i ≡ new (s + i)) → (r : ℕ) → r < dim → at dim (put_column k dim s c v m) r c ≡ new r
  column-is new room kept put r h = by (cases_lt r s) (cases_lt r (s + k))
    where
      apart : (j : ℕ) → j < k → r ≡ s + j → (r < s) ⊎ (s + k ≤ r) → ⊥
      apart j l e (inl b) = omega arith
      apart j l e (inr b) = omega arith

      off : (r < s) ⊎ (s + k ≤ r) → at dim (put_column k dim s c v m) r c ≡ new r
      off away = stores-other p v m k (r * dim + c) nan (λ j l e. apart j l (same_from_place r c (s + j) c dim g g e).0 away) ∙ kept r h away

      on : (i : ℕ) → i < k → at dim (put_column k dim s c v m) (s + i) c ≡ v i
      on i l =
          stores-own p v m k i nan l (le_trans (place_in dim (s + i) c (omega arith) g) room) (λ j _ e. omega (arith, same_from_place (s + i) c (s + j) c dim g g e))

      by : (r < s) ⊎ (s ≤ r) → (r < s + k) ⊎ (s + k ≤ r) → at dim (put_column k dim s c v m) r c ≡ new r
      by (inl l) _ = off (inl l)
      by (inr _) (inr l) = off (inr l)
      by (inr l) (inl l') =
          let e : r ≡ s + (r - s) = omega arith in
          ap (λ x. at dim (put_column k dim s c v m) x c) e ∙ on (r - s) (omega arith) ∙ put (r - s) (omega arith) ∙ ap new (sym e)

-- ---- a turn that stores k entries of column n, from row s on

pub column-more : (new old : Mat) (dim s k n : ℕ) (v : ℕ → Float) (m₀ m m' : List Float) → s + k ≤ dim → n < dim → dim * dim ≤ length m₀
    → ((r : ℕ) → r < dim → (r < s) ⊎ (s + k ≤ r) → new r n ≡ old r n) → ((i : ℕ) → i < k → v i ≡ new (s + i) n)
    → Is dim m₀ (up_to by_col n new old) m → m' ≡ put_column k dim s n v m → Is dim m₀ (up_to by_col (n + 1) new old) m'
column-more new old dim s k n v m₀ m m' band hn room keeps puts w e =
    rw e
    (more by_col new old dim n m₀ m _ w
    (column-long dim s k n v m hn band)
    (column-after dim s k n v m hn band)
    (λ r c h g ne. column-other dim s k n v m hn band r c g ne)
    (λ r c h g q. ap (at dim (put_column k dim s n v m) r) q ∙ own r h ∙ ap (new r) (sym q)))
  where
    own : (r : ℕ) → r < dim → at dim (put_column k dim s n v m) r n ≡ new r n
    own =
        column-is dim s k n v m hn band (λ r. new r n) (rw w.long room)
        (λ r h a. w.each r n h hn ∙ up_left by_col new old n r n (le_refl n) ∙ sym (keeps r h a)) puts

-- one entry, in row i
pub entry_more : (new old : Mat) (dim i n : ℕ) (m₀ m m' : List Float) (x : Float) → i < dim → n < dim → dim * dim ≤ length m₀
    → ((r : ℕ) → r < dim → r ≢ i → new r n ≡ old r n) → x ≡ new i n
    → Is dim m₀ (up_to by_col n new old) m → m' ≡ set m (i * dim + n) x → Is dim m₀ (up_to by_col (n + 1) new old) m'
entry_more new old dim i n m₀ m m' x hi hn room keeps v w e =
    column-more new old dim i 1 n (λ _. x) m₀ m m' (omega arith) hn room
    (λ r h a. keeps r h (apart r a))
    (λ j l. v ∙ ap (λ r. new r n) (first j l))
    w
    (stores-first (λ j. (i + j) * dim + n) (λ _. x) m (i * dim + n) m' (rw add-zero) e)
  where
    apart : (r : ℕ) → (r < i) ⊎ (i + 1 ≤ r) → r ≢ i
    apart r (inl l) q = omega arith
    apart r (inr l) q = omega arith

    first : (j : ℕ) → j < 1 → i ≡ i + j
    first j l = omega arith
