-- Laws of the loops that exchange two rows, or two columns, an entry with an entry a turn.
-- A turn trades two elements of the list, so that each entry is known by `get_or-traded`. Assumes nothing.
use mathlib.Core.Path.{◌≡◌, sym, ap, ◌∙◌}
use mathlib.Core.Logic.{◌≢◌}
use mathlib.Core.List.{List}
use Prim.Native.Nat.{ℕ, ◌+◌, ◌*◌, ◌≤◌, ◌<◌}
use native.Mathlib.Nat.{le_refl, le_trans}
use native.Mathlib.Omega.{arith}
use lib.ListN.{length, get_or}
use lib.Ieee.{Float, nan}
use borrow.Author.Tests.{le-leb}
use Rattle.laws.specs.Slices.{traded}
use Rattle.laws.specs.Tables.{exchanged}
use Rattle.laws.specs.Matrix.{at}
use Rattle.laws.specs.Steps.{rows_from, cols_from}
use Rattle.laws.specs.Loops.{by_row, by_col}
use Rattle.laws.proofs.Tables.{exchanged-away, exchanged-through, exchanged-below, length-traded, get_or-traded}
use Rattle.std.proofs.lemmas.Nat.{same_from_place}
use Rattle.laws.proofs.Matrix.{place_in}
use Rattle.laws.proofs.Loops.{up_left, more}
use Rattle.laws.proofs.Sweep.{Swept, masked_on}

-- ---- two entries change places: (r, c) and (s, d)

module _ (dim r c s d : ℕ) (m : List Float) (hr : r < dim) (hc : c < dim) (hs : s < dim) (hd : d < dim) (room : dim * dim ≤ length m) where
  first-in : r * dim + c < dim * dim
  first-in = place_in dim r c hr hc

  second-in : s * dim + d < dim * dim
  second-in = place_in dim s d hs hd

  trade-at : (i : ℕ) → get_or (traded nan (r * dim + c) (s * dim + d) m) i nan ≡ get_or m (exchanged (r * dim + c) (s * dim + d) i) nan
  trade-at i = get_or-traded nan (r * dim + c) (s * dim + d) m (le_trans first-in room) (le_trans second-in room) i

  -- the other places stay
  trade-other : (i : ℕ) → i ≢ r * dim + c → i ≢ s * dim + d → get_or (traded nan (r * dim + c) (s * dim + d) m) i nan ≡ get_or m i nan
  trade-other i na nb = trade-at i ∙ ap (λ j. get_or m j nan) (exchanged-away (r * dim + c) (s * dim + d) i na nb)

  trade-after : (i : ℕ) → dim * dim ≤ i → get_or (traded nan (r * dim + c) (s * dim + d) m) i nan ≡ get_or m i nan
  trade-after i h = trade-other i (λ e. omega (arith, e, first-in)) (λ e. omega (arith, e, second-in))

  trade-away : (r' c' : ℕ) → c' < dim → (r' ≡ r → c' ≡ c → ⊥) → (r' ≡ s → c' ≡ d → ⊥) → at dim (traded nan (r * dim + c) (s * dim + d) m) r' c' ≡ at dim m r' c'
  trade-away r' c' g na nb =
      trade-other (r' * dim + c')
      (λ e. let p = same_from_place r' c' r c dim g hc e in na p.0 p.1)
      (λ e. let p = same_from_place r' c' s d dim g hd e in nb p.0 p.1)

-- ---- two rows, from column k on: the columns before n are done

abbrev pub RowsExchanged : ℕ → ℕ → ℕ → ℕ → List Float → ℕ → List Float → Type 0
RowsExchanged p q k dim m₀ n m = Swept by_col (cols_from k) (λ r c. at dim m₀ (exchanged p q r) c) dim m₀ n m

pub rows-exchange-more : (p q k dim n : ℕ) (m₀ m m' : List Float) → p < dim → q < dim → k ≤ n → n < dim → dim * dim ≤ length m₀
    → RowsExchanged p q k dim m₀ n m → m' ≡ traded nan (p * dim + n) (q * dim + n) m → RowsExchanged p q k dim m₀ (n + 1) m'
rows-exchange-more p q k dim n m₀ m m' hp hq hk hn room w e =
    rw e
    (more by_col _ _ dim n m₀ m t w (length-traded nan (p * dim + n) (q * dim + n) m)
    (trade-after dim p n q n m hp hn hq hn room')
    (λ r c h g ne. trade-away dim p n q n m hp hn hq hn room' r c g (λ _ k. ne k) (λ _ k. ne k))
    (λ r c h g j. rw j (own r h ∙ sym (masked_on (cols_from k) _ _ r n (le-leb k n hk)))))
  where
    t : List Float
    t = traded nan (p * dim + n) (q * dim + n) m

    room' : dim * dim ≤ length m
    room' = rw w.long room

    own : (r : ℕ) → r < dim → at dim t r n ≡ at dim m₀ (exchanged p q r) n
    own r h =
        trade-at dim p n q n m hp hn hq hn room' (r * dim + n)
        ∙ ap (λ j. get_or m j nan) (exchanged-through p q (λ i. i * dim + n) (λ x y e. (same_from_place x n y n dim hn hn e).0) r)
        ∙ w.each (exchanged p q r) n (exchanged-below p q dim r hp hq h) hn
        ∙ up_left by_col _ _ n (exchanged p q r) n (le_refl n)

-- ---- two columns, from row k on: the rows before n are done

abbrev pub ColsExchanged : ℕ → ℕ → ℕ → ℕ → List Float → ℕ → List Float → Type 0
ColsExchanged p q k dim m₀ n m = Swept by_row (rows_from k) (λ r c. at dim m₀ r (exchanged p q c)) dim m₀ n m

pub cols-exchange-more : (p q k dim n : ℕ) (m₀ m m' : List Float) → p < dim → q < dim → k ≤ n → n < dim → dim * dim ≤ length m₀
    → ColsExchanged p q k dim m₀ n m → m' ≡ traded nan (n * dim + p) (n * dim + q) m → ColsExchanged p q k dim m₀ (n + 1) m'
cols-exchange-more p q k dim n m₀ m m' hp hq hk hn room w e =
    rw e
    (more by_row _ _ dim n m₀ m t w (length-traded nan (n * dim + p) (n * dim + q) m)
    (trade-after dim n p n q m hn hp hn hq room')
    (λ r c h g ne. trade-away dim n p n q m hn hp hn hq room' r c g (λ k _. ne k) (λ k _. ne k))
    (λ r c h g j. rw j (own c g ∙ sym (masked_on (rows_from k) _ _ n c (le-leb k n hk)))))
  where
    t : List Float
    t = traded nan (n * dim + p) (n * dim + q) m

    room' : dim * dim ≤ length m
    room' = rw w.long room

    own : (c : ℕ) → c < dim → at dim t n c ≡ at dim m₀ n (exchanged p q c)
    own c g =
        trade-at dim n p n q m hn hp hn hq room' (n * dim + c)
        ∙ ap (λ j. get_or m j nan) (exchanged-through p q (λ i. n * dim + i) (λ x y k. omega (arith, k)) c)
        ∙ w.each n (exchanged p q c) hn (exchanged-below p q dim c hp hq g)
        ∙ up_left by_row _ _ n n (exchanged p q c) (le_refl n)
