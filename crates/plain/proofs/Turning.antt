-- Laws of the turn: a row's part negated, a row turned, a turn of the loop over the rows; and a matrix made anew entry by entry. Assumes nothing.
use mathlib.Core.Path.{◌≡◌, sym, ap, ◌∙◌}
use mathlib.Core.Logic.{◌⊎◌, inl, inr, ◌≢◌}
use mathlib.Core.Bool.{false, ◌&&◌}
use mathlib.Core.List.{List, map}
use Prim.Native.Nat.{ℕ, ◌+◌, ◌*◌, ◌-◌, ◌≤◌, ◌<◌}
use native.Mathlib.Nat.{le_of_eq}
use native.Mathlib.Omega.{arith}
use lib.Dec.{eqb, leb}
use lib.ListN.{length, get_or}
use lib.Ieee.{Float, nan, neg}
use borrow.Author.Tests.{eq-eqb, ne_eqb, le-leb, lt-leb}
use Rattle.laws.specs.Zeros.{sg}
use Rattle.laws.specs.Slices.{on_part}
use Rattle.laws.specs.Matrix.{Mat, at, matrix, Is}
use Rattle.laws.specs.Loops.{up_to, by_row}
use Rattle.std.proofs.lemmas.Bool.{cases_eq, cases_lt}
use Rattle.laws.proofs.Slices.{mapped_part-long, mapped_part-before, mapped_part-inside, mapped_part-after}
use Rattle.laws.proofs.Matrix.{part_in, outside-part, matrix-is, matrix-then}
use Rattle.laws.proofs.Loops.{more, up_left}
use Rattle.laws.proofs.Negatives.{sg-comm}
use Rattle.plain.specs.Plain.{turned_from}
use Rattle.plain.specs.Parts.{part_negated, row_turned}

-- ---- in row r the entries from column s on, lent as one part

module _ (dim s r : ℕ) (m : List Float) (h : r < dim) (low : s ≤ dim) (room : dim * dim ≤ length m) where
  a : ℕ
  a = r * dim + s

  k : ℕ
  k = dim - s

  put : List Float
  put = on_part a k (map neg) m

  inside : a + k ≤ dim * dim
  unfolding a k
  inside = part_in dim r s (dim - s) h (omega arith)

  fit : a + k ≤ length m
  fit = omega (arith, inside)

  other : (r' c : ℕ) → c < dim → r' ≢ r → get_or put (r' * dim + c) nan ≡ at dim m r' c
  unfolding put a k
  other r' c g ne = by (outside-part dim r r' c s (dim - s) g (omega arith) ne)
    where
      by : (r' * dim + c < r * dim + s) ⊎ (r * dim + s + (dim - s) ≤ r' * dim + c) → get_or put (r' * dim + c) nan ≡ at dim m r' c
      by (inl l) = mapped_part-before neg a k m nan fit (r' * dim + c) l
      by (inr l) = mapped_part-after neg a k m nan fit (r' * dim + c) l

  own : (c : ℕ) → c < dim → get_or put (r * dim + c) nan ≡ sg (leb s c) (at dim m r c)
  unfolding put a k
  own c g = by (cases_lt c s)
    where
      by : (c < s) ⊎ (s ≤ c) → get_or put (r * dim + c) nan ≡ sg (leb s c) (at dim m r c)
      by (inl l) = rw (lt-leb s c l) (mapped_part-before neg a k m nan fit (r * dim + c) (omega arith))
      by (inr l) =
          let e : r * dim + c ≡ a + (c - s) = omega arith in
          rw (le-leb s c l)
          (ap (λ n. get_or put n nan) e ∙ mapped_part-inside neg a k m nan fit (c - s) (omega arith) ∙ ap (λ n. neg (get_or m n nan)) (sym e))

  pub part-is : Is dim m (part_negated r s (at dim m)) (on_part (r * dim + s) (dim - s) (map neg) m)
  unfolding put a k
  part-is = record {
    long = mapped_part-long neg a k m nan fit;
    each = λ r' c h' g. each r' c g (cases_eq r' r);
    after = λ i b. mapped_part-after neg a k m nan fit i (omega (arith, inside));
  }
    where
      each : (r' c : ℕ) → c < dim → (r' ≡ r) ⊎ (r' ≢ r) → get_or put (r' * dim + c) nan ≡ part_negated r s (at dim m) r' c
      each r' c g (inl e) = rw (eq-eqb r' r e) (ap (λ x. get_or put (x * dim + c) nan) e ∙ own c g ∙ ap (λ x. sg (leb s c) (at dim m x c)) (sym e))
      each r' c g (inr ne) = rw (ne_eqb r' r ne) (other r' c g ne)

-- ---- a row turned: its entries are negated, if it is a later one, and then those from column s on

module _ (dim s r : ℕ) (m : List Float) where
  abbrev Turned : List Float → Type 0
  Turned m' = m' ≡ matrix dim (row_turned r s (at dim m)) m

  pub row-earlier : r < s → (m' : List Float) → m' ≡ matrix dim (part_negated r s (at dim m)) m → Turned m'
  row-earlier l m' e = e ∙ ap (λ f. matrix dim f m) (λ i r' c. sg (sym (no r') i) (part_negated r s (at dim m) r' c))
    where
      no : (r' : ℕ) → eqb r' r && leb s r' ≡ false
      no r' = by (cases_eq r' r)
        where
          by : (r' ≡ r) ⊎ (r' ≢ r) → eqb r' r && leb s r' ≡ false
          by (inl q) = rw (eq-eqb r' r q) (lt-leb s r' (omega arith))
          by (inr q) = rw (ne_eqb r' r q)

  pub row-later : s ≤ r → dim * dim ≤ length m → (m₁ m' : List Float) → m₁ ≡ matrix dim (part_negated r 0 (at dim m)) m
      → m' ≡ matrix dim (part_negated r s (at dim m₁)) m₁ → Turned m'
  row-later l room m₁ m' e₁ e =
      matrix-then dim m m₁ m' (part_negated r 0 (at dim m)) (part_negated r s) room (λ f g h r' c a b. λ i. sg (eqb r' r && leb s c) (h r' c a b i)) e₁ e
      ∙ ap (λ f. matrix dim f m) (λ i r' c. same r' c i)
    where
      all : (r' c : ℕ) → eqb r' r && leb 0 c ≡ eqb r' r && leb s r'
      all r' c = by (cases_eq r' r)
        where
          by : (r' ≡ r) ⊎ (r' ≢ r) → eqb r' r && leb 0 c ≡ eqb r' r && leb s r'
          by (inl q) = rw (eq-eqb r' r q, le-leb 0 c (omega arith)) (sym (le-leb s r' (omega arith)))
          by (inr q) = rw (ne_eqb r' r q)

      same : (r' c : ℕ) → part_negated r s (part_negated r 0 (at dim m)) r' c ≡ row_turned r s (at dim m) r' c
      same r' c =
          sg-comm (eqb r' r && leb s c) (eqb r' r && leb 0 c) (at dim m r' c)
          ∙ ap (λ b. sg b (sg (eqb r' r && leb s c) (at dim m r' c))) (all r' c)

-- ---- the loop over the rows: the first n are turned

abbrev pub TurnedTo : ℕ → ℕ → List Float → ℕ → List Float → Type 0
TurnedTo dim s m₀ n m = Is dim m₀ (up_to by_row n (turned_from s (at dim m₀)) (at dim m₀)) m

pub turned-more : (dim s n : ℕ) (m₀ m m' : List Float) → dim * dim ≤ length m₀ → TurnedTo dim s m₀ n m
    → m' ≡ matrix dim (row_turned n s (at dim m)) m → TurnedTo dim s m₀ (n + 1) m'
turned-more dim s n m₀ m m' room w e = more by_row new (at dim m₀) dim n m₀ m m' w c.long c.after other own
  where
    new : Mat
    new = turned_from s (at dim m₀)

    c : Is dim m (row_turned n s (at dim m)) m'
    c = matrix-is dim m (row_turned n s (at dim m)) m' (omega (arith, w.long)) e

    other : (r x : ℕ) → r < dim → x < dim → r ≢ n → at dim m' r x ≡ at dim m r x
    other r x a b ne = c.each r x a b ∙ ap (λ t. sg (t && leb s r) (sg (t && leb s x) (at dim m r x))) (ne_eqb r n ne)

    own : (r x : ℕ) → r < dim → x < dim → r ≡ n → at dim m' r x ≡ new r x
    own r x a b q =
        c.each r x a b
        ∙ (λ i. sg (eq-eqb r n q i && leb s r) (sg (eq-eqb r n q i && leb s x)
        ((w.each r x a b ∙ up_left by_row new (at dim m₀) n r x (le_of_eq (sym q))) i)))
