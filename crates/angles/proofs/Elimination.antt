-- In exact numbers the engine's elimination is the determinant, of widths 1 to 4: a row lowered keeps it, an exchange of rows turns it, and a column of zeros
-- makes it nought. These are identities of polynomials, which the solver finds width by width; the elimination is one argument. Assumes nothing.
use mathlib.Core.Path.{◌≡◌, refl, sym, ap, subst, ◌∙◌}
use mathlib.Core.Logic.{◌⊎◌, inl, inr, ◌≢◌}
use mathlib.Core.Bool.{Bool, true, false, cond, ◌&&◌, not, xor}
use mathlib.Core.List.{List, []}
use Prim.Native.Nat.{ℕ, zero, suc, ◌+◌, ◌*◌, ◌/◌, ◌%◌, ◌<◌}
use native.Mathlib.Omega.{arith}
use lib.Dec.{eqb, ltb, lit<}
use borrow.Author.Tests.{eqb-true, eqb-false, eq-eqb, ne_eqb, ltb-true}
use Rattle.std.proofs.lemmas.Bool.{cases_eq}
use Rattle.laws.specs.Lists.{pivot_row, other_rows}
use Rattle.laws.specs.Views.{up_from}
use Rattle.laws.specs.Tables.{exchanged}
use Rattle.laws.proofs.Tables.{exchanged_same}
use Rattle.rings.specs.Rings.{Ops, IsRing, IsCommutative}
use Rattle.formulas.specs.Numbers.{Tests, Divides}
use Rattle.formulas.specs.Engine.{Mat}
use Rattle.formulas.specs.Determinants.{det, Line, head_of, Best, better_of, last_largest, lowered_all, eliminated, lines, own_det, DetTheorem}
use Rattle.rings.proofs.Rings.{mul-zero, neg-mul, mul-neg}
use Rattle.rings.proofs.Solve.{Exp, var, nought, unit, plus, times, minus, exps, left-of, value, solve, commuting, obeys-comm}

-- P of n - 1, .., 0
abbrev Each : (ℕ → Type 0) → ℕ → Type 0
Each P zero = Unit {0}
Each P (suc n) = P n × Each P n

at-each : (P : ℕ → Type 0) (n : ℕ) → Each P n → (p : ℕ) → p < n → P p
at-each P zero e p l = absurd (omega (arith, l))
at-each P (suc n) e p l = by (cases_eq p n) (at-each P n e.1 p)
  where
    by : (p ≡ n) ⊎ (p ≢ n) → (p < n → P p) → P p
    by (inl q) f = subst P (sym q) e.0
    by (inr q) f = f (omega (arith, l, q))

-- the rows 0 and p exchanged
abbrev traded : {A : Type 0} → ℕ → (ℕ → A) → ℕ → A
traded p q r = q (exchanged 0 p r)

module _ {𝓝 : Ops} (𝓒 : IsCommutative 𝓝) {𝓣 : Tests 𝓝} (𝓥 : Divides 𝓝 𝓣) where
  abbrev 𝓛 : IsRing 𝓝
  𝓛 = 𝓒.ring

  open 𝓝 use {N, zero as 𝟘, one as 𝟙, add as ◌⊹◌, mul as ◌⋆◌, neg}

  infixl 65 ◌⊹◌
  infixl 70 ◌⋆◌
  -- ---- the pivot: if it is zero, the whole column is

  -- the rows of a matrix, with k + 1 entries each, n of them from i on
  abbrev from_row : ℕ → Mat 𝓝 → ℕ → ℕ → List (Line 𝓝 𝓣)
  from_row k q i n = up_from (λ i. up_from (q i) 0 (suc k)) i n

  Nulls : Mat 𝓝 → ℕ → Type 0
  Nulls q i = (j : ℕ) → j < i → 𝓣.null (q j 0) ≡ true

  abbrev Good : Mat 𝓝 → ℕ → ℕ → Type 0
  Good q i p = (p < i) × (𝓣.null (q p 0) ≡ true → Nulls q i)

  best : (k : ℕ) (q : Mat 𝓝) (n i : ℕ) (b : Best 𝓝 𝓣) → b.head ≡ q b.row 0 → Good q i b.row → Good q (i + n) (last_largest 𝓝 𝓣 (from_row k q i n) i b)
  unfolding last_largest Nulls up_from
  best k q zero i b e g = subst (λ m. Good q m b.row) same g
    where
      same : i ≡ i + 0
      same = omega arith
  best k q (suc n) i b e g =
      subst (λ m. Good q m (last_largest 𝓝 𝓣 (from_row k q (suc i) n) (suc i) (better_of 𝓝 𝓣 b i (q i 0)))) same
      (by (𝓣.not_below (q i 0) b.head) refl (λ b. best k q n (suc i) b))
    where
      same : suc i + n ≡ i + suc n
      same = omega arith

      one-more : Nulls q i → 𝓣.null (q i 0) ≡ true → Nulls q (suc i)
      one-more ns t j l = at (eqb j i) refl
        where
          at : (s : Bool) → eqb j i ≡ s → 𝓣.null (q j 0) ≡ true
          at true z = ap (λ m. 𝓣.null (q m 0)) (eqb-true j i z) ∙ t
          at false z = ns j (omega (arith, l, eqb-false j i z))

      by : (t : Bool) → 𝓣.not_below (q i 0) b.head ≡ t
          → ((b : Best 𝓝 𝓣) → b.head ≡ q b.row 0 → Good q (suc i) b.row → Good q (suc i + n) (last_largest 𝓝 𝓣 (from_row k q (suc i) n) (suc i) b))
          → Good q (suc i + n) (last_largest 𝓝 𝓣 (from_row k q (suc i) n) (suc i) (cond t (record { row = i; head = q i 0 }) b))
      by true z ih = ih (record { row = i; head = q i 0 }) refl (
        omega arith,
        λ t. one-more (g.1 (ap 𝓣.null (sym e) ∙ 𝓥.smallest (q i 0) b.head z t)) t,
      )
      by false z ih = ih b e (omega (arith, g.0), λ t. one-more (g.1 t) (𝓥.smaller (q i 0) b.head z (ap 𝓣.null e ∙ t)))

  -- ---- what the elimination needs of one width: w + 1 rows and columns

  -- the matrix left when the first row has been taken from the others
  abbrev low : Mat 𝓝 → Mat 𝓝
  low q r c = q (suc r) (suc c) ⊹ neg (𝓣.div (q (suc r) 0) (q 0 0) ⋆ q 0 (suc c))

  module _ (w : ℕ) (q : Mat 𝓝) where
    -- the pivot row, and what is left of the others
    abbrev pivotal : ℕ → Line 𝓝 𝓣
    pivotal p = pivot_row p (up_from (q 0) 0 (suc w)) (from_row w q 1 w)

    abbrev lowered : ℕ → List (Line 𝓝 𝓣)
    lowered p = lowered_all 𝓝 𝓣 (pivotal p) (other_rows p (up_from (q 0) 0 (suc w)) (from_row w q 1 w))

    -- the pivot p in the first row, and the others lowered by it
    abbrev Brought : ℕ → Type 0
    Brought p = (head_of 𝓝 𝓣 (pivotal p) ≡ q p 0) × (lowered p ≡ lines 𝓝 𝓣 w (low (traded p q)))

    abbrev Swaps : ℕ → Type 0
    Swaps p = p ≢ 0 → det 𝓝 (suc w) q ≡ neg (det 𝓝 (suc w) (traded p q))

  record Width (w : ℕ) : Type 0 where
    lower : (q : Mat 𝓝) → 𝓣.null (q 0 0) ≡ false → det 𝓝 (suc w) q ≡ q 0 0 ⋆ det 𝓝 w (low q)
    empty : (q : Mat 𝓝) → ((i : ℕ) → i < suc w → q i 0 ≡ 𝟘) → det 𝓝 (suc w) q ≡ 𝟘
    swap : (q : Mat 𝓝) → Each (Swaps w q) (suc w)
    brought : (q : Mat 𝓝) → Each (Brought w q) (suc w)

  -- the elimination of w rows gives their determinant
  abbrev Eliminates : ℕ → Type 0
  Eliminates w = (q : Mat 𝓝) (d : N) → eliminated 𝓝 𝓣 w (lines 𝓝 𝓣 w q) d ≡ d ⋆ det 𝓝 w q

  one-wider : (w : ℕ) → Width w → Eliminates w → Eliminates (suc w)
  unfolding eliminated Nulls up_from
  one-wider w 𝓦 ih q d = by (𝓣.null (q p 0)) refl
    where
      p : ℕ
      p = last_largest 𝓝 𝓣 (from_row w q 1 w) 1 (record { row = 0; head = q 0 0 })

      pivot : Good q (suc w) p
      pivot =
          subst (λ m. Good q m p) same
          (best w q w 1 (record { row = 0; head = q 0 0 }) refl (lit< tt, λ t j l. ap (λ m. 𝓣.null (q m 0)) (only j l) ∙ t))
        where
          same : 1 + w ≡ suc w
          same = omega arith

          only : (j : ℕ) → j < 1 → j ≡ 0
          only j l = omega arith

      d' : N
      d' = cond (eqb p 0) d (neg d)

      rest : N → N
      rest h = eliminated 𝓝 𝓣 w (lowered w q p) (d' ⋆ h)

      brought : Brought w q p
      brought = at-each (Brought w q) (suc w) (𝓦.brought q) p pivot.0

      turned : d' ⋆ det 𝓝 (suc w) (traded p q) ≡ d ⋆ det 𝓝 (suc w) q
      turned = at (cases_eq p 0)
        where
          at : (p ≡ 0) ⊎ (p ≢ 0) → d' ⋆ det 𝓝 (suc w) (traded p q) ≡ d ⋆ det 𝓝 (suc w) q
          at (inl e) =
              λ i. cond (eq-eqb p 0 e i) d (neg d) ⋆ det 𝓝 (suc w) (λ r. q ((ap (λ m. exchanged 0 m r) e ∙ exchanged_same 0 r) i))
          at (inr ne) =
              ap (λ t. cond t d (neg d) ⋆ det 𝓝 (suc w) (traded p q)) (ne_eqb p 0 ne)
              ∙ neg-mul 𝓛 d (det 𝓝 (suc w) (traded p q))
              ∙ sym (mul-neg 𝓛 d (det 𝓝 (suc w) (traded p q)))
              ∙ ap (λ x. d ⋆ x) (sym (at-each (Swaps w q) (suc w) (𝓦.swap q) p pivot.0 ne))

      by : (t : Bool) → 𝓣.null (q p 0) ≡ t
          → cond (𝓣.null (head_of 𝓝 𝓣 (pivotal w q p))) 𝟘 (rest (head_of 𝓝 𝓣 (pivotal w q p))) ≡ d ⋆ det 𝓝 (suc w) q
      by true z =
          (λ i. cond ((ap 𝓣.null brought.0 ∙ z) i) 𝟘 (rest (brought.0 i)))
          ∙ sym (mul-zero 𝓛 d)
          ∙ ap (λ x. d ⋆ x) (sym (𝓦.empty q (λ i l. 𝓥.is-null (q i 0) (pivot.1 z i l))))
      by false z =
          (λ i. cond ((ap 𝓣.null brought.0 ∙ z) i) 𝟘 (rest (brought.0 i)))
          ∙ ap (λ rows. eliminated 𝓝 𝓣 w rows (d' ⋆ q p 0)) brought.1
          ∙ ih (low (traded p q)) (d' ⋆ q p 0)
          ∙ 𝓛.mul-assoc d' (q p 0) (det 𝓝 w (low (traded p q)))
          ∙ ap (λ x. d' ⋆ x) (sym (𝓦.lower (traded p q) z))
          ∙ turned

  -- ---- the identities

  -- the entries as variables, k to a row
  abbrev entries : ℕ → Mat 𝓝 → ℕ → N
  entries k q j = q (j / k) (j % k)

  abbrev entry_e : ℕ → Mat exps
  entry_e k r c = var (k * r + c)

  abbrev by-comm : (ρ : ℕ → N) (e f : Exp) → left-of commuting (plus e (minus f)) ≡ [] → value 𝓝 ρ e ≡ value 𝓝 ρ f
  by-comm ρ = solve 𝓛 ρ commuting (obeys-comm 𝓒 ρ)

  -- with quotients in the place of the first column, below the pivot
  abbrev below_pivot : ℕ → ℕ → Bool
  below_pivot r c = eqb c 0 && not (eqb r 0)

  abbrev over : Mat 𝓝 → Mat 𝓝
  over q r c = cond (below_pivot r c) (𝓣.div (q r 0) (q 0 0)) (q r c)

  abbrev whole : Mat 𝓝 → Mat 𝓝
  whole q r c = cond (below_pivot r c) (𝓣.div (q r 0) (q 0 0) ⋆ q 0 0) (q r c)

  abbrev whole_e : ℕ → Mat exps
  whole_e k r c = cond (below_pivot r c) (times (var (k * r)) (var 0)) (var (k * r + c))

  abbrev low_e : ℕ → Mat exps
  low_e k r c = plus (var (k * suc r + suc c)) (minus (times (var (k * suc r)) (var (suc c))))

  whole-is : (q : Mat 𝓝) → 𝓣.null (q 0 0) ≡ false → q ≡ whole q
  whole-is q z = λ i r c. at r c (eqb c 0) refl (eqb r 0) i
    where
      at : (r c : ℕ) (s : Bool) → eqb c 0 ≡ s → (t : Bool) → q r c ≡ cond (s && not t) (𝓣.div (q r 0) (q 0 0) ⋆ q 0 0) (q r c)
      at r c true e true = refl
      at r c true e false = ap (q r) (eqb-true c 0 e) ∙ sym (𝓥.quotient (q r 0) (q 0 0) z)
      at r c false e t = refl

  -- with zeros in the first column
  abbrev emptied : ℕ → Mat 𝓝 → Mat 𝓝
  emptied k q r c = cond (eqb c 0 && ltb r k) 𝟘 (q r c)

  emptied-is : (k : ℕ) (q : Mat 𝓝) → ((i : ℕ) → i < k → q i 0 ≡ 𝟘) → q ≡ emptied k q
  emptied-is k q h = λ i r c. at r c (eqb c 0) refl (ltb r k) refl i
    where
      at : (r c : ℕ) (s : Bool) → eqb c 0 ≡ s → (t : Bool) → ltb r k ≡ t → q r c ≡ cond (s && t) 𝟘 (q r c)
      at r c true e true f = ap (q r) (eqb-true c 0 e) ∙ h r (ltb-true r k f)
      at r c true e false f = refl
      at r c false e t f = refl

  abbrev empty_e : ℕ → Mat exps
  empty_e k r c = cond (eqb c 0) nought (var (k * r + c))

  abbrev swapped : (k : ℕ) (q : Mat 𝓝) (p : ℕ) → left-of commuting (plus (det exps k (entry_e k)) (minus (minus (det exps k (traded p (entry_e k)))))) ≡ []
      → value 𝓝 (entries k q) (det exps k (entry_e k)) ≡ value 𝓝 (entries k q) (minus (det exps k (traded p (entry_e k))))
  swapped k q p = by-comm (entries k q) (det exps k (entry_e k)) (minus (det exps k (traded p (entry_e k))))

  width0 : Width 0
  unfolding up_from xor
  width0 = record {
    lower = λ q z. by-comm (entries 1 q) (det exps 1 (entry_e 1)) (times (var 0) unit) refl;
    empty = λ q h. ap (det 𝓝 1) (emptied-is 1 q h) ∙ by-comm (entries 1 q) (det exps 1 (empty_e 1)) nought refl;
    swap = λ q. (λ ne. absurd (ne refl), tt);
    brought = λ q. ((refl, refl), tt);
  }

  width1 : Width 1
  unfolding up_from xor
  width1 = record {
    lower = λ q z. ap (det 𝓝 2) (whole-is q z) ∙ by-comm (entries 2 (over q)) (det exps 2 (whole_e 2)) (times (var 0) (det exps 1 (low_e 2))) refl;
    empty = λ q h. ap (det 𝓝 2) (emptied-is 2 q h) ∙ by-comm (entries 2 q) (det exps 2 (empty_e 2)) nought refl;
    swap = λ q. (λ ne. swapped 2 q 1 refl, (λ ne. absurd (ne refl), tt));
    brought = λ q. ((refl, refl), ((refl, refl), tt));
  }

  width2 : Width 2
  unfolding up_from xor
  width2 = record {
    lower = λ q z. ap (det 𝓝 3) (whole-is q z) ∙ by-comm (entries 3 (over q)) (det exps 3 (whole_e 3)) (times (var 0) (det exps 2 (low_e 3))) refl;
    empty = λ q h. ap (det 𝓝 3) (emptied-is 3 q h) ∙ by-comm (entries 3 q) (det exps 3 (empty_e 3)) nought refl;
    swap = λ q. (λ ne. swapped 3 q 2 refl, (λ ne. swapped 3 q 1 refl, (λ ne. absurd (ne refl), tt)));
    brought = λ q. ((refl, refl), ((refl, refl), ((refl, refl), tt)));
  }

  width3 : Width 3
  unfolding up_from xor
  width3 = record {
    lower = λ q z. ap (det 𝓝 4) (whole-is q z) ∙ by-comm (entries 4 (over q)) (det exps 4 (whole_e 4)) (times (var 0) (det exps 3 (low_e 4))) refl;
    empty = λ q h. ap (det 𝓝 4) (emptied-is 4 q h) ∙ by-comm (entries 4 q) (det exps 4 (empty_e 4)) nought refl;
    swap = λ q. (λ ne. swapped 4 q 3 refl, (λ ne. swapped 4 q 2 refl, (λ ne. swapped 4 q 1 refl, (λ ne. absurd (ne refl), tt))));
    brought = λ q. ((refl, refl), ((refl, refl), ((refl, refl), ((refl, refl), tt))));
  }

  -- ---- the engine's determinant

  none : Eliminates 0
  unfolding eliminated
  none q d = sym (𝓛.mul-one d)

  -- THE ENGINE'S DETERMINANT IS THE DETERMINANT, of the widths that maps have
  pub own-det-two : (q : Mat 𝓝) → own_det 𝓝 𝓣 2 q ≡ det 𝓝 2 q
  unfolding own_det xor
  own-det-two q =
      by-comm (entries 2 q) (plus (times (var 0) (var 3)) (minus (times (var 1) (var 2)))) (det exps 2 (entry_e 2)) refl

  pub own-det-four : (q : Mat 𝓝) → own_det 𝓝 𝓣 4 q ≡ det 𝓝 4 q
  unfolding own_det
  own-det-four q =
      one-wider 3 width3 (one-wider 2 width2 (one-wider 1 width1 (one-wider 0 width0 none))) q 𝟙 ∙ 𝓛.one-mul (det 𝓝 4 q)

-- THE STATEMENT
pub det-theorem : DetTheorem
det-theorem 𝓝 𝓒 𝓣 𝓥 q = (own-det-two 𝓒 𝓥 q, own-det-four 𝓒 𝓥 q)
