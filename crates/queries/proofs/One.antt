-- THE LAW OF ONE QUBIT: the product over one qubit is the entry of its mode, with +0.0 for either zero, which is found in row 0. The Pfaffian of dimension 2
-- is 1.0 times the entry, but where the entry is a zero its search stops. Assumes nothing. A public promise rests on this.
use mathlib.Core.Path.{◌≡◌, refl, sym, ap, ◌∙◌}
use mathlib.Core.Logic.{◌⊎◌, inl, inr, ◌≢◌}
use mathlib.Core.Bool.{Bool, true, false, not, cond}
use mathlib.Core.List.{List, [], ◌∷◌}
use Prim.Native.Nat.{ℕ, zero, suc, ◌+◌, ◌*◌, ◌≤◌, ◌<◌}
use native.Mathlib.Nat.{add-zero}
use native.Mathlib.Omega.{arith}
use lib.Dec.{T, eqb}
use lib.ListN.{length}
use lib.Ieee.{Float, nan, inf, fin, binary64, fits, mul, eq}
use lib.Ieee.Fits.{mul-fits}
use borrow.Author.Tests.{eq-eqb, ne_eqb, le-leb, lt-leb}
use Rattle.std.proofs.lemmas.Bool.{cases_eq}
use Rattle.laws.specs.Zeros.{+0, +1, nz}
use Rattle.laws.specs.Matrix.{Mat}
use Rattle.laws.specs.Tables.{mode_at}
use Rattle.laws.proofs.Fit.{one-times}
use Rattle.num.specs.Order.{abs_of}
use Rattle.state.specs.Questions.{state_ok}
use Rattle.state.specs.Answers.{accepted}
use Rattle.state.proofs.Permutations.{mode-below}
use Rattle.state.proofs.Questions as questions
use Rattle.pfaffian.specs.declared.pairs.End.TheVariants.{Value, Stopped}
use Rattle.pfaffian.specs.Pfaffian.{search, ended, pfaffian_of}
use Rattle.pfaffian.proofs.Seen.{abs-zero, not-zero}
use Rattle.queries.specs.Answers.{Number, rowless, stopped, taken_apart, given}
use Rattle.queries.specs.Lists.{first_from, oddly, passing, bad_place, odd_modes}
use Rattle.queries.specs.Products.{z_of, restricted, product_of}
use Rattle.queries.specs.Calls.{covariance_of, worked, expectation_z_product_of}
use Rattle.queries.proofs.Searches.{passing-none}

-- ---- the Pfaffian of dimension 2

not-nan : eq (abs_of nan) +0 ≡ false
unfolding eq abs_of
not-nan = refl

not-inf : (s : Bool) → eq (abs_of (inf s)) +0 ≡ false
unfolding eq abs_of
not-inf s = refl

-- the entry x as a number: a zero is +0.0 and found in row 0, any other float is worked out
abbrev pub entry_alone : Float → Number
entry_alone x = cond (eq (abs_of x) +0) (stopped 0) (rowless x)

stops-or-takes : (x : Float) → T (fits binary64 x)
    → taken_apart (λ x. x) (cond (eq (abs_of x) +0) (Stopped 0) (Value (mul binary64 +1 x))) ≡ entry_alone x
stops-or-takes nan p = rw not-nan (ap rowless (one-times nan p))
stops-or-takes (inf s) p = rw (not-inf s) (ap rowless (one-times (inf s) p))
stops-or-takes (fin s zero e) p = rw (abs-zero (fin s zero e) refl) refl
stops-or-takes (fin s (suc m) e) p = rw (not-zero s m e) (ap rowless (one-times (fin s (suc m) e) p))

-- its value
pub alone-value : (x : Float) → (entry_alone x).value ≡ nz x
alone-value nan = rw not-nan refl
alone-value (inf s) = rw (not-inf s) refl
alone-value (fin s zero e) = rw (abs-zero (fin s zero e) refl) refl
alone-value (fin s (suc m) e) = rw (not-zero s m e) refl

pub pfaffian-two : (a : Mat) → T (fits binary64 (a 0 1)) → taken_apart (λ x. x) (pfaffian_of 2 a) ≡ entry_alone (a 0 1)
unfolding pfaffian_of ended search
pfaffian-two a p = stops-or-takes (a 0 1) p

-- ---- the list of one qubit

passing-one : (p : ℕ → Bool) (k n : ℕ) → k < n → ((j : ℕ) → j < n → p j ≡ eqb k j) → passing p n ≡ k ∷ []
unfolding passing
passing-one p k zero l h = absurd (omega arith)
passing-one p k (suc n) l h = by (cases_eq k n) (λ g. passing-one p k n g (λ j b. h j (omega arith)))
  where
    by : (k ≡ n) ⊎ (k ≢ n) → (k < n → passing p n ≡ k ∷ []) → passing p (suc n) ≡ k ∷ []
    by (inl e) rest =
        rw (h n (omega arith), eq-eqb k n e, passing-none p n (λ j b. h j (omega arith) ∙ ne_eqb k j (λ q. omega (arith, q, e))))
        (ap (λ x. x ∷ []) (sym e))
    by (inr ne) rest = rw (h n (omega arith), ne_eqb k n ne) (rest (omega arith))

one-left : (n : ℕ) (modes : List ℕ) (q : ℕ) → mode_at modes q < n → odd_modes n modes (q ∷ []) ≡ mode_at modes q ∷ []
unfolding odd_modes oddly
one-left n modes q l = passing-one _ (mode_at modes q) n l (λ j b. by (eqb (mode_at modes q) j))
  where
    by : (t : Bool) → cond t (not false) false ≡ t
    by true = refl
    by false = refl

-- ---- the law

module _ (n : ℕ) (s : List Float) (modes : List ℕ) (q : ℕ) (ok : state_ok n s modes ≡ true) (l : q < n) where
  abbrev e : Mat
  e = covariance_of n s

  abbrev k : ℕ
  k = mode_at modes q

  left : odd_modes n modes (q ∷ []) ≡ k ∷ []
  left = one-left n modes q (mode-below n modes (questions.asked n s modes ok).permutation q l)

  product-one : product_of e (k ∷ []) ≡ entry_alone (z_of e k)
  unfolding product_of
  product-one = pfaffian-two (restricted e (k ∷ [])) (mul-fits binary64 _ _) ∙ ap (λ i. entry_alone (e i (2 * k + 1))) (add-zero (2 * k))

  -- on a state that passes 16, of a qubit below n, with four places of work
  pub one-qubit-row : (w : List Float) → 4 ≤ length w → expectation_z_product_of n s modes (q ∷ []) w ≡ given (entry_alone (z_of e k))
  unfolding expectation_z_product_of bad_place first_from worked
  one-qubit-row w room = rw (ok, lt-leb n q l, left, le-leb 4 (length w) room) (ap given product-one)

  -- the number alone
  pub one-qubit : (w : List Float) → 4 ≤ length w → (expectation_z_product_of n s modes (q ∷ []) w).told ≡ accepted (nz (z_of e k))
  one-qubit w room = ap (λ a. a.told) (one-qubit-row w room) ∙ ap accepted (alone-value (z_of e k))
