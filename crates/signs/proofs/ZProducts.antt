-- Z products: where a state has the covariance of the Majorana operators pulled back, the engine's Pfaffian of the listed modes is the value of their
-- Z product pulled back. The operators are those of the listed modes; they turn one mode each, and they anticommute. Assumes nothing.
use mathlib.Core.Path.{◌≡◌, refl, sym, ap, ◌∙◌}
use mathlib.Core.Logic.{◌≢◌}
use mathlib.Core.Bool.{true, cond}
use mathlib.Core.List.{List}
use Prim.Native.Nat.{ℕ, zero, suc, ◌+◌, ◌*◌, ◌/◌, ◌%◌, ◌<◌}
use native.Mathlib.Omega.{arith}
use lib.ListN.{get_or, length}
use borrow.Author.Tests.{ne_eqb}
use Rattle.laws.specs.Zeros.{+0, +1, nz}
use Rattle.laws.specs.Matrix.{Mat}
use Rattle.laws.specs.Phase.{i2}
use Rattle.local.specs.State.{State, get}
use Rattle.pfaffian.proofs.Number.{pf, pfaffian_number}
use Rattle.queries.proofs.Rows.{product-number}
use Rattle.queries.specs.Products.{index_of, restricted, product_of}
use Rattle.signs.specs.Paulis.{Str, times, signed, mul, identity, plus, float, expectation}
use Rattle.signs.specs.Majoranas.{gamma, zs, DistinctModes}
use Rattle.signs.specs.Circuits.{BlockOp, pulled, Within}
use Rattle.signs.proofs.Runs.{pulled-times, pulled-mul, pulled-gamma, pulled-identity}
use Rattle.signs.proofs.Pairs.{Turns, gamma-turns, signed-turns}
use Rattle.signs.proofs.Steps.{Holds, get-is}
use Rattle.signs.proofs.Products.{prod, Apart, minus_i}
use Rattle.signs.proofs.Pfaffians.{dbl, Matching, pf-worth}
use Rattle.signs.proofs.Parities.{gamma-anti, zs-product}

module _ (n : ℕ) (xs : List BlockOp) (within : Within n xs) (js : List ℕ) (modes : DistinctModes n js) where
  operator : ℕ → Str
  operator i = pulled xs (gamma (index_of js i))

  index_below : (i : ℕ) → i < 2 * length js → index_of js i < 2 * n
  index_below i l = let b = modes.below (i / 2) (omega arith) in omega arith

  turns : (i : ℕ) → i < 2 * length js → Turns n (operator i)
  unfolding operator
  turns i l =
      let s = pulled-gamma n xs within (index_of js i) (index_below i l) in
      rw s.3 (signed-turns n s.0 (gamma s.1) (gamma-turns n s.1 s.2))

  apart : Apart n (2 * length js) operator
  unfolding operator
  apart i j li lj d =
      sym (pulled-mul n xs within (gamma (index_of js i)) (gamma (index_of js j)))
      ∙ ap (pulled xs) (gamma-anti n (index_of js i) (index_of js j) (index_below i li) (index_below j lj) differ)
      ∙ pulled-times xs i2 (mul n (gamma (index_of js j)) (gamma (index_of js i)))
      ∙ ap (signed true) (pulled-mul n xs within (gamma (index_of js j)) (gamma (index_of js i)))
    where
      differ : index_of js i ≢ index_of js j
      differ e =
          let u = get_or js (i / 2) 0 in
          let v = get_or js (j / 2) 0 in
          let h = modes.different (i / 2) (j / 2) (omega arith) (omega arith) (half u v e) in
          d (omega (arith, h, rest u v e))
        where
          half : (u v : ℕ) → 2 * u + i % 2 ≡ 2 * v + j % 2 → u ≡ v
          half u v e = omega arith

          rest : (u v : ℕ) → 2 * u + i % 2 ≡ 2 * v + j % 2 → i % 2 ≡ j % 2
          rest u v e = omega arith

  pulled-prod : (k m : ℕ) → pulled xs (prod n (λ i. gamma (index_of js i)) k m identity) ≡ prod n operator k m identity
  unfolding prod operator
  pulled-prod k zero = pulled-identity xs
  pulled-prod k (suc m) =
      pulled-mul n xs within (gamma (index_of js k)) (prod n (λ i. gamma (index_of js i)) (suc k) m identity)
      ∙ ap (mul n (operator k)) (pulled-prod (suc k) m)

  double : (p : ℕ) → dbl p ≡ 2 * p
  double zero = refl
  double (suc p) = ap (λ k. suc (suc k)) (double p) ∙ two p
    where
      two : (p : ℕ) → suc (suc (2 * p)) ≡ 2 * suc p
      two p = omega arith

  pub z-product : (t : State) → Holds n t (λ a. pulled xs (gamma a)) → nz (product_of (get t) js).value ≡ float (expectation n (pulled xs (zs js)))
  unfolding pfaffian_number operator
  z-product t holds =
      ap nz (product-number (get t) js)
      ∙ ap (λ b. nz (cond b +0 (pf a (2 * L / 2) 0 (2 * L) +1))) (ne_eqb (2 * L % 2) 1 (λ e. omega arith))
      ∙ ap (λ p. nz (pf a p 0 (2 * L) +1)) half
      ∙ pf-worth n L 0 (2 * L) (omega (arith, double L)) a operator +1 plus matching refl
      ∙ ap (λ s. float (expectation n s))
      (ap (times (minus_i L)) (sym (pulled-prod 0 (dbl L))) ∙ sym (pulled-times xs (minus_i L) (prod n (λ i. gamma (index_of js i)) 0 (dbl L) identity))
      ∙ ap (pulled xs) (zs-product n js modes.below))
    where
      L : ℕ
      L = length js

      a : Mat
      a = restricted (get t) js

      half : 2 * L / 2 ≡ L
      half = omega arith

      matching : Matching n 0 (2 * L) a operator
      matching = record {
        apart = apart;
        turns = turns;
        covers = λ i j _ li _ lj. get-is n t (λ a. pulled xs (gamma a)) holds (index_of js i) (index_of js j) (index_below i li) (index_below j lj);
      }
