-- Covariances that are equal up to the sign of a zero give the same answers: products up to that sign, with the same rows; marginals and shots exactly. Of
-- covariances that are equal, products are equal. Assumes nothing.
use mathlib.Core.Path.{◌≡◌, refl, sym, ap, ◌∙◌}
use mathlib.Core.Bool.{false, cond, ◌&&◌}
use mathlib.Core.List.{List}
use Prim.Native.Nat.{ℕ, zero, suc, ◌+◌, ◌*◌, ◌/◌, ◌%◌, ◌<◌}
use native.Mathlib.Omega.{arith}
use lib.Dec.{eqb, ltb}
use lib.ListN.{length, get_or}
use lib.Ieee.{Float, nan, inf, fin, binary64, add, sub, mul, lt}
use Rattle.laws.specs.Zeros.{+0, nz}
use Rattle.laws.specs.Matrix.{Mat}
use Rattle.laws.specs.Tables.{mode_at}
use Rattle.laws.proofs.Zeros.{lt-nz, nz-nz, add_cong, sub-cong, mul-cong, cond-cong}
use Rattle.laws.proofs.Views.{up_same}
use Rattle.pfaffian.specs.declared.pairs.End.{End}
use Rattle.pfaffian.specs.declared.pairs.End.TheVariants.{Value, Stopped}
use Rattle.pfaffian.specs.Shot.{half, draw_from}
use Rattle.pfaffian.proofs.Seen.{Alike}
use Rattle.pfaffian.proofs.Congruent.{seen_of, pfaffian-same, pfaffian-cong}
use Rattle.pfaffian.proofs.SameShots.{shot-cong}
use Rattle.queries.specs.Answers.{rowless, taken_apart}
use Rattle.queries.specs.Lists.{passing, odd_mode, odd_modes, noted_modes}
use Rattle.queries.specs.Products.{index_of, restricted, dim_left, product_of}
use Rattle.queries.specs.Marginals.{half_spin_of, halved, asked_matrix, sign_of, at_least_zero_of, marked_of}
use Rattle.queries.specs.Samples.{shot_at, word_at, sampled}
use Rattle.queries.proofs.Searches.{passing-ascends}

-- zero, if it is not above zero
none_below : lt +0 +0 ≡ false
unfolding lt
none_below = refl

positive-nz : (x : Float) → at_least_zero_of x ≡ at_least_zero_of (nz x)
positive-nz nan = refl
positive-nz (inf s) = refl
positive-nz (fin s zero e) =
    ap (λ b. cond b (fin s zero e) +0) (lt-nz +0 (fin s zero e) ∙ none_below) ∙ ap (λ b. cond b +0 +0) (sym none_below)
positive-nz (fin s (suc m) e) = refl

positive-cong : (x y : Float) → nz x ≡ nz y → at_least_zero_of x ≡ at_least_zero_of y
positive-cong x y h = positive-nz x ∙ ap at_least_zero_of h ∙ sym (positive-nz y)

-- ---- what is taken apart of a Pfaffian is told by what is seen of it

seen-product : (p q : End) → seen_of nz p ≡ seen_of nz q
    → (nz (taken_apart (λ x. x) p).value ≡ nz (taken_apart (λ x. x) q).value) × ((taken_apart (λ x. x) p).row ≡ (taken_apart (λ x. x) q).row)
seen-product p q h = (value p ∙ ap (λ p. (taken_apart (λ x. x) p).value) h ∙ sym (value q), row p ∙ ap (λ p. (taken_apart (λ x. x) p).row) h ∙ sym (row q))
  where
    value : (p : End) → nz (taken_apart (λ x. x) p).value ≡ (taken_apart (λ x. x) (seen_of nz p)).value
    value (Value x) = refl
    value (Stopped k) = refl

    row : (p : End) → (taken_apart (λ x. x) p).row ≡ (taken_apart (λ x. x) (seen_of nz p)).row
    row (Value x) = refl
    row (Stopped k) = refl

seen-marginal : (s : Float) (p q : End) → seen_of nz p ≡ seen_of nz q
    → taken_apart (λ x. at_least_zero_of (mul binary64 s x)) p ≡ taken_apart (λ x. at_least_zero_of (mul binary64 s x)) q
seen-marginal s p q h = seen p ∙ ap (taken_apart (λ x. at_least_zero_of (mul binary64 s x))) h ∙ sym (seen q)
  where
    seen : (p : End)
        → taken_apart (λ x. at_least_zero_of (mul binary64 s x)) p ≡ taken_apart (λ x. at_least_zero_of (mul binary64 s x)) (seen_of nz p)
    seen (Value x) = ap rowless (positive-cong (mul binary64 s x) (mul binary64 s (nz x)) (mul-cong s x s (nz x) refl (sym (nz-nz x))))
    seen (Stopped k) = refl

-- ---- modes below n

module _ (v : Float → Float) (e e' : Mat) (n : ℕ) (h : Alike v 0 (2 * n) e e') (l : List ℕ) (below : (j : ℕ) → j < length l → get_or l j 0 < n) where
  row_below : (r : ℕ) → r < dim_left l → index_of l r < 2 * n
  row_below r b = omega (arith, below (r / 2) (omega arith))

  restricted-seen : Alike v 0 (dim_left l) (restricted e l) (restricted e' l)
  restricted-seen r c lr hr lc hc = h (index_of l r) (index_of l c) (omega arith) (row_below r hr) (omega arith) (row_below c hc)

-- of equal covariances the product is equal
pub product-same : (e e' : Mat) (n : ℕ) → Alike (λ x. x) 0 (2 * n) e e' → (modes qs : List ℕ)
    → product_of e (odd_modes n modes qs) ≡ product_of e' (odd_modes n modes qs)
unfolding product_of odd_modes
product-same e e' n h modes qs =
    let odd = odd_mode modes qs (length qs) in
    let l = passing odd n in
    ap (taken_apart (λ x. x))
    (pfaffian-same (restricted e l) (restricted e' l) (dim_left l) (restricted-seen (λ x. x) e e' n h l (passing-ascends odd n).below))

module _ (e e' : Mat) (n : ℕ) (h : Alike nz 0 (2 * n) e e') where
  module _ (l : List ℕ) (below : (j : ℕ) → j < length l → get_or l j 0 < n) where
    restricted-cong : Alike nz 0 (dim_left l) (restricted e l) (restricted e' l)
    restricted-cong = restricted-seen nz e e' n h l below

    pub product-cong : (nz (product_of e l).value ≡ nz (product_of e' l).value) × ((product_of e l).row ≡ (product_of e' l).row)
    unfolding product_of
    product-cong = seen-product _ _ (pfaffian-cong (restricted e l) (restricted e' l) (dim_left l) restricted-cong)

    asked-cong : (mark : ℕ → ℕ) → Alike nz 0 (dim_left l) (asked_matrix e mark l) (asked_matrix e' mark l)
    asked-cong mark r c lr hr lc hc =
        let s = half_spin_of (mark (get_or l (r / 2) 0)) in
        let x = halved (restricted e l) r c in
        let y = halved (restricted e' l) r c in
        let xy : nz x ≡ nz y = mul-cong half (restricted e l r c) half (restricted e' l r c) refl (restricted-cong r c lr hr lc hc) in
        let lower = eqb (c % 2) 0 && eqb r (c + 1) in
        cond-cong (eqb (r % 2) 0 && eqb c (r + 1)) (add binary64 x s) (cond lower (sub binary64 x s) x) (add binary64 y s)
        (cond lower (sub binary64 y s) y) (add_cong x s y s xy refl)
        (cond-cong lower (sub binary64 x s) x (sub binary64 y s) y (sub-cong x s y s xy refl) xy)

  -- the product over a list
  pub odd-product-cong : (modes qs : List ℕ)
      → (nz (product_of e (odd_modes n modes qs)).value ≡ nz (product_of e' (odd_modes n modes qs)).value)
      × ((product_of e (odd_modes n modes qs)).row ≡ (product_of e' (odd_modes n modes qs)).row)
  unfolding odd_modes
  odd-product-cong modes qs =
      product-cong (passing (odd_mode modes qs (length qs)) n) (passing-ascends (odd_mode modes qs (length qs)) n).below

  -- a marginal
  pub marked-cong : (mark : ℕ → ℕ) → marked_of e n mark ≡ marked_of e' n mark
  unfolding marked_of
  marked-cong mark =
      let l = noted_modes n mark in
      seen-marginal (sign_of n mark) _ _
      (pfaffian-cong (asked_matrix e mark l) (asked_matrix e' mark l) (dim_left l)
      (asked-cong l (passing-ascends (λ k. ltb 0 (mark k)) n).below mark))

  -- a shot, and all of them
  pub shot-at-cong : (modes : List ℕ) (draws : List Float) (i : ℕ) → shot_at e n modes draws i ≡ shot_at e' n modes draws i
  shot-at-cong modes draws i = shot-cong e e' n (draw_from draws (i * n)) (mode_at modes) h

  pub sampled-cong : (modes : List ℕ) (shots : ℕ) (draws : List Float) (out : List ℕ)
      → sampled e n modes shots draws out ≡ sampled e' n modes shots draws out
  unfolding sampled
  sampled-cong modes shots draws out =
      up_same _ _ 0 (length out)
      (λ j a b. ap (λ w. cond (ltb j (2 * shots)) (word_at w (j % 2)) (get_or out j 0)) (shot-at-cong modes draws (j / 2)))
