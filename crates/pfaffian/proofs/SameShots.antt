-- A shot of two matrices that are seen alike is the same: so for equal ones, and for such as are equal up to the sign of a zero. A division is by a
-- den above 1e-300, which is no zero. And a shot of one matrix turns on its own draws alone. Assumes nothing.
use mathlib.Core.Path.{◌≡◌, refl, sym, ap, ◌∙◌}
use mathlib.Core.Logic.{◌≢◌}
use mathlib.Core.Bool.{Bool, true, false, cond, ◌&&◌, true≢false}
use mathlib.Core.List.{List, ◌∷◌}
use Prim.Native.Nat.{ℕ, zero, suc, ◌+◌, ◌*◌, ◌≤◌, ◌<◌}
use native.Mathlib.Omega.{arith}
use lib.Dec.{ltb}
use lib.Ieee.{Float, binary64, add, sub, mul, div, neg, le, lt, eq, of_bits}
use Rattle.laws.specs.Zeros.{+0, +1, nz}
use Rattle.laws.specs.Matrix.{Mat}
use Rattle.laws.proofs.Zeros.{le-cong}
use Rattle.pfaffian.specs.Shot.{half, tiny, mab_of, drawn, spin_of, den, projected, updated, after_mode, shot, shot_of, qubit_bit, word_of}
use Rattle.pfaffian.proofs.Seen.{Seen, Alike, exactly, up-to-zeros, cond-seen, clamp-seen}

-- what is not tiny is no zero
tiny-above : le +0 tiny ≡ true
unfolding of_bits le lt eq
tiny-above = refl

not-tiny : (x : Float) → le x tiny ≡ false → nz x ≢ +0
not-tiny x f z = true≢false (sym tiny-above ∙ sym (le-cong x tiny +0 tiny z refl) ∙ f)

module _ (v : Float → Float) (see : Seen v) (dim k : ℕ) (a b : Mat) (room : 2 * k + 2 ≤ dim) (h : Alike v (2 * k) dim a b) where
  mab-seen : v (mab_of a k) ≡ v (mab_of b k)
  mab-seen =
      clamp-seen v see (a (2 * k) (2 * k + 1)) (b (2 * k) (2 * k + 1)) (neg +1) +1
      (h (2 * k) (2 * k + 1) (omega arith) (omega arith) (omega arith) (omega arith))

  drawn-seen : (t : Float) → drawn a k t ≡ drawn b k t
  drawn-seen t =
      see.le-seen (mul binary64 half (add binary64 +1 (mab_of a k))) t (mul binary64 half (add binary64 +1 (mab_of b k))) t
      (see.mul-seen half (add binary64 +1 (mab_of a k)) half (add binary64 +1 (mab_of b k)) refl
      (see.add-seen +1 (mab_of a k) +1 (mab_of b k) refl mab-seen))
      refl

  module _ (one : Bool) where
    den-seen : v (den a k one) ≡ v (den b k one)
    den-seen =
        see.add-seen +1 (mul binary64 (spin_of one) (mab_of a k)) +1 (mul binary64 (spin_of one) (mab_of b k)) refl
        (see.mul-seen (spin_of one) (mab_of a k) (spin_of one) (mab_of b k) refl mab-seen)

    module _ (f g : Float) (q : v f ≡ v g) where
      projected-seen : (c e : ℕ) → 2 * k + 2 ≤ c → c < dim → 2 * k + 2 ≤ e → e < dim → v (projected a f k c e) ≡ v (projected b g k c e)
      projected-seen c e lc hc l h' =
          let A = 2 * k in
          let B = 2 * k + 1 in
          let at : (i j : ℕ) → 2 * k ≤ i → i < dim → 2 * k ≤ j → j < dim → v (a i j) ≡ v (b i j) = h in
          let cb = at c B (omega arith) hc (omega arith) (omega arith) in
          let ea = at e A (omega arith) h' (omega arith) (omega arith) in
          let ca = at c A (omega arith) hc (omega arith) (omega arith) in
          let eb = at e B (omega arith) h' (omega arith) (omega arith) in
          see.add-seen (a c e) (mul binary64 f (sub binary64 (mul binary64 (a c B) (a e A)) (mul binary64 (a c A) (a e B))))
          (b c e) (mul binary64 g (sub binary64 (mul binary64 (b c B) (b e A)) (mul binary64 (b c A) (b e B))))
          (at c e (omega arith) hc (omega arith) h')
          (see.mul-seen f (sub binary64 (mul binary64 (a c B) (a e A)) (mul binary64 (a c A) (a e B)))
          g (sub binary64 (mul binary64 (b c B) (b e A)) (mul binary64 (b c A) (b e B))) q
          (see.sub-seen (mul binary64 (a c B) (a e A)) (mul binary64 (a c A) (a e B)) (mul binary64 (b c B) (b e A)) (mul binary64 (b c A) (b e B))
          (see.mul-seen (a c B) (a e A) (b c B) (b e A) cb ea) (see.mul-seen (a c A) (a e B) (b c A) (b e B) ca eb)))

      updated-seen : Alike v (2 * suc k) dim (updated a f k) (updated b g k)
      updated-seen c e lc hc l h' =
          let old = h c e (omega arith) hc (omega arith) h' in
          let right = projected-seen c e (omega arith) hc (omega arith) h' in
          let left = see.neg-seen (projected a f k e c) (projected b g k e c) (projected-seen e c (omega arith) h' (omega arith) hc) in
          let both = ltb (2 * k + 1) c && ltb (2 * k + 1) e in
          cond-seen v both both (cond (ltb c e) (projected a f k c e) (cond (ltb e c) (neg (projected a f k e c)) (a c e))) (a c e)
          (cond (ltb c e) (projected b g k c e) (cond (ltb e c) (neg (projected b g k e c)) (b c e))) (b c e) refl
          (cond-seen v (ltb c e) (ltb c e) (projected a f k c e) (cond (ltb e c) (neg (projected a f k e c)) (a c e))
          (projected b g k c e) (cond (ltb e c) (neg (projected b g k e c)) (b c e)) refl right
          (cond-seen v (ltb e c) (ltb e c) (neg (projected a f k e c)) (a c e) (neg (projected b g k e c)) (b c e) refl left old))
          old

    next-seen : Alike v (2 * suc k) dim (after_mode a k one) (after_mode b k one)
    next-seen c e lc hc l h' =
        by (le (den a k one) tiny) refl
        ∙ ap (λ (t : Bool). v (cond t b (updated b (div binary64 (spin_of one) (den b k one)) k) c e))
        (see.le-seen (den a k one) tiny (den b k one) tiny den-seen refl)
      where
        by : (t : Bool) → le (den a k one) tiny ≡ t
            → v (cond t a (updated a (div binary64 (spin_of one) (den a k one)) k) c e)
            ≡ v (cond t b (updated b (div binary64 (spin_of one) (den b k one)) k) c e)
        by true f = h c e (omega arith) hc (omega arith) h'
        by false f =
            updated-seen (div binary64 (spin_of one) (den a k one)) (div binary64 (spin_of one) (den b k one))
            (see.div-seen (spin_of one) (den a k one) (spin_of one) (den b k one) refl den-seen (not-tiny (den a k one) f)) c e lc hc l h'

module _ (v : Float → Float) (see : Seen v) (t : ℕ → Float) where
  pub shot-seen : (n k dim : ℕ) (a b : Mat) → 2 * (k + n) ≤ dim → Alike v (2 * k) dim a b → shot a k n t ≡ shot b k n t
  unfolding shot
  shot-seen zero k dim a b room h = refl
  shot-seen (suc n) k dim a b room h =
      let two : 2 * k + 2 ≤ dim = omega arith in
      let one = drawn a k (t k) in
      let same : one ≡ drawn b k (t k) = drawn-seen v see dim k a b two h (t k) in
      (λ i. same i ∷ shot-seen n (suc k) dim (after_mode a k one) (after_mode b k one) (omega arith) (next-seen v see dim k a b two h one) i)
      ∙ ap (λ (o : Bool). drawn b k (t k) ∷ shot (after_mode b k o) (suc k) n t) same

  shot-of-seen : (n : ℕ) (modes : ℕ → ℕ) (a b : Mat) → Alike v 0 (2 * n) a b → shot_of a n t modes ≡ shot_of b n t modes
  shot-of-seen n modes a b h =
      ap (λ (outcomes : List Bool). record { low = word_of (qubit_bit modes n outcomes) 0 64; high = word_of (qubit_bit modes n outcomes) 64 64 })
      (shot-seen n 0 (2 * n) a b (omega arith) (λ i j li hi lj hj. h i j (omega arith) hi (omega arith) hj))

-- ---- equal, and equal up to the sign of a zero

pub shot-same : (e e' : Mat) (n : ℕ) (t : ℕ → Float) (modes : ℕ → ℕ) → Alike (λ x. x) 0 (2 * n) e e' → shot_of e n t modes ≡ shot_of e' n t modes
shot-same e e' n t modes h = shot-of-seen (λ x. x) exactly t n modes e e' h

pub shot-cong : (e e' : Mat) (n : ℕ) (t : ℕ → Float) (modes : ℕ → ℕ) → Alike nz 0 (2 * n) e e' → shot_of e n t modes ≡ shot_of e' n t modes
shot-cong e e' n t modes h = shot-of-seen nz up-to-zeros t n modes e e' h

-- ---- one matrix: only the draws of the n modes from k on are read

pub shot-draws : (n k : ℕ) (m : Mat) (t t' : ℕ → Float) → ((x : ℕ) → k ≤ x → x < k + n → t x ≡ t' x) → shot m k n t ≡ shot m k n t'
unfolding shot
shot-draws zero k m t t' h = refl
shot-draws (suc n) k m t t' h =
    let same : drawn m k (t k) ≡ drawn m k (t' k) = ap (drawn m k) (h k (omega arith) (omega arith)) in
    (λ i. same i ∷ shot (after_mode m k (same i)) (suc k) n t)
    ∙ ap (λ l. drawn m k (t' k) ∷ l) (shot-draws n (suc k) (after_mode m k (drawn m k (t' k))) t t' (λ x a b. h x (omega arith) (omega arith)))
