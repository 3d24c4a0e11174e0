-- Sets of numbers as the bits of a word; and the words of the modes met so far: with all modes taken, every number below n is met exactly if they
-- are a permutation. Assumes nothing.
use Rattle.std.proofs.Common.{◌≡◌, ℕ, zero, suc, ◌+◌, ◌-◌, ◌*◌, ◌/◌, ◌%◌, ◌^◌, ◌<◌, ◌≤◌, max, Bool, true, false, eqb, ◌≢◌, ◌⊎◌, List, length, sym, refl, ap, ◌∙◌, inl, inr, not-suc-le-zero, mod-lt, zero-lt-suc, suc-mul, pow-suc, div-one, arith, pow_pos, pow-add, shr-shr, shr_lt, eq-eqb, ne_eqb, le-leb}
use native.Mathlib.Nat.{max-eq_left, max-eq_right, div-eq_of_lt, mul-mod_left}
use lib.Arith.{lt-one, digits_mod}
use lib.Bits.{bit_or, or_step, or_shr, or_lt, or_zero_r}
use lib.Pow.{pow-lt, suc_ones, ones_lt, high, shl-shr}
use Rattle.laws.specs.Tables.{mode_at}
use Rattle.laws.specs.Tests.{all_below}
use Rattle.std.proofs.lemmas.Bool.{cases_lt, cases_eq}
use Rattle.state.specs.Modes.{mode_ok, is_permutation}
use Rattle.state.proofs.Inverse.{every-met, qubit-below, qubit-mode}

-- ---- the bits of a word

-- j is in the set
abbrev pub On : ℕ → ℕ → Type 0
On w j = w / 2 ^ j % 2 ≡ 1

bit-or : (a b j : ℕ) → bit_or a b / 2 ^ j % 2 ≡ max (a / 2 ^ j % 2) (b / 2 ^ j % 2)
bit-or a b j = ap (λ x. x % 2) (or_shr a b j) ∙ odd (a / 2 ^ j) (b / 2 ^ j)
  where
    digit : (x y : ℕ) → x < 2 → y < 2 → max x y < 2
    digit x y h g = by (cases_lt x y)
      where
        by : (x < y) ⊎ (y ≤ x) → max x y < 2
        by (inl l) = let l' : x ≤ y = omega arith in rw (max-eq_right l') g
        by (inr l) = rw (max-eq_left l) h

    odd : (x y : ℕ) → bit_or x y % 2 ≡ max (x % 2) (y % 2)
    odd x y =
        ap (λ z. z % 2) (or_step x y)
        ∙ digits_mod (bit_or (x / 2) (y / 2)) (digit (x % 2) (y % 2) (mod-lt x (zero-lt-suc 1)) (mod-lt y (zero-lt-suc 1)))

-- a union has what either has, and no more
pub on-left : (a b j : ℕ) → On a j → On (bit_or a b) j
on-left a b j h =
    let g : b / 2 ^ j % 2 ≤ a / 2 ^ j % 2 = omega (arith, mod-lt (b / 2 ^ j) (zero-lt-suc 1)) in
    bit-or a b j ∙ max-eq_left g ∙ h

pub on-right : (a b j : ℕ) → On b j → On (bit_or a b) j
on-right a b j h =
    let g : a / 2 ^ j % 2 ≤ b / 2 ^ j % 2 = omega (arith, mod-lt (a / 2 ^ j) (zero-lt-suc 1)) in
    bit-or a b j ∙ max-eq_right g ∙ h

pub on-either : (a b j : ℕ) → On (bit_or a b) j → On a j ⊎ On b j
on-either a b j h = by (cases_lt (a / 2 ^ j % 2) (b / 2 ^ j % 2))
  where
    by : (a / 2 ^ j % 2 < b / 2 ^ j % 2) ⊎ (b / 2 ^ j % 2 ≤ a / 2 ^ j % 2) → On a j ⊎ On b j
    by (inl l) = let l' : a / 2 ^ j % 2 ≤ b / 2 ^ j % 2 = omega arith in inr (sym (max-eq_right l') ∙ sym (bit-or a b j) ∙ h)
    by (inr l) = inl (sym (max-eq_left l) ∙ sym (bit-or a b j) ∙ h)

-- the set of k alone
pub on-own : (k : ℕ) → On (2 ^ k) k
on-own k = ap (λ x. x % 2) (ap (λ x. x / 2 ^ k) one ∙ shl-shr 1 k)
  where
    one : 2 ^ k ≡ 1 * 2 ^ k
    one = omega arith

pub on-only : (k j : ℕ) → On (2 ^ k) j → j ≡ k
on-only k j h = by (cases_lt k j) (cases_lt j k)
  where
    low : k < j → 2 ^ k / 2 ^ j % 2 ≡ 0
    low l = ap (λ x. x % 2) (div-eq_of_lt (pow-lt l))

    high : (t : ℕ) → k ≡ suc t + j → 2 ^ k / 2 ^ j % 2 ≡ 0
    high t e =
        ap (λ x. x % 2) (ap (λ x. x / 2 ^ j) (ap (λ x. 2 ^ x) e ∙ pow-add 2 (suc t) j) ∙ shl-shr (2 ^ suc t) j)
        ∙ ap (λ x. x % 2) (pow-suc 2 t)
        ∙ mul-mod_left (2 ^ t) 2

    by : (k < j) ⊎ (j ≤ k) → (j < k) ⊎ (k ≤ j) → j ≡ k
    by (inl l) _ = absurd (let z = low l in omega (arith, z, h))
    by (inr _) (inl l) = absurd (let z = high (k - j - 1) (omega arith) in omega (arith, z, h))
    by (inr a) (inr b) = omega arith

-- the set of all numbers below n
half-on : (w j : ℕ) → On w (suc j) → On (w / 2) j
half-on w j h = ap (λ x. x % 2) (shr-shr w 1 j ∙ ap (λ x. w / 2 ^ x) (omega arith)) ∙ h

pub full : (n w : ℕ) → w < 2 ^ n → ((j : ℕ) → j < n → On w j) → w ≡ 2 ^ n - 1
full zero w h on = lt-one h
full (suc n) w h on =
    let one : n + 1 ≡ suc n = omega arith in
    let small : w / 2 < 2 ^ n = shr_lt n 1 (rw one h) in
    let half : w / 2 ≡ 2 ^ n - 1 = full n (w / 2) small (λ j g. half-on w j (on (suc j) (omega arith))) in
    let odd : w % 2 ≡ 1 = ap (λ x. x % 2) (sym (div-one w)) ∙ on 0 (omega arith) in
    omega (arith, half, odd, pow-suc 2 n, pow_pos n)

pub all-on : (n j : ℕ) → j < n → On (2 ^ n - 1) j
all-on zero j h = absurd (not-suc-le-zero h)
all-on (suc n) zero h = ap (λ x. x % 2) (div-one (2 ^ suc n - 1)) ∙ omega (arith, pow-suc 2 n, pow_pos n)
all-on (suc n) (suc j) h =
    let half : (2 ^ suc n - 1) / 2 ≡ 2 ^ n - 1 = omega (arith, pow-suc 2 n, pow_pos n) in
    ap (λ x. x % 2) (ap (λ x. (2 ^ suc n - 1) / 2 ^ x) (omega arith) ∙ sym (shr-shr (2 ^ suc n - 1) 1 j) ∙ ap (λ x. x / 2 ^ j) half)
    ∙ all-on n j (omega arith)

-- made from a longer one
pub ones-shifted : (n k : ℕ) → (2 ^ (n + k) - 1) / 2 ^ k ≡ 2 ^ n - 1
ones-shifted n k = ap (λ x. x / 2 ^ k) parts ∙ high (2 ^ n - 1) k (ones_lt k)
  where
    parts : 2 ^ (n + k) - 1 ≡ (2 ^ n - 1) * 2 ^ k + (2 ^ k - 1)
    parts = omega (arith, pow-add 2 n k, ap (λ x. x * 2 ^ k) (suc_ones n), suc-mul (2 ^ n - 1) (2 ^ k), pow_pos k)

-- ---- the modes met

-- the modes of the qubits before q are below n, and in a or b; what is there is the mode of some qubit
pub record Words (n : ℕ) (l : List ℕ) (q a b : ℕ) : Type 0 where
  pub below : (p : ℕ) → p < q → mode_at l p < n
  pub held : (p : ℕ) → p < q → On (bit_or a b) (mode_at l p)
  pub made : (j : ℕ) → On (bit_or a b) j → (p : ℕ) × (p < n) × (mode_at l p ≡ j)
  pub small : (a < 2 ^ n) × (b < 2 ^ n)

module _ (n : ℕ) (l : List ℕ) where
  -- the first mode alone
  pub words-first : (q k : ℕ) → 0 < n → q < 2 → k ≡ mode_at l 0 → k < n → Words n l q (2 ^ k) 0
  words-first q k room h e g = record {
    below = λ p lt. rw (own p lt) g;
    held = λ p lt. rw (or_zero_r (2 ^ k), own p lt) (on-own k);
    made = λ j on. (0, room, sym e ∙ sym (on-only k j (rw (← or_zero_r (2 ^ k)) on)));
    small = (pow-lt g, pow_pos n);
  }
    where
      own : (p : ℕ) → p < q → mode_at l p ≡ k
      own p lt = let z : p ≡ 0 = omega arith in ap (mode_at l) z ∙ sym e

  -- two more
  pub words_more : (q k x a b : ℕ) → q + 1 < n → k ≡ mode_at l q → x ≡ mode_at l (q + 1) → k < n → x < n → Words n l q a b
      → Words n l (q + 2) (bit_or a (2 ^ k)) (bit_or b (2 ^ x))
  words_more q k x a b room ek ex hk hx w = record {
    below = λ p lt. each p (λ p. mode_at l p < n) lt w.below (rw (← ek) hk) (rw (← ex) hx);
    held = λ p lt. each p (λ p. On u (mode_at l p)) lt
        (λ p g. old (mode_at l p) (on-either a b (mode_at l p) (w.held p g)))
        (rw (← ek) (on-left a' b' k (on-right a (2 ^ k) k (on-own k))))
        (rw (← ex) (on-right a' b' x (on-right b (2 ^ x) x (on-own x))));
    made = λ j on. new j (on-either a' b' j on);
    small = (or_lt n a (2 ^ k) w.small.0 (pow-lt hk), or_lt n b (2 ^ x) w.small.1 (pow-lt hx));
  }
    where
      a' : ℕ
      a' = bit_or a (2 ^ k)

      b' : ℕ
      b' = bit_or b (2 ^ x)

      u : ℕ
      u = bit_or a' b'

      each : (p : ℕ) (P : ℕ → Type 0) → p < q + 2 → ((p : ℕ) → p < q → P p) → P q → P (q + 1) → P p
      each p P lt before here next = by (cases_lt p q) (cases_eq p q)
        where
          by : (p < q) ⊎ (q ≤ p) → (p ≡ q) ⊎ (p ≢ q) → P p
          by (inl g) _ = before p g
          by (inr g) (inl e) = rw e here
          by (inr g) (inr ne) = let z : p ≡ q + 1 = omega (arith, last p q g lt ne) in rw z next
            where
              last : (p q : ℕ) → q ≤ p → p < q + 2 → p ≢ q → p ≡ q + 1
              last p q g lt ne = or (cases_lt p (q + 1))
                where
                  or : (p < q + 1) ⊎ (q + 1 ≤ p) → p ≡ q + 1
                  or (inl a) = absurd (ne (omega arith))
                  or (inr a) = omega arith

      old : (j : ℕ) → On a j ⊎ On b j → On u j
      old j (inl h) = on-left a' b' j (on-left a (2 ^ k) j h)
      old j (inr h) = on-right a' b' j (on-left b (2 ^ x) j h)

      new : (j : ℕ) → On a' j ⊎ On b' j → (p : ℕ) × (p < n) × (mode_at l p ≡ j)
      new j (inl h) = by (on-either a (2 ^ k) j h)
        where
          by : On a j ⊎ On (2 ^ k) j → (p : ℕ) × (p < n) × (mode_at l p ≡ j)
          by (inl g) = w.made j (on-left a b j g)
          by (inr g) = (q, omega arith, sym ek ∙ sym (on-only k j g))
      new j (inr h) = by (on-either b (2 ^ x) j h)
        where
          by : On b j ⊎ On (2 ^ x) j → (p : ℕ) × (p < n) × (mode_at l p ≡ j)
          by (inl g) = w.made j (on-right a b j g)
          by (inr g) = (q + 1, room, sym ex ∙ sym (on-only x j g))

  -- all of them
  pub words-all : (a b : ℕ) → n ≤ length l → Words n l n a b → eqb (bit_or a b) (2 ^ n - 1) ≡ all_below (mode_ok n l) n
  unfolding is_permutation
  words-all a b long w = by (cases_eq (bit_or a b) (2 ^ n - 1))
    where
      bound : bit_or a b < 2 ^ n
      bound = or_lt n a b w.small.0 w.small.1

      some : bit_or a b ≡ 2 ^ n - 1 → (k : ℕ) → k < n → ((q : ℕ) → q < n → mode_at l q ≢ k) → ⊥
      some e k h none = let (p, g, x) = w.made k (rw e (all-on n k h)) in none p g x

      every : is_permutation n l ≡ true → (j : ℕ) → j < n → On (bit_or a b) j
      every p j h = rw (← qubit-mode n l p j h) (w.held _ (qubit-below n l p j h))

      unless : (t : Bool) → t ≡ all_below (mode_ok n l) n → bit_or a b ≢ 2 ^ n - 1 → false ≡ t
      unless false e ne = refl
      unless true e ne = absurd (ne (full n (bit_or a b) bound (every (rw (le-leb n (length l) long, ← e)))))

      by : (bit_or a b ≡ 2 ^ n - 1) ⊎ (bit_or a b ≢ 2 ^ n - 1) → eqb (bit_or a b) (2 ^ n - 1) ≡ all_below (mode_ok n l) n
      by (inl e) = eq-eqb _ _ e ∙ sym (every-met n l (some e) w.below)
      by (inr ne) = ne_eqb _ _ ne ∙ unless _ refl ne
