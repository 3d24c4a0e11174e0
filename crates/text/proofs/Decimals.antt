-- Decimal numbers: the last digit and those before it, and how many there are. Assumes nothing.
use mathlib.Core.Path.{◌≡◌, refl, sym, ap, ◌∙◌}
use mathlib.Core.Logic.{⊎_elim}
use mathlib.Core.Bool.{Bool, true, false}
use mathlib.Core.List.{[], ◌∷◌, ◌++◌}
use Prim.Native.Nat.{ℕ, zero, suc, ◌+◌, ◌/◌, ◌%◌, ◌^◌, ◌≤◌, ◌<◌}
use native.Mathlib.Nat.{not-suc-le-zero, pow-suc}
use native.Mathlib.Omega.{arith}
use lib.Dec.{ltb}
use lib.ListN.{length, length-append}
use borrow.Author.Tests.{ltb-false, lt-ltb, le-ltb}
use Rattle.std.proofs.lemmas.Bool.{cases_lt}
use Rattle.std.specs.Fmt as written
use Rattle.std.proofs.lemmas.Fmt.{decimal_by_steps}
use Rattle.text.specs.Ascii.{digit, digits_of, decimal}

-- ---- the digits

-- more than n of them are never asked for
enough : (f g n : ℕ) → n < f → n < g → digits_of f (ltb n 10) n ≡ digits_of g (ltb n 10) n
unfolding digits_of
enough zero g n hf hg = absurd (not-suc-le-zero hf)
enough (suc f) zero n hf hg = absurd (not-suc-le-zero hg)
enough (suc f) (suc g) n hf hg = by (ltb n 10) refl (λ h. enough f g (n / 10) (omega arith) (omega arith))
  where
    by : (b : Bool) → ltb n 10 ≡ b → (10 ≤ n → digits_of f (ltb (n / 10) 10) (n / 10) ≡ digits_of g (ltb (n / 10) 10) (n / 10))
        → digits_of (suc f) b n ≡ digits_of (suc g) b n
    by true e rest = refl
    by false e rest = ap (λ l. l ++ (digit (n % 10) ∷ [])) (rest (ltb-false n 10 e))

pub decimal-last : (n : ℕ) → n < 10 → decimal n ≡ digit n ∷ []
unfolding decimal digits_of
decimal-last n h = rw (lt-ltb n 10 h)

pub decimal-more : (n : ℕ) → 10 ≤ n → decimal n ≡ decimal (n / 10) ++ (digit (n % 10) ∷ [])
unfolding decimal digits_of
decimal-more n h = rw (le-ltb n 10 h) (ap (λ l. l ++ (digit (n % 10) ∷ [])) (enough n (suc (n / 10)) (n / 10) (omega arith) (omega arith)))

-- ---- their number

pub long-last : (n : ℕ) → n < 10 → length (decimal n) ≡ 1
long-last n h = rw (decimal-last n h)

pub long-more : (n : ℕ) → 10 ≤ n → length (decimal n) ≡ length (decimal (n / 10)) + 1
long-more n h = rw (decimal-more n h) (length-append (decimal (n / 10)) (digit (n % 10) ∷ []))

pub long-most : (k n : ℕ) → n < 10 ^ suc k → length (decimal n) ≤ suc k
long-most zero n h = omega (arith, long-last n h)
long-most (suc k) n h =
    ⊎_elim
    (λ a. omega (arith, long-last n a))
    (λ a. omega (arith, long-more n a, long-most k (n / 10) (omega (arith, pow-suc 10 (suc k)))))
    (cases_lt n 10)

-- ---- they are the digits that std writes

pub decimal_is : (n : ℕ) → n < 2 ^ 64 → written.decimal n ≡ decimal n
decimal_is n h =
    sym (decimal_by_steps (λ n ds. decimal n ≡ ds) decimal-last (λ n ds l e. decimal-more n l ∙ ap (λ ds. ds ++ (digit (n % 10) ∷ [])) e) n h)
