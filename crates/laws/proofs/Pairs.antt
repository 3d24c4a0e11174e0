-- Laws of a loop whose turn n makes anew the pair of entries (2n, 2n + 1) and (2n + 1, 2n), where no other entry changes. Assumes nothing.
use mathlib.Core.Path.{◌≡◌, sym, ◌∙◌}
use mathlib.Core.Logic.{◌⊎◌, inl, inr, ◌≢◌}
use mathlib.Core.List.{List}
use Prim.Native.Nat.{ℕ, ◌+◌, ◌*◌, ◌/◌, ◌%◌, ◌≤◌, ◌<◌}
use native.Mathlib.Nat.{le_of_eq}
use native.Mathlib.Omega.{arith}
use lib.ListN.{length, get_or, set, length-set}
use lib.Ieee.{Float, nan}
use Rattle.laws.specs.Matrix.{Mat, at, Is}
use Rattle.laws.specs.Loops.{up_to}
use Rattle.std.proofs.lemmas.Bool.{cases_eq}
use Rattle.laws.proofs.Matrix.{at_set_same, at_set_other, after-set}
use Rattle.laws.proofs.Loops.{more, up_left}

-- turn n makes the rows of pair n
abbrev pub by_half : ℕ → ℕ → ℕ
by_half r c = r / 2

module _ (new : Mat) (dim : ℕ) (m₀ : List Float) where
  abbrev pub PairsUpTo : ℕ → List Float → Type 0
  PairsUpTo n m = Is dim m₀ (up_to by_half n new (at dim m₀)) m

  pub pairs-more : (n : ℕ) (m m₁ m₂ : List Float) (x y : Float) → 2 * n + 1 < dim → dim * dim ≤ length m₀ → PairsUpTo n m
      → m₁ ≡ set m (2 * n * dim + (2 * n + 1)) x → m₂ ≡ set m₁ ((2 * n + 1) * dim + 2 * n) y
      → x ≡ new (2 * n) (2 * n + 1) → y ≡ new (2 * n + 1) (2 * n)
      → ((r c : ℕ) → (r % 2 ≡ 0 → c ≢ r + 1) → (c % 2 ≡ 0 → r ≢ c + 1) → new r c ≡ at dim m₀ r c)
      → PairsUpTo (n + 1) m₂
  pairs-more n m m₁ m₂ x y h room w e₁ e₂ ex ey rest = more by_half _ _ dim n m₀ m m₂ w (l₂ ∙ l₁) after other own
    where
      a : 2 * n < dim
      a = omega arith

      l₁ : length m₁ ≡ length m
      l₁ = rw e₁ (length-set m (2 * n * dim + (2 * n + 1)) x)

      l₂ : length m₂ ≡ length m₁
      l₂ = rw e₂ (length-set m₁ ((2 * n + 1) * dim + 2 * n) y)

      after : (i : ℕ) → dim * dim ≤ i → get_or m₂ i nan ≡ get_or m i nan
      after i b = rw e₂ (after-set dim (2 * n + 1) (2 * n) i m₁ y h a b ∙ rw e₁ (after-set dim (2 * n) (2 * n + 1) i m x a h b))

      -- neither of the two
      away : (r c : ℕ) → c < dim → (r ≡ 2 * n → c ≡ 2 * n + 1 → ⊥) → (r ≡ 2 * n + 1 → c ≡ 2 * n → ⊥) → at dim m₂ r c ≡ at dim m r c
      away r c g p q =
          rw e₂ (at_set_other dim (2 * n + 1) (2 * n) r c m₁ y a g q ∙ rw e₁ (at_set_other dim (2 * n) (2 * n + 1) r c m x h g p))

      upper : at dim m₂ (2 * n) (2 * n + 1) ≡ x
      upper =
          rw e₂
          (at_set_other dim (2 * n + 1) (2 * n) (2 * n) (2 * n + 1) m₁ y a h (λ p q. omega arith)
          ∙ rw e₁ (at_set_same dim (2 * n) (2 * n + 1) m x a h (omega (arith, w.long))))

      lower : at dim m₂ (2 * n + 1) (2 * n) ≡ y
      lower = rw e₂ (at_set_same dim (2 * n + 1) (2 * n) m₁ y h a (omega (arith, w.long, l₁)))

      other : (r c : ℕ) → r < dim → c < dim → r / 2 ≢ n → at dim m₂ r c ≡ at dim m r c
      other r c p g k = away r c g (λ y z. k (omega arith)) (λ y z. k (omega arith))

      old : (r c : ℕ) → r < dim → c < dim → r / 2 ≡ n → at dim m r c ≡ at dim m₀ r c
      old r c p g k = w.each r c p g ∙ up_left by_half _ _ n r c (le_of_eq (sym k))

      own : (r c : ℕ) → r < dim → c < dim → r / 2 ≡ n → at dim m₂ r c ≡ new r c
      own r c b g k = by (cases_eq r (2 * n)) (cases_eq c (2 * n)) (cases_eq c (2 * n + 1))
        where
          by : (r ≡ 2 * n) ⊎ (r ≢ 2 * n) → (c ≡ 2 * n) ⊎ (c ≢ 2 * n) → (c ≡ 2 * n + 1) ⊎ (c ≢ 2 * n + 1) → at dim m₂ r c ≡ new r c
          by (inl p) _ (inl q) = (λ t. at dim m₂ (p t) (q t)) ∙ upper ∙ ex ∙ (λ t. new (sym p t) (sym q t))
          by (inl p) _ (inr q) =
              away r c g (λ y z. q z) (λ y z. omega arith) ∙ old r c b g k ∙ sym (rest r c (λ y z. q (omega arith)) (λ y z. omega arith))
          by (inr p) (inl q) _ =
              let o : r ≡ 2 * n + 1 = omega arith in
              (λ t. at dim m₂ (o t) (q t)) ∙ lower ∙ ey ∙ (λ t. new (sym o t) (sym q t))
          by (inr p) (inr q) _ =
              away r c g (λ y z. p y) (λ y z. q z) ∙ old r c b g k ∙ sym (rest r c (λ y z. omega arith) (λ y z. q (omega arith)))
