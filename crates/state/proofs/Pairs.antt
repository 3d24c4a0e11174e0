-- Laws of the vacuum: a turn of the loop that writes its pairs, and the whole state in the slice. Assumes nothing.
use Rattle.laws.proofs.Pairs.{pairs-more}
use Rattle.laws.proofs.Tests.{no-pair}
use Rattle.std.proofs.Common.{◌≡◌, ℕ, ◌+◌, ◌*◌, ◌/◌, ◌%◌, ◌<◌, ◌≤◌, cond, ◌&&◌, eqb, ◌≢◌, List, length, get_or, take, drop, set, refl, sym, ap, ◌∙◌, arith, length-drop, length-take-le, eq-eqb, ne_eqb}
use lib.Ieee.{Float, nan, neg}
use Rattle.laws.specs.Zeros.{+0, +1}
use Rattle.laws.specs.Slices.{on_part, filled}
use Rattle.laws.specs.Matrix.{Mat, at, matrix, Is}
use Rattle.laws.specs.Loops.{up_to}
use Rattle.laws.proofs.Slices.{length-put, put-before, put-inside, put-after, length-mapped, mapped-done, mapped-left}
use Rattle.laws.proofs.Matrix.{place_in, matrix-is}
use Rattle.local.specs.Bounds.{state_places}
use Rattle.local.specs.State.{vacuum, stored}
use Rattle.local.proofs.Stored.{is-stored}
use Rattle.state.specs.Parts.{pair_up_of}

-- ---- an entry of a pair, and any other

module _ (f : Mat) where
  pair-first : (r c : ℕ) → r % 2 ≡ 0 → c ≡ r + 1 → pair_up_of f r c ≡ +1
  pair-first r c h e = rw (eq-eqb (r % 2) 0 h, eq-eqb c (r + 1) e)

  pair-second : (r c : ℕ) → c % 2 ≡ 0 → r ≡ c + 1 → pair_up_of f r c ≡ neg +1
  pair-second r c h e =
      let n : r % 2 ≢ 0 = λ z. omega arith in
      rw (ne_eqb (r % 2) 0 n, eq-eqb (c % 2) 0 h, eq-eqb r (c + 1) e)

  pair-none : (r c : ℕ) → (r % 2 ≡ 0 → c ≢ r + 1) → (c % 2 ≡ 0 → r ≢ c + 1) → pair_up_of f r c ≡ f r c
  pair-none r c h g =
      rw (no-pair r c h, no-pair c r g)

-- ---- a turn writes the pair of mode n

-- turn n makes the rows of mode n
abbrev pub by_mode : ℕ → ℕ → ℕ
by_mode r c = r / 2

abbrev pub Paired : ℕ → List Float → ℕ → List Float → Type 0
Paired dim m₀ n m = Is dim m₀ (up_to by_mode n (pair_up_of (at dim m₀)) (at dim m₀)) m

pub pair-more : (dim n : ℕ) (m₀ m m₁ m₂ : List Float) → 2 * n + 1 < dim → dim * dim ≤ length m₀ → Paired dim m₀ n m
    → m₁ ≡ set m (2 * n * dim + (2 * n + 1)) +1 → m₂ ≡ set m₁ ((2 * n + 1) * dim + 2 * n) (neg +1) → Paired dim m₀ (n + 1) m₂
pair-more dim n m₀ m m₁ m₂ h room w e₁ e₂ =
    let f = at dim m₀ in
    pairs-more (pair_up_of f) dim m₀ n m m₁ m₂ +1 (neg +1) h room w e₁ e₂ (sym (pair-first f (2 * n) (2 * n + 1) (omega arith) refl))
    (sym (pair-second f (2 * n + 1) (2 * n) (omega arith) refl))
    (pair-none f)

-- ---- the whole: the matrix cleared, the pairs, and the signs

pub vacuum-made : (dim : ℕ) (s₀ s₁ s₂ s₃ : List Float) → state_places dim ≤ length s₀ → s₁ ≡ filled (dim * dim) +0 s₀
    → s₂ ≡ matrix dim (pair_up_of (at dim s₁)) s₁ → s₃ ≡ on_part (dim * dim) dim (filled dim +1) s₂ → s₃ ≡ stored dim vacuum s₀
unfolding on_part
vacuum-made dim s₀ s₁ s₂ s₃ room e₁ e₂ e₃ = is-stored dim s₀ vacuum s₃ room (record {
  long = rw e₃ (length-put (dim * dim) dim s₂ part nan fit len) ∙ l₂ ∙ l₁;
  entry = λ r c h g.
      let p = place_in dim r c h g in
      rw e₃ (put-before (dim * dim) dim s₂ part nan fit len (r * dim + c) p) ∙ w.each r c h g
      ∙ (λ t. cond (eqb (r % 2) 0 && eqb c (r + 1)) +1 (cond (eqb (c % 2) 0 && eqb r (c + 1)) (neg +1) (zero r c h g t)));
  sign = λ i h. rw e₃ (put-inside (dim * dim) dim s₂ part nan fit len i h) ∙ mapped-done (λ x. +1) dim rest i nan h (omega (arith, long_rest));
  after = λ i h.
      rw e₃ (put-after (dim * dim) dim s₂ part nan fit len i h) ∙ w.after i (omega arith)
      ∙ ap (λ l. get_or l i nan) e₁ ∙ mapped-left (λ x. +0) (dim * dim) s₀ i nan (omega arith);
})
  where
    l₁ : length s₁ ≡ length s₀
    l₁ = rw e₁ (length-mapped (λ x. +0) (dim * dim) s₀)

    w : Is dim s₁ (pair_up_of (at dim s₁)) s₂
    w = matrix-is dim s₁ (pair_up_of (at dim s₁)) s₂ (omega (arith, l₁)) e₂

    l₂ : length s₂ ≡ length s₁
    l₂ = w.long

    rest : List Float
    rest = take dim (drop (dim * dim) s₂)

    fit : dim * dim + dim ≤ length s₂
    fit = omega (arith, l₁, l₂)

    long_rest : length rest ≡ dim
    long_rest = length-take-le dim (drop (dim * dim) s₂) (simp length-drop (omega (arith, fit)))

    part : List Float
    part = filled dim +1 rest

    len : length part ≡ dim
    len = length-mapped (λ x. +1) dim rest ∙ long_rest

    zero : (r c : ℕ) → r < dim → c < dim → at dim s₁ r c ≡ +0
    zero r c h g =
        ap (λ l. get_or l (r * dim + c) nan) e₁
        ∙ mapped-done (λ x. +0) (dim * dim) s₀ (r * dim + c) nan (place_in dim r c h g) (omega (arith, place_in dim r c h g))
