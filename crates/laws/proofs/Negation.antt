-- Laws of the loop that negates a row and the column of the same index, two entries a turn, the one on the diagonal twice; and of the marks that
-- such loops add one after the other. Assumes nothing.
use mathlib.Core.Path.{◌≡◌, sym, ap, ◌∙◌}
use mathlib.Core.Logic.{◌⊎◌, inl, inr, ◌≢◌}
use mathlib.Core.Bool.{Bool, true, false}
use mathlib.Core.List.{List}
use Prim.Native.Nat.{ℕ, ◌+◌, ◌*◌, ◌≤◌, ◌<◌}
use native.Mathlib.Nat.{le_of_eq}
use native.Mathlib.Omega.{arith}
use lib.Dec.{eqb}
use lib.ListN.{length, get_or, set, length-set}
use lib.Ieee.{Float, nan, neg}
use borrow.Author.Tests.{eq-eqb, ne_eqb}
use Rattle.laws.specs.Tables.{update}
use Rattle.laws.specs.Zeros.{sg}
use Rattle.laws.specs.Matrix.{Mat, at, Is}
use Rattle.laws.specs.Steps.{negated}
use Rattle.laws.specs.Loops.{up_to, by_cross}
use Rattle.std.proofs.lemmas.Bool.{cases_eq, cond_both}
use Rattle.laws.proofs.Negatives.{sg-comm}
use Rattle.laws.proofs.Matrix.{Within, at_set_same, at_set_other, after-set}
use Rattle.laws.proofs.Loops.{more, up_left}

-- every entry has its turn
pub cross-below : (i n r c : ℕ) → r < n → c < n → by_cross i r c < n
cross-below i n r c h g = cond_both (eqb r i) _ _ (λ z. z < n) (λ _. g) (λ _. h)

-- the entries (i, c) and (c, i) for c below n are negated
abbrev pub Negated : ℕ → ℕ → List Float → ℕ → List Float → Type 0
Negated i dim m₀ n m = Is dim m₀ (up_to (by_cross i) n (negated (λ j. eqb j i) (at dim m₀)) (at dim m₀)) m

pub negated-more : (i dim n : ℕ) (m₀ m m₁ m₂ : List Float) → i < dim → n < dim → dim * dim ≤ length m₀ → Negated i dim m₀ n m
    → m₁ ≡ set m (i * dim + n) (neg (at dim m i n)) → m₂ ≡ set m₁ (n * dim + i) (neg (at dim m₁ n i)) → Negated i dim m₀ (n + 1) m₂
negated-more i dim n m₀ m m₁ m₂ hi hn room w e₁ e₂ = more (by_cross i) _ _ dim n m₀ m m₂ w (l₂ ∙ l₁) after other own
  where
    l₁ : length m₁ ≡ length m
    l₁ = rw e₁ (length-set m (i * dim + n) (neg (at dim m i n)))

    l₂ : length m₂ ≡ length m₁
    l₂ = rw e₂ (length-set m₁ (n * dim + i) (neg (at dim m₁ n i)))

    room₀ : dim * dim ≤ length m
    room₀ = omega (arith, w.long)

    room₁ : dim * dim ≤ length m₁
    room₁ = omega (arith, l₁)

    same₁ : at dim m₁ i n ≡ neg (at dim m i n)
    same₁ = rw e₁ (at_set_same dim i n m _ hi hn room₀)

    other₁ : (r c : ℕ) → c < dim → (r ≡ i → c ≡ n → ⊥) → at dim m₁ r c ≡ at dim m r c
    other₁ r c g ne = rw e₁ (at_set_other dim i n r c m _ hn g ne)

    same₂ : at dim m₂ n i ≡ neg (at dim m₁ n i)
    same₂ = rw e₂ (at_set_same dim n i m₁ _ hn hi room₁)

    other₂ : (r c : ℕ) → c < dim → (r ≡ n → c ≡ i → ⊥) → at dim m₂ r c ≡ at dim m₁ r c
    other₂ r c g ne = rw e₂ (at_set_other dim n i r c m₁ _ hi g ne)

    after : (j : ℕ) → dim * dim ≤ j → get_or m₂ j nan ≡ get_or m j nan
    after j b = rw e₂ (after-set dim n i j m₁ _ hn hi b ∙ rw e₁ (after-set dim i n j m _ hi hn b))

    old : (r c : ℕ) → r < dim → c < dim → by_cross i r c ≡ n → at dim m r c ≡ at dim m₀ r c
    old r c h g k = w.each r c h g ∙ up_left (by_cross i) _ _ n r c (le_of_eq (sym k))

    in_row : (r c : ℕ) → r ≡ i → by_cross i r c ≡ c
    in_row r c e = rw (eq-eqb r i e)

    in-col : (r c : ℕ) → r ≢ i → by_cross i r c ≡ r
    in-col r c e = rw (ne_eqb r i e)

    other : (r c : ℕ) → r < dim → c < dim → by_cross i r c ≢ n → at dim m₂ r c ≡ at dim m r c
    other r c h g k = by (cases_eq r i)
      where
        by : (r ≡ i) ⊎ (r ≢ i) → at dim m₂ r c ≡ at dim m r c
        by (inl e) = other₂ r c g (λ a b. k (in_row r c e ∙ b ∙ sym e ∙ a)) ∙ other₁ r c g (λ a b. k (in_row r c e ∙ b))
        by (inr e) = other₂ r c g (λ a b. k (in-col r c e ∙ a)) ∙ other₁ r c g (λ a b. e a)

    own : (r c : ℕ) → r < dim → c < dim → by_cross i r c ≡ n → at dim m₂ r c ≡ negated (λ j. eqb j i) (at dim m₀) r c
    own r c h g k = by (cases_eq r i) (cases_eq c i)
      where
        by : (r ≡ i) ⊎ (r ≢ i) → (c ≡ i) ⊎ (c ≢ i) → at dim m₂ r c ≡ negated (λ j. eqb j i) (at dim m₀) r c
        by (inl a) (inl b) =
            let cn : c ≡ n = sym (in_row r c a) ∙ k in
            rw (eq-eqb r i a, eq-eqb c i b)
            ((λ t. at dim m₂ ((a ∙ sym b ∙ cn) t) (b t))
            ∙ same₂
            ∙ (λ t. neg (at dim m₁ ((sym cn ∙ b) t) ((sym b ∙ cn) t)))
            ∙ ap neg (same₁ ∙ ap neg ((λ t. at dim m (sym a t) (sym cn t)) ∙ old r c h g k)))
        by (inl a) (inr b) =
            let cn : c ≡ n = sym (in_row r c a) ∙ k in
            rw (eq-eqb r i a, ne_eqb c i b)
            (other₂ r c g (λ x y. b y)
            ∙ (λ t. at dim m₁ (a t) (cn t))
            ∙ same₁
            ∙ ap neg ((λ t. at dim m (sym a t) (sym cn t)) ∙ old r c h g k))
        by (inr a) (inl b) =
            let rn : r ≡ n = sym (in-col r c a) ∙ k in
            rw (ne_eqb r i a, eq-eqb c i b)
            ((λ t. at dim m₂ (rn t) (b t)) ∙ same₂ ∙ (λ t. neg (at dim m₁ (sym rn t) (sym b t))) ∙ ap neg (other₁ r c g (λ x y. a x) ∙ old r c h g k))
        by (inr a) (inr b) = rw (ne_eqb r i a, ne_eqb c i b) (other₂ r c g (λ x y. b y) ∙ other₁ r c g (λ x y. a x) ∙ old r c h g k)

-- ---- one mark after another

-- where i is not marked yet, negating row i and column i marks it
pub mark-more : (b : ℕ → Bool) (i : ℕ) (f : Mat) → b i ≡ false → (r c : ℕ) → negated (λ j. eqb j i) (negated b f) r c ≡ negated (update i true b) f r c
mark-more b i f e r c = by (cases_eq r i) (cases_eq c i)
  where
    by : (r ≡ i) ⊎ (r ≢ i) → (c ≡ i) ⊎ (c ≢ i) → negated (λ j. eqb j i) (negated b f) r c ≡ negated (update i true b) f r c
    by (inl x) (inl y) = rw (eq-eqb r i x, eq-eqb c i y, ap b x ∙ e, ap b y ∙ e)
    by (inl x) (inr y) = rw (eq-eqb r i x, ne_eqb c i y, ap b x ∙ e)
    by (inr x) (inl y) = rw (ne_eqb r i x, eq-eqb c i y, ap b y ∙ e) (sg-comm true (b r) (f r c))
    by (inr x) (inr y) = rw (ne_eqb r i x, ne_eqb c i y)

pub negated-within : (dim : ℕ) (b : ℕ → Bool) → Within dim (negated b)
negated-within dim b f g e r c h k = λ t. sg (b r) (sg (b c) (e r c h k t))
