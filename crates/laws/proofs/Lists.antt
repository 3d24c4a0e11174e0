-- Lists all of whose elements have a property, also by their places, and lists cut at the first element that passes a test. By induction on the list.
-- Assumes nothing.
use mathlib.Core.Path.{◌≡◌, refl, ap, subst}
use mathlib.Core.Logic.{⊎_elim}
use mathlib.Core.Bool.{Bool, true, false}
use mathlib.Core.List.{List, [], ◌∷◌, ◌++◌, map, reverse_aux}
use Prim.Native.Nat.{ℕ, zero, suc, ◌+◌, ◌≤◌, ◌<◌}
use native.Mathlib.Omega.{arith}
use Rattle.laws.specs.Lists.{All, in_order}
use Rattle.laws.specs.Views.{up_from, until, from}
use Rattle.std.proofs.lemmas.Bool.{cases_eq, cases_Bool, cond_both}

module _ {A : Type 0} where
  pub all_map : {P Q : A → Type 0} → ((x : A) → P x → Q x) → (xs : List A) → All P xs → All Q xs
  all_map f [] h = tt
  all_map f (x ∷ xs) h = (f x h.0, all_map f xs h.1)

  pub all_both : {P Q R : A → Type 0} → ((x : A) → P x → Q x → R x) → (xs : List A) → All P xs → All Q xs → All R xs
  all_both f [] h k = tt
  all_both f (x ∷ xs) h k = (f x h.0 k.0, all_both f xs h.1 k.1)

  pub all_append : (P : A → Type 0) (xs ys : List A) → All P xs → All P ys → All P (xs ++ ys)
  all_append P [] ys h k = k
  all_append P (x ∷ xs) ys h k = (h.0, all_append P xs ys h.1 k)

  pub all-onto : (P : A → Type 0) (xs ys : List A) → All P xs → All P ys → All P (reverse_aux xs ys)
  all-onto P [] ys h k = k
  all-onto P (x ∷ xs) ys h k = all-onto P xs (x ∷ ys) h.1 (h.0, k)

  -- ---- a list by its places

  module _ (P : A → Type 0) (e : ℕ → A) where
    pub all-at : (k n i : ℕ) → All P (up_from e k n) → k ≤ i → i < k + n → P (e i)
    unfolding up_from
    all-at k zero i h a b = absurd (omega arith)
    all-at k (suc n) i h a b =
        ⊎_elim (λ q. subst (λ (j : ℕ). P (e j)) q h.0) (λ ne. all-at (suc k) n i h.1 (omega (arith, ne)) (omega arith)) (cases_eq k i)

    pub all_of : (k n : ℕ) → ((i : ℕ) → k ≤ i → i < k + n → P (e i)) → All P (up_from e k n)
    unfolding up_from
    all_of k zero h = tt
    all_of k (suc n) h = (h k (omega arith) (omega arith), all_of (suc k) n (λ i a b. h i (omega arith) (omega arith)))

  -- ---- a list cut at the first element that passes p

  module _ (p : A → Bool) where
    pub whole : (xs : List A) → until p xs ++ from p xs ≡ xs
    unfolding until from
    whole [] = refl
    whole (x ∷ xs) = ⊎_elim (λ e. rw e) (λ e. rw e (ap (λ l. x ∷ l) (whole xs))) (cases_Bool (p x))

    pub until-all : (P : A → Type 0) (xs : List A) → All P xs → All P (until p xs)
    unfolding until
    until-all P [] h = tt
    until-all P (x ∷ xs) h = cond_both (p x) _ _ (All P) (λ _. tt) (λ _. (h.0, until-all P xs h.1))

    pub from_all : (P : A → Type 0) (xs : List A) → All P xs → All P (from p xs)
    unfolding from
    from_all P [] h = tt
    from_all P (x ∷ xs) h = cond_both (p x) _ _ (All P) (λ _. h) (λ _. from_all P xs h.1)

    -- none before it passes
    pub until-fails : (xs : List A) → All (λ x. p x ≡ false) (until p xs)
    unfolding until
    until-fails [] = tt
    until-fails (x ∷ xs) = cond_both (p x) _ _ (All (λ x. p x ≡ false)) (λ _. tt) (λ e. (e, until-fails xs))

    -- it does
    abbrev pub Heads : List A → Type 0
    Heads [] = Unit {0}
    Heads (x ∷ xs) = p x ≡ true

    pub from_heads : (xs : List A) → Heads (from p xs)
    unfolding from
    from_heads [] = tt
    from_heads (x ∷ xs) = cond_both (p x) _ _ Heads (λ e. e) (λ _. from_heads xs)

-- ---- lists made by a function of another list's elements

module _ {A B : Type 0} (g : A → B) where
  pub all-of-map : (P : B → Type 0) (xs : List A) → All (λ x. P (g x)) xs → All P (map g xs)
  all-of-map P [] h = tt
  all-of-map P (x ∷ xs) h = (h.0, all-of-map P xs h.1)

  pub in_order-map : {C : Type 0} (f : B → C → C) (xs : List A) (c : C) → in_order f (map g xs) c ≡ in_order (λ x. f (g x)) xs c
  unfolding in_order
  in_order-map f [] c = refl
  in_order-map f (x ∷ xs) c = in_order-map f xs (f (g x) c)
