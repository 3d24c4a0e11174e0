-- Laws of tables with one place changed or two places exchanged, and of the slices that hold them. By cases on the places. Assumes nothing.
use mathlib.Core.Path.{◌≡◌, refl, sym, ap, ◌∙◌}
use mathlib.Core.Logic.{◌⊎◌, inl, inr, ◌≢◌, Ne-symm, ⊎_elim}
use mathlib.Core.List.{List}
use mathlib.Mathlib.Logic.Function.Defs.{Injective}
use Prim.Native.Nat.{ℕ, ◌≤◌, ◌<◌}
use lib.ListN.{length, get_or, set, length-set}
use lib.Seq.{get_or-set_same, get_or-set_other}
use borrow.Author.Tests.{eq-eqb, ne_eqb}
use native.Mathlib.Omega.{arith}
use Rattle.std.proofs.lemmas.Bool.Decides.{nat_tests}
use Rattle.laws.specs.Slices.{traded}
use Rattle.laws.specs.Tables.{update, exchanged, exchange}
use Rattle.std.proofs.lemmas.Bool.{cases_eq}

-- ---- one place changed

module _ {A : Type 0} (w : ℕ) (v : A) (f : ℕ → A) where
  pub update_here : update w v f w ≡ v
  update_here = rw (eq-eqb w w refl)

  pub update-away : (x : ℕ) → x ≢ w → update w v f x ≡ f x
  update-away x h = rw (ne_eqb x w h)

-- a store changes one place of the table that a list is
pub get_or-update : {A : Type 0} (l : List A) (w : ℕ) (v d : A) → w < length l → (x : ℕ) → get_or (set l w v) x d ≡ update w v (λ i. get_or l i d) x
get_or-update l w v d h x =
    ⊎_elim (λ e. rw (eq-eqb x w e, e) (get_or-set_same l w v d h)) (λ e. rw (ne_eqb x w e) (get_or-set_other l w x v d e)) (cases_eq x w)

-- ---- two places changed

module _ {A : Type 0} (a b : ℕ) (u v : A) (f : ℕ → A) (ne : a ≢ b) where
  pub two-first : update a u (update b v f) a ≡ u
  two-first = update_here a u (update b v f)

  pub two-second : update a u (update b v f) b ≡ v
  two-second = update-away a u (update b v f) b (Ne-symm ne) ∙ update_here b v f

  pub two-away : (x : ℕ) → x ≢ a → x ≢ b → update a u (update b v f) x ≡ f x
  two-away x ha hb = update-away a u (update b v f) x ha ∙ update-away b v f x hb

  -- such a table is known by three cases
  pub by_two : (g : ℕ → A) → g a ≡ u → g b ≡ v → ((x : ℕ) → x ≢ a → x ≢ b → g x ≡ f x) → (x : ℕ) → g x ≡ update a u (update b v f) x
  by_two g ga gb go x = by (cases_eq x a) (cases_eq x b)
    where
      by : (x ≡ a) ⊎ (x ≢ a) → (x ≡ b) ⊎ (x ≢ b) → g x ≡ update a u (update b v f) x
      by (inl p) _ = ap g p ∙ ga ∙ sym (ap (update a u (update b v f)) p ∙ two-first)
      by (inr p) (inl q) = ap g q ∙ gb ∙ sym (ap (update a u (update b v f)) q ∙ two-second)
      by (inr p) (inr q) = go x p q ∙ sym (two-away x p q)

-- ---- two numbers exchanged

module _ (a b : ℕ) where
  pub exchanged-first : exchanged a b a ≡ b
  exchanged-first = rw (eq-eqb a a refl)

  pub exchanged-second : exchanged a b b ≡ a
  exchanged-second = grind (arith, nat_tests)

  pub exchanged-away : (x : ℕ) → x ≢ a → x ≢ b → exchanged a b x ≡ x
  exchanged-away x ha hb = rw (ne_eqb x a ha, ne_eqb x b hb)

  pub exchanged-twice : (x : ℕ) → exchanged a b (exchanged a b x) ≡ x
  exchanged-twice x = grind (arith, nat_tests)

  -- a function that keeps numbers apart may be applied before or after
  pub exchanged-through : (φ : ℕ → ℕ) → Injective φ → (x : ℕ) → exchanged (φ a) (φ b) (φ x) ≡ φ (exchanged a b x)
  exchanged-through φ inj x = by (cases_eq x a) (cases_eq x b)
    where
      by : (x ≡ a) ⊎ (x ≢ a) → (x ≡ b) ⊎ (x ≢ b) → exchanged (φ a) (φ b) (φ x) ≡ φ (exchanged a b x)
      by (inl p) _ = rw (eq-eqb x a p, eq-eqb (φ x) (φ a) (ap φ p))
      by (inr p) (inl q) = rw (ne_eqb x a p, eq-eqb x b q, ne_eqb (φ x) (φ a) (λ e. p (inj x a e)), eq-eqb (φ x) (φ b) (ap φ q))
      by (inr p) (inr q) = rw (ne_eqb x a p, ne_eqb x b q, ne_eqb (φ x) (φ a) (λ e. p (inj x a e)), ne_eqb (φ x) (φ b) (λ e. q (inj x b e)))

  pub exchanged-below : (n x : ℕ) → a < n → b < n → x < n → exchanged a b x < n
  exchanged-below n x ha hb hx = grind (arith, nat_tests)

  -- nor does it lead before k
  pub exchanged-from : (k x : ℕ) → k ≤ a → k ≤ b → k ≤ x → k ≤ exchanged a b x
  exchanged-from k x ha hb hx = grind (arith, nat_tests)

pub exchanged_same : (a x : ℕ) → exchanged a a x ≡ x
exchanged_same a x = grind (arith, nat_tests)

-- ---- two places of a table exchanged

module _ {A : Type 0} (a b : ℕ) (f : ℕ → A) where
  pub exchange-first : exchange a b f a ≡ f b
  exchange-first = ap f (exchanged-first a b)

  pub exchange-second : exchange a b f b ≡ f a
  exchange-second = ap f (exchanged-second a b)

  pub exchange-away : (x : ℕ) → x ≢ a → x ≢ b → exchange a b f x ≡ f x
  exchange-away x ha hb = ap f (exchanged-away a b x ha hb)

  pub exchange-twice : (x : ℕ) → exchange a b (exchange a b f) x ≡ f x
  exchange-twice x = ap f (exchanged-twice a b x)

  pub exchange-injective : Injective f → Injective (exchange a b f)
  exchange-injective inj x y e = sym (exchanged-twice a b x) ∙ ap (exchanged a b) (inj (exchanged a b x) (exchanged a b y) e) ∙ exchanged-twice a b y

  -- the same as two changes
  pub exchange-is-two : a ≢ b → (x : ℕ) → exchange a b f x ≡ update a (f b) (update b (f a) f) x
  exchange-is-two ne x = by_two a b (f b) (f a) f ne (exchange a b f) exchange-first exchange-second exchange-away x

-- ---- two elements of a list change places

module _ {A : Type 0} (d : A) (a b : ℕ) (l : List A) where
  pub length-traded : length (traded d a b l) ≡ length l
  length-traded = length-set (set l a (get_or l b d)) b (get_or l a d) ∙ length-set l a (get_or l b d)

  -- so do two places of the table that the list is
  pub get_or-traded : a < length l → b < length l → (x : ℕ) → get_or (traded d a b l) x d ≡ exchange a b (λ i. get_or l i d) x
  get_or-traded ha hb x = by (cases_eq x a) (cases_eq x b)
    where
      l₁ : List A
      l₁ = set l a (get_or l b d)

      second : get_or (traded d a b l) b d ≡ get_or l a d
      second = get_or-set_same l₁ b (get_or l a d) d (rw (length-set l a (get_or l b d)) hb)

      by : (x ≡ a) ⊎ (x ≢ a) → (x ≡ b) ⊎ (x ≢ b) → get_or (traded d a b l) x d ≡ exchange a b (λ i. get_or l i d) x
      by (inl e) (inl g) = rw (eq-eqb x a e) (ap (λ k. get_or (traded d a b l) k d) g ∙ second ∙ ap (λ k. get_or l k d) (sym e ∙ g))
      by (inl e) (inr g) =
          rw (eq-eqb x a e)
          (get_or-set_other l₁ b x (get_or l a d) d g ∙ ap (λ k. get_or l₁ k d) e ∙ get_or-set_same l a (get_or l b d) d ha)
      by (inr e) (inl g) = rw (ne_eqb x a e, eq-eqb x b g) (ap (λ k. get_or (traded d a b l) k d) g ∙ second)
      by (inr e) (inr g) = rw (ne_eqb x a e, ne_eqb x b g) (get_or-set_other l₁ b x (get_or l a d) d g ∙ get_or-set_other l a x (get_or l b d) d e)
