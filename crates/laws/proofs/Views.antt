-- Laws of lists by their places: length and elements, one result more, the same results, a search downwards, a pass over all results.
-- By induction on how many results there are; nothing is known of where they come from. Assumes nothing.
use mathlib.Core.Path.{◌≡◌, refl, sym, ap, ap₂, ◌∙◌}
use mathlib.Core.Logic.{◌⊎◌, inl, inr, ◌≢◌}
use mathlib.Core.Bool.{Bool, true, false, cond}
use mathlib.Core.List.{List, [], ◌∷◌, ◌++◌, map, reverse, reverse_aux, append_assoc, append-nil}
use Prim.Native.Nat.{ℕ, zero, suc, ◌+◌, ◌-◌, ◌≤◌, ◌<◌}
use native.Mathlib.Nat.{add-zero, zero-add, add-suc, suc-add, le_of_suc-le-suc, not-suc-le-zero}
use native.Mathlib.Numerals.{add-one}
use native.Mathlib.Omega.{arith}
use lib.ListN.{length, get_or}
use Rattle.laws.specs.Views.{up_from, list_of, down_to, between, until, from, seek, gap, Step, Pass}
use Rattle.std.proofs.lemmas.Bool.{cases_eq}

-- ---- counted up

module _ {A : Type 0} (e : ℕ → A) where
  pub length_up : (k n : ℕ) → length (up_from e k n) ≡ n
  unfolding up_from
  length_up k zero = refl
  length_up k (suc n) = ap suc (length_up (suc k) n)

  pub get_or-up : (k n i : ℕ) (d : A) → i < n → get_or (up_from e k n) i d ≡ e (k + i)
  unfolding up_from
  get_or-up k zero i d h = absurd (not-suc-le-zero h)
  get_or-up k (suc n) zero d h = rw (add-zero k)
  get_or-up k (suc n) (suc i) d h = get_or-up (suc k) n i d (le_of_suc-le-suc h) ∙ ap e (suc-add k i ∙ sym (add-suc k i))

  -- the first of those that are left, up to g
  pub up-head : (k g : ℕ) → k < g → up_from e k (g - k) ≡ e k ∷ up_from e (k + 1) (g - (k + 1))
  unfolding up_from
  up-head k g h =
      let n : g - k ≡ suc (g - (k + 1)) = omega arith in
      rw (n, add-one k)

  pub up-join : (k n r : ℕ) → up_from e k (n + r) ≡ up_from e k n ++ up_from e (k + n) r
  unfolding up_from
  up-join k zero r = rw (zero-add r, add-zero k)
  up-join k (suc n) r = rw (suc-add n r, add-suc k n, ← suc-add k n) (ap (λ l. e k ∷ l) (up-join (suc k) n r))

-- the same for `list_of`, which starts at 0
pub length-list_of : {A : Type 0} (n : ℕ) (e : ℕ → A) → length (list_of n e) ≡ n
length-list_of n e = length_up e 0 n

pub get_or-list_of : {A : Type 0} (n : ℕ) (e : ℕ → A) (i : ℕ) (d : A) → i < n → get_or (list_of n e) i d ≡ e i
get_or-list_of n e i d h = get_or-up e 0 n i d h ∙ ap e (zero-add i)

-- ---- the newest first

module _ {A : Type 0} (e : ℕ → A) where
  pub down-more : (n : ℕ) → down_to e (n + 1) ≡ e n ∷ down_to e n
  unfolding down_to
  down-more n = rw (add-one n)

  pub between_none : (k : ℕ) → between e k (k - k) ≡ []
  unfolding between
  between_none k =
      let n : k - k ≡ 0 = omega arith in
      rw n

  pub between_more : (k i : ℕ) → k ≤ i → between e k (i + 1 - k) ≡ e i ∷ between e k (i - k)
  unfolding between
  between_more k i h =
      let n : i + 1 - k ≡ suc (i - k) = omega arith in
      let a : k + (i - k) ≡ i = omega arith in
      rw (n, a)

  pub length-down : (n : ℕ) → length (down_to e n) ≡ n
  unfolding down_to
  length-down zero = refl
  length-down (suc n) = ap suc (length-down n)

  -- those below k + n: those from k on, and those below k
  pub down-split : (k n : ℕ) → down_to e (k + n) ≡ between e k n ++ down_to e k
  unfolding down_to between
  down-split k zero = rw (add-zero k)
  down-split k (suc n) = rw (add-suc k n, down-split k n)

-- ---- counted up and turned round

module _ {A : Type 0} (e : ℕ → A) where
  -- the oldest is the last
  between-last : (k n : ℕ) → between e k (suc n) ≡ between e (suc k) n ++ (e k ∷ [])
  unfolding between
  between-last k zero = rw (add-zero k)
  between-last k (suc n) = ap₂ ◌∷◌ (ap e (add-suc k n ∙ sym (suc-add k n))) (between-last k n)

  onto : (k n : ℕ) (l : List A) → reverse_aux (up_from e k n) l ≡ between e k n ++ l
  unfolding up_from between
  onto k zero l = refl
  onto k (suc n) l = onto (suc k) n (e k ∷ l) ∙ sym (append_assoc (between e (suc k) n) (e k ∷ []) l) ∙ ap (λ t. t ++ l) (sym (between-last k n))

  pub up-reverse : (k n : ℕ) → reverse (up_from e k n) ≡ between e k n
  up-reverse k n = onto k n [] ∙ append-nil (between e k n)

-- ---- the same results, or results under a function

module _ {A : Type 0} (e f : ℕ → A) where
  pub up_same : (k n : ℕ) → ((i : ℕ) → k ≤ i → i < k + n → f i ≡ e i) → up_from f k n ≡ up_from e k n
  unfolding up_from
  up_same k zero h = refl
  up_same k (suc n) h = ap₂ ◌∷◌ (h k (omega arith) (omega arith)) (up_same (suc k) n (λ i a b. h i (omega arith) (omega arith)))

  pub down-same : (n : ℕ) → ((i : ℕ) → i < n → f i ≡ e i) → down_to f n ≡ down_to e n
  unfolding down_to
  down-same zero h = refl
  down-same (suc n) h = rw (h n (omega arith), down-same n (λ i l. h i (omega arith)))

  pub between-map : (g : A → A) (k n : ℕ) → ((i : ℕ) → k ≤ i → i < k + n → f i ≡ g (e i)) → between f k n ≡ map g (between e k n)
  unfolding between
  between-map g k zero h = refl
  between-map g k (suc n) h = rw (h (k + n) (omega arith) (omega arith), between-map g k n (λ i a b. h i a (omega arith)))

  pub between-same : (k n : ℕ) → ((i : ℕ) → k ≤ i → i < k + n → f i ≡ e i) → between f k n ≡ between e k n
  unfolding between
  between-same k zero h = refl
  between-same k (suc n) h = rw (h (k + n) (omega arith) (omega arith), between-same k n (λ i a b. h i a (omega arith)))

-- ---- the search

module _ (q : ℕ → Bool) where
  -- the code's ways: the index below passes, it does not, none is left
  pub seek_hit : (n : ℕ) → 0 < n → q (n - 1) ≡ true → seek q n ≡ n
  unfolding seek
  seek_hit zero h t = refl
  seek_hit (suc n) h t =
      let a : n ≡ suc n - 1 = omega arith in
      rw (ap q a ∙ t)

  pub seek-miss : (n : ℕ) → 0 < n → q (n - 1) ≡ false → seek q n ≡ seek q (n - 1)
  unfolding seek
  seek-miss zero h t = absurd (not-suc-le-zero h)
  seek-miss (suc n) h t =
      let a : n ≡ suc n - 1 = omega arith in
      rw (ap q a ∙ t) (ap (seek q) a)

  pub seek-none : (n : ℕ) → n ≤ 0 → 0 ≡ seek q n
  unfolding seek
  seek-none zero h = refl
  seek-none (suc n) h = absurd (not-suc-le-zero h)

  pub seek-gap : (n : ℕ) → seek q n + gap q n ≡ n
  unfolding seek gap
  seek-gap zero = refl
  seek-gap (suc n) = go (q n) (seek-gap n)
    where
      go : (b : Bool) → seek q n + gap q n ≡ n → cond b (suc n) (seek q n) + cond b 0 (suc (gap q n)) ≡ suc n
      go true k = omega arith
      go false k = omega arith

  -- where nothing is found, none passes
  pub seek-fails : (n : ℕ) → seek q n ≡ 0 → (i : ℕ) → i < n → q i ≡ false
  unfolding seek
  seek-fails zero e i h = absurd (not-suc-le-zero h)
  seek-fails (suc n) e i h = go (q n) refl e (seek-fails n) (cases_eq i n)
    where
      go : (b : Bool) → q n ≡ b → cond b (suc n) (seek q n) ≡ 0 → (seek q n ≡ 0 → (i : ℕ) → i < n → q i ≡ false) → (i ≡ n) ⊎ (i ≢ n) → q i ≡ false
      go true e g k _ = absurd (omega arith)
      go false e g k (inl x) = ap q x ∙ e
      go false e g k (inr x) = k g i (omega arith)

  -- what is found passes
  pub seek-passes : (n i : ℕ) → seek q n ≡ suc i → q i ≡ true
  unfolding seek
  seek-passes zero i h = absurd (omega arith)
  seek-passes (suc n) i h = go (q n) refl h (seek-passes n i)
    where
      go : (b : Bool) → q n ≡ b → cond b (suc n) (seek q n) ≡ suc i → (seek q n ≡ suc i → q i ≡ true) → q i ≡ true
      go true e g k =
          let a : i ≡ n = omega arith in
          ap q a ∙ e
      go false e g k = k g

-- a search in the list is a search among the indices
module _ {A : Type 0} (p : A → Bool) (q : ℕ → Bool) (e : ℕ → A) (h : (i : ℕ) → p (e i) ≡ q i) where
  pub from_is : (n : ℕ) → from p (down_to e n) ≡ down_to e (seek q n)
  unfolding from down_to seek
  from_is zero = refl
  from_is (suc n) = rw (h n) (go (q n) (from_is n))
    where
      go : (b : Bool) → from p (down_to e n) ≡ down_to e (seek q n)
          → cond b (e n ∷ down_to e n) (from p (down_to e n)) ≡ down_to e (cond b (suc n) (seek q n))
      go true k = refl
      go false k = k

  pub until-is : (n : ℕ) → until p (down_to e n) ≡ between e (seek q n) (gap q n)
  unfolding until down_to between seek gap
  until-is zero = refl
  until-is (suc n) = rw (h n) (go (q n) (until-is n))
    where
      go : (b : Bool) → until p (down_to e n) ≡ between e (seek q n) (gap q n)
          → cond b [] (e n ∷ until p (down_to e n)) ≡ between e (cond b (suc n) (seek q n)) (cond b 0 (suc (gap q n)))
      go true k = refl
      go false k = rw (k, seek-gap q n)

-- ---- a pass over all results, for any step f of which the definition F is made

module _ {A : Type 0} (f : A → List A → List A) (F : List A → List A) where
  pub pass-none : F [] ≡ [] → (e : ℕ → A) → Pass F e e 0
  unfolding down_to
  pass-none h e = record { list = sym h; later = λ i l. refl }

  pub pass-more : ((x : A) (xs : List A) → F (x ∷ xs) ≡ f x (F xs)) → (e e' e'' : ℕ → A) (n : ℕ) → Pass F e e' n → Step f e' e'' n → Pass F e e'' (n + 1)
  pass-more h e e' e'' n p s = record {
    list = s.list ∙ ap₂ f (p.later n (omega arith)) p.list ∙ sym (ap F (down-more e n) ∙ h (e n) (down_to e n));
    later = λ i l. s.later i (omega arith) ∙ p.later i (omega arith);
  }
