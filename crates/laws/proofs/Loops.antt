-- Laws of a loop over the entries of a matrix, by the key that says in which turn an entry is made: the start, a turn,
-- the end. Assumes nothing.
use mathlib.Core.Path.{◌≡◌, refl, sym, ◌∙◌}
use mathlib.Core.Logic.{◌⊎◌, inl, inr, ◌≢◌}
use mathlib.Core.List.{List}
use Prim.Native.Nat.{ℕ, ◌+◌, ◌*◌, ◌≤◌, ◌<◌, zero-le}
use native.Mathlib.Omega.{arith}
use lib.ListN.{length, get_or}
use lib.Ieee.{Float, nan}
use borrow.Author.Tests.{lt-ltb, le-ltb}
use Rattle.laws.specs.Matrix.{Mat, at, matrix, Is}
use Rattle.laws.specs.Loops.{up_to}
use Rattle.std.proofs.lemmas.Bool.{cases_lt}
use Rattle.laws.proofs.Matrix.{is-matrix}

-- ---- turn n makes anew the entries whose key is n

module _ (key : ℕ → ℕ → ℕ) (new old : Mat) where
  -- an entry whose turn was, and one whose turn was not
  pub up_done : (n r c : ℕ) → key r c < n → up_to key n new old r c ≡ new r c
  unfolding up_to
  up_done n r c h = rw (lt-ltb (key r c) n h)

  pub up_left : (n r c : ℕ) → n ≤ key r c → up_to key n new old r c ≡ old r c
  unfolding up_to
  up_left n r c h = rw (le-ltb (key r c) n h)

  -- the start; from turn n on, where no entry is new before it
  pub none : (dim : ℕ) (m : List Float) → ((r c : ℕ) → r < dim → c < dim → at dim m r c ≡ old r c) → Is dim m (up_to key 0 new old) m
  none dim m e = record { long = refl; each = λ r c h g. e r c h g ∙ sym (up_left 0 r c zero-le); after = λ i h. refl }

  pub none_from : (dim n : ℕ) (m : List Float) → ((r c : ℕ) → r < dim → c < dim → at dim m r c ≡ old r c)
      → ((r c : ℕ) → r < dim → c < dim → key r c < n → new r c ≡ old r c) → Is dim m (up_to key n new old) m
  none_from dim n m e s = record { long = refl; each = λ r c h g. e r c h g ∙ one r c h g (cases_lt (key r c) n); after = λ i h. refl }
    where
      one : (r c : ℕ) → r < dim → c < dim → (key r c < n) ⊎ (n ≤ key r c) → old r c ≡ up_to key n new old r c
      one r c h g (inl k) = sym (s r c h g k) ∙ sym (up_done n r c k)
      one r c h g (inr k) = sym (up_left n r c k)

  -- a turn: entries of another key stay, those of this key are new
  pub more : (dim n : ℕ) (m₀ m m' : List Float) → Is dim m₀ (up_to key n new old) m
      → length m' ≡ length m
      → ((i : ℕ) → dim * dim ≤ i → get_or m' i nan ≡ get_or m i nan)
      → ((r c : ℕ) → r < dim → c < dim → key r c ≢ n → at dim m' r c ≡ at dim m r c)
      → ((r c : ℕ) → r < dim → c < dim → key r c ≡ n → at dim m' r c ≡ new r c)
      → Is dim m₀ (up_to key (n + 1) new old) m'
  more dim n m₀ m m' w l a other own = record {
    long = l ∙ w.long;
    each = λ r c h g. one r c h g (cases_lt (key r c) n) (cases_lt n (key r c));
    after = λ i h. a i h ∙ w.after i h;
  }
    where
      one : (r c : ℕ) → r < dim → c < dim → (key r c < n) ⊎ (n ≤ key r c) → (n < key r c) ⊎ (key r c ≤ n) → at dim m' r c ≡ up_to key (n + 1) new old r c
      one r c h g (inl k) _ = other r c h g (λ e. omega arith) ∙ w.each r c h g ∙ up_done n r c k ∙ sym (up_done (n + 1) r c (omega arith))
      one r c h g (inr k) (inl k') = other r c h g (λ e. omega arith) ∙ w.each r c h g ∙ up_left n r c k ∙ sym (up_left (n + 1) r c (omega arith))
      one r c h g (inr k) (inr k') = own r c h g (omega arith) ∙ sym (up_done (n + 1) r c (omega arith))

  -- the end, and what a contract says of it
  pub all : (dim n : ℕ) (m₀ m : List Float) → ((r c : ℕ) → r < dim → c < dim → key r c < n) → Is dim m₀ (up_to key n new old) m → Is dim m₀ new m
  all dim n m₀ m k w = record { long = w.long; each = λ r c h g. w.each r c h g ∙ up_done n r c (k r c h g); after = w.after }

  pub made : (dim n : ℕ) (m₀ m : List Float) → ((r c : ℕ) → r < dim → c < dim → key r c < n) → Is dim m₀ (up_to key n new old) m → m ≡ matrix dim new m₀
  made dim n m₀ m k w = is-matrix dim m₀ new m (all dim n m₀ m k w)
