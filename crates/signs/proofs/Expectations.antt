-- Laws of the value in the vacuum: signs in front, a string that turns a mode, a string that turns none in front of another; and the values of
-- -i x y for two Majorana operators x and y, which are the entries of the vacuum's covariance. Assumes nothing.
use mathlib.Core.Path.{◌≡◌, refl, sym, ap, ◌∙◌}
use mathlib.Core.Logic.{◌⊎◌, inl, inr, ◌≢◌}
use mathlib.Core.Bool.{Bool, true, false, not, ◌&&◌, xor, cond, true≢false, and-false}
use Prim.Native.Nat.{ℕ, zero, suc, ◌≤◌, ◌<◌}
use native.Mathlib.Nat.{le_refl}
use native.Mathlib.Omega.{arith}
use Rattle.laws.specs.Phase.{Phase, i0, i3, ◌⊕◌}
use Rattle.std.proofs.lemmas.Bool.{cases_eq}
use Rattle.laws.proofs.Phases.{comm, right-none}
use Rattle.signs.specs.Paulis.{sgn, Pauli, pr, ph, Str, times, signed, phases, mul, nought, turn, real, flips, still}
use Rattle.signs.specs.Paulis.{expectation}
use Rattle.signs.specs.Majoranas.{paired}
use Rattle.signs.proofs.Tables.{xor-none, flips-pr, quiet-ph}
use Rattle.signs.proofs.Strings.{times-left, times-right, times-times}
use Rattle.signs.proofs.Values.{turn-nought, real-sgn}

-- ---- sums and tests over the modes

module _ (f g : ℕ → Pauli) where
  pub phases-none : (n : ℕ) → ((w : ℕ) → w < n → ph (f w) (g w) ≡ i0) → phases n f g ≡ i0
  unfolding phases
  phases-none zero h = refl
  phases-none (suc n) h = λ i. phases-none n (λ w l. h w (omega arith)) i ⊕ h n (omega arith) i

  -- all but one place give none
  pub phases-single : (n j : ℕ) → j < n → ((w : ℕ) → w < n → w ≢ j → ph (f w) (g w) ≡ i0) → phases n f g ≡ ph (f j) (g j)
  unfolding phases
  phases-single zero j l h = absurd (omega arith)
  phases-single (suc n) j l h = by (cases_eq n j) (λ l'. phases-single n j l' (λ w b d. h w (omega arith) d))
    where
      by : (n ≡ j) ⊎ (n ≢ j) → (j < n → phases n f g ≡ ph (f j) (g j)) → phases n f g ⊕ ph (f n) (g n) ≡ ph (f j) (g j)
      by (inl e) ih = λ i. phases-none n (λ w b. h w (omega arith) (λ d. omega arith)) i ⊕ ph (f (e i)) (g (e i))
      by (inr d) ih = (λ i. ih (omega arith) i ⊕ h n (omega arith) d i) ∙ right-none (ph (f j) (g j))

module _ (f : ℕ → Pauli) where
  pub still-yes : (n : ℕ) → ((w : ℕ) → w < n → flips (f w) ≡ false) → still n f ≡ true
  unfolding still
  still-yes zero h = refl
  still-yes (suc n) h = λ i. still-yes n (λ w l. h w (omega arith)) i && not (h n (omega arith) i)

  pub still-no : (n j : ℕ) → j < n → flips (f j) ≡ true → still n f ≡ false
  unfolding still
  still-no zero j l h = absurd (omega arith)
  still-no (suc n) j l h = by (cases_eq n j) (λ l'. still-no n j l' h)
    where
      by : (n ≡ j) ⊎ (n ≢ j) → (j < n → still n f ≡ false) → (still n f && not (flips (f n))) ≡ false
      by (inl e) ih = ap (λ b. still n f && not b) (ap (λ w. flips (f w)) e ∙ h) ∙ and-false (still n f)
      by (inr d) ih = ap (λ b. b && not (flips (f n))) (ih (omega arith))

  pub still-at : (n : ℕ) → still n f ≡ true → (w : ℕ) → w < n → flips (f w) ≡ false
  still-at n h w l = by (flips (f w)) refl
    where
      by : (b : Bool) → flips (f w) ≡ b → b ≡ false
      by true e = absurd (true≢false (sym h ∙ still-no n w l e))
      by false e = refl

-- ---- signs in front, and strings that turn a mode

module _ (n : ℕ) where
  pub expectation-signed : (b : Bool) (s : Str) → expectation n (signed b s) ≡ turn b (expectation n s)
  unfolding expectation
  expectation-signed b s = by (still n s.at)
    where
      by : (t : Bool) → cond t (real (sgn b ⊕ s.phase)) nought ≡ turn b (cond t (real s.phase) nought)
      by true = real-sgn b s.phase
      by false = sym (turn-nought b)

  pub expectation-turned : (s : Str) (j : ℕ) → j < n → flips (s.at j) ≡ true → expectation n s ≡ nought
  unfolding expectation
  expectation-turned s j l h = ap (λ b. cond b (real s.phase) nought) (still-no s.at n j l h)

  pub expectation-still : (s : Str) → still n s.at ≡ true → expectation n s ≡ real s.phase
  unfolding expectation
  expectation-still s h = ap (λ b. cond b (real s.phase) nought) h

  pub paired-signed : (a b : Bool) (x y : Str) → paired n (signed a x) (signed b y) ≡ signed a (signed b (paired n x y))
  paired-signed a b x y =
      ap (times i3) (times-left n (sgn a) x (signed b y) ∙ ap (times (sgn a)) (times-right n (sgn b) x y))
      ∙ past i3 (sgn a) (signed b (mul n x y)) ∙ ap (signed a) (past i3 (sgn b) (mul n x y))
    where
      past : (j k : Phase) (s : Str) → times j (times k s) ≡ times k (times j s)
      past j k s = times-times j k s ∙ ap (λ m. times m s) (comm j k) ∙ sym (times-times k j s)

  -- ---- a string that turns no mode, in front of another

  pub expectation-mul : (u z : Str) (b : Bool) → still n u.at ≡ true → u.phase ≡ sgn b → expectation n (mul n u z) ≡ turn b (expectation n z)
  unfolding expectation still
  expectation-mul u z b h e = by (still n z.at) refl
    where
      turned : (w : ℕ) → w < n → flips (pr (u.at w) (z.at w)) ≡ flips (z.at w)
      turned w l = flips-pr (u.at w) (z.at w) ∙ ap (λ t. xor t (flips (z.at w))) (still-at u.at n h w l) ∙ xor-none (flips (z.at w))

      -- as many modes are turned
      same : (m : ℕ) → m ≤ n → still m (λ w. pr (u.at w) (z.at w)) ≡ still m z.at
      same zero l = refl
      same (suc m) l = λ i. same m (omega arith) i && not (turned m (omega arith) i)

      by : (t : Bool) → still n z.at ≡ t
          → cond (still n (λ w. pr (u.at w) (z.at w))) (real (mul n u z).phase) nought ≡ turn b (cond t (real z.phase) nought)
      by true k =
          let quiet : (w : ℕ) → w < n → ph (u.at w) (z.at w) ≡ i0 =
          λ w l. quiet-ph (u.at w) (z.at w) (still-at u.at n h w l) (still-at z.at n k w l) in
          let no-phase = phases-none u.at z.at n quiet in
          (λ i. cond ((same n (le_refl n) ∙ k) i) (real (e i ⊕ z.phase ⊕ no-phase i)) nought)
          ∙ ap real (right-none (sgn b ⊕ z.phase)) ∙ real-sgn b z.phase
      by false k = ap (λ t. cond t (real (u.phase ⊕ z.phase ⊕ phases n u.at z.at)) nought) (same n (le_refl n) ∙ k) ∙ sym (turn-nought b)
