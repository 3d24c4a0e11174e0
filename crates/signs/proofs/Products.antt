-- Products of many strings on n modes. To exchange two factors of operators that anticommute turns the sign. A product of pairs, with -i for each
-- pair, has the value of its first pair times that of the rest; and none, if its first factor has no value with any other. Assumes nothing.
use mathlib.Core.Path.{◌≡◌, refl, sym, ap, ◌∙◌}
use mathlib.Core.Logic.{◌⊎◌, inl, inr, ◌≢◌}
use mathlib.Core.Bool.{Bool, true, false, xor, cond}
use Prim.Native.Nat.{ℕ, zero, suc, ◌+◌, ◌≤◌, ◌<◌}
use native.Mathlib.Nat.{add-zero, zero-add, le_refl, suc-add}
use native.Mathlib.Omega.{arith}
use Rattle.laws.specs.Tables.{exchanged}
use Rattle.laws.specs.Phase.{Phase, i0, i1, i2, i3, ◌⊕◌}
use Rattle.std.proofs.lemmas.Bool.{cases_eq}
use Rattle.laws.proofs.Tables.{exchanged-first, exchanged-second, exchanged-away}
use Rattle.laws.proofs.Phases.{comm}
use Rattle.signs.specs.Paulis.{sgn, Str, times, signed, mul, identity, Value, nought, plus, turn, real, flips}
use Rattle.signs.specs.Paulis.{still, expectation}
use Rattle.signs.specs.Majoranas.{paired}
use Rattle.signs.proofs.Tables.{flips-pr}
use Rattle.signs.proofs.Strings.{mul_assoc, times-left, times-right, times-times, signed-signed}
use Rattle.signs.proofs.Values.{◌×ᵥ◌, turn-left}
use Rattle.signs.proofs.Expectations.{expectation-turned, expectation-still, expectation-mul}
use Rattle.signs.proofs.Pairs.{Turns, pairing, Anti, pairing-some, flips-xy}

pub twice : (x : Str) → signed true (signed true x) ≡ x
unfolding xor
twice x = signed-signed true true x

module _ (n : ℕ) where
  -- f k, f (k + 1), ..: m of them, in front of x
  unfoldable pub prod : (ℕ → Str) → ℕ → ℕ → Str → Str
  prod f k zero x = x
  prod f k (suc m) x = mul n (f k) (prod f (suc k) m x)

  pub prod-cong : (f g : ℕ → Str) (k m : ℕ) (x y : Str) → ((i : ℕ) → k ≤ i → i < k + m → f i ≡ g i) → x ≡ y → prod f k m x ≡ prod g k m y
  unfolding prod
  prod-cong f g k zero x y h e = e
  prod-cong f g k (suc m) x y h e =
      λ i. mul n (h k (le_refl k) (omega arith) i) (prod-cong f g (suc k) m x y (λ j a b. h j (omega arith) (omega arith)) e i)

  split : (f : ℕ → Str) (k a b : ℕ) (x : Str) → prod f k (a + b) x ≡ prod f k a (prod f (k + a) b x)
  unfolding prod
  split f k zero b x = λ i. prod f (sym (add-zero k) i) (zero-add b i) x
  split f k (suc a) b x =
      ap (λ m. prod f k m x) (suc-add a b) ∙ ap (mul n (f k)) (split f (suc k) a b x ∙ ap (λ m. prod f (suc k) a (prod f m b x)) (sym (shift' k a)))
    where
      shift' : (k a : ℕ) → k + suc a ≡ suc k + a
      shift' k a = omega arith

  pub prod-shift : (f : ℕ → Str) (s k m : ℕ) (x : Str) → prod f (k + s) m x ≡ prod (λ i. f (i + s)) k m x
  unfolding prod
  prod-shift f s k zero x = refl
  prod-shift f s k (suc m) x = ap (mul n (f (k + s))) (ap (λ j. prod f j m x) (sym (suc-add k s)) ∙ prod-shift f s (suc k) m x)

  -- ---- signs

  -- r times the other sign
  flipped : ℕ → Str → Str
  flipped zero x = x
  flipped (suc r) x = signed true (flipped r x)

  flipped-sign : (r : ℕ) (x : Str) → flipped r (signed true x) ≡ signed true (flipped r x)
  unfolding flipped
  flipped-sign zero x = refl
  flipped-sign (suc r) x = ap (signed true) (flipped-sign r x)

  flipped-twice : (r : ℕ) (x : Str) → flipped r (flipped r x) ≡ x
  unfolding flipped
  flipped-twice zero x = refl
  flipped-twice (suc r) x = ap (signed true) (flipped-sign r (flipped r x)) ∙ twice (flipped r (flipped r x)) ∙ flipped-twice r x

  mul-flipped : (r : ℕ) (x y : Str) → mul n x (flipped r y) ≡ flipped r (mul n x y)
  unfolding flipped
  mul-flipped zero x y = refl
  mul-flipped (suc r) x y = times-right n i2 x (flipped r y) ∙ ap (signed true) (mul-flipped r x y)

  past : (x y z : Str) → Anti n x y → mul n x (mul n y z) ≡ signed true (mul n y (mul n x z))
  past x y z h = sym (mul_assoc n x y z) ∙ ap (λ w. mul n w z) h ∙ times-left n i2 (mul n y x) z ∙ ap (signed true) (mul_assoc n y x z)

  -- y goes past m factors
  move : (f : ℕ → Str) (y : Str) (k m : ℕ) (x : Str) → ((i : ℕ) → k ≤ i → i < k + m → Anti n y (f i))
      → mul n y (prod f k m x) ≡ flipped m (prod f k m (mul n y x))
  unfolding prod flipped
  move f y k zero x h = refl
  move f y k (suc m) x h =
      past y (f k) (prod f (suc k) m x) (h k (le_refl k) (omega arith))
      ∙ ap (signed true) (ap (mul n (f k)) (move f y (suc k) m x (λ i a b. h i (omega arith) (omega arith)))
      ∙ mul-flipped m (f k) (prod f (suc k) m (mul n y x)))

  -- the first N anticommute
  abbrev pub Apart : ℕ → (ℕ → Str) → Type 0
  Apart N f = (i j : ℕ) → i < N → j < N → i ≢ j → Anti n (f i) (f j)

  -- f k, r factors, f q, the rest: to exchange f k and f q turns the sign
  module _ (N : ℕ) (f : ℕ → Str) (apart : Apart N f) (k r m : ℕ) (room : suc k + r < N) (x : Str) where
    abbrev q : ℕ
    q = suc k + r

    abbrev between : Str → Str
    between z = prod f (suc k) r z

    abbrev rest : Str
    rest = prod f (suc q) m x

    cross : mul n (f q) (between (mul n (f k) rest)) ≡ signed true (mul n (f k) (between (mul n (f q) rest)))
    cross =
        let left = move f (f k) (suc k) r rest (λ i a b. apart k i (omega arith) (omega arith) (λ e. omega arith)) in
        let right = move f (f q) (suc k) r rest (λ i a b. apart q i room (omega arith) (λ e. omega arith)) in
        ap (mul n (f q)) (sym (flipped-twice r (between (mul n (f k) rest))) ∙ ap (flipped r) (sym left))
        ∙ mul-flipped r (f q) (mul n (f k) (between rest))
        ∙ ap (flipped r)
        (past (f q) (f k) (between rest) (apart q k room (omega arith) (λ e. omega arith))
        ∙ ap (signed true) (ap (mul n (f k)) right ∙ mul-flipped r (f k) (between (mul n (f q) rest))))
        ∙ flipped-sign r (flipped r (mul n (f k) (between (mul n (f q) rest))))
        ∙ ap (signed true) (flipped-twice r (mul n (f k) (between (mul n (f q) rest))))

    pub swap : prod (λ i. f (exchanged q k i)) k (suc (r + suc m)) x ≡ signed true (prod f k (suc (r + suc m)) x)
    unfolding prod
    swap =
        ap (mul n (g k)) (split g (suc k) r (suc m) x)
        ∙ (λ i. mul n (f (exchanged-second q k i)) (before i))
        ∙ cross
        ∙ ap (λ z. signed true (mul n (f k) z)) (sym (split f (suc k) r (suc m) x))
      where
        g : ℕ → Str
        g i = f (exchanged q k i)

        same : (j : ℕ) → j ≢ q → j ≢ k → g j ≡ f j
        same j a b = ap f (exchanged-away q k j a b)

        after : prod g (suc q) m x ≡ rest
        after = prod-cong g f (suc q) m x x (λ j a b. same j (λ e. omega arith) (λ e. omega arith)) refl

        before : prod g (suc k) r (mul n (g q) (prod g (suc q) m x)) ≡ between (mul n (f k) rest)
        before =
            prod-cong g f (suc k) r (mul n (g q) (prod g (suc q) m x)) (mul n (f k) rest)
            (λ j a b. same j (λ e. omega arith) (λ e. omega arith)) (λ i. mul n (f (exchanged-first q k i)) (after i))

-- ---- the value of a product of pairs

-- (-i)^p
abbrev pub minus_i : ℕ → Phase
minus_i zero = i0
minus_i (suc p) = i3 ⊕ minus_i p

module _ (n : ℕ) where
  -- of p pairs
  abbrev pub worth : ℕ → Str → Value
  worth p x = expectation n (times (minus_i p) x)

  -- no value with any other: the mode of the first factor is turned by nothing else
  pub worth-none : (N : ℕ) (f : ℕ → Str) → Apart n N f → ((i : ℕ) → i < N → Turns n (f i)) → (p k m : ℕ) → suc k + m ≤ N
      → ((i : ℕ) → suc k ≤ i → i < suc k + m → pairing n (f k) (f i) ≡ nought) → worth p (prod n f k (suc m) identity) ≡ nought
  unfolding prod xor
  worth-none N f apart turns p k m room none =
      expectation-turned n (times (minus_i p) (mul n (f k) (prod n f (suc k) m identity))) t.mode t.low
      (flips-pr ((f k).at t.mode) ((prod n f (suc k) m identity).at t.mode)
      ∙ (λ i. xor ((ap flips t.there ∙ flips-xy t.kind) i) (quiet (suc k) m (λ i a b. other i a b) i)))
    where
      t : Turns n (f k)
      t = turns k (omega arith)

      other : (i : ℕ) → suc k ≤ i → i < suc k + m → flips ((f i).at t.mode) ≡ false
      other i a b = by (cases_eq t.mode u.mode)
        where
          u : Turns n (f i)
          u = turns i (omega arith)

          by : (t.mode ≡ u.mode) ⊎ (t.mode ≢ u.mode) → flips ((f i).at t.mode) ≡ false
          by (inl e) = absurd (pairing-some n (f k) (f i) t u (apart k i (omega arith) (omega arith) (λ e. omega arith)) e (none i a b))
          by (inr d) = u.else t.mode d

      quiet : (k m : ℕ) → ((i : ℕ) → k ≤ i → i < k + m → flips ((f i).at t.mode) ≡ false) → flips ((prod n f k m identity).at t.mode) ≡ false
      quiet k zero h = refl
      quiet k (suc m) h =
          flips-pr ((f k).at t.mode) ((prod n f (suc k) m identity).at t.mode)
          ∙ (λ i. xor (h k (le_refl k) (omega arith) i) (quiet (suc k) m (λ i a b. h i (omega arith) (omega arith)) i))

  -- the first pair by itself
  pub first-pair : (p : ℕ) (x y z : Str) → times (minus_i (suc p)) (mul n x (mul n y z)) ≡ mul n (paired n x y) (times (minus_i p) z)
  first-pair p x y z =
      ap (λ k. times k (mul n x (mul n y z))) (comm i3 (minus_i p)) ∙ sym (times-times (minus_i p) i3 (mul n x (mul n y z)))
      ∙ ap (times (minus_i p)) (ap (times i3) (sym (mul_assoc n x y z)) ∙ sym (times-left n i3 (mul n x y) z))
      ∙ sym (times-right n (minus_i p) (paired n x y) z)

  -- the first pair, where it has a value
  pub worth-pair : (p : ℕ) (x y z : Str) → pairing n x y ≢ nought → worth (suc p) (mul n x (mul n y z)) ≡ pairing n x y ×ᵥ worth p z
  unfolding expectation
  worth-pair p x y z d =
      let b = found.0 in
      ap (expectation n) (first-pair p x y z)
      ∙ expectation-mul n (paired n x y) (times (minus_i p) z) b found.1 found.2
      ∙ sym (turn-left b plus (worth p z))
      ∙ ap (λ v. v ×ᵥ worth p z) (sym (expectation-still n (paired n x y) found.1 ∙ ap real found.2 ∙ real-is b))
    where
      real-is : (b : Bool) → real (sgn b) ≡ turn b plus
      real-is false = refl
      real-is true = refl

      -- a value that is not 0: no mode is turned, and the phase is a sign
      found : (b : Bool) × (still n (paired n x y).at ≡ true) × ((paired n x y).phase ≡ sgn b)
      found = by (still n (paired n x y).at) (paired n x y).phase refl refl
        where
          by : (s : Bool) (k : Phase) → still n (paired n x y).at ≡ s → (paired n x y).phase ≡ k
              → (b : Bool) × (still n (paired n x y).at ≡ true) × ((paired n x y).phase ≡ sgn b)
          by false k h e = absurd (d (ap (λ s. cond s (real (paired n x y).phase) nought) h))
          by true i0 h e = (false, h, e)
          by true i2 h e = (true, h, e)
          by true i1 h e = absurd (d (expectation-still n (paired n x y) h ∙ ap real e))
          by true i3 h e = absurd (d (expectation-still n (paired n x y) h ∙ ap real e))
