-- Operators that turn one mode, as Majorana operators do: X or Y there, I or Z elsewhere, and a sign. The value of -i x y for two of them: 0 where
-- the modes differ, or both are X or both Y; else 1 or -1. So of operators that anticommute, none has a value with two others. Assumes nothing.
use mathlib.Core.Path.{◌≡◌, refl, sym, ap, ◌∙◌, subst}
use mathlib.Core.Logic.{◌⊎◌, inl, inr, ◌≢◌}
use mathlib.Core.Bool.{Bool, true, false, xor, and-false}
use Prim.Native.Nat.{ℕ, ◌+◌, ◌*◌, ◌/◌, ◌%◌, ◌≤◌, ◌<◌}
use native.Mathlib.Omega.{arith}
use lib.Dec.{T, eqb}
use lib.Ieee.{neg}
use borrow.Author.Tests.{eq-eqb, ne_eqb}
use Rattle.laws.specs.Zeros.{+0, nz}
use Rattle.laws.specs.Phase.{Phase, i0, i2, i3, ◌⊕◌}
use Rattle.std.proofs.lemmas.Bool.{cases_lt, cases_eq}
use Rattle.laws.proofs.Phases.{comm, cancel, right-none, eq_phase}
use Rattle.local.specs.State.{vacuum}
use Rattle.signs.specs.Paulis.{sgn, Pauli, pr, ph, Str, signed, phases, mul, Value, nought, plus, minus, turn, float}
use Rattle.signs.specs.Paulis.{real, flips, expectation}
use Rattle.signs.specs.Majoranas.{xy, gamma, paired}
use Rattle.signs.proofs.Tables.{sgn-xor, flips-pr, quiet-ph, ph-square}
use Rattle.signs.proofs.JordanWigner.{before, here, beyond}
use Rattle.signs.proofs.Values.{plus≢nought, minus≢nought}
use Rattle.signs.proofs.Expectations.{phases-single, still-yes, expectation-turned, expectation-still}

pub record Turns (n : ℕ) (x : Str) : Type 0 where
  pub mode : ℕ
  pub low : mode < n
  -- Y, or X
  pub kind : Bool
  pub there : x.at mode ≡ xy kind
  pub else : (w : ℕ) → w ≢ mode → flips (x.at w) ≡ false
  pub minus : Bool
  pub sign : x.phase ≡ sgn minus

abbrev pub pairing : ℕ → Str → Str → Value
pairing n x y = expectation n (paired n x y)

-- ---- the Majorana operators, and signs in front

pub flips-xy : (b : Bool) → flips (xy b) ≡ true
flips-xy false = refl
flips-xy true = refl

pub gamma-turns : (n a : ℕ) → a < 2 * n → Turns n (gamma a)
gamma-turns n a l =
    record {
      mode = a / 2;
      low = omega arith;
      kind = eqb (a % 2) 1;
      there = here (a / 2) (eqb (a % 2) 1) (a / 2) refl;
      else = other;
      minus = false;
      sign = refl;
    }
  where
    other : (w : ℕ) → w ≢ a / 2 → flips ((gamma a).at w) ≡ false
    other w d = by (cases_lt w (a / 2))
      where
        by : (w < a / 2) ⊎ (a / 2 ≤ w) → flips ((gamma a).at w) ≡ false
        by (inl b) = ap flips (before (a / 2) (eqb (a % 2) 1) w b)
        by (inr b) = ap flips (beyond (a / 2) (eqb (a % 2) 1) w (omega arith))

pub signed-turns : (n : ℕ) (b : Bool) (x : Str) → Turns n x → Turns n (signed b x)
signed-turns n b x h = record {
  mode = h.mode;
  low = h.low;
  kind = h.kind;
  there = h.there;
  else = h.else;
  minus = xor b h.minus;
  sign = ap (λ k. sgn b ⊕ k) h.sign ∙ sgn-xor b h.minus;
}

-- ---- their values

-- X Y is i Z, and Y X is -i Z
abbrev both : Bool → Bool → Value
both false false = nought
both false true = plus
both true false = minus
both true true = nought

real-both : (a b j k : Bool) → real (i3 ⊕ (sgn a ⊕ sgn b ⊕ ph (xy j) (xy k))) ≡ turn a (turn b (both j k))
real-both false false false false = refl
real-both false false false true = refl
real-both false false true false = refl
real-both false false true true = refl
real-both false true false false = refl
real-both false true false true = refl
real-both false true true false = refl
real-both false true true true = refl
real-both true false false false = refl
real-both true false false true = refl
real-both true false true false = refl
real-both true false true true = refl
real-both true true false false = refl
real-both true true false true = refl
real-both true true true false = refl
real-both true true true true = refl

-- the product of two Paulis of which it is known whether they turn |0>
turned : (p q : Pauli) (a b : Bool) → flips p ≡ a → flips q ≡ b → flips (pr p q) ≡ xor a b
turned p q a b h k = flips-pr p q ∙ (λ i. xor (h i) (k i))

module _ (n : ℕ) (x y : Str) (h : Turns n x) (k : Turns n y) where
  pub pairing-apart : h.mode ≢ k.mode → pairing n x y ≡ nought
  unfolding xor
  pairing-apart d =
      expectation-turned n (paired n x y) h.mode h.low
      (turned (x.at h.mode) (y.at h.mode) true false (ap flips h.there ∙ flips-xy h.kind) (k.else h.mode d))

  -- in one mode
  module _ (e : h.mode ≡ k.mode) where
    there : y.at h.mode ≡ xy k.kind
    there = ap y.at e ∙ k.there

    away : (w : ℕ) → w ≢ h.mode → flips (y.at w) ≡ false
    away w d = k.else w (λ c. d (c ∙ sym e))

    pub same-phases : phases n x.at y.at ≡ ph (xy h.kind) (xy k.kind)
    same-phases =
        phases-single x.at y.at n h.mode h.low (λ w l d. quiet-ph (x.at w) (y.at w) (h.else w d) (away w d))
        ∙ (λ i. ph (h.there i) (there i))

    pub pairing-same : pairing n x y ≡ turn h.minus (turn k.minus (both h.kind k.kind))
    unfolding xor
    pairing-same =
        expectation-still n (paired n x y) (still-yes (λ w. pr (x.at w) (y.at w)) n (λ w l. by w (cases_eq w h.mode)))
        ∙ (λ i. real (i3 ⊕ (h.sign i ⊕ k.sign i ⊕ same-phases i)))
        ∙ real-both h.minus k.minus h.kind k.kind
      where
        by : (w : ℕ) → (w ≡ h.mode) ⊎ (w ≢ h.mode) → flips (pr (x.at w) (y.at w)) ≡ false
        by w (inl c) =
            turned (x.at w) (y.at w) true true (ap flips (ap x.at c ∙ h.there) ∙ flips-xy h.kind)
            (ap flips (ap y.at c ∙ there) ∙ flips-xy k.kind)
        by w (inr d) = turned (x.at w) (y.at w) false false (h.else w d) (away w d)

-- ---- the vacuum's covariance

pub vacuum-is : (n r c : ℕ) → r < 2 * n → c < 2 * n → nz (vacuum.m r c) ≡ float (pairing n (gamma r) (gamma c))
unfolding neg gamma-turns
vacuum-is n r c hr hc = by (cases_eq (r / 2) (c / 2))
  where
    h : Turns n (gamma r)
    h = gamma-turns n r hr

    k : Turns n (gamma c)
    k = gamma-turns n c hc

    -- its place is none of the two
    off : c ≢ r + 1 → r ≢ c + 1 → nz (vacuum.m r c) ≡ +0
    off p q = rw (ne_eqb c (r + 1) p, ne_eqb r (c + 1) q, and-false (eqb (r % 2) 0), and-false (eqb (c % 2) 0))

    -- in one mode, by what is odd
    same : r / 2 ≡ c / 2 → (r % 2 ≡ 1) ⊎ (r % 2 ≢ 1) → (c % 2 ≡ 1) ⊎ (c % 2 ≢ 1) → nz (vacuum.m r c) ≡ float (both (eqb (r % 2) 1) (eqb (c % 2) 1))
    same e (inl p) (inl q) = rw (eq-eqb (r % 2) 1 p, eq-eqb (c % 2) 1 q) (off (λ d. omega arith) (λ d. omega arith))
    same e (inl p) (inr q) =
        rw (
          eq-eqb (r % 2) 1 p,
          ne_eqb (c % 2) 1 q,
          ne_eqb (r % 2) 0 (λ d. omega arith),
          eq-eqb (c % 2) 0 (omega arith),
          eq-eqb r (c + 1)
              (omega arith),
        )
    same e (inr p) (inl q) = rw (ne_eqb (r % 2) 1 p, eq-eqb (c % 2) 1 q, eq-eqb (r % 2) 0 (omega arith), eq-eqb c (r + 1) (omega arith))
    same e (inr p) (inr q) = rw (ne_eqb (r % 2) 1 p, ne_eqb (c % 2) 1 q) (off (λ d. omega arith) (λ d. omega arith))

    -- in two modes
    apart : r / 2 ≢ c / 2 → (r % 2 ≡ 0) ⊎ (r % 2 ≢ 0) → (c % 2 ≡ 0) ⊎ (c % 2 ≢ 0) → nz (vacuum.m r c) ≡ +0
    apart d (inl p) (inl q) = off (λ e. omega arith) (λ e. omega arith)
    apart d (inl p) (inr q) = rw (ne_eqb c (r + 1) (λ e. omega arith), and-false (eqb (r % 2) 0), ne_eqb (c % 2) 0 q)
    apart d (inr p) (inl q) = rw (ne_eqb (r % 2) 0 p, ne_eqb r (c + 1) (λ e. omega arith), and-false (eqb (c % 2) 0))
    apart d (inr p) (inr q) = rw (ne_eqb (r % 2) 0 p, ne_eqb (c % 2) 0 q)

    by : (r / 2 ≡ c / 2) ⊎ (r / 2 ≢ c / 2) → nz (vacuum.m r c) ≡ float (pairing n (gamma r) (gamma c))
    by (inl e) = same e (cases_eq (r % 2) 1) (cases_eq (c % 2) 1) ∙ sym (ap float (pairing-same n (gamma r) (gamma c) h k e))
    by (inr d) = apart d (cases_eq (r % 2) 0) (cases_eq (c % 2) 0) ∙ sym (ap float (pairing-apart n (gamma r) (gamma c) h k d))

-- ---- operators that anticommute

abbrev pub Anti : ℕ → Str → Str → Type 0
Anti n x y = mul n x y ≡ signed true (mul n y x)

-- of one mode and both X, or both Y, they would commute
pub kinds-differ : (n : ℕ) (x y : Str) (h : Turns n x) (k : Turns n y) → Anti n x y → h.mode ≡ k.mode → h.kind ≢ k.kind
kinds-differ n x y h k a e d =
    no (cancel (u ⊕ v) i0 i2
    (ap (λ z. u ⊕ v ⊕ z) (sym (forth)) ∙ ap (λ s. s.phase) a ∙ ap (λ z. i2 ⊕ z) ((λ i. comm v u i ⊕ back i) ∙ right-none (u ⊕ v)) ∙ comm i2 (u ⊕ v)))
  where
    u : Phase
    u = x.phase

    v : Phase
    v = y.phase

    forth : phases n x.at y.at ≡ i0
    forth = same-phases n x y h k e ∙ ap (λ b. ph (xy h.kind) (xy b)) (sym d) ∙ ph-square (xy h.kind)

    back : phases n y.at x.at ≡ i0
    back = same-phases n y x k h (sym e) ∙ ap (λ b. ph (xy k.kind) (xy b)) d ∙ ph-square (xy k.kind)

    no : i0 ≡ i2 → ⊥
    no c = subst (λ z. T (eq_phase i0 z)) c tt

-- a value is there for two of one mode and of different kinds only
pub paired-mode : (n : ℕ) (x y : Str) (h : Turns n x) (k : Turns n y) → pairing n x y ≢ nought → (h.mode ≡ k.mode) × (h.kind ≢ k.kind)
paired-mode n x y h k d = by (cases_eq h.mode k.mode)
  where
    none : (a b j : Bool) → turn a (turn b (both j j)) ≡ nought
    none false false false = refl
    none false false true = refl
    none false true false = refl
    none false true true = refl
    none true false false = refl
    none true false true = refl
    none true true false = refl
    none true true true = refl

    by : (h.mode ≡ k.mode) ⊎ (h.mode ≢ k.mode) → (h.mode ≡ k.mode) × (h.kind ≢ k.kind)
    by (inl e) = (
      e,
      λ c. d (pairing-same n x y h k e ∙ ap (λ j. turn h.minus (turn k.minus (both h.kind j))) (sym c)
          ∙ none h.minus k.minus h.kind),
    )
    by (inr e) = absurd (d (pairing-apart n x y h k e))

-- and there it is
pub pairing-some : (n : ℕ) (x y : Str) (h : Turns n x) (k : Turns n y) → Anti n x y → h.mode ≡ k.mode → pairing n x y ≢ nought
pairing-some n x y h k a e z = some h.minus k.minus h.kind k.kind (kinds-differ n x y h k a e) (sym (pairing-same n x y h k e) ∙ z)
  where
    some : (a b i j : Bool) → i ≢ j → turn a (turn b (both i j)) ≢ nought
    some a b false false d c = d refl
    some a b true true d c = d refl
    some false false false true d c = plus≢nought c
    some false true false true d c = minus≢nought c
    some true false false true d c = minus≢nought c
    some true true false true d c = plus≢nought c
    some false false true false d c = minus≢nought c
    some false true true false d c = plus≢nought c
    some true false true false d c = plus≢nought c
    some true true true false d c = minus≢nought c

-- so an operator has a value with one other at most
pub single : (n : ℕ) (x y z : Str) → Turns n x → Turns n y → Turns n z → Anti n y z → pairing n x y ≢ nought → pairing n x z ≢ nought → ⊥
single n x y z h k l a p q =
    let e = paired-mode n x y h k p in
    let f = paired-mode n x z h l q in
    kinds-differ n y z k l a (sym e.0 ∙ f.0) (third h.kind k.kind l.kind e.1 f.1)
  where
    third : (a b c : Bool) → a ≢ b → a ≢ c → b ≡ c
    third a false false p q = refl
    third a true true p q = refl
    third false false true p q = absurd (p refl)
    third true false true p q = absurd (q refl)
    third false true false p q = absurd (q refl)
    third true true false p q = absurd (p refl)
