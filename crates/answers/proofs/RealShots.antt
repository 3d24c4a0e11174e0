-- Shots on real numbers (specs/OnReals.antt says what is proved): the chances are those on pairs. Assumes nothing.
use mathlib.Core.Path.{◌≡◌, refl, sym, ap, subst, ◌∙◌}
use mathlib.Core.Bool.{Bool, true, false, cond, ◌&&◌}
use mathlib.Core.List.{List, map}
use Prim.Native.Nat.{ℕ, zero, suc, ◌+◌, ◌*◌}
use lib.Dec.{ltb}
use Rattle.rings.specs.Rings.{Ops}
use Rattle.formulas.specs.Numbers.{Tests, Divides}
use Rattle.formulas.specs.Engine.{Mat, each, run, vacuum, get}
use Rattle.formulas.specs.Determinants.{own_odd}
use Rattle.angles.specs.Qubits.{Operators}
use Rattle.matchgates.specs.Gates.{computed, expected}
use Rattle.matchgates.specs.Complex.{complex, flat, Real}
use Rattle.matchgates.specs.Circuits.{conjugated}
use Rattle.matchgates.specs.Fused.{fusion_gate}
use Rattle.matchgates.specs.Renamed.{meant}
use Rattle.state.specs.Modes.{qubit_at}
use Rattle.answers.specs.Shots.{Draws, NotNull, mab_of, p0_of, chance_of, spin_of, den, projected, updated, after_mode, chances, Regular, RightChances}
use Rattle.answers.specs.OnReals.{RealGateShots, RealCircuitShots, RealAnswerTheorem}
use Rattle.matchgates.proofs.Complex.{exact, conjugate}
use Rattle.matchgates.proofs.Embeds.{Embeds, sg-to}
use Rattle.matchgates.proofs.OnReals.{flat-embeds, exact-pairs}
use Rattle.matchgates.proofs.Quotients.{pair_tests, pairs-divide, flat-div}
use Rattle.answers.proofs.Modes.{gate-shots}
use Rattle.answers.proofs.Circuits.{circuit-shots}
use Rattle.answers.proofs.OnReals.{real_entries, as-computed, real-gates-right, real-circuits-right}

-- what is asked of a pair is asked of its real part
abbrev pair_draws : {𝓡 : Ops} → Draws 𝓡 → Draws (complex 𝓡)
pair_draws {𝓡} 𝓓 = record { clamp = λ s. flat 𝓡 (𝓓.clamp s.re); tiny = λ s. 𝓓.tiny s.re; le = λ s t. 𝓓.le s.re t.re }

module _ {𝓡 : Ops} {below : 𝓡.N → Bool} (𝓕 : Real 𝓡 below) {𝓣 : Tests 𝓡} (𝓥 : Divides 𝓡 𝓣) (𝓓 : Draws 𝓡)
    (not-null : NotNull 𝓣 𝓓) where
  abbrev ℂ : Ops
  ℂ = complex 𝓡

  abbrev ι : 𝓡.N → ℂ.N
  ι = flat 𝓡

  abbrev 𝓗 : Embeds 𝓡 ℂ ι
  𝓗 = flat-embeds 𝓕

  abbrev pairs : Tests ℂ
  pairs = pair_tests 𝓡 𝓣

  abbrev draws : Draws ℂ
  draws = pair_draws 𝓓

  abbrev lifted : Mat 𝓡 → Mat ℂ
  lifted m r c = ι (m r c)

  den-pairs : (m : Mat 𝓡) (k : ℕ) (b : Bool) → ι (den 𝓡 𝓕.half 𝓣 𝓓 m k b) ≡ den ℂ (ι 𝓕.half) pairs draws (lifted m) k b
  den-pairs m k b =
      𝓗.add-to 𝓡.one (𝓡.mul (spin_of 𝓡 𝓕.half 𝓣 𝓓 b) x)
      ∙ ap (ℂ.add ℂ.one) (𝓗.mul-to (spin_of 𝓡 𝓕.half 𝓣 𝓓 b) x ∙ ap (λ s. ℂ.mul s (ι x)) (sg-to ι 𝓗 b 𝓡.one))
    where
      x : 𝓡.N
      x = mab_of 𝓡 𝓕.half 𝓣 𝓓 m k

  projected-pairs : (m : Mat 𝓡) (f : 𝓡.N) (k c e : ℕ)
      → ι (projected 𝓡 𝓕.half 𝓣 𝓓 m f k c e) ≡ projected ℂ (ι 𝓕.half) pairs draws (lifted m) (ι f) k c e
  projected-pairs m f k c e =
      𝓗.add-to (m c e) (𝓡.mul f (𝓡.add (𝓡.mul p q) (𝓡.neg (𝓡.mul u v))))
      ∙ ap (ℂ.add (ι (m c e)))
      (𝓗.mul-to f (𝓡.add (𝓡.mul p q) (𝓡.neg (𝓡.mul u v)))
      ∙ ap (ℂ.mul (ι f))
      (𝓗.add-to (𝓡.mul p q) (𝓡.neg (𝓡.mul u v)) ∙ (λ i. ℂ.add (𝓗.mul-to p q i) ((𝓗.neg-to (𝓡.mul u v) ∙ ap ℂ.neg (𝓗.mul-to u v)) i))))
    where
      p : 𝓡.N
      p = m c (2 * k + 1)

      q : 𝓡.N
      q = m e (2 * k)

      u : 𝓡.N
      u = m c (2 * k)

      v : 𝓡.N
      v = m e (2 * k + 1)

  updated-pairs : (m : Mat 𝓡) (f : 𝓡.N) (k : ℕ) → lifted (updated 𝓡 𝓕.half 𝓣 𝓓 m f k) ≡ updated ℂ (ι 𝓕.half) pairs draws (lifted m) (ι f) k
  updated-pairs m f k = λ i c e. at c e i
    where
      at : (c e : ℕ) → ι (updated 𝓡 𝓕.half 𝓣 𝓓 m f k c e) ≡ updated ℂ (ι 𝓕.half) pairs draws (lifted m) (ι f) k c e
      at c e = by (ltb (2 * k + 1) c && ltb (2 * k + 1) e) (ltb c e) (ltb e c)
        where
          by : (s t u : Bool)
              → ι (cond s (cond t (projected 𝓡 𝓕.half 𝓣 𝓓 m f k c e) (cond u (𝓡.neg (projected 𝓡 𝓕.half 𝓣 𝓓 m f k e c)) (m c e))) (m c e))
              ≡ cond s (cond t (projected ℂ (ι 𝓕.half) pairs draws (lifted m) (ι f) k c e)
              (cond u (ℂ.neg (projected ℂ (ι 𝓕.half) pairs draws (lifted m) (ι f) k e c)) (ι (m c e)))) (ι (m c e))
          by false t u = refl
          by true true u = projected-pairs m f k c e
          by true false true = 𝓗.neg-to (projected 𝓡 𝓕.half 𝓣 𝓓 m f k e c) ∙ ap ℂ.neg (projected-pairs m f k e c)
          by true false false = refl

  module _ (m : Mat 𝓡) (k : ℕ) (b : Bool) (fine : 𝓓.tiny (den 𝓡 𝓕.half 𝓣 𝓓 m k b) ≡ false) where
    fine-pairs : draws.tiny (den ℂ (ι 𝓕.half) pairs draws (lifted m) k b) ≡ false
    fine-pairs = ap draws.tiny (sym (den-pairs m k b)) ∙ fine

    after-pairs : lifted (after_mode 𝓡 𝓕.half 𝓣 𝓓 m k b) ≡ after_mode ℂ (ι 𝓕.half) pairs draws (lifted m) k b
    after-pairs =
        ap (λ t. lifted (cond t m (updated 𝓡 𝓕.half 𝓣 𝓓 m f k))) fine
        ∙ updated-pairs m f k
        ∙ ap (λ g. updated ℂ (ι 𝓕.half) pairs draws (lifted m) g k)
        (flat-div 𝓕 𝓥 (spin_of 𝓡 𝓕.half 𝓣 𝓓 b) (den 𝓡 𝓕.half 𝓣 𝓓 m k b) (not-null (den 𝓡 𝓕.half 𝓣 𝓓 m k b) fine)
        ∙ (λ i. pairs.div (sg-to ι 𝓗 b 𝓡.one i) (den-pairs m k b i)))
        ∙ ap (λ t. cond t (lifted m) (updated ℂ (ι 𝓕.half) pairs draws (lifted m)
        (pairs.div (spin_of ℂ (ι 𝓕.half) pairs draws b) (den ℂ (ι 𝓕.half) pairs draws (lifted m) k b)) k)) (sym fine-pairs)
      where
        f : 𝓡.N
        f = 𝓣.div (spin_of 𝓡 𝓕.half 𝓣 𝓓 b) (den 𝓡 𝓕.half 𝓣 𝓓 m k b)

  chance-pairs : (x : 𝓡.N) (b : Bool) → ι (chance_of 𝓡 𝓕.half 𝓣 𝓓 x b) ≡ chance_of ℂ (ι 𝓕.half) pairs draws (ι x) b
  chance-pairs x b = by b
    where
      p0 : ι (p0_of 𝓡 𝓕.half 𝓣 𝓓 x) ≡ p0_of ℂ (ι 𝓕.half) pairs draws (ι x)
      p0 = 𝓗.mul-to 𝓕.half (𝓡.add 𝓡.one x) ∙ ap (ℂ.mul (ι 𝓕.half)) (𝓗.add-to 𝓡.one x)

      by : (b : Bool) → ι (chance_of 𝓡 𝓕.half 𝓣 𝓓 x b) ≡ chance_of ℂ (ι 𝓕.half) pairs draws (ι x) b
      by false = p0
      by true =
          𝓗.add-to 𝓡.one (𝓡.neg (p0_of 𝓡 𝓕.half 𝓣 𝓓 x)) ∙ ap (ℂ.add ℂ.one) (𝓗.neg-to (p0_of 𝓡 𝓕.half 𝓣 𝓓 x) ∙ ap ℂ.neg p0)

  regular-pairs : (m : Mat 𝓡) (k n : ℕ) (o : ℕ → Bool) → Regular 𝓡 𝓕.half 𝓣 𝓓 m k n o → Regular ℂ (ι 𝓕.half) pairs draws (lifted m) k n o
  unfolding Regular
  regular-pairs m k zero o r = tt
  regular-pairs m k (suc n) o r = (
    ap ι r.0,
    fine-pairs m k (o k) r.1,
    subst (λ a. Regular ℂ (ι 𝓕.half) pairs draws a (suc k) n o) (after-pairs m k (o k) r.1) (regular-pairs (after_mode 𝓡 𝓕.half 𝓣 𝓓 m k (o k)) (suc k) n o r.2),
  )

  chances-pairs : (m : Mat 𝓡) (k n : ℕ) (o : ℕ → Bool) → Regular 𝓡 𝓕.half 𝓣 𝓓 m k n o
      → ι (chances 𝓡 𝓕.half 𝓣 𝓓 m k n o) ≡ chances ℂ (ι 𝓕.half) pairs draws (lifted m) k n o
  unfolding Regular chances
  chances-pairs m k zero o r = refl
  chances-pairs m k (suc n) o r =
      𝓗.mul-to (chance_of 𝓡 𝓕.half 𝓣 𝓓 (mab_of 𝓡 𝓕.half 𝓣 𝓓 m k) (o k)) (chances 𝓡 𝓕.half 𝓣 𝓓 (after_mode 𝓡 𝓕.half 𝓣 𝓓 m k (o k)) (suc k) n o)
      ∙ (λ i. ℂ.mul (chance-pairs (mab_of 𝓡 𝓕.half 𝓣 𝓓 m k) (o k) i)
      ((chances-pairs (after_mode 𝓡 𝓕.half 𝓣 𝓓 m k (o k)) (suc k) n o r.2
      ∙ ap (λ a. chances ℂ (ι 𝓕.half) pairs draws a (suc k) n o) (after-pairs m k (o k) r.1)) i))

  pairs-not-null : NotNull pairs draws
  pairs-not-null y h = ap (λ a. a && 𝓣.null y.im) (not-null y.re h)

  -- what is right of pairs is right of the real numbers
  read : {n : ℕ} {𝓐 : Ops} (𝓠 : Operators ℂ (exact 𝓕).i n 𝓐) (modes : List ℕ) (e : Mat 𝓡) (E : Mat ℂ) (v : 𝓐.N → ℂ.N) → lifted e ≡ E
      → RightChances pairs draws (ι 𝓕.half) (λ s. s) (exact 𝓕) 𝓠 modes E v → RightChances 𝓣 𝓓 𝓕.half ι (exact 𝓕) 𝓠 modes e v
  read {n} 𝓠 modes e E v same 𝓢 o r =
      chances-pairs e 0 n (λ k. o (qubit_at n modes k)) r
      ∙ ap (λ a. chances ℂ (ι 𝓕.half) pairs draws a 0 n (λ k. o (qubit_at n modes k))) same
      ∙ 𝓢 o (subst (λ a. Regular ℂ (ι 𝓕.half) pairs draws a 0 n (λ k. o (qubit_at n modes k))) same (regular-pairs e 0 n (λ k. o (qubit_at n modes k)) r))

module _ {𝓡 : Ops} {below : 𝓡.N → Bool} (𝓕 : Real 𝓡 below) {𝓣 : Tests 𝓡} (𝓥 : Divides 𝓡 𝓣) (𝓓 : Draws 𝓡) where
  -- THE CHANCES OF THE REAL ENGINE
  pub real-gate-shots : RealGateShots 𝓕 𝓣 (exact 𝓕) (conjugate 𝓕) (own_odd 𝓡 𝓣 below) 𝓓
  real-gate-shots not-null n 𝓐 𝓠 𝓦 modes table w gs =
      read 𝓕 𝓥 𝓓 not-null 𝓠 modes (real_entries 𝓕 𝓥 𝓦 gs)
      (get ℂ' (run ℂ' (λ s. below s.re) (own_odd ℂ' (pair_tests 𝓡 𝓣) (λ s. below s.re)) (map (each computed) gs) (vacuum ℂ')))
      (expected (exact 𝓕) (conjugate 𝓕) 𝓦 gs) (as-computed 𝓕 𝓥 𝓦 gs)
      (gate-shots (pairs-divide 𝓕 𝓥) (pair_draws 𝓓) (exact 𝓕) (conjugate 𝓕) (pairs-not-null 𝓕 𝓥 𝓓 not-null) n 𝓐 𝓠 𝓦 modes table w gs)
    where
      ℂ' : Ops
      ℂ' = complex 𝓡

  pub real-circuit-shots : RealCircuitShots 𝓕 𝓣 (exact 𝓕) (conjugate 𝓕) (own_odd 𝓡 𝓣 below) 𝓓
  real-circuit-shots not-null n 𝓐 𝓠 𝓦 modes table gs hs bs l c =
      read 𝓕 𝓥 𝓓 not-null 𝓠 modes (real_entries 𝓕 𝓥 𝓦 (map (each fusion_gate) bs))
      (get ℂ' (run ℂ' (λ s. below s.re) (own_odd ℂ' (pair_tests 𝓡 𝓣) (λ s. below s.re)) (map (each computed) (map (each fusion_gate) bs)) (vacuum ℂ')))
      (λ a. 𝓠.vac (conjugated (exact 𝓕) (conjugate 𝓕) 𝓠 (map meant gs) a)) (as-computed 𝓕 𝓥 𝓦 (map (each fusion_gate) bs))
      (circuit-shots (pairs-divide 𝓕 𝓥) (pair_draws 𝓓) (exact 𝓕) (conjugate 𝓕) (pairs-not-null 𝓕 𝓥 𝓓 not-null) n 𝓐 𝓠 𝓦 modes table gs hs bs l c)
    where
      ℂ' : Ops
      ℂ' = complex 𝓡

-- THE WHOLE STATEMENT
pub real-answer-theorem : RealAnswerTheorem
real-answer-theorem 𝓡 below 𝓕 = (
  exact-pairs 𝓕,
  λ 𝓣 𝓥. record {
    after-gates = real-gates-right 𝓕 𝓥;
    after-circuits = real-circuits-right 𝓕 𝓥;
    gate-shots = real-gate-shots 𝓕 𝓥;
    circuit-shots = real-circuit-shots 𝓕 𝓥;
  },
)
