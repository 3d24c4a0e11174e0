-- The same of accepted tapes: their gates are good and their tolerance is one from 0 to 0.001. Assumes nothing.
use mathlib.Core.Path.{◌≡◌, refl, sym, ap, subst}
use mathlib.Core.Logic.{◌⊎◌, inl, inr, ⊎_elim}
use mathlib.Core.Bool.{Bool, true, false, not, cond, ◌||◌, true≢false}
use mathlib.Core.List.{List, Memᴰ}
use Prim.Native.Nat.{ℕ, ◌+◌, ◌≤◌, ◌<◌}
use native.Mathlib.Omega.{arith}
use lib.Dec.{T}
use lib.ListN.{length}
use lib.Ieee.{Float, nan, inf, fin, binary64, fits, is_nan, lt, le, eq, below, level, of_bits}
use lib.Ieee.Bits.{is_true, of_bits-fits}
use lib.Ieee.Fits.{and_l, and_r}
use borrow.Author.Tests.{ltb-false, lt-ltb, le-ltb, eq-eqb, not-true}
use Rattle.laws.specs.Bounds.{max_tolerance}
use Rattle.std.proofs.lemmas.Bool.{cases_lt}
use Rattle.num.specs.Bits.{le64, f64_at}
use Rattle.gate.specs.Complex.{f0}
use Rattle.tape.specs.Bounds.{header_length}
use Rattle.tape.specs.Header.{header_at, is_tolerance, header_of}
use Rattle.tape.specs.Parse.{Content, accepted, after_header, parse, content_of, gates_of}
use Rattle.tape.specs.Good.{GoodGate}
use Rattle.tape.specs.declared.header.Header.{Header}
use Rattle.tape.specs.Headed.{Headed}
use Rattle.tape.specs.declared.gates.Gate.{Gate}
use Rattle.tape.proofs.HeaderLaws.{GoodHeader, HeaderIs, good, bad, header_is}
use Rattle.tape.proofs.Walks.{walk-header}
use Rattle.tape.proofs.GoodLaws.{gates-good}
use Rattle.monomial.specs.Tolerance.{Tolerance}
use Rattle.fuse.specs.Relabel.{labelled, unlabelled}
use Rattle.resolve.specs.Whole.{fuse_of}
use Rattle.register.specs.Register.{RegisterGate, RegisterTape, PlainGate}
use Rattle.register.specs.Blocks.{EvenSum}
use Rattle.register.specs.Follows.{Follows, any_pair, Plain}
use Rattle.register.proofs.Items.{items-follow, items-plain}

-- ---- of two numbers one is at most the other

not-below : (s t : Bool) (a b : ℕ) → below s a t b ≡ false → T (below t b s a || level t b s a)
not-below false false a b h = by (cases_lt b a)
  where
    by : (b < a) ⊎ (a ≤ b) → T (below false b false a || level false b false a)
    by (inl l) = rw (lt-ltb b a l) tt
    by (inr l) = rw (le-ltb b a l, eq-eqb b a (omega (arith, ltb-false a b h))) tt
not-below false true a b h = by (cases_lt 0 (b + a))
  where
    by : (0 < b + a) ⊎ (b + a ≤ 0) → T (below true b false a || level true b false a)
    by (inl l) = rw (lt-ltb 0 (b + a) l) tt
    by (inr l) = rw (le-ltb 0 (b + a) l, eq-eqb b a (omega arith), eq-eqb b 0 (omega arith)) tt
not-below true false a b h =
    let l : a + b ≤ 0 = ltb-false 0 (a + b) h in
    rw (eq-eqb b a (omega arith), eq-eqb b 0 (omega arith)) tt
not-below true true a b h = ⊎_elim (λ l. rw (lt-ltb a b l) tt) (λ l. rw (le-ltb a b l, eq-eqb b a (omega (arith, ltb-false b a h))) tt) (cases_lt a b)

-- of numbers: no NaN
at_least : (x y : Float) → is_nan x ≡ false → is_nan y ≡ false → lt x y ≡ false → T (le y x)
unfolding lt le eq is_nan
at_least nan y p q h = absurd (true≢false p)
at_least (inf s) nan p q h = absurd (true≢false q)
at_least (inf false) (inf false) p q h = tt
at_least (inf false) (inf true) p q h = tt
at_least (inf true) (inf false) p q h = absurd (true≢false h)
at_least (inf true) (inf true) p q h = tt
at_least (inf false) (fin t n d) p q h = tt
at_least (inf true) (fin t n d) p q h = absurd (true≢false h)
at_least (fin s m e) nan p q h = absurd (true≢false q)
at_least (fin s m e) (inf false) p q h = absurd (true≢false h)
at_least (fin s m e) (inf true) p q h = tt
at_least (fin s m e) (fin t n d) p q h = not-below s t _ _ h

-- what is at most a number is one
number : (x z : Float) → T (le x z) → is_nan x ≡ false
unfolding lt le eq is_nan
number nan z h = absurd h
number (inf s) z h = refl
number (fin s m e) z h = refl

tolerance-is : (x : Float) → T (fits binary64 x) → is_tolerance x ≡ true → Tolerance x
unfolding is_tolerance of_bits is_nan
tolerance-is x f h =
    let t : T (is_tolerance x) = subst T (sym h) tt in
    let low : T (not (lt x f0)) = and_l (not (lt x f0)) (le x max_tolerance) t in
    let high : T (le x max_tolerance) = and_r (not (lt x f0)) (le x max_tolerance) t in
    record { held = f; low = at_least x f0 (number x max_tolerance high) refl (not-true (lt x f0) (is_true (not (lt x f0)) low)); high = high }

-- ---- accepted tapes

pub header-good : (t : List ℕ) (h : Header) (c : Content) → parse t ≡ accepted h c → (header_at t ≡ h) × GoodHeader t
unfolding parse after_header
header-good t h c = by (header_of t) (header_is t)
  where
    by : (x : Headed) → HeaderIs t x → after_header t x ≡ accepted h c → (header_at t ≡ h) × GoodHeader t
    by _ (good w) e = (walk-header t (header_at t) h c (length t) 0 header_length e, w)
    by _ (bad r) e = absurd (let z : ◌≡◌ {A = ℕ} 0 1 = cc in omega arith)

module _ (t : List ℕ) (h : Header) (c : Content) (e : parse t ≡ accepted h c) where
  gates-are : gates_of t ≡ c.gates
  unfolding content_of
  gates-are = ap (λ w. (content_of w).gates) e

  pub good-gates : (x : Gate) → Memᴰ x c.gates → GoodGate h.n x
  good-gates x m =
      subst (λ k. GoodGate k.n x) (header-good t h c e).0 (gates-good t x (subst (Memᴰ x) (sym gates-are) m))

module _ (t : List ℕ) (h : Header) (c : Content) (e : parse t ≡ accepted h c) (r : RegisterTape t) (relabel : Bool) where
  register-gates : (x : Gate) → Memᴰ x c.gates → RegisterGate x
  register-gates x m = r x (subst (Memᴰ x) (sym (gates-are t h c e)) m)

  pub tolerance : Tolerance h.tolerance
  unfolding header_at
  tolerance =
      let w = header-good t h c e in
      subst (λ k. Tolerance k.tolerance) w.0 (tolerance-is (f64_at t 4) (of_bits-fits binary64 (le64 t 4)) w.1.tolerance)

  -- the items of every accepted register tape follow the register
  pub tape-follows : (let s = labelled relabel c.gates (unlabelled h.n) in
      Follows relabel h.n EvenSum any_pair ⊥ c.gates s (fuse_of relabel h.tolerance h.n s.swaps s.events))
  tape-follows = items-follow h.n c.gates (good-gates t h c e) register-gates relabel h.tolerance tolerance

  -- without Swap and on neighbouring pairs nothing is renamed, and every item is Gaussian
  pub tape-plain : ((x : Gate) → Memᴰ x c.gates → PlainGate x)
      → (let s = labelled relabel c.gates (unlabelled h.n) in Plain h.n s (fuse_of relabel h.tolerance h.n s.swaps s.events))
  tape-plain p = items-plain h.n c.gates (good-gates t h c e) register-gates relabel h.tolerance tolerance p
