-- The parity of those of a list that pass: a number more at its end, and that of all below n by a list of those that any can be among. Assumes nothing.
use mathlib.Core.Path.{◌≡◌, refl, ap, ◌∙◌}
use mathlib.Core.Bool.{Bool, true, false, not, cond}
use mathlib.Core.List.{List, [], ◌∷◌, ◌++◌}
use Prim.Native.Nat.{ℕ, zero, suc, ◌<◌}
use native.Mathlib.Omega.{arith}
use Rattle.queries.specs.Lists.{oddly, passing}
use Rattle.queries.specs.Inner.{odd_among}

-- a test turns the parity if it passes
abbrev turn : Bool → Bool → Bool
turn a b = cond a (not b) b

turns_swap : (a b c : Bool) → turn a (turn b c) ≡ turn b (turn a c)
turns_swap true true c = refl
turns_swap true false c = refl
turns_swap false true c = refl
turns_swap false false c = refl

pub among-more : (p : ℕ → Bool) (ks : List ℕ) (k : ℕ) → odd_among p (ks ++ (k ∷ [])) ≡ cond (p k) (not (odd_among p ks)) (odd_among p ks)
unfolding odd_among
among-more p [] k = refl
among-more p (j ∷ ks) k = ap (turn (p j)) (among-more p ks k) ∙ turns_swap (p j) (p k) (odd_among p ks)

-- the numbers that q lets through are all that p can pass
pub among-passing : (p q : ℕ → Bool) (n : ℕ) → ((k : ℕ) → k < n → q k ≡ false → p k ≡ false) → odd_among p (passing q n) ≡ oddly p n
unfolding odd_among oddly passing
among-passing p q zero h = refl
among-passing p q (suc n) h = by (q n) refl (among-passing p q n (λ k g. h k (omega (arith, g))))
  where
    by : (b : Bool) → q n ≡ b → odd_among p (passing q n) ≡ oddly p n → odd_among p (passing q (suc n)) ≡ oddly p (suc n)
    by true e before = rw e (among-more p (passing q n) n ∙ ap (turn (p n)) before)
    by false e before = rw (e, h n (omega arith) e) before
