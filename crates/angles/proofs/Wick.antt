-- WICK'S THEOREM (specs/Wick.antt says what it says). A functional for which the first of a product of sums of Majorana operators can be paired with each of
-- the others is one after a block too; and the vacuum is one, because half of every Majorana operator annihilates it. Assumes nothing.
use mathlib.Core.Path.{◌≡◌, refl, sym, ap, subst, ◌∙◌}
use mathlib.Core.Bool.{Bool, true, false, not}
use mathlib.Core.List.{List, [], ◌∷◌, ◌++◌}
use Prim.Native.Nat.{ℕ, zero, suc, ◌+◌, ◌*◌, ◌/◌, ◌%◌, ◌≤◌, ◌<◌}
use native.Mathlib.Nat.{not-suc-le-zero}
use native.Mathlib.Omega.{arith}
use lib.Dec.{eqb}
use lib.ListN.{length}
use Rattle.std.proofs.lemmas.List.{length-append}
use Rattle.rings.specs.Rings.{Ops, IsRing, sg}
use Rattle.formulas.specs.Numbers.{Exact}
use Rattle.formulas.specs.Engine.{Item, applied, interaction}
use Rattle.angles.specs.Qubits.{x, y, z, Operators, zs, which, major, gamma}
use Rattle.angles.specs.Angles.{Block, acts, pulled, after}
use Rattle.formulas.specs.Pfaffians.{first_row, pfaffian, AllBelow}
use Rattle.angles.specs.Wick.{gammas, Wick, WickTheorem}
use Rattle.rings.proofs.Rings.{zero-mul, mul-zero, middle, mul-neg, neg-mul, neg-zero, neg-sum}
use Rattle.laws.proofs.Lists.{all_append}
use Rattle.angles.proofs.Passing.{pass-back}
use Rattle.angles.proofs.Majoranas.{num-neg, zs-early, which-z, gamma-first, gamma-second}
use Rattle.angles.proofs.Blocks.{acts-mul, acts-one}
use Rattle.angles.proofs.Steps.{Linear, lin-zero, lin-neg, move}
use Rattle.angles.proofs.Vacuum.{vac-linear, z-own}
use Rattle.angles.proofs.Spans.{Span, basic, none, both, scaled, span-acts, meet}

module _ {𝓝 : Ops} {below : 𝓝.N → Bool} (𝓔 : Exact 𝓝 below) {n : ℕ} {𝓐 : Ops} (𝓠 : Operators 𝓝 𝓔.i n 𝓐) where
  open 𝓐 use {N, zero as 𝟘, one as 𝟙, add as ◌⊹◌, mul as ◌⋆◌, neg}

  infixl 65 ◌⊹◌
  infixl 70 ◌⋆◌
  abbrev 𝓛 : IsRing 𝓐
  𝓛 = 𝓠.ring

  abbrev 𝓚 : IsRing 𝓝
  𝓚 = 𝓔.laws.ring

  -- ---- products, and the first factor paired with each of the others

  abbrev prod : List N → N
  prod [] = 𝟙
  prod (a ∷ ts) = a ⋆ prod ts

  abbrev Spans : List N → Type 0
  Spans [] = Unit {0}
  Spans (a ∷ ts) = Span 𝓔 𝓠 a × Spans ts

  prod-join : (ts bs : List N) → prod (ts ++ bs) ≡ prod ts ⋆ prod bs
  prod-join [] bs = sym (𝓛.one-mul (prod bs))
  prod-join (a ∷ ts) bs = ap (λ c. a ⋆ c) (prod-join ts bs) ∙ sym (𝓛.mul-assoc a (prod ts) (prod bs))

  paired : (N → 𝓝.N) → N → List N → List N → 𝓝.N
  paired f a seen [] = 𝓝.zero
  paired f a seen (b ∷ bs) = 𝓝.add (𝓝.mul (f (a ⋆ b)) (f (prod (seen ++ bs)))) (𝓝.neg (paired f a (seen ++ (b ∷ [])) bs))

  -- the first factor can be paired with each of the others
  Pairs : (N → 𝓝.N) → Type 0
  Pairs f = (a : N) (bs : List N) → Span 𝓔 𝓠 a → Spans bs → f (a ⋆ prod bs) ≡ paired f a [] bs

  -- ---- linear in the first factor

  module _ (f : N → 𝓝.N) (l : Linear 𝓔 𝓠 f) where
    paired-same : (a b : N) → ((c : N) → f (a ⋆ c) ≡ f (b ⋆ c)) → (seen bs : List N) → paired f a seen bs ≡ paired f b seen bs
    unfolding paired
    paired-same a b e seen [] = refl
    paired-same a b e seen (c ∷ cs) = λ i. 𝓝.add (𝓝.mul (e c i) (f (prod (seen ++ cs)))) (𝓝.neg (paired-same a b e (seen ++ (c ∷ [])) cs i))

    paired-none : (seen bs : List N) → paired f 𝟘 seen bs ≡ 𝓝.zero
    unfolding paired
    paired-none seen [] = refl
    paired-none seen (c ∷ cs) =
        (λ i. 𝓝.add (𝓝.mul ((ap f (zero-mul 𝓛 c) ∙ lin-zero 𝓔 𝓠 f l) i) (f (prod (seen ++ cs)))) (𝓝.neg (paired-none (seen ++ (c ∷ [])) cs i)))
        ∙ (λ i. 𝓝.add (zero-mul 𝓚 (f (prod (seen ++ cs))) i) (neg-zero 𝓚 i))
        ∙ 𝓚.add-zero 𝓝.zero

    paired-both : (a b : N) (seen bs : List N) → paired f (a ⊹ b) seen bs ≡ 𝓝.add (paired f a seen bs) (paired f b seen bs)
    unfolding paired
    paired-both a b seen [] = sym (𝓚.add-zero 𝓝.zero)
    paired-both a b seen (c ∷ cs) =
        (λ i. 𝓝.add (𝓝.mul ((ap f (𝓛.right a b c) ∙ l.adds (a ⋆ c) (b ⋆ c)) i) (f (prod (seen ++ cs)))) (𝓝.neg (paired-both a b (seen ++ (c ∷ [])) cs i)))
        ∙ (λ i. 𝓝.add (𝓚.right (f (a ⋆ c)) (f (b ⋆ c)) (f (prod (seen ++ cs))) i)
        (neg-sum 𝓚 (paired f a (seen ++ (c ∷ [])) cs) (paired f b (seen ++ (c ∷ [])) cs) i))
        ∙ middle 𝓚 (𝓝.mul (f (a ⋆ c)) (f (prod (seen ++ cs)))) (𝓝.mul (f (b ⋆ c)) (f (prod (seen ++ cs))))
        (𝓝.neg (paired f a (seen ++ (c ∷ [])) cs)) (𝓝.neg (paired f b (seen ++ (c ∷ [])) cs))

    paired-scaled : (s : 𝓝.N) (a : N) (seen bs : List N) → paired f (𝓠.num s ⋆ a) seen bs ≡ 𝓝.mul s (paired f a seen bs)
    unfolding paired
    paired-scaled s a seen [] = sym (mul-zero 𝓚 s)
    paired-scaled s a seen (c ∷ cs) =
        (λ i. 𝓝.add (𝓝.mul ((ap f (𝓛.mul-assoc (𝓠.num s) a c) ∙ l.nums s (a ⋆ c)) i) (f (prod (seen ++ cs))))
        (𝓝.neg (paired-scaled s a (seen ++ (c ∷ [])) cs i)))
        ∙ (λ i. 𝓝.add (𝓚.mul-assoc s (f (a ⋆ c)) (f (prod (seen ++ cs))) i) (sym (mul-neg 𝓚 s (paired f a (seen ++ (c ∷ [])) cs)) i))
        ∙ sym (𝓚.left s (𝓝.mul (f (a ⋆ c)) (f (prod (seen ++ cs)))) (𝓝.neg (paired f a (seen ++ (c ∷ [])) cs)))

    -- it is enough to know it of Majorana operators
    pairs-of : ((r : ℕ) → r < 2 * n → (bs : List N) → Spans bs → f (gamma 𝓠 r ⋆ prod bs) ≡ paired f (gamma 𝓠 r) [] bs)
        → (bs : List N) → Spans bs → {a : N} → Span 𝓔 𝓠 a → f (a ⋆ prod bs) ≡ paired f a [] bs
    pairs-of h bs t (basic r m) = h r m bs t
    pairs-of h bs t none = ap f (zero-mul 𝓛 (prod bs)) ∙ lin-zero 𝓔 𝓠 f l ∙ sym (paired-none [] bs)
    pairs-of h bs t (both {a = a} {b = b} s u) =
        ap f (𝓛.right a b (prod bs)) ∙ l.adds (a ⋆ prod bs) (b ⋆ prod bs) ∙ (λ i. 𝓝.add (pairs-of h bs t s i) (pairs-of h bs t u i))
        ∙ sym (paired-both a b [] bs)
    pairs-of h bs t (scaled c {a = a} s) =
        ap f (𝓛.mul-assoc (𝓠.num c) a (prod bs)) ∙ l.nums c (a ⋆ prod bs) ∙ ap (𝓝.mul c) (pairs-of h bs t s) ∙ sym (paired-scaled c a [] bs)

    -- ---- an operator that annihilates: it is moved to the right

    module _ (normal : f 𝟙 ≡ 𝓝.one) (b : N) (sb : Span 𝓔 𝓠 b) (kills : (c : N) → f (c ⋆ b) ≡ 𝓝.zero) where
      -- b c = t - c b
      turned : (c : N) (t : 𝓝.N) → b ⋆ c ⊹ c ⋆ b ≡ 𝓠.num t → b ⋆ c ≡ 𝓠.num t ⊹ neg (c ⋆ b)
      turned c t e =
          sym (𝓛.add-zero (b ⋆ c)) ∙ ap (λ w. b ⋆ c ⊹ w) (sym (𝓛.add-neg (c ⋆ b))) ∙ sym (𝓛.add-assoc (b ⋆ c) (c ⋆ b) (neg (c ⋆ b)))
          ∙ ap (λ w. w ⊹ neg (c ⋆ b)) e

      -- t is the value of b c
      value-is : (c : N) (t : 𝓝.N) → b ⋆ c ⊹ c ⋆ b ≡ 𝓠.num t → f (b ⋆ c) ≡ t
      value-is c t e =
          sym (𝓚.add-zero (f (b ⋆ c)))
          ∙ ap (𝓝.add (f (b ⋆ c))) (sym (kills c))
          ∙ sym (l.adds (b ⋆ c) (c ⋆ b))
          ∙ ap f (e ∙ sym (𝓛.mul-one (𝓠.num t)))
          ∙ l.nums t 𝟙
          ∙ ap (𝓝.mul t) normal
          ∙ 𝓚.mul-one t

      moved : (seen bs : List N) → Spans bs → f (prod seen ⋆ (b ⋆ prod bs)) ≡ paired f b seen bs
      unfolding paired
      moved seen [] h = ap (λ c. f (prod seen ⋆ c)) (𝓛.mul-one b) ∙ kills (prod seen)
      moved seen (c ∷ cs) h =
          ap (λ w. f (prod seen ⋆ w)) (sym (𝓛.mul-assoc b c (prod cs)) ∙ ap (λ w. w ⋆ prod cs) (turned c t e) ∙ 𝓛.right (𝓠.num t) (neg (c ⋆ b)) (prod cs))
          ∙ ap f (𝓛.left (prod seen) (𝓠.num t ⋆ prod cs) (neg (c ⋆ b) ⋆ prod cs))
          ∙ l.adds (prod seen ⋆ (𝓠.num t ⋆ prod cs)) (prod seen ⋆ (neg (c ⋆ b) ⋆ prod cs))
          ∙ (λ i. 𝓝.add (one-pair i) ((others ∙ ap 𝓝.neg (moved (seen ++ (c ∷ [])) cs h.1)) i))
        where
          t : 𝓝.N
          t = (meet 𝓔 𝓠 sb h.0).0

          e : b ⋆ c ⊹ c ⋆ b ≡ 𝓠.num t
          e = (meet 𝓔 𝓠 sb h.0).1

          one-pair : f (prod seen ⋆ (𝓠.num t ⋆ prod cs)) ≡ 𝓝.mul (f (b ⋆ c)) (f (prod (seen ++ cs)))
          one-pair =
              ap f (move 𝓔 𝓠 t (prod seen) (prod cs)) ∙ l.nums t (prod seen ⋆ prod cs)
              ∙ (λ i. 𝓝.mul (sym (value-is c t e) i) (f (sym (prod-join seen cs) i)))

          others : f (prod seen ⋆ (neg (c ⋆ b) ⋆ prod cs)) ≡ 𝓝.neg (f (prod (seen ++ (c ∷ [])) ⋆ (b ⋆ prod cs)))
          others =
              ap f (ap (λ w. prod seen ⋆ w) (neg-mul 𝓛 (c ⋆ b) (prod cs)) ∙ mul-neg 𝓛 (prod seen) (c ⋆ b ⋆ prod cs))
              ∙ lin-neg 𝓔 𝓠 f l (prod seen ⋆ (c ⋆ b ⋆ prod cs))
              ∙ ap (λ w. 𝓝.neg (f w))
              (ap (λ w. prod seen ⋆ w) (𝓛.mul-assoc c b (prod cs))
              ∙ sym (𝓛.mul-assoc (prod seen) c (b ⋆ prod cs))
              ∙ ap (λ w. w ⋆ (b ⋆ prod cs)) (ap (λ w. prod seen ⋆ w) (sym (𝓛.mul-one c)) ∙ sym (prod-join seen (c ∷ []))))

  -- ---- the vacuum

  z-major : (k : ℕ) (b : Bool) → k < n → 𝓠.pauli z k ⋆ major 𝓠 k b ≡ 𝓠.num (sg 𝓝 b 𝓔.i) ⋆ major 𝓠 k (not b)
  z-major k b h = past ∙ by b
    where
      past : 𝓠.pauli z k ⋆ major 𝓠 k b ≡ zs 𝓠 k ⋆ (𝓠.pauli z k ⋆ 𝓠.pauli (which 𝓠 b) k)
      past =
          sym (𝓛.mul-assoc (𝓠.pauli z k) (zs 𝓠 k) (𝓠.pauli (which 𝓠 b) k))
          ∙ ap (λ a. a ⋆ 𝓠.pauli (which 𝓠 b) k) (zs-early 𝓔 𝓠 z k k h (omega arith))
          ∙ 𝓛.mul-assoc (zs 𝓠 k) (𝓠.pauli z k) (𝓠.pauli (which 𝓠 b) k)

      by : (b : Bool) → zs 𝓠 k ⋆ (𝓠.pauli z k ⋆ 𝓠.pauli (which 𝓠 b) k) ≡ 𝓠.num (sg 𝓝 b 𝓔.i) ⋆ major 𝓠 k (not b)
      by false = ap (λ a. zs 𝓠 k ⋆ a) (𝓠.zx k h) ∙ move 𝓔 𝓠 𝓔.i (zs 𝓠 k) (𝓠.pauli y k)
      by true =
          ap (λ a. zs 𝓠 k ⋆ a)
          (pass-back 𝓛 true (𝓠.pauli y k) (𝓠.pauli z k) (which-z 𝓔 𝓠 k h true) ∙ ap neg (𝓠.yz k h) ∙ sym (neg-mul 𝓛 (𝓠.num 𝓔.i) (𝓠.pauli x k))
          ∙ ap (λ a. a ⋆ 𝓠.pauli x k) (sym (num-neg 𝓔 𝓠 𝓔.i)))
          ∙ move 𝓔 𝓠 (𝓝.neg 𝓔.i) (zs 𝓠 k) (𝓠.pauli x k)

  major-span : (k : ℕ) (b : Bool) → k < n → Span 𝓔 𝓠 (major 𝓠 k b)
  major-span k false h = subst (Span 𝓔 𝓠) (gamma-first 𝓔 𝓠 k) (basic (2 * k) (omega arith))
  major-span k true h = subst (Span 𝓔 𝓠) (gamma-second 𝓔 𝓠 k) (basic (2 * k + 1) (omega arith))

  module _ (r : ℕ) (h : r < 2 * n) where
    abbrev zg : N
    zg = 𝓠.pauli z (r / 2) ⋆ gamma 𝓠 r

    -- the half of gamma_r that annihilates the vacuum
    abbrev lower : N
    lower = 𝓠.num 𝓔.half ⋆ (gamma 𝓠 r ⊹ zg)

    lower-span : Span 𝓔 𝓠 lower
    lower-span =
        scaled 𝓔.half (both (basic r h) (subst (Span 𝓔 𝓠) (sym (z-major (r / 2) (eqb (r % 2) 1) (omega arith)))
        (scaled (sg 𝓝 (eqb (r % 2) 1) 𝓔.i) (major-span (r / 2) (not (eqb (r % 2) 1)) (omega arith)))))

    -- half of twice a number
    half-twice : (s : 𝓝.N) → 𝓝.mul 𝓔.half (𝓝.add s s) ≡ s
    half-twice s =
        𝓚.left 𝓔.half s s ∙ sym (𝓚.right 𝓔.half 𝓔.half s) ∙ ap (λ t. 𝓝.mul t s) 𝓔.halves ∙ 𝓚.one-mul s

    lower-kills : (c : N) → 𝓠.vac (c ⋆ lower) ≡ 𝓝.zero
    lower-kills c =
        ap 𝓠.vac (move 𝓔 𝓠 𝓔.half c (gamma 𝓠 r ⊹ zg))
        ∙ 𝓠.vac-num 𝓔.half (c ⋆ (gamma 𝓠 r ⊹ zg))
        ∙ ap (𝓝.mul 𝓔.half)
        (ap 𝓠.vac (𝓛.left c (gamma 𝓠 r) zg) ∙ 𝓠.vac-add (c ⋆ gamma 𝓠 r) (c ⋆ zg) ∙ ap (𝓝.add (𝓠.vac (c ⋆ gamma 𝓠 r))) back ∙ 𝓚.add-neg (𝓠.vac (c ⋆ gamma 𝓠 r)))
        ∙ mul-zero 𝓚 𝓔.half
      where
        back : 𝓠.vac (c ⋆ zg) ≡ 𝓝.neg (𝓠.vac (c ⋆ gamma 𝓠 r))
        back =
            ap 𝓠.vac (ap (λ a. c ⋆ a) (z-own 𝓔 𝓠 r h) ∙ mul-neg 𝓛 c (gamma 𝓠 r ⋆ 𝓠.pauli z (r / 2)))
            ∙ lin-neg 𝓔 𝓠 𝓠.vac (vac-linear 𝓔 𝓠) (c ⋆ (gamma 𝓠 r ⋆ 𝓠.pauli z (r / 2)))
            ∙ ap (λ a. 𝓝.neg (𝓠.vac a)) (sym (𝓛.mul-assoc c (gamma 𝓠 r) (𝓠.pauli z (r / 2))))
            ∙ ap 𝓝.neg (𝓠.ket (r / 2) (c ⋆ gamma 𝓠 r) (omega arith))

    lower-same : (c : N) → 𝓠.vac (lower ⋆ c) ≡ 𝓠.vac (gamma 𝓠 r ⋆ c)
    lower-same c =
        ap 𝓠.vac (𝓛.mul-assoc (𝓠.num 𝓔.half) (gamma 𝓠 r ⊹ zg) c)
        ∙ 𝓠.vac-num 𝓔.half ((gamma 𝓠 r ⊹ zg) ⋆ c)
        ∙ ap (𝓝.mul 𝓔.half)
        (ap 𝓠.vac (𝓛.right (gamma 𝓠 r) zg c) ∙ 𝓠.vac-add (gamma 𝓠 r ⋆ c) (zg ⋆ c)
        ∙ ap (𝓝.add (𝓠.vac (gamma 𝓠 r ⋆ c))) (ap 𝓠.vac (𝓛.mul-assoc (𝓠.pauli z (r / 2)) (gamma 𝓠 r) c) ∙ 𝓠.bra (r / 2) (gamma 𝓠 r ⋆ c) (omega arith)))
        ∙ half-twice (𝓠.vac (gamma 𝓠 r ⋆ c))

    vac-basic : (bs : List N) → Spans bs → 𝓠.vac (gamma 𝓠 r ⋆ prod bs) ≡ paired 𝓠.vac (gamma 𝓠 r) [] bs
    vac-basic bs t =
        sym (lower-same (prod bs))
        ∙ ap 𝓠.vac (sym (𝓛.one-mul (lower ⋆ prod bs)))
        ∙ moved 𝓠.vac (vac-linear 𝓔 𝓠) 𝓠.vac-one lower lower-span lower-kills [] bs t
        ∙ paired-same 𝓠.vac (vac-linear 𝓔 𝓠) lower (gamma 𝓠 r) lower-same [] bs

  vac-pairs : Pairs 𝓠.vac
  unfolding Pairs
  vac-pairs a bs s t = pairs-of 𝓠.vac (vac-linear 𝓔 𝓠) vac-basic bs t s

  -- ---- a block in front

  module _ (g : Block 𝓠) where
    abbrev φ : N → N
    φ = acts 𝓠 g

    abbrev each : List N → List N
    each [] = []
    each (b ∷ bs) = φ b ∷ each bs

    each-join : (ts bs : List N) → each (ts ++ bs) ≡ each ts ++ each bs
    each-join [] bs = refl
    each-join (a ∷ ts) bs = ap (λ w. φ a ∷ w) (each-join ts bs)

    each-prod : (bs : List N) → φ (prod bs) ≡ prod (each bs)
    each-prod [] = acts-one 𝓔 𝓠 g
    each-prod (b ∷ bs) = acts-mul 𝓔 𝓠 g b (prod bs) ∙ ap (λ w. φ b ⋆ w) (each-prod bs)

    each-spans : (bs : List N) → Spans bs → Spans (each bs)
    each-spans [] t = tt
    each-spans (b ∷ bs) t = (span-acts 𝓔 𝓠 g t.0, each-spans bs t.1)

    paired-acts : (f : N → 𝓝.N) (a : N) (seen bs : List N) → paired (λ c. f (φ c)) a seen bs ≡ paired f (φ a) (each seen) (each bs)
    unfolding paired
    paired-acts f a seen [] = refl
    paired-acts f a seen (b ∷ bs) =
        λ i. 𝓝.add (𝓝.mul (f (acts-mul 𝓔 𝓠 g a b i)) (f ((each-prod (seen ++ bs) ∙ ap prod (each-join seen bs)) i)))
        (𝓝.neg ((paired-acts f a (seen ++ (b ∷ [])) bs ∙ ap (λ w. paired f (φ a) w (each bs)) (each-join seen (b ∷ []))) i))

    pairs-acts : (f : N → 𝓝.N) → Pairs f → Pairs (λ c. f (φ c))
    unfolding Pairs
    pairs-acts f h a bs s t =
        ap f (acts-mul 𝓔 𝓠 g a (prod bs) ∙ ap (λ w. φ a ⋆ w) (each-prod bs))
        ∙ h (φ a) (each bs) (span-acts 𝓔 𝓠 g s) (each-spans bs t)
        ∙ sym (paired-acts f a [] bs)

  pulled-pairs : (gs : List (Item (Block 𝓠))) (f : N → 𝓝.N) → Pairs f → Pairs (λ c. f (pulled 𝓠 gs c))
  unfolding pulled
  pulled-pairs [] f h = h
  pulled-pairs (interaction ∷ gs) f h = pulled-pairs gs f h
  pulled-pairs (applied g ∷ gs) f h = pulled-pairs gs (λ c. f (acts 𝓠 g c)) (pairs-acts g f h)

  pulled-one : (gs : List (Item (Block 𝓠))) → pulled 𝓠 gs 𝟙 ≡ 𝟙
  unfolding pulled
  pulled-one [] = refl
  pulled-one (interaction ∷ gs) = pulled-one gs
  pulled-one (applied g ∷ gs) = ap (acts 𝓠 g) (pulled-one gs) ∙ acts-one 𝓔 𝓠 g

  -- ---- the Pfaffian

  abbrev tops : List ℕ → List N
  tops [] = []
  tops (r ∷ rs) = gamma 𝓠 r ∷ tops rs

  tops-join : (qs rs : List ℕ) → tops (qs ++ rs) ≡ tops qs ++ tops rs
  tops-join [] rs = refl
  tops-join (q ∷ qs) rs = ap (λ w. gamma 𝓠 q ∷ w) (tops-join qs rs)

  tops-prod : (rs : List ℕ) → prod (tops rs) ≡ gammas 𝓠 rs
  tops-prod [] = refl
  tops-prod (r ∷ rs) = ap (λ w. gamma 𝓠 r ⋆ w) (tops-prod rs)

  tops-spans : (rs : List ℕ) → AllBelow (2 * n) rs → Spans (tops rs)
  tops-spans [] h = tt
  tops-spans (r ∷ rs) h = (basic r h.0, tops-spans rs h.1)

  module _ (f : N → 𝓝.N) (normal : f 𝟙 ≡ 𝓝.one) (h : Pairs f) where
    abbrev of_pairs : ℕ → ℕ → 𝓝.N
    of_pairs r c = f (gamma 𝓠 r ⋆ gamma 𝓠 c)

    first-is : (k : ℕ) (F : List ℕ → 𝓝.N) → ((qs : List ℕ) → AllBelow (2 * n) qs → length qs ≤ k → f (prod (tops qs)) ≡ F qs)
        → (r : ℕ) (seen rs : List ℕ) → AllBelow (2 * n) seen → AllBelow (2 * n) rs → length seen + length rs ≤ suc k
        → paired f (gamma 𝓠 r) (tops seen) (tops rs) ≡ first_row 𝓝 of_pairs F r seen rs
    unfolding paired
    first-is k F e r seen [] hs hr m = refl
    first-is k F e r seen (c ∷ cs) hs hr m =
        λ i. 𝓝.add
        (𝓝.mul (of_pairs r c)
        ((ap (λ w. f (prod w)) (sym (tops-join seen cs)) ∙ e (seen ++ cs) (all_append (λ r. r < 2 * n) seen cs hs hr.1) (omega (arith, length-append seen cs)))
        i))
        (𝓝.neg ((ap (λ w. paired f (gamma 𝓠 r) w (tops cs)) (sym (tops-join seen (c ∷ [])))
        ∙ first-is k F e r (seen ++ (c ∷ [])) cs (all_append (λ r. r < 2 * n) seen (c ∷ []) hs (hr.0, tt)) hr.1 (omega (arith, length-append seen (c ∷ []))))
        i))

    is-pfaffian : (k : ℕ) (rs : List ℕ) → AllBelow (2 * n) rs → length rs ≤ k → f (prod (tops rs)) ≡ pfaffian 𝓝 of_pairs k rs
    unfolding pfaffian Pairs
    is-pfaffian zero [] hr m = normal
    is-pfaffian zero (r ∷ rs) hr m = absurd (not-suc-le-zero m)
    is-pfaffian (suc k) [] hr m = normal
    is-pfaffian (suc k) (r ∷ rs) hr m =
        h (gamma 𝓠 r) (tops rs) (basic r hr.0) (tops-spans rs hr.1)
        ∙ first-is k (λ qs. pfaffian 𝓝 of_pairs k qs) (is-pfaffian k) r [] rs tt hr.1 (omega arith)

pub wick : {𝓝 : Ops} {below : 𝓝.N → Bool} (𝓔 : Exact 𝓝 below) {n : ℕ} {𝓐 : Ops} (𝓠 : Operators 𝓝 𝓔.i n 𝓐) → Wick 𝓠
wick 𝓔 𝓠 gs rs h =
    ap (after 𝓠 gs) (sym (tops-prod 𝓔 𝓠 rs))
    ∙ is-pfaffian 𝓔 𝓠 (after 𝓠 gs) (ap 𝓠.vac (pulled-one 𝓔 𝓠 gs) ∙ 𝓠.vac-one) (pulled-pairs 𝓔 𝓠 gs 𝓠.vac (vac-pairs 𝓔 𝓠)) (length rs) rs h (omega arith)

-- THE STATEMENT
pub wick-theorem : WickTheorem
wick-theorem 𝓝 below 𝓔 n 𝓐 𝓠 = wick 𝓔 𝓠
