-- A solver: an equation between two terms of a ring holds if their difference, multiplied out, with the factors of each product put in order, vanishes
-- term by term. Which factors may change places, with which sign, and which are their own inverse, is told by rules. Assumes nothing.
use mathlib.Core.Path.{◌≡◌, refl, sym, ap, ◌∙◌}
use mathlib.Core.Bool.{Bool, true, false, cond, ◌&&◌, xor, not, false≢true}
use mathlib.Core.List.{List, [], ◌∷◌, ◌++◌}
use Prim.Native.Nat.{ℕ}
use lib.Dec.{eqb, ltb}
use lib.ListN.{get_or}
use borrow.Author.Tests.{eqb-true}
use Rattle.rings.specs.Rings.{Ops, IsRing, IsCommutative, sg}
use Rattle.rings.proofs.Rings.{zero-add, neg-add, zero-mul, mul-zero, neg-sum, neg-zero, same-of, sg-mul, mul-sg, sg-sg, sg-not}

pub and-left : (a b : Bool) → a && b ≡ true → a ≡ true
and-left true b e = refl
and-left false b e = e

pub and-right : (a b : Bool) → a && b ≡ true → b ≡ true
and-right true b e = e
and-right false b e = absurd (false≢true e)

-- ---- terms

pub data Exp : Type 0 where
  var : ℕ → Exp
  nought unit : Exp
  plus times : Exp → Exp → Exp
  minus : Exp → Exp

-- terms are numbers too: a formula over numbers is a formula of terms
abbrev pub exps : Ops
exps = record { N = Exp; zero = nought; one = unit; add = plus; mul = times; neg = minus }

-- a product of variables, with a sign
pub record Term : Type 0 where
  pub minus : Bool
  pub word : List ℕ

abbrev Poly : Type 0
Poly = List Term

abbrev flip : Term → Term
flip t = record { minus = not t.minus; word = t.word }

abbrev flips : Poly → Poly
flips [] = []
flips (t ∷ p) = flip t ∷ flips p

abbrev joined : Term → Term → Term
joined t u = record { minus = xor t.minus u.minus; word = t.word ++ u.word }

abbrev scaled : Term → Poly → Poly
scaled t [] = []
scaled t (u ∷ p) = joined t u ∷ scaled t p

abbrev product : Poly → Poly → Poly
product [] q = []
product (t ∷ p) q = scaled t q ++ product p q

abbrev expand : Exp → Poly
expand (var x) = record { minus = false; word = x ∷ [] } ∷ []
expand nought = []
expand unit = record { minus = false; word = [] } ∷ []
expand (plus e f) = expand e ++ expand f
expand (times e f) = product (expand e) (expand f)
expand (minus e) = flips (expand e)

-- ---- two terms that cancel

abbrev pub same : List ℕ → List ℕ → Bool
same [] [] = true
same [] (y ∷ w) = false
same (x ∷ u) [] = false
same (x ∷ u) (y ∷ w) = eqb x y && same u w

abbrev opposite : Term → Term → Bool
opposite t u = xor t.minus u.minus && same t.word u.word

abbrev settle : Term → Poly → Poly
settle t [] = t ∷ []
settle t (u ∷ p) = cond (opposite t u) p (u ∷ settle t p)

abbrev collect : Poly → Poly
collect [] = []
collect (t ∷ p) = settle t (collect p)

-- ---- the factors put in order

-- moves x y: x y may be y x, negated if both are `odd`; an `odd` factor is its own inverse
pub record Rules : Type 0 where
  pub moves : ℕ → ℕ → Bool
  pub odd : ℕ → Bool

module _ (𝓢 : Rules) where
  -- x in front of a word that is in order
  abbrev push : ℕ → List ℕ → Term
  push x [] = record { minus = false; word = x ∷ [] }
  push x (y ∷ w) =
      let t = push x w in
      cond (𝓢.moves x y) (record { minus = xor (𝓢.odd x && 𝓢.odd y) t.minus; word = y ∷ t.word })
      (cond (𝓢.odd x && eqb x y) (record { minus = false; word = w }) (record { minus = false; word = x ∷ y ∷ w }))

  abbrev ordered : List ℕ → Term
  ordered [] = record { minus = false; word = [] }
  ordered (x ∷ w) =
      let t = ordered w in
      let u = push x t.word in
      record { minus = xor t.minus u.minus; word = u.word }

  abbrev orders : Poly → Poly
  orders [] = []
  orders (t ∷ p) =
      let u = ordered t.word in
      record { minus = xor t.minus u.minus; word = u.word } ∷ orders p

  -- what is left of a term
  abbrev pub left-of : Exp → Poly
  left-of e = collect (orders (expand e))

-- ---- values, for values ρ of the variables

module _ (𝓡 : Ops) (ρ : ℕ → 𝓡.N) where
  abbrev pub value : Exp → 𝓡.N
  value (var x) = ρ x
  value nought = 𝓡.zero
  value unit = 𝓡.one
  value (plus e f) = 𝓡.add (value e) (value f)
  value (times e f) = 𝓡.mul (value e) (value f)
  value (minus e) = 𝓡.neg (value e)

  abbrev word_value : List ℕ → 𝓡.N
  word_value [] = 𝓡.one
  word_value (x ∷ w) = 𝓡.mul (ρ x) (word_value w)

  abbrev term_value : Term → 𝓡.N
  term_value t = sg 𝓡 t.minus (word_value t.word)

  abbrev poly_value : Poly → 𝓡.N
  poly_value [] = 𝓡.zero
  poly_value (t ∷ p) = 𝓡.add (term_value t) (poly_value p)

  -- the rules hold of these values
  pub record Obeys (𝓢 : Rules) : Type 0 where
    pub swap : (x y : ℕ) → 𝓢.moves x y ≡ true → 𝓡.mul (ρ x) (ρ y) ≡ sg 𝓡 (𝓢.odd x && 𝓢.odd y) (𝓡.mul (ρ y) (ρ x))
    pub square : (x : ℕ) → 𝓢.odd x ≡ true → 𝓡.mul (ρ x) (ρ x) ≡ 𝓡.one

-- ---- what keeps them

module _ {𝓡 : Ops} (𝓛 : IsRing 𝓡) (ρ : ℕ → 𝓡.N) where
  open 𝓡 use {N, zero as 𝟘, one as 𝟙, add as ◌⊹◌, mul as ◌⋆◌, neg}

  infixl 65 ◌⊹◌
  infixl 70 ◌⋆◌
  abbrev val : Exp → N
  val = value 𝓡 ρ

  abbrev wordly : List ℕ → N
  wordly = word_value 𝓡 ρ

  abbrev termly : Term → N
  termly = term_value 𝓡 ρ

  abbrev poly : Poly → N
  poly = poly_value 𝓡 ρ

  word-join : (u w : List ℕ) → wordly (u ++ w) ≡ wordly u ⋆ wordly w
  word-join [] w = sym (𝓛.one-mul (wordly w))
  word-join (x ∷ u) w = ap (λ z. ρ x ⋆ z) (word-join u w) ∙ sym (𝓛.mul-assoc (ρ x) (wordly u) (wordly w))

  term-join : (t u : Term) → termly (joined t u) ≡ termly t ⋆ termly u
  term-join t u =
      sym (sg-sg 𝓛 t.minus u.minus (wordly (t.word ++ u.word)))
      ∙ ap (λ z. sg 𝓡 t.minus (sg 𝓡 u.minus z)) (word-join t.word u.word)
      ∙ ap (sg 𝓡 t.minus) (sym (mul-sg 𝓛 u.minus (wordly t.word) (wordly u.word)))
      ∙ sym (sg-mul 𝓛 t.minus (wordly t.word) (termly u))

  poly-join : (p q : Poly) → poly (p ++ q) ≡ poly p ⊹ poly q
  poly-join [] q = sym (zero-add 𝓛 (poly q))
  poly-join (t ∷ p) q = ap (λ z. termly t ⊹ z) (poly-join p q) ∙ sym (𝓛.add-assoc (termly t) (poly p) (poly q))

  poly-scaled : (t : Term) (p : Poly) → poly (scaled t p) ≡ termly t ⋆ poly p
  poly-scaled t [] = sym (mul-zero 𝓛 (termly t))
  poly-scaled t (u ∷ p) = (λ i. term-join t u i ⊹ poly-scaled t p i) ∙ sym (𝓛.left (termly t) (termly u) (poly p))

  poly-product : (p q : Poly) → poly (product p q) ≡ poly p ⋆ poly q
  poly-product [] q = sym (zero-mul 𝓛 (poly q))
  poly-product (t ∷ p) q =
      poly-join (scaled t q) (product p q) ∙ (λ i. poly-scaled t q i ⊹ poly-product p q i) ∙ sym (𝓛.right (termly t) (poly p) (poly q))

  poly-flips : (p : Poly) → poly (flips p) ≡ neg (poly p)
  poly-flips [] = sym (neg-zero 𝓛)
  poly-flips (t ∷ p) = (λ i. sg-not 𝓛 t.minus (wordly t.word) i ⊹ poly-flips p i) ∙ sym (neg-sum 𝓛 (termly t) (poly p))

  expanded : (e : Exp) → poly (expand e) ≡ val e
  expanded (var x) = 𝓛.add-zero (ρ x ⋆ 𝟙) ∙ 𝓛.mul-one (ρ x)
  expanded nought = refl
  expanded unit = 𝓛.add-zero 𝟙
  expanded (plus e f) = poly-join (expand e) (expand f) ∙ (λ i. expanded e i ⊹ expanded f i)
  expanded (times e f) = poly-product (expand e) (expand f) ∙ (λ i. expanded e i ⋆ expanded f i)
  expanded (minus e) = poly-flips (expand e) ∙ ap neg (expanded e)

  -- ---- terms that cancel

  same-is : (u w : List ℕ) → same u w ≡ true → wordly u ≡ wordly w
  same-is [] [] e = refl
  same-is [] (y ∷ w) e = absurd (false≢true e)
  same-is (x ∷ u) [] e = absurd (false≢true e)
  same-is (x ∷ u) (y ∷ w) e =
      λ i. ρ (eqb-true x y (and-left (eqb x y) (same u w) e) i) ⋆ same-is u w (and-right (eqb x y) (same u w) e) i

  cancels : (a b : Bool) (x y : N) → xor a b ≡ true → x ≡ y → sg 𝓡 a x ⊹ sg 𝓡 b y ≡ 𝟘
  unfolding xor
  cancels false false x y e h = absurd (false≢true e)
  cancels false true x y e h = ap (λ z. x ⊹ neg z) (sym h) ∙ 𝓛.add-neg x
  cancels true false x y e h = ap (λ z. neg x ⊹ z) (sym h) ∙ neg-add 𝓛 x
  cancels true true x y e h = absurd (false≢true e)

  settled-is : (t : Term) (p : Poly) → poly (settle t p) ≡ termly t ⊹ poly p
  settled-is t [] = refl
  settled-is t (u ∷ p) = by (opposite t u) refl (settled-is t p)
    where
      by : (b : Bool) → opposite t u ≡ b → poly (settle t p) ≡ termly t ⊹ poly p
          → poly (cond b p (u ∷ settle t p)) ≡ termly t ⊹ (termly u ⊹ poly p)
      by true e ih =
          sym (zero-add 𝓛 (poly p))
          ∙ ap (λ z. z ⊹ poly p) (sym (cancels t.minus u.minus (wordly t.word) (wordly u.word)
          (and-left (xor t.minus u.minus) (same t.word u.word) e)
          (same-is t.word u.word (and-right (xor t.minus u.minus) (same t.word u.word) e))))
          ∙ 𝓛.add-assoc (termly t) (termly u) (poly p)
      by false e ih =
          ap (λ z. termly u ⊹ z) ih
          ∙ sym (𝓛.add-assoc (termly u) (termly t) (poly p))
          ∙ ap (λ z. z ⊹ poly p) (𝓛.add-comm (termly u) (termly t))
          ∙ 𝓛.add-assoc (termly t) (termly u) (poly p)

  collected : (p : Poly) → poly (collect p) ≡ poly p
  collected [] = refl
  collected (t ∷ p) = settled-is t (collect p) ∙ ap (λ z. termly t ⊹ z) (collected p)

  -- ---- factors in order, by rules that hold of the values

  module _ (𝓢 : Rules) (𝓞 : Obeys 𝓡 ρ 𝓢) where
    pushed : (x : ℕ) (w : List ℕ) → termly (push 𝓢 x w) ≡ ρ x ⋆ wordly w
    pushed x [] = refl
    pushed x (y ∷ w) = by (𝓢.moves x y) refl (𝓢.odd x && eqb x y) refl (pushed x w)
      where
        by : (b : Bool) → 𝓢.moves x y ≡ b → (c : Bool) → 𝓢.odd x && eqb x y ≡ c → termly (push 𝓢 x w) ≡ ρ x ⋆ wordly w
            → termly (cond b (record { minus = xor (𝓢.odd x && 𝓢.odd y) (push 𝓢 x w).minus; word = y ∷ (push 𝓢 x w).word })
            (cond c (record { minus = false; word = w }) (record { minus = false; word = x ∷ y ∷ w })))
            ≡ ρ x ⋆ (ρ y ⋆ wordly w)
        by true e c f ih =
            sym (sg-sg 𝓛 (𝓢.odd x && 𝓢.odd y) (push 𝓢 x w).minus (ρ y ⋆ wordly (push 𝓢 x w).word))
            ∙ ap (sg 𝓡 (𝓢.odd x && 𝓢.odd y))
            (sym (mul-sg 𝓛 (push 𝓢 x w).minus (ρ y) (wordly (push 𝓢 x w).word)) ∙ ap (λ z. ρ y ⋆ z) ih ∙ sym (𝓛.mul-assoc (ρ y) (ρ x) (wordly w)))
            ∙ sym (sg-mul 𝓛 (𝓢.odd x && 𝓢.odd y) (ρ y ⋆ ρ x) (wordly w))
            ∙ ap (λ z. z ⋆ wordly w) (sym (𝓞.swap x y e))
            ∙ 𝓛.mul-assoc (ρ x) (ρ y) (wordly w)
        by false e true f ih =
            sym (𝓛.one-mul (wordly w))
            ∙ ap (λ z. z ⋆ wordly w) (sym (𝓞.square x (and-left (𝓢.odd x) (eqb x y) f)) ∙ ap (λ z. ρ x ⋆ ρ z) (eqb-true x y (and-right (𝓢.odd x) (eqb x y) f)))
            ∙ 𝓛.mul-assoc (ρ x) (ρ y) (wordly w)
        by false e false f ih = refl

    ordered-is : (w : List ℕ) → termly (ordered 𝓢 w) ≡ wordly w
    ordered-is [] = refl
    ordered-is (x ∷ w) =
        sym (sg-sg 𝓛 (ordered 𝓢 w).minus (push 𝓢 x (ordered 𝓢 w).word).minus (wordly (push 𝓢 x (ordered 𝓢 w).word).word))
        ∙ ap (sg 𝓡 (ordered 𝓢 w).minus) (pushed x (ordered 𝓢 w).word)
        ∙ sym (mul-sg 𝓛 (ordered 𝓢 w).minus (ρ x) (wordly (ordered 𝓢 w).word))
        ∙ ap (λ z. ρ x ⋆ z) (ordered-is w)

    orders-are : (p : Poly) → poly (orders 𝓢 p) ≡ poly p
    orders-are [] = refl
    orders-are (t ∷ p) =
        λ i. (sym (sg-sg 𝓛 t.minus (ordered 𝓢 t.word).minus (wordly (ordered 𝓢 t.word).word))
        ∙ ap (sg 𝓡 t.minus) (ordered-is t.word)) i ⊹ orders-are p i

    -- THE SOLVER: nothing is left of e - f
    pub solve : (e f : Exp) → left-of 𝓢 (plus e (minus f)) ≡ [] → val e ≡ val f
    solve e f h =
        same-of 𝓛 (val e) (val f)
        (sym (expanded (plus e (minus f))) ∙ sym (orders-are (expand (plus e (minus f)))) ∙ sym (collected (orders 𝓢 (expand (plus e (minus f))))) ∙ ap poly h)

-- the values that a list has, and nought past its end
abbrev pub listed : (𝓡 : Ops) → List 𝓡.N → ℕ → 𝓡.N
listed 𝓡 l i = get_or l i 𝓡.zero

-- ---- the rules of any ring: no factors change places

abbrev pub free : Rules
free = record { moves = λ x y. false; odd = λ x. false }

module _ {𝓡 : Ops} (𝓛 : IsRing 𝓡) where
  pub obeys-free : (ρ : ℕ → 𝓡.N) → Obeys 𝓡 ρ free
  obeys-free ρ = record { swap = λ x y e. absurd (false≢true e); square = λ x e. absurd (false≢true e) }

  -- THE SOLVER of any ring, with the values of a list for the variables 0, 1, ..
  abbrev pub by-free : (l : List 𝓡.N) (e f : Exp) → left-of free (plus e (minus f)) ≡ [] → value 𝓡 (listed 𝓡 l) e ≡ value 𝓡 (listed 𝓡 l) f
  by-free l = solve 𝓛 (listed 𝓡 l) free (obeys-free (listed 𝓡 l))

-- ---- the rules of a commutative ring

abbrev pub commuting : Rules
commuting = record { moves = λ x y. ltb y x; odd = λ x. false }

module _ {𝓡 : Ops} (𝓒 : IsCommutative 𝓡) where
  pub obeys-comm : (ρ : ℕ → 𝓡.N) → Obeys 𝓡 ρ commuting
  obeys-comm ρ = record { swap = λ x y e. 𝓒.comm (ρ x) (ρ y); square = λ x e. absurd (false≢true e) }

  -- THE SOLVER of a commutative ring, with the values of a list for the variables 0, 1, ..
  abbrev pub by-comm : (l : List 𝓡.N) (e f : Exp) → left-of commuting (plus e (minus f)) ≡ [] → value 𝓡 (listed 𝓡 l) e ≡ value 𝓡 (listed 𝓡 l) f
  by-comm l = solve 𝓒.ring (listed 𝓡 l) commuting (obeys-comm (listed 𝓡 l))
