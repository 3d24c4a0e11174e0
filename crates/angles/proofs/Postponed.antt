-- Postponed signs are signs: an entry read with its signs is, after every list of maps, that of the engine which turns the later rows and columns at once.
-- In every ring with a test that tells -1 from 1, whatever `odd` is. Assumes nothing.
use mathlib.Core.Path.{◌≡◌, refl, sym, ap, ◌∙◌}
use mathlib.Core.Bool.{Bool, true, false, cond, ◌&&◌, xor}
use mathlib.Core.List.{List, [], ◌∷◌}
use Prim.Native.Nat.{ℕ, zero, suc, ◌+◌, ◌-◌, ◌<◌}
use native.Mathlib.Omega.{arith}
use Rattle.laws.specs.Lists.{in_order}
use Rattle.rings.specs.Rings.{Ops, IsRing, sg}
use Rattle.formulas.specs.Engine.{Mat, Local, State, Item, applied, interaction, inside, later, dot}
use Rattle.formulas.specs.Engine.{rows, cols, negated, unsettled, settled, calm, step, run, vacuum, get}
use Rattle.angles.specs.Postponed.{plain, plainly, PostponedTheorem}
use Rattle.rings.proofs.Rings.{mul-sg, sg-add, sg-zero, sg-swap, sg-sg}
use Rattle.angles.proofs.Indices.{inside-own}

module _ (𝓝 : Ops) (𝓛 : IsRing 𝓝) where
  -- ---- sums with a sign

  pub dot-same : (q : ℕ → 𝓝.N) (v w : ℕ → 𝓝.N) (k : ℕ) → ((j : ℕ) → j < k → v j ≡ w j) → dot 𝓝 q v k ≡ dot 𝓝 q w k
  unfolding dot
  dot-same q v w zero e = refl
  dot-same q v w (suc k) e = λ i. 𝓝.add (dot-same q v w k (λ j h. e j (omega arith)) i) (𝓝.mul (q k) (e k (omega arith) i))

  pub dot-sg : (b : Bool) (q v : ℕ → 𝓝.N) (k : ℕ) → dot 𝓝 q (λ j. sg 𝓝 b (v j)) k ≡ sg 𝓝 b (dot 𝓝 q v k)
  unfolding dot
  dot-sg b q v zero = sym (sg-zero 𝓛 b)
  dot-sg b q v (suc k) =
      (λ i. 𝓝.add (dot-sg b q v k i) (mul-sg 𝓛 b (q k) (v k) i)) ∙ sym (sg-add 𝓛 b (dot 𝓝 q v k) (𝓝.mul (q k) (v k)))

  -- ---- a matrix with signs at the rows and columns outside of a map, under the map

  module _ (o : Local 𝓝) (D : ℕ → Bool) where
    -- the signs that are left when those of the map's own indices are taken over
    abbrev pub rest : ℕ → Bool
    rest i = cond (inside o i) false (D i)

    rest-own : (j : ℕ) → j < o.width → rest (o.start + j) ≡ false
    rest-own j h = ap (λ b. cond b false (D (o.start + j))) (inside-own o j h)

    module _ (f g : Mat 𝓝) (e : (r c : ℕ) → f r c ≡ negated 𝓝 rest g r c) where
      rows-rest : (r c : ℕ) → rows 𝓝 o f r c ≡ negated 𝓝 rest (rows 𝓝 o g) r c
      rows-rest r c = by (inside o r) refl
        where
          by : (b : Bool) → inside o r ≡ b
              → cond b (dot 𝓝 (o.map (r - o.start)) (λ j. f (o.start + j) c) o.width) (f r c)
              ≡ sg 𝓝 (cond b false (D r)) (sg 𝓝 (rest c) (cond b (dot 𝓝 (o.map (r - o.start)) (λ j. g (o.start + j) c) o.width) (g r c)))
          by true t =
              dot-same (o.map (r - o.start)) (λ j. f (o.start + j) c) (λ j. sg 𝓝 (rest c) (g (o.start + j) c)) o.width
              (λ j h. e (o.start + j) c ∙ ap (λ s. sg 𝓝 s (sg 𝓝 (rest c) (g (o.start + j) c))) (rest-own j h))
              ∙ dot-sg (rest c) (o.map (r - o.start)) (λ j. g (o.start + j) c) o.width
          by false t = e r c ∙ ap (λ s. sg 𝓝 (cond s false (D r)) (sg 𝓝 (rest c) (g r c))) t

      cols-rest : (r c : ℕ) → cols 𝓝 o f r c ≡ negated 𝓝 rest (cols 𝓝 o g) r c
      cols-rest r c = by (inside o c) refl
        where
          by : (b : Bool) → inside o c ≡ b
              → cond b (dot 𝓝 (o.map (c - o.start)) (λ j. f r (o.start + j)) o.width) (f r c)
              ≡ sg 𝓝 (rest r) (sg 𝓝 (cond b false (D c)) (cond b (dot 𝓝 (o.map (c - o.start)) (λ j. g r (o.start + j)) o.width) (g r c)))
          by true t =
              dot-same (o.map (c - o.start)) (λ j. f r (o.start + j)) (λ j. sg 𝓝 (rest r) (g r (o.start + j))) o.width
              (λ j h. e r (o.start + j) ∙ ap (λ s. sg 𝓝 (rest r) (sg 𝓝 s (g r (o.start + j)))) (rest-own j h))
              ∙ dot-sg (rest r) (o.map (c - o.start)) (λ j. g r (o.start + j)) o.width
          by false t = e r c ∙ ap (λ s. sg 𝓝 (rest r) (sg 𝓝 (cond s false (D c)) (g r c))) t

  -- ---- a state whose signs are 1 or -1

  module _ (below : 𝓝.N → Bool) (not-below : below 𝓝.one ≡ false) (is-below : below (𝓝.neg 𝓝.one) ≡ true) where
    abbrev pub Signed : State 𝓝 → (ℕ → Bool) → Type 0
    Signed t D = (i : ℕ) → t.d i ≡ sg 𝓝 (D i) 𝓝.one

    below-sign : (b : Bool) → below (sg 𝓝 b 𝓝.one) ≡ b
    below-sign false = not-below
    below-sign true = is-below

    times-sign : (b : Bool) (x : 𝓝.N) → 𝓝.mul x (sg 𝓝 b 𝓝.one) ≡ sg 𝓝 b x
    times-sign b x = mul-sg 𝓛 b x 𝓝.one ∙ ap (sg 𝓝 b) (𝓛.mul-one x)

    get-is : (t : State 𝓝) (D : ℕ → Bool) → Signed t D → (r c : ℕ) → get 𝓝 t r c ≡ negated 𝓝 D t.m r c
    get-is t D h r c =
        (λ i. 𝓝.mul (𝓝.mul (t.m r c) (h r i)) (h c i))
        ∙ times-sign (D c) (𝓝.mul (t.m r c) (sg 𝓝 (D r) 𝓝.one))
        ∙ ap (sg 𝓝 (D c)) (times-sign (D r) (t.m r c))
        ∙ sg-swap 𝓛 (D c) (D r) (t.m r c)

    module _ (odd : Local 𝓝 → Bool) (o : Local 𝓝) (t : State 𝓝) (D : ℕ → Bool) (h : Signed t D) where
      abbrev turn : ℕ → Bool
      turn i = odd o && later o i

      abbrev pub turned : ℕ → Bool
      turned i = xor (turn i) (rest o D i)

      -- a sign is partly taken over, partly left
      parted : (i : ℕ) (x : 𝓝.N) → sg 𝓝 (D i) x ≡ sg 𝓝 (rest o D i) (sg 𝓝 (unsettled 𝓝 below o t.d i) x)
      parted i x =
          by (inside o i) ∙ ap (λ b. sg 𝓝 (rest o D i) (sg 𝓝 (inside o i && b) x)) (sym (ap below (h i) ∙ below-sign (D i)))
        where
          by : (b : Bool) → sg 𝓝 (D i) x ≡ sg 𝓝 (cond b false (D i)) (sg 𝓝 (b && D i) x)
          by true = refl
          by false = refl

      entry-parted : (r c : ℕ) → get 𝓝 t r c ≡ negated 𝓝 (rest o D) (settled 𝓝 below o t) r c
      entry-parted r c =
          get-is t D h r c
          ∙ parted r (sg 𝓝 (D c) (t.m r c))
          ∙ ap (λ y. sg 𝓝 (rest o D r) (sg 𝓝 (unsettled 𝓝 below o t.d r) y)) (parted c (t.m r c))
          ∙ ap (sg 𝓝 (rest o D r)) (sg-swap 𝓛 (unsettled 𝓝 below o t.d r) (rest o D c) (sg 𝓝 (unsettled 𝓝 below o t.d c) (t.m r c)))

      calm-is : (i : ℕ) → calm 𝓝 below o t.d i ≡ sg 𝓝 (rest o D i) 𝓝.one
      calm-is i =
          (λ z. cond (inside o i && (ap below (h i) ∙ below-sign (D i)) z) 𝓝.one (h i z)) ∙ by (inside o i) (D i)
        where
          by : (b d : Bool) → cond (b && d) 𝓝.one (sg 𝓝 d 𝓝.one) ≡ sg 𝓝 (cond b false d) 𝓝.one
          by true true = refl
          by true false = refl
          by false d = refl

      pub step-signed : Signed (step 𝓝 below odd o t) turned
      step-signed i = (λ z. cond (turn i) (𝓝.neg (calm-is i z)) (calm-is i z)) ∙ by (turn i) ∙ sg-sg 𝓛 (turn i) (rest o D i) 𝓝.one
        where
          by : (b : Bool) → cond b (𝓝.neg (sg 𝓝 (rest o D i) 𝓝.one)) (sg 𝓝 (rest o D i) 𝓝.one) ≡ sg 𝓝 b (sg 𝓝 (rest o D i) 𝓝.one)
          by true = refl
          by false = refl

      pub step-entry : (r c : ℕ) → get 𝓝 (step 𝓝 below odd o t) r c ≡ plain 𝓝 odd o (get 𝓝 t) r c
      step-entry r c =
          get-is (step 𝓝 below odd o t) turned step-signed r c
          ∙ sym (sg-sg 𝓛 (turn r) (rest o D r) (sg 𝓝 (turned c) y))
          ∙ ap (λ w. sg 𝓝 (turn r) (sg 𝓝 (rest o D r) w)) (sym (sg-sg 𝓛 (turn c) (rest o D c) y))
          ∙ ap (sg 𝓝 (turn r)) (sg-swap 𝓛 (rest o D r) (turn c) (sg 𝓝 (rest o D c) y))
          ∙ ap (λ w. sg 𝓝 (turn r) (sg 𝓝 (turn c) w))
          (sym (cols-rest o D (rows 𝓝 o (get 𝓝 t)) (rows 𝓝 o (settled 𝓝 below o t)) (rows-rest o D (get 𝓝 t) (settled 𝓝 below o t) entry-parted) r c))
        where
          y : 𝓝.N
          y = cols 𝓝 o (rows 𝓝 o (settled 𝓝 below o t)) r c

    each-list : (odd : Local 𝓝 → Bool) (os : List (Item (Local 𝓝))) (t : State 𝓝) (D : ℕ → Bool) → Signed t D
        → get 𝓝 (run 𝓝 below odd os t) ≡ plainly 𝓝 odd os (get 𝓝 t)
    unfolding in_order
    each-list odd [] t D h = refl
    each-list odd (applied o ∷ os) t D h =
        each-list odd os (step 𝓝 below odd o t) (turned odd o t D h) (step-signed odd o t D h)
        ∙ ap (plainly 𝓝 odd os) (λ i r c. step-entry odd o t D h r c i)
    each-list odd (interaction ∷ os) t D h = each-list odd os t D h

-- THE STATEMENT
pub postponed : PostponedTheorem
postponed 𝓝 𝓛 below not-below is-below odd os = each-list 𝓝 𝓛 below not-below is-below odd os (vacuum 𝓝) (λ i. false) (λ i. refl)
