-- Numbers among others, as real numbers among pairs: sums and products stay, and so do the engine's runs, determinants and Pfaffians. Assumes nothing.
use mathlib.Core.Path.{◌≡◌, refl, sym, ap, ◌∙◌}
use mathlib.Core.Bool.{Bool, true, false, cond, ◌&&◌}
use mathlib.Core.List.{List, [], ◌∷◌, ◌++◌, map}
use Prim.Native.Nat.{ℕ, zero, suc, ◌+◌, ◌-◌, ◌%◌}
use lib.Dec.{eqb}
use Rattle.laws.specs.Lists.{in_order}
use Rattle.rings.specs.Rings.{Ops, sg}
use Rattle.formulas.specs.Engine.{Mat, Local, State, Item, applied, interaction, each, inside, later, dot, rows, cols, unsettled, settled, calm, step}
use Rattle.formulas.specs.Engine.{run, vacuum, get}
use Rattle.formulas.specs.Determinants.{sum, without, det}
use Rattle.formulas.specs.Pfaffians.{first_row, by_first, pfaffian}

pub record Embeds (𝓡 𝓝 : Ops) (h : 𝓡.N → 𝓝.N) : Type 0 where
  pub zero-to : h 𝓡.zero ≡ 𝓝.zero
  pub one-to : h 𝓡.one ≡ 𝓝.one
  pub add-to : (s t : 𝓡.N) → h (𝓡.add s t) ≡ 𝓝.add (h s) (h t)
  pub mul-to : (s t : 𝓡.N) → h (𝓡.mul s t) ≡ 𝓝.mul (h s) (h t)
  pub neg-to : (s : 𝓡.N) → h (𝓡.neg s) ≡ 𝓝.neg (h s)

module _ {𝓡 𝓝 : Ops} (h : 𝓡.N → 𝓝.N) (𝓗 : Embeds 𝓡 𝓝 h) where
  -- of a matrix, a map and a state
  abbrev lift : Mat 𝓡 → Mat 𝓝
  lift m r c = h (m r c)

  abbrev pub lift_map : Local 𝓡 → Local 𝓝
  lift_map o = record { start = o.start; width = o.width; map = lift o.map }

  abbrev lift_state : State 𝓡 → State 𝓝
  lift_state t = record { m = lift t.m; d = λ i. h (t.d i) }

  -- ---- sums

  pub cond-to : (b : Bool) (s t : 𝓡.N) → h (cond b s t) ≡ cond b (h s) (h t)
  cond-to true s t = refl
  cond-to false s t = refl

  pub sg-to : (b : Bool) (s : 𝓡.N) → h (sg 𝓡 b s) ≡ sg 𝓝 b (h s)
  sg-to true s = 𝓗.neg-to s
  sg-to false s = refl

  dot-to : (q v : ℕ → 𝓡.N) (k : ℕ) → h (dot 𝓡 q v k) ≡ dot 𝓝 (λ j. h (q j)) (λ j. h (v j)) k
  unfolding dot
  dot-to q v zero = 𝓗.zero-to
  dot-to q v (suc k) = 𝓗.add-to (dot 𝓡 q v k) (𝓡.mul (q k) (v k)) ∙ (λ i. 𝓝.add (dot-to q v k i) (𝓗.mul-to (q k) (v k) i))

  sum-to : (k : ℕ) (f : ℕ → 𝓡.N) → h (sum 𝓡 k f) ≡ sum 𝓝 k (λ j. h (f j))
  sum-to zero f = 𝓗.zero-to
  sum-to (suc k) f = 𝓗.add-to (sum 𝓡 k f) (f k) ∙ (λ i. 𝓝.add (sum-to k f i) (h (f k)))

  -- ---- determinants and Pfaffians

  pub det-to : (k : ℕ) (q : Mat 𝓡) → h (det 𝓡 k q) ≡ det 𝓝 k (lift q)
  det-to zero q = 𝓗.one-to
  det-to (suc k) q =
      sum-to (suc k) (λ j. sg 𝓡 (eqb (j % 2) 1) (𝓡.mul (q 0 j) (det 𝓡 k (without 𝓡 j q))))
      ∙ (λ i. sum 𝓝 (suc k) (λ j. (sg-to (eqb (j % 2) 1) (𝓡.mul (q 0 j) (det 𝓡 k (without 𝓡 j q)))
      ∙ ap (sg 𝓝 (eqb (j % 2) 1)) (𝓗.mul-to (q 0 j) (det 𝓡 k (without 𝓡 j q)) ∙ ap (𝓝.mul (h (q 0 j))) (det-to k (without 𝓡 j q)))) i))

  first-row-to : (m : Mat 𝓡) (F : List ℕ → 𝓡.N) (G : List ℕ → 𝓝.N) → ((qs : List ℕ) → h (F qs) ≡ G qs) → (r : ℕ) (seen xs : List ℕ)
      → h (first_row 𝓡 m F r seen xs) ≡ first_row 𝓝 (lift m) G r seen xs
  first-row-to m F G e r seen [] = 𝓗.zero-to
  first-row-to m F G e r seen (x ∷ xs) =
      𝓗.add-to (𝓡.mul (m r x) (F (seen ++ xs))) (𝓡.neg (first_row 𝓡 m F r (seen ++ (x ∷ [])) xs))
      ∙ (λ i. 𝓝.add (𝓗.mul-to (m r x) (F (seen ++ xs)) i) (𝓗.neg-to (first_row 𝓡 m F r (seen ++ (x ∷ [])) xs) i))
      ∙ (λ i. 𝓝.add (𝓝.mul (h (m r x)) (e (seen ++ xs) i)) (𝓝.neg (first-row-to m F G e r (seen ++ (x ∷ [])) xs i)))

  by-first-to : (m : Mat 𝓡) (F : List ℕ → 𝓡.N) (G : List ℕ → 𝓝.N) → ((qs : List ℕ) → h (F qs) ≡ G qs) → (rs : List ℕ)
      → h (by_first 𝓡 m F rs) ≡ by_first 𝓝 (lift m) G rs
  by-first-to m F G e [] = 𝓗.one-to
  by-first-to m F G e (r ∷ rs) = first-row-to m F G e r [] rs

  pub pfaffian-to : (m : Mat 𝓡) (k : ℕ) (rs : List ℕ) → h (pfaffian 𝓡 m k rs) ≡ pfaffian 𝓝 (lift m) k rs
  unfolding pfaffian
  pfaffian-to m zero rs = by-first-to m (λ qs. 𝓡.zero) (λ qs. 𝓝.zero) (λ qs. 𝓗.zero-to) rs
  pfaffian-to m (suc k) rs = by-first-to m (λ qs. pfaffian 𝓡 m k qs) (λ qs. pfaffian 𝓝 (lift m) k qs) (pfaffian-to m k) rs

  -- ---- a map applied

  rows-to : (o : Local 𝓡) (m : Mat 𝓡) → lift (rows 𝓡 o m) ≡ rows 𝓝 (lift_map o) (lift m)
  rows-to o m = λ i r c.
      (cond-to (inside o r) (dot 𝓡 (o.map (r - o.start)) (λ j. m (o.start + j) c) o.width) (m r c)
      ∙ ap (λ s. cond (inside o r) s (h (m r c))) (dot-to (o.map (r - o.start)) (λ j. m (o.start + j) c) o.width)) i

  cols-to : (o : Local 𝓡) (m : Mat 𝓡) → lift (cols 𝓡 o m) ≡ cols 𝓝 (lift_map o) (lift m)
  cols-to o m = λ i r c.
      (cond-to (inside o c) (dot 𝓡 (o.map (c - o.start)) (λ j. m r (o.start + j)) o.width) (m r c)
      ∙ ap (λ s. cond (inside o c) s (h (m r c))) (dot-to (o.map (c - o.start)) (λ j. m r (o.start + j)) o.width)) i

  module _ (below : 𝓡.N → Bool) (below' : 𝓝.N → Bool) (same-below : (s : 𝓡.N) → below' (h s) ≡ below s)
      (odd : Local 𝓡 → Bool) (odd' : Local 𝓝 → Bool) (same-odd : (o : Local 𝓡) → odd' (lift_map o) ≡ odd o) where
    settled-to : (o : Local 𝓡) (t : State 𝓡) → lift (settled 𝓡 below o t) ≡ settled 𝓝 below' (lift_map o) (lift_state t)
    settled-to o t = λ i r c.
        (sg-to (unsettled 𝓡 below o t.d r) (sg 𝓡 (unsettled 𝓡 below o t.d c) (t.m r c))
        ∙ ap (sg 𝓝 (unsettled 𝓡 below o t.d r)) (sg-to (unsettled 𝓡 below o t.d c) (t.m r c))
        ∙ (λ j. sg 𝓝 (inside o r && sym (same-below (t.d r)) j) (sg 𝓝 (inside o c && sym (same-below (t.d c)) j) (h (t.m r c))))) i

    calm-to : (o : Local 𝓡) (d : ℕ → 𝓡.N) (k : ℕ) → h (calm 𝓡 below o d k) ≡ calm 𝓝 below' (lift_map o) (λ j. h (d j)) k
    calm-to o d k =
        cond-to (unsettled 𝓡 below o d k) 𝓡.one (d k) ∙ (λ j. cond (inside o k && sym (same-below (d k)) j) (𝓗.one-to j) (h (d k)))

    step-to : (o : Local 𝓡) (t : State 𝓡) → lift_state (step 𝓡 below odd o t) ≡ step 𝓝 below' odd' (lift_map o) (lift_state t)
    step-to o t = λ i. record {
      m = (cols-to o (rows 𝓡 o (settled 𝓡 below o t))
          ∙ ap (cols 𝓝 (lift_map o)) (rows-to o (settled 𝓡 below o t) ∙ ap (rows 𝓝 (lift_map o)) (settled-to o t))) i;
      d = λ k.
          (cond-to (odd o && later o k) (𝓡.neg (calm 𝓡 below o t.d k)) (calm 𝓡 below o t.d k)
          ∙ (λ j. cond (sym (same-odd o) j && later o k) ((𝓗.neg-to (calm 𝓡 below o t.d k) ∙ ap 𝓝.neg (calm-to o t.d k)) j) (calm-to o t.d k j))) i;
    }

    pub run-to : (os : List (Item (Local 𝓡))) (t : State 𝓡)
        → lift_state (run 𝓡 below odd os t) ≡ run 𝓝 below' odd' (map (each lift_map) os) (lift_state t)
    unfolding in_order
    run-to [] t = refl
    run-to (interaction ∷ os) t = run-to os t
    run-to (applied o ∷ os) t = run-to os (step 𝓡 below odd o t) ∙ ap (run 𝓝 below' odd' (map (each lift_map) os)) (step-to o t)

  pub vacuum-to : lift_state (vacuum 𝓡) ≡ vacuum 𝓝
  vacuum-to = λ i. record {
    m = λ r c.
        (cond-to (eqb (r % 2) 0 && eqb c (r + 1)) 𝓡.one (cond (eqb (c % 2) 0 && eqb r (c + 1)) (𝓡.neg 𝓡.one) 𝓡.zero)
        ∙ ap (cond (eqb (r % 2) 0 && eqb c (r + 1)) (h 𝓡.one)) (cond-to (eqb (c % 2) 0 && eqb r (c + 1)) (𝓡.neg 𝓡.one) 𝓡.zero)
        ∙ (λ j. cond (eqb (r % 2) 0 && eqb c (r + 1)) (𝓗.one-to j)
        (cond (eqb (c % 2) 0 && eqb r (c + 1)) ((𝓗.neg-to 𝓡.one ∙ ap 𝓝.neg 𝓗.one-to) j) (𝓗.zero-to j)))) i;
    d = λ k. 𝓗.one-to i;
  }

  pub get-to : (t : State 𝓡) (r c : ℕ) → h (get 𝓡 t r c) ≡ get 𝓝 (lift_state t) r c
  get-to t r c = 𝓗.mul-to (𝓡.mul (t.m r c) (t.d r)) (t.d c) ∙ ap (λ s. 𝓝.mul s (h (t.d c))) (𝓗.mul-to (t.m r c) (t.d r))
