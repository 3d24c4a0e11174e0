-- Marginals by the engine's own determinants and its own Pfaffian (specs/Marginals.antt says what is proved). Assumes nothing.
use mathlib.Core.Path.{◌≡◌, refl, sym, ap, subst, ◌∙◌}
use mathlib.Core.Logic.{◌≢◌}
use mathlib.Core.Bool.{Bool, true, false, cond, ◌&&◌, not, xor, false≢true}
use mathlib.Core.List.{List, [], ◌∷◌, ◌++◌}
use Prim.Native.Nat.{ℕ, zero, suc, ◌+◌, ◌*◌, ◌/◌, ◌%◌, ◌≤◌, ◌<◌}
use native.Mathlib.Omega.{arith}
use lib.Dec.{eqb, ltb}
use lib.ListN.{get_or, length}
use borrow.Author.Tests.{eqb-true, eqb-false, eq-eqb, ne_eqb}
use Rattle.std.proofs.lemmas.List.{length-append, append_assoc, append-nil}
use Rattle.laws.specs.Lists.{All}
use Rattle.rings.specs.Rings.{Ops, sg}
use Rattle.formulas.specs.Numbers.{Exact, Tests, Divides}
use Rattle.formulas.specs.Engine.{Mat, State, Item, vacuum, get}
use Rattle.formulas.specs.Determinants.{odd, own_odd}
use Rattle.angles.specs.Qubits.{z, Operators}
use Rattle.angles.specs.Angles.{Block, after, state_after}
use Rattle.formulas.specs.Pfaffians.{AllBelow, Apart, Distinct, Alternating, own_pfaffian, up}
use Rattle.angles.specs.Wick.{indices, parities}
use Rattle.queries.specs.Lists.{oddly, passing, noted_modes}
use Rattle.queries.specs.Marginals.{is_one}
use Rattle.queries.specs.Products.{index_of}
use Rattle.answers.specs.Products.{restricted}
use Rattle.answers.specs.Marginals.{half_spin_of, shifted, halved, asked_matrix, sign_of, marked_of, reads, all_read, OwnMarginals, MarginalTheorem}
use Rattle.rings.proofs.Rings.{neg-zero, mul-neg, sg-mul, mul-sg, sg-not, sg-swap}
use Rattle.rings.proofs.Solve.{var, nought, plus, times, minus, by-comm}
use Rattle.angles.proofs.Swaps.{P, textbook, named}
use Rattle.angles.proofs.Agree.{P-agree, enough}
use Rattle.angles.proofs.Products.{power, pfaffian-factor, all-indices, distinct-indices, length-indices, z-products}
use Rattle.angles.proofs.OwnPfaffian.{double, up-below, own-pfaffian}
use Rattle.angles.proofs.Runs.{every-angle, pulled-all}
use Rattle.angles.proofs.OwnOdd.{own-run}
use Rattle.angles.proofs.Vacuum.{vac-linear}
use Rattle.angles.proofs.Steps.{Linear, lin-neg, move}
use Rattle.angles.proofs.Lists.{distinct-without}
use Rattle.laws.proofs.Lists.{all_append}
use Rattle.answers.proofs.Products.{right-alternates, restricted-alternates, twice-length, size-length, indices-are}
use Rattle.answers.proofs.Shifts.{shifted-alternates, shift-one}

-- ---- lists

indices-join : (js ks : List ℕ) → indices (js ++ ks) ≡ indices js ++ indices ks
indices-join [] ks = refl
indices-join (j ∷ js) ks = ap (λ w. (2 * j) ∷ (2 * j + 1) ∷ w) (indices-join js ks)

-- the length of the indices of two lists
sizes : (js ks : List ℕ) → length (indices (js ++ ks)) ≡ length (indices js) + length (indices ks)
sizes js ks = ap length (indices-join js ks) ∙ length-append (indices js) (indices ks)

off-apart : (k : ℕ) (js : List ℕ) → Apart k js → All (λ r. r / 2 ≢ k) (indices js)
off-apart k [] a = tt
off-apart k (j ∷ js) a = ((λ e. a.0 (omega (arith, e))), ((λ e. a.0 (omega (arith, e))), off-apart k js a.1))

-- k stands in the middle of different ones
apart-before : (js : List ℕ) (k : ℕ) (ks : List ℕ) → Distinct (js ++ (k ∷ ks)) → Apart k js
apart-before [] k ks d = tt
apart-before (j ∷ js) k ks d = ((λ e. met j js d.0 (sym e)), apart-before js k ks d.1)
  where
    met : (j : ℕ) (js : List ℕ) → Apart j (js ++ (k ∷ ks)) → j ≢ k
    met j [] a = a.0
    met j (i ∷ js) a = met j js a.1

apart-after : (js : List ℕ) (k : ℕ) (ks : List ℕ) → Distinct (js ++ (k ∷ ks)) → Apart k ks
apart-after [] k ks d = d.0
apart-after (j ∷ js) k ks d = apart-after js k ks d.1

apart-at : (k : ℕ) (ks : List ℕ) → Apart k ks → (i : ℕ) → i < length ks → k ≢ get_or ks i 0
apart-at k [] a i l = absurd (omega (arith, l))
apart-at k (j ∷ ks) a zero l = a.0
apart-at k (j ∷ ks) a (suc i) l = apart-at k ks a.1 i (omega (arith, l))

distinct-at : (ks : List ℕ) → Distinct ks → (i j : ℕ) → i < length ks → j < length ks → get_or ks i 0 ≡ get_or ks j 0 → i ≡ j
distinct-at [] d i j l m e = absurd (omega (arith, l))
distinct-at (k ∷ ks) d zero zero l m e = refl
distinct-at (k ∷ ks) d zero (suc j) l m e = absurd (apart-at k ks d.0 j (omega (arith, m)) e)
distinct-at (k ∷ ks) d (suc i) zero l m e = absurd (apart-at k ks d.0 i (omega (arith, l)) (sym e))
distinct-at (k ∷ ks) d (suc i) (suc j) l m e = ap suc (distinct-at ks d.1 i j (omega (arith, l)) (omega (arith, m)) e)

-- ---- the modes that pass

pub passing-below : (p : ℕ → Bool) (n m : ℕ) → n ≤ m → AllBelow m (passing p n)
unfolding passing
passing-below p zero m h = tt
passing-below p (suc n) m h = by (p n) (passing-below p n m (omega (arith, h)))
  where
    by : (b : Bool) → AllBelow m (passing p n) → AllBelow m (cond b (passing p n ++ (n ∷ [])) (passing p n))
    by true a = all_append (λ r. r < m) (passing p n) (n ∷ []) a (omega (arith, h), tt)
    by false a = a

distinct-more : (n : ℕ) (ks : List ℕ) → AllBelow n ks → Distinct ks → Distinct (ks ++ (n ∷ []))
distinct-more n [] a d = (tt, tt)
distinct-more n (k ∷ ks) a d = (apart k ks a.0 d.0, distinct-more n ks a.1 d.1)
  where
    apart : (k : ℕ) (ks : List ℕ) → k < n → Apart k ks → Apart k (ks ++ (n ∷ []))
    apart k [] l a = ((λ e. omega (arith, e, l)), tt)
    apart k (j ∷ ks) l a = (a.0, apart k ks l a.1)

pub passing-distinct : (p : ℕ → Bool) (n : ℕ) → Distinct (passing p n)
unfolding passing
passing-distinct p zero = tt
passing-distinct p (suc n) = by (p n) (passing-distinct p n)
  where
    by : (b : Bool) → Distinct (passing p n) → Distinct (cond b (passing p n ++ (n ∷ [])) (passing p n))
    by true d = distinct-more n (passing p n) (passing-below p n n (omega arith)) d
    by false d = d

-- ---- the tests on indices of a list of different modes

module _ (l : List ℕ) (d : Distinct l) where
  next-is : (r c : ℕ) → r / 2 < length l → c / 2 < length l → eqb (r % 2) 0 && eqb c (r + 1) ≡ eqb (index_of l r % 2) 0 && eqb (index_of l c) (index_of l r + 1)
  next-is r c hr hc = by (eqb (r % 2) 0) refl (eqb c (r + 1)) refl
    where
      by : (a : Bool) → eqb (r % 2) 0 ≡ a → (b : Bool) → eqb c (r + 1) ≡ b → a && b ≡ eqb (index_of l r % 2) 0 && eqb (index_of l c) (index_of l r + 1)
      by false e b f = ap (λ x. x && eqb (index_of l c) (index_of l r + 1)) (sym (ne_eqb (index_of l r % 2) 0 (λ g. eqb-false (r % 2) 0 e (same g))))
        where
          same : index_of l r % 2 ≡ 0 → r % 2 ≡ 0
          same g = omega (arith, g)
      by true e true f = λ i.
          sym (eq-eqb (index_of l r % 2) 0 (even (eqb-true (r % 2) 0 e))) i && sym
          (eq-eqb (index_of l c) (index_of l r + 1) (beside (eqb-true (r % 2) 0 e) (eqb-true c (r + 1) f))) i
        where
          even : r % 2 ≡ 0 → index_of l r % 2 ≡ 0
          even g = omega (arith, g)

          half-same : r % 2 ≡ 0 → c ≡ r + 1 → c / 2 ≡ r / 2
          half-same g h = omega (arith, g, h)

          rest-one : r % 2 ≡ 0 → c ≡ r + 1 → c % 2 ≡ r % 2 + 1
          rest-one g h = omega (arith, g, h)

          sum : (x y : ℕ) → 2 * x + (y + 1) ≡ 2 * x + y + 1
          sum x y = omega arith

          beside : r % 2 ≡ 0 → c ≡ r + 1 → index_of l c ≡ index_of l r + 1
          beside g h = (λ i. 2 * get_or l (half-same g h i) 0 + rest-one g h i) ∙ sum (get_or l (r / 2) 0) (r % 2)
      by true e false f = λ i.
          sym (eq-eqb (index_of l r % 2) 0 (even (eqb-true (r % 2) 0 e))) i && sym
          (ne_eqb (index_of l c) (index_of l r + 1) (λ g. eqb-false c (r + 1) f (beside (eqb-true (r % 2) 0 e) g))) i
        where
          even : r % 2 ≡ 0 → index_of l r % 2 ≡ 0
          even g = omega (arith, g)

          modes : (x y : ℕ) → r % 2 ≡ 0 → 2 * x + c % 2 ≡ 2 * y + r % 2 + 1 → x ≡ y
          modes x y g h = omega (arith, g, h)

          rests : (x y : ℕ) → r % 2 ≡ 0 → 2 * x + c % 2 ≡ 2 * y + r % 2 + 1 → c % 2 ≡ 1
          rests x y g h = omega (arith, g, h)

          close : r % 2 ≡ 0 → c % 2 ≡ 1 → c / 2 ≡ r / 2 → c ≡ r + 1
          close g h k = omega (arith, g, h, k)

          beside : r % 2 ≡ 0 → index_of l c ≡ index_of l r + 1 → c ≡ r + 1
          beside g h =
              close g (rests (get_or l (c / 2) 0) (get_or l (r / 2) 0) g h)
              (distinct-at l d (c / 2) (r / 2) hc hr (modes (get_or l (c / 2) 0) (get_or l (r / 2) 0) g h))

  mode-is : (r : ℕ) → index_of l r / 2 ≡ get_or l (r / 2) 0
  mode-is r = by (get_or l (r / 2) 0)
    where
      by : (g : ℕ) → (2 * g + r % 2) / 2 ≡ g
      by g = omega arith

size-more : (js : List ℕ) (k : ℕ) → length (js ++ (k ∷ [])) ≡ suc (length js)
size-more [] k = refl
size-more (j ∷ js) k = ap suc (size-more js k)

module _ {𝓝 : Ops} {below : 𝓝.N → Bool} (𝓔 : Exact 𝓝 below) where
  open 𝓝 use {N, zero as 𝟘, one as 𝟙, add as ◌⊹◌, mul as ◌⋆◌, neg}

  infixl 65 ◌⊹◌
  infixl 70 ◌⋆◌
  abbrev h : N
  h = 𝓔.half

  -- ---- spins and signs of a list

  -- half of the spin of each listed mode, else nought
  abbrev pub spins : (ℕ → Bool) → List ℕ → ℕ → N
  spins b [] x = 𝟘
  spins b (k ∷ ks) x = cond (eqb x k) (sg 𝓝 (b k) h) (spins b ks x)

  spin-none : (b : ℕ → Bool) (k : ℕ) (ks : List ℕ) → Apart k ks → spins b ks k ≡ 𝟘
  spin-none b k [] a = refl
  spin-none b k (j ∷ ks) a = ap (λ t. cond t (sg 𝓝 (b j) h) (spins b ks k)) (ne_eqb k j a.0) ∙ spin-none b k ks a.1

  spin-at : (b : ℕ → Bool) (ks : List ℕ) (i : ℕ) → i < length ks → spins b ks (get_or ks i 0) ≡ sg 𝓝 (b (get_or ks i 0)) h
  spin-at b [] i l = absurd (omega (arith, l))
  spin-at b (k ∷ ks) zero l = ap (λ t. cond t (sg 𝓝 (b k) h) (spins b ks k)) (eq-eqb k k refl)
  spin-at b (k ∷ ks) (suc i) l = by (eqb (get_or ks i 0) k) refl (spin-at b ks i (omega (arith, l)))
    where
      by : (t : Bool) → eqb (get_or ks i 0) k ≡ t → spins b ks (get_or ks i 0) ≡ sg 𝓝 (b (get_or ks i 0)) h
          → cond t (sg 𝓝 (b k) h) (spins b ks (get_or ks i 0)) ≡ sg 𝓝 (b (get_or ks i 0)) h
      by true e ih = ap (λ x. sg 𝓝 (b x) h) (sym (eqb-true (get_or ks i 0) k e))
      by false e ih = ih

  abbrev pub signs : (ℕ → Bool) → List ℕ → N
  signs b [] = 𝟙
  signs b (k ∷ ks) = sg 𝓝 (b k) (signs b ks)

  signs-more : (b : ℕ → Bool) (ks : List ℕ) (k : ℕ) → signs b (ks ++ (k ∷ [])) ≡ sg 𝓝 (b k) (signs b ks)
  signs-more b [] k = refl
  signs-more b (j ∷ ks) k = ap (sg 𝓝 (b j)) (signs-more b ks k) ∙ sg-swap 𝓔.laws.ring (b j) (b k) (signs b ks)

  sign-is : (n : ℕ) (mark : ℕ → ℕ) → sign_of 𝓝 h n mark ≡ signs (λ k. is_one (mark k)) (noted_modes n mark)
  unfolding oddly passing
  sign-is zero mark = refl
  sign-is (suc n) mark = by (is_one (mark n)) refl (ltb 0 (mark n)) refl (sign-is n mark)
    where
      two : mark n ≡ 2 → ltb 0 (mark n) ≡ true
      two e = ap (λ m. ltb 0 m) e

      by : (t : Bool) → is_one (mark n) ≡ t → (u : Bool) → ltb 0 (mark n) ≡ u → sign_of 𝓝 h n mark ≡ signs (λ k. is_one (mark k)) (noted_modes n mark)
          → sg 𝓝 (cond t (not (oddly (λ k. is_one (mark k)) n)) (oddly (λ k. is_one (mark k)) n)) 𝟙
          ≡ signs (λ k. is_one (mark k)) (cond u (noted_modes n mark ++ (n ∷ [])) (noted_modes n mark))
      by true e true f ih =
          sg-not 𝓔.laws.ring (oddly (λ k. is_one (mark k)) n) 𝟙 ∙ ap neg ih ∙ ap (λ t. sg 𝓝 t (signs (λ k. is_one (mark k)) (noted_modes n mark))) (sym e)
          ∙ sym (signs-more (λ k. is_one (mark k)) (noted_modes n mark) n)
      by true e false f ih = absurd (false≢true (sym f ∙ two (eqb-true (mark n) 2 e)))
      by false e true f ih =
          ih ∙ ap (λ t. sg 𝓝 t (signs (λ k. is_one (mark k)) (noted_modes n mark))) (sym e) ∙ sym (signs-more (λ k. is_one (mark k)) (noted_modes n mark) n)
      by false e false f ih = ih

  not-shifted : (m : Mat 𝓝) (r c : ℕ) → shifted 𝓝 h (λ x. 𝟘) m r c ≡ m r c
  not-shifted m r c = by (eqb (r % 2) 0 && eqb c (r + 1)) (eqb (c % 2) 0 && eqb r (c + 1))
    where
      by : (s t : Bool) → cond s (m r c ⊹ 𝟘) (cond t (m r c ⊹ neg 𝟘) (m r c)) ≡ m r c
      by true t = 𝓔.laws.ring.add-zero (m r c)
      by false true = ap (λ x. m r c ⊹ x) (neg-zero 𝓔.laws.ring) ∙ 𝓔.laws.ring.add-zero (m r c)
      by false false = refl

  halved-alternates : (dim : ℕ) (m : Mat 𝓝) → Alternating 𝓝 dim m → Alternating 𝓝 dim (halved 𝓝 h m)
  unfolding xor
  halved-alternates dim m 𝓜 = record {
    turns = λ r c hr hc. ap (λ x. h ⋆ x) (𝓜.turns r c hr hc) ∙ mul-neg 𝓔.laws.ring h (m c r);
    nought-at = λ r hr. ap (λ x. h ⋆ x) (𝓜.nought-at r hr) ∙ by-comm 𝓔.laws (h ∷ []) (times (var 0) nought) nought refl;
  }

  -- the engine's matrix alternates
  pub asked-alternates : (n : ℕ) (e : Mat 𝓝) → Alternating 𝓝 (2 * n) e → (mark : ℕ → ℕ) (l : List ℕ) → AllBelow n l
      → Alternating 𝓝 (double (length l)) (asked_matrix 𝓝 h e mark l)
  asked-alternates n e 𝓜 mark l a =
      shifted-alternates 𝓔.laws h (double (length l)) (λ j. half_spin_of 𝓝 h (mark (get_or l j 0))) (halved 𝓝 h (restricted e l))
      (halved-alternates (double (length l)) (restricted e l) (restricted-alternates n e 𝓜 l a))

  spread : (t : Bool) (σ p q : N) → sg 𝓝 t σ ⋆ (p ⊹ sg 𝓝 t h ⋆ q) ≡ sg 𝓝 t (σ ⋆ p) ⊹ h ⋆ (σ ⋆ q)
  unfolding xor
  spread false σ p q =
      by-comm 𝓔.laws (σ ∷ p ∷ h ∷ q ∷ []) (times (var 0) (plus (var 1) (times (var 2) (var 3))))
      (plus (times (var 0) (var 1)) (times (var 2) (times (var 0) (var 3)))) refl
  spread true σ p q =
      by-comm 𝓔.laws (σ ∷ p ∷ h ∷ q ∷ []) (times (minus (var 0)) (plus (var 1) (times (minus (var 2)) (var 3))))
      (plus (minus (times (var 0) (var 1))) (times (var 2) (times (var 0) (var 3)))) refl

  gather : (t : Bool) (w a b : N) → sg 𝓝 t (h ⋆ w ⋆ a) ⊹ h ⋆ (w ⋆ b) ≡ w ⋆ (h ⋆ (b ⊹ sg 𝓝 t a))
  unfolding xor
  gather false w a b =
      by-comm 𝓔.laws (h ∷ w ∷ a ∷ b ∷ []) (plus (times (times (var 0) (var 1)) (var 2)) (times (var 0) (times (var 1) (var 3))))
      (times (var 1) (times (var 0) (plus (var 3) (var 2)))) refl
  gather true w a b =
      by-comm 𝓔.laws (h ∷ w ∷ a ∷ b ∷ []) (plus (minus (times (times (var 0) (var 1)) (var 2))) (times (var 0) (times (var 1) (var 3))))
      (times (var 1) (times (var 0) (plus (var 3) (minus (var 2))))) refl

  -- ---- after a list of blocks

  module _ {n : ℕ} {𝓐 : Ops} (𝓠 : Operators 𝓝 𝓔.i n 𝓐) (gs : List (Item (Block 𝓠))) where
    abbrev f : 𝓐.N → N
    f = after 𝓠 gs

    abbrev zz : List ℕ → 𝓐.N
    zz = parities 𝓠

    abbrev M : Mat 𝓝
    M = get 𝓝 (state_after 𝓔 𝓠 (odd 𝓝 below) gs)

    abbrev Q : Mat 𝓝 → ℕ → List ℕ → N
    Q = P 𝓝

    linear : Linear 𝓔 𝓠 f
    linear = pulled-all 𝓔 𝓠 gs 𝓠.vac (vac-linear 𝓔 𝓠)

    parities-more : (js : List ℕ) (k : ℕ) (a : 𝓐.N) → 𝓐.mul (zz (js ++ (k ∷ []))) a ≡ 𝓐.mul (zz js) (𝓐.mul (𝓠.pauli z k) a)
    parities-more [] k a = ap (λ x. 𝓐.mul x a) (𝓠.ring.mul-one (𝓠.pauli z k)) ∙ sym (𝓠.ring.one-mul (𝓐.mul (𝓠.pauli z k) a))
    parities-more (j ∷ js) k a =
        𝓠.ring.mul-assoc (𝓠.pauli z j) (zz (js ++ (k ∷ []))) a
        ∙ ap (𝓐.mul (𝓠.pauli z j)) (parities-more js k a)
        ∙ sym (𝓠.ring.mul-assoc (𝓠.pauli z j) (zz js) (𝓐.mul (𝓠.pauli z k) a))

    lin-sign : (t : Bool) (a : 𝓐.N) → f (sg 𝓐 t a) ≡ sg 𝓝 t (f a)
    lin-sign false a = refl
    lin-sign true a = lin-neg 𝓔 𝓠 f linear a

    -- one more mode reads its bit
    read-one : (t : Bool) (js : List ℕ) (k : ℕ) (a : 𝓐.N)
        → h ⋆ (f (𝓐.mul (zz js) a) ⊹ sg 𝓝 t (f (𝓐.mul (zz (js ++ (k ∷ []))) a))) ≡ f (𝓐.mul (zz js) (𝓐.mul (reads 𝓔 𝓠 t k) a))
    read-one t js k a =
        sym (ap f operators
        ∙ linear.nums h (𝓐.add (𝓐.mul (zz js) a) (sg 𝓐 t (𝓐.mul (zz (js ++ (k ∷ []))) a)))
        ∙ ap (λ x. h ⋆ x)
        (linear.adds (𝓐.mul (zz js) a) (sg 𝓐 t (𝓐.mul (zz (js ++ (k ∷ []))) a))
        ∙ ap (λ x. f (𝓐.mul (zz js) a) ⊹ x) (lin-sign t (𝓐.mul (zz (js ++ (k ∷ []))) a))))
      where
        operators : 𝓐.mul (zz js) (𝓐.mul (𝓐.mul (𝓠.num h) (𝓐.add 𝓐.one (sg 𝓐 t (𝓠.pauli z k)))) a)
            ≡ 𝓐.mul (𝓠.num h) (𝓐.add (𝓐.mul (zz js) a) (sg 𝓐 t (𝓐.mul (zz (js ++ (k ∷ []))) a)))
        operators =
            ap (𝓐.mul (zz js)) (𝓠.ring.mul-assoc (𝓠.num h) (𝓐.add 𝓐.one (sg 𝓐 t (𝓠.pauli z k))) a)
            ∙ move 𝓔 𝓠 h (zz js) (𝓐.mul (𝓐.add 𝓐.one (sg 𝓐 t (𝓠.pauli z k))) a)
            ∙ ap (𝓐.mul (𝓠.num h))
            (ap (𝓐.mul (zz js))
            (𝓠.ring.right 𝓐.one (sg 𝓐 t (𝓠.pauli z k)) a ∙ (λ i. 𝓐.add (𝓠.ring.one-mul a i) (sg-mul 𝓠.ring t (𝓠.pauli z k) a i)))
            ∙ 𝓠.ring.left (zz js) a (sg 𝓐 t (𝓐.mul (𝓠.pauli z k) a))
            ∙ ap (𝓐.add (𝓐.mul (zz js) a)) (mul-sg 𝓠.ring t (zz js) (𝓐.mul (𝓠.pauli z k) a) ∙ ap (sg 𝓐 t) (sym (parities-more js k a))))

    -- no mode reads
    none-read : (K : ℕ) (js : List ℕ) → AllBelow n js → Distinct js → length (indices js) < 2 * K
        → Q (shifted 𝓝 h (λ x. 𝟘) (halved 𝓝 h M)) K (indices js) ≡ power 𝓝 h (length js) ⋆ f (zz js)
    none-read K js a d l =
        (λ i. Q (λ r c. not-shifted (halved 𝓝 h M) r c i) K (indices js))
        ∙ enough 𝓔.laws (halved 𝓝 h M) (suc s) K (indices js) l
        ∙ ap (λ j. Q (halved 𝓝 h M) j (indices js)) both
        ∙ sym (enough 𝓔.laws (halved 𝓝 h M) K (suc s) (indices js) (omega arith))
        ∙ sym (textbook 𝓔.laws (halved 𝓝 h M) s (indices js))
        ∙ pfaffian-factor 𝓔.laws (2 * n) h (halved 𝓝 h M) M (λ r c hr hc x. refl) s (indices js) (all-indices n js a) (distinct-indices js d)
        ∙ (λ i. power 𝓝 h (length-indices js i) ⋆ z-products 𝓔 𝓠 gs js a d i)
      where
        s : ℕ
        s = length (indices js)

        both : suc (length (indices js)) + K ≡ K + suc (length (indices js))
        both = omega arith

    -- the first modes by their parities, the others by their bits
    module _ (b : ℕ → Bool) where
      pub all-read : (ks js : List ℕ) (K : ℕ) → AllBelow n js → AllBelow n ks → Distinct (js ++ ks) → length (indices (js ++ ks)) < 2 * K
          → signs b ks ⋆ Q (shifted 𝓝 h (spins b ks) (halved 𝓝 h M)) K (indices (js ++ ks)) ≡ power 𝓝 h (length js) ⋆ f (𝓐.mul (zz js) (all_read 𝓔 𝓠 b ks))
      unfolding power
      all-read [] js K a c d l =
          𝓔.laws.ring.one-mul (Q (shifted 𝓝 h (λ x. 𝟘) (halved 𝓝 h M)) K (indices (js ++ [])))
          ∙ ap (λ w. Q (shifted 𝓝 h (λ x. 𝟘) (halved 𝓝 h M)) K (indices w)) (append-nil js)
          ∙ none-read K js a (subst Distinct (append-nil js) d) (subst (λ w. length (indices w) < 2 * K) (append-nil js) l)
          ∙ ap (λ x. power 𝓝 h (length js) ⋆ f x) (sym (𝓠.ring.mul-one (zz js)))
      all-read (k ∷ ks) js zero a c d l = absurd (omega (arith, l))
      all-read (k ∷ ks) js (suc K) a c d l =
          ap (λ w. sg 𝓝 (b k) σ ⋆ Q m₁ (suc K) w) (indices-join js (k ∷ ks))
          ∙ ap (λ x. sg 𝓝 (b k) σ ⋆ x)
          (shift-one 𝓔.laws h (2 * n) (halved 𝓝 h M) alternates k (omega (arith, c.0)) (spins b ks) (spins b (k ∷ ks)) (sg 𝓝 (b k) h)
          (spin-none b k ks (apart-after js k ks d)) (ap (λ t. cond t (sg 𝓝 (b k) h) (spins b ks k)) (eq-eqb k k refl))
          (λ j e. ap (λ t. cond t (sg 𝓝 (b k) h) (spins b ks j)) (ne_eqb j k e))
          K (indices js) (indices ks) (all-indices n js a)
          (all_append (λ r. r / 2 ≢ k) (indices js) (indices ks) (off-apart k js (apart-before js k ks d)) (off-apart k ks (apart-after js k ks d))))
          ∙ spread (b k) σ (Q m₀ (suc K) (indices js ++ ((2 * k) ∷ (2 * k + 1) ∷ indices ks))) (Q m₀ K (indices js ++ indices ks))
          ∙ (λ i. sg 𝓝 (b k)
          (more (all-read ks (js ++ (k ∷ [])) (suc K) (all_append (λ r. r < n) js (k ∷ []) a (c.0, tt)) c.1
          (subst Distinct (sym (append_assoc js (k ∷ []) ks)) d)
          (subst (λ w. length (indices w) < 2 * suc K) (sym (append_assoc js (k ∷ []) ks)) l)) i)
          ⊹ h ⋆ same (all-read ks js K a c.1 (distinct-without k js ks d) (omega (arith, l, sizes js (k ∷ ks), sizes js ks))) i)
          ∙ gather (b k) (power 𝓝 h (length js)) (f (𝓐.mul (zz (js ++ (k ∷ []))) rest)) (f (𝓐.mul (zz js) rest))
          ∙ ap (λ x. power 𝓝 h (length js) ⋆ x) (read-one (b k) js k rest)
        where
          σ : N
          σ = signs b ks

          rest : 𝓐.N
          rest = all_read 𝓔 𝓠 b ks

          m₀ : Mat 𝓝
          m₀ = shifted 𝓝 h (spins b ks) (halved 𝓝 h M)

          m₁ : Mat 𝓝
          m₁ = shifted 𝓝 h (spins b (k ∷ ks)) (halved 𝓝 h M)

          alternates : Alternating 𝓝 (2 * n) (halved 𝓝 h M)
          alternates = halved-alternates (2 * n) M (right-alternates 𝓔 𝓠 gs (state_after 𝓔 𝓠 (odd 𝓝 below) gs) (every-angle 𝓔 𝓠 gs))

          more : σ ⋆ Q m₀ (suc K) (indices ((js ++ (k ∷ [])) ++ ks)) ≡ power 𝓝 h (length (js ++ (k ∷ []))) ⋆ f (𝓐.mul (zz (js ++ (k ∷ []))) rest)
              → σ ⋆ Q m₀ (suc K) (indices js ++ ((2 * k) ∷ (2 * k + 1) ∷ indices ks)) ≡ h ⋆ power 𝓝 h (length js) ⋆ f (𝓐.mul (zz (js ++ (k ∷ []))) rest)
          more ih =
              ap (λ w. σ ⋆ Q m₀ (suc K) w) (sym (indices-join js (k ∷ ks)) ∙ ap indices (sym (append_assoc js (k ∷ []) ks)))
              ∙ ih
              ∙ ap (λ j. power 𝓝 h j ⋆ f (𝓐.mul (zz (js ++ (k ∷ []))) rest)) (size-more js k)

          same : σ ⋆ Q m₀ K (indices (js ++ ks)) ≡ power 𝓝 h (length js) ⋆ f (𝓐.mul (zz js) rest)
              → σ ⋆ Q m₀ K (indices js ++ indices ks) ≡ power 𝓝 h (length js) ⋆ f (𝓐.mul (zz js) rest)
          same ih = ap (λ w. σ ⋆ Q m₀ K w) (sym (indices-join js ks)) ∙ ih

module _ {𝓝 : Ops} {𝓣 : Tests 𝓝} (𝓥 : Divides 𝓝 𝓣) {below : 𝓝.N → Bool} (𝓔 : Exact 𝓝 below) {n : ℕ} {𝓐 : Ops} (𝓠 : Operators 𝓝 𝓔.i n 𝓐) where
  open 𝓝 use {N, add as ◌⊹◌, mul as ◌⋆◌, neg}

  infixl 65 ◌⊹◌
  infixl 70 ◌⋆◌
  abbrev hf : N
  hf = 𝓔.half

  -- the engine's matrix is the shifted one of the whole covariance, by other names
  asked-is : (e : Mat 𝓝) (mark : ℕ → ℕ) (l : List ℕ) → Distinct l → (r c : ℕ) → r / 2 < length l → c / 2 < length l
      → asked_matrix 𝓝 hf e mark l r c ≡ shifted 𝓝 hf (spins 𝓔 (λ k. is_one (mark k)) l) (halved 𝓝 hf e) (index_of l r) (index_of l c)
  asked-is e mark l d r c hr hc =
      λ i. cond (next-is l d r c hr hc i) (hf ⋆ e (index_of l r) (index_of l c) ⊹ spin i)
      (cond (next-is l d c r hc hr i) (hf ⋆ e (index_of l r) (index_of l c) ⊹ neg (spin i)) (hf ⋆ e (index_of l r) (index_of l c)))
    where
      spin : half_spin_of 𝓝 hf (mark (get_or l (r / 2) 0)) ≡ spins 𝓔 (λ k. is_one (mark k)) l (index_of l r / 2)
      spin = sym (spin-at 𝓔 (λ k. is_one (mark k)) l (r / 2) hr) ∙ ap (spins 𝓔 (λ k. is_one (mark k)) l) (sym (mode-is l d r))

  -- of any covariance that alternates
  pfaffian-asked : (e : Mat 𝓝) → Alternating 𝓝 (2 * n) e → (mark : ℕ → ℕ) (l : List ℕ) → AllBelow n l → Distinct l
      → own_pfaffian 𝓝 𝓣 (2 * length l) (asked_matrix 𝓝 hf e mark l)
      ≡ P 𝓝 (shifted 𝓝 hf (spins 𝓔 (λ k. is_one (mark k)) l) (halved 𝓝 hf e)) (suc (length l)) (indices l)
  pfaffian-asked e 𝓜 mark l a d =
      ap (λ dim. own_pfaffian 𝓝 𝓣 dim (asked_matrix 𝓝 hf e mark l)) (twice-length l)
      ∙ own-pfaffian 𝓔.laws 𝓥 (length l) (length l) (asked_matrix 𝓝 hf e mark l) (asked-alternates 𝓔 n e 𝓜 mark l a) (omega arith)
      ∙ textbook 𝓔.laws (asked_matrix 𝓝 hf e mark l) (length l) (up 0 (double (length l)))
      ∙ P-agree 𝓔.laws (λ x. x < double (length l)) (asked_matrix 𝓝 hf e mark l) (λ r c. whole (index_of l r) (index_of l c))
      (λ r c hr hc. asked-is e mark l d r c (omega (arith, hr, twice-length l)) (omega (arith, hc, twice-length l)))
      (suc (length l)) (up 0 (double (length l))) (up-below (double (length l)) 0 (double (length l)) (omega arith))
      ∙ named 𝓔.laws (index_of l) whole (suc (length l)) (up 0 (double (length l)))
      ∙ ap (P 𝓝 whole (suc (length l))) (indices-are l)
    where
      whole : Mat 𝓝
      whole = shifted 𝓝 hf (spins 𝓔 (λ k. is_one (mark k)) l) (halved 𝓝 hf e)

  pub own-marginals : OwnMarginals 𝓔 𝓠 𝓣 (own_odd 𝓝 𝓣 below)
  unfolding marked_of power
  own-marginals gs mark =
      ap (λ t. marked_of 𝓝 hf 𝓣 (get 𝓝 t) n mark) (sym (own-run 𝓥 𝓔 𝓠 gs (vacuum 𝓝)))
      ∙ (λ i. sign-is 𝓔 n mark i ⋆ pfaffian-asked (get 𝓝 t) (right-alternates 𝓔 𝓠 gs t (every-angle 𝓔 𝓠 gs)) mark l few apart i)
      ∙ all-read 𝓔 𝓠 gs (λ k. is_one (mark k)) l [] (suc (length l)) tt few apart (omega (arith, size-length l, twice-length l))
      ∙ 𝓔.laws.ring.one-mul (after 𝓠 gs (𝓐.mul 𝓐.one (all_read 𝓔 𝓠 (λ k. is_one (mark k)) l)))
      ∙ ap (after 𝓠 gs) (𝓠.ring.one-mul (all_read 𝓔 𝓠 (λ k. is_one (mark k)) l))
    where
      t : State 𝓝
      t = state_after 𝓔 𝓠 (odd 𝓝 below) gs

      l : List ℕ
      l = noted_modes n mark

      few : AllBelow n (noted_modes n mark)
      few = passing-below (λ k. ltb 0 (mark k)) n n (omega arith)

      apart : Distinct (noted_modes n mark)
      apart = passing-distinct (λ k. ltb 0 (mark k)) n

pub marginal-theorem : MarginalTheorem
marginal-theorem 𝓝 𝓣 𝓥 below 𝓔 n 𝓐 𝓠 = own-marginals 𝓥 𝓔 𝓠
