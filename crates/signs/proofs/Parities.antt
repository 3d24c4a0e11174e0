-- Products of Z, as products of Majorana operators with -i for each pair; and that Majorana operators anticommute. Assumes nothing.
use mathlib.Core.Path.{◌≡◌, refl, sym, ap, ◌∙◌}
use mathlib.Core.Logic.{◌⊎◌, inl, inr, ◌≢◌}
use mathlib.Core.Bool.{Bool, true, false, xor, cond}
use mathlib.Core.List.{List, [], ◌∷◌}
use Prim.Native.Nat.{ℕ, suc, ◌+◌, ◌*◌, ◌/◌, ◌%◌, ◌≤◌, ◌<◌}
use native.Mathlib.Nat.{zero-add, add-zero}
use native.Mathlib.Omega.{arith}
use lib.Dec.{eqb}
use lib.ListN.{get_or, length}
use borrow.Author.Tests.{eq-eqb, ne_eqb}
use Rattle.laws.specs.Phase.{i0, i1, i2, i3, ◌⊕◌}
use Rattle.std.proofs.lemmas.Bool.{cases_lt, cases_eq, cond_both}
use Rattle.queries.specs.Products.{index_of}
use Rattle.signs.specs.Paulis.{Pauli, p_i, p_x, p_y, p_z, pr, ph, Str, times, signed, phases, mul, identity, flips}
use Rattle.signs.specs.Majoranas.{xy, major, gamma, paired, listed, zs}
use Rattle.signs.proofs.Tables.{pr-comm, quiet-ph}
use Rattle.signs.proofs.JordanWigner.{before, here, beyond, gamma-at}
use Rattle.signs.proofs.Expectations.{phases-none, phases-single}
use Rattle.signs.proofs.Pairs.{Anti}
use Rattle.signs.proofs.Products.{twice, prod, prod-cong, prod-shift, minus_i, first-pair}
use Rattle.signs.proofs.Pfaffians.{dbl}

-- ---- Majorana operators anticommute

-- two strings with no phase that anticommute at mode j and commute elsewhere
anti-at : (n : ℕ) (f g : ℕ → Pauli) (j : ℕ) (p q : Pauli) → j < n → f j ≡ p → g j ≡ q → ph p q ≡ i2 ⊕ ph q p
    → ((w : ℕ) → w ≢ j → (ph (f w) (g w) ≡ i0) × (ph (g w) (f w) ≡ i0)) → Anti n (record { phase = i0; at = f }) (record { phase = i0; at = g })
anti-at n f g j p q l a b e h =
    λ i. record {
      phase = (phases-single f g n j l (λ w m d. (h w d).0) ∙ (λ i. ph (a i) (b i)) ∙ e
          ∙ ap (λ k. i2 ⊕ k) (sym (phases-single g f n j l (λ w m d. (h w d).1) ∙ (λ i. ph (b i) (a i))))) i;
      at = λ w. pr-comm (f w) (g w) i;
    }

anti-sym : (n : ℕ) (x y : Str) → Anti n x y → Anti n y x
anti-sym n x y h = sym (twice (mul n y x)) ∙ ap (signed true) (sym h)

right-p_i : (p : Pauli) → ph p p_i ≡ i0
right-p_i p_i = refl
right-p_i p_x = refl
right-p_i p_y = refl
right-p_i p_z = refl

-- of two modes
anti-modes : (n j k : ℕ) (y z : Bool) → j < k → k < n → Anti n (major j y) (major k z)
anti-modes n j k y z l m =
    anti-at n (major j y).at (major k z).at j (xy y) p_z (omega arith) (here j y j refl) (before k z j l) (own y) (λ w d. by w d (cases_lt w j))
  where
    own : (y : Bool) → ph (xy y) p_z ≡ i2 ⊕ ph p_z (xy y)
    own false = refl
    own true = refl

    by : (w : ℕ) → w ≢ j → (w < j) ⊎ (j ≤ w) → (ph ((major j y).at w) ((major k z).at w) ≡ i0) × (ph ((major k z).at w) ((major j y).at w) ≡ i0)
    by w d (inl b) = ((λ i. ph (before j y w b i) (before k z w (omega arith) i)), (λ i. ph (before k z w (omega arith) i) (before j y w b i)))
    by w d (inr b) =
        let e : (major j y).at w ≡ p_i = beyond j y w (omega arith) in
        (ap (λ p. ph p ((major k z).at w)) e, ap (ph ((major k z).at w)) e ∙ right-p_i ((major k z).at w))

-- of one mode
anti-kinds : (n j : ℕ) → j < n → Anti n (major j false) (major j true)
anti-kinds n j l =
    anti-at n (major j false).at (major j true).at j p_x p_y l (here j false j refl) (here j true j refl) refl (λ w d. by w d (cases_lt w j))
  where
    by : (w : ℕ) → w ≢ j → (w < j) ⊎ (j ≤ w)
        → (ph ((major j false).at w) ((major j true).at w) ≡ i0) × (ph ((major j true).at w) ((major j false).at w) ≡ i0)
    by w d (inl b) = ((λ i. ph (before j false w b i) (before j true w b i)), (λ i. ph (before j true w b i) (before j false w b i)))
    by w d (inr b) = (
      (λ i. ph (beyond j false w (omega arith) i) (beyond j true w (omega arith) i)),
      (λ i. ph (beyond j true w (omega arith) i) (beyond j false w (omega arith) i)),
    )

pub gamma-anti : (n a b : ℕ) → a < 2 * n → b < 2 * n → a ≢ b → Anti n (gamma a) (gamma b)
gamma-anti n a b la lb d = by (cases_lt (a / 2) (b / 2)) (cases_lt (b / 2) (a / 2))
  where
    to : {x y : Str} → gamma a ≡ x → gamma b ≡ y → Anti n x y → Anti n (gamma a) (gamma b)
    to p q h = (λ i. mul n (p i) (q i)) ∙ h ∙ (λ i. signed true (mul n (sym q i) (sym p i)))

    kinds : a / 2 ≡ b / 2 → (a % 2 ≡ 1) ⊎ (a % 2 ≢ 1) → Anti n (gamma a) (gamma b)
    kinds e (inl c) =
        to (gamma-at a (b / 2) true (omega arith)) (gamma-at b (b / 2) false (omega arith))
        (anti-sym n (major (b / 2) false) (major (b / 2) true) (anti-kinds n (b / 2) (omega arith)))
    kinds e (inr c) = to (gamma-at a (b / 2) false (omega arith)) (gamma-at b (b / 2) true (omega arith)) (anti-kinds n (b / 2) (omega arith))

    by : (a / 2 < b / 2) ⊎ (b / 2 ≤ a / 2) → (b / 2 < a / 2) ⊎ (a / 2 ≤ b / 2) → Anti n (gamma a) (gamma b)
    by (inl l) _ = anti-modes n (a / 2) (b / 2) (eqb (a % 2) 1) (eqb (b % 2) 1) l (omega arith)
    by (inr _) (inl l) = anti-sym n (gamma b) (gamma a) (anti-modes n (b / 2) (a / 2) (eqb (b % 2) 1) (eqb (a % 2) 1) l (omega arith))
    by (inr l) (inr m) = kinds (omega arith) (cases_eq (a % 2) 1)

-- ---- products of Z

-- Z of a mode is -i times its two operators
pub z-paired : (n j : ℕ) → j < n → paired n (gamma (2 * j)) (gamma (2 * j + 1)) ≡ zs (j ∷ [])
unfolding xor
z-paired n j l =
    (λ i. paired n (gamma-at (2 * j) j false (omega arith) i) (gamma-at (2 * j + 1) j true refl i))
    ∙ (λ i. record { phase = i3 ⊕ phase i; at = λ w. at w (cases_lt w j) (cases_eq w j) i })
  where
    phase : phases n (major j false).at (major j true).at ≡ i1
    phase =
        phases-single (major j false).at (major j true).at n j l (λ w m d. off w d (cases_lt w j))
        ∙ (λ i. ph (here j false j refl i) (here j true j refl i))
      where
        off : (w : ℕ) → w ≢ j → (w < j) ⊎ (j ≤ w) → ph ((major j false).at w) ((major j true).at w) ≡ i0
        off w d (inl b) = λ i. ph (before j false w b i) (before j true w b i)
        off w d (inr b) = λ i. ph (beyond j false w (omega arith) i) (beyond j true w (omega arith) i)

    at : (w : ℕ) → (w < j) ⊎ (j ≤ w) → (w ≡ j) ⊎ (w ≢ j) → pr ((major j false).at w) ((major j true).at w) ≡ (zs (j ∷ [])).at w
    at w _ (inl e) = (λ i. pr (here j false w e i) (here j true w e i)) ∙ rw (eq-eqb w j e)
    at w (inl b) (inr d) = (λ i. pr (before j false w b i) (before j true w b i)) ∙ rw (ne_eqb w j d)
    at w (inr b) (inr d) = (λ i. pr (beyond j false w (omega arith) i) (beyond j true w (omega arith) i)) ∙ rw (ne_eqb w j d)

zs-quiet : (js : List ℕ) (w : ℕ) → flips ((zs js).at w) ≡ false
zs-quiet js w = cond_both (listed js w) _ _ (λ z. flips z ≡ false) (λ _. refl) (λ _. refl)

zs-cons : (n j : ℕ) (js : List ℕ) → mul n (zs (j ∷ [])) (zs js) ≡ zs (j ∷ js)
unfolding xor
zs-cons n j js =
    λ i. record {
      phase = phases-none (zs (j ∷ [])).at (zs js).at n (λ w l. quiet-ph ((zs (j ∷ [])).at w) ((zs js).at w) (zs-quiet (j ∷ []) w) (zs-quiet js w)) i;
      at = λ w. at (eqb w j) (listed js w) i;
    }
  where
    at : (a b : Bool) → pr (cond (xor a false) p_z p_i) (cond b p_z p_i) ≡ cond (xor a b) p_z p_i
    at false false = refl
    at false true = refl
    at true false = refl
    at true true = refl

pub zs-product : (n : ℕ) (js : List ℕ) → ((i : ℕ) → i < length js → get_or js i 0 < n)
    → times (minus_i (length js)) (prod n (λ i. gamma (index_of js i)) 0 (dbl (length js)) identity) ≡ zs js
unfolding prod
zs-product n [] below = refl
zs-product n (j ∷ js) below =
    first-pair n (length js) (g 0) (g 1) (prod n g 2 (dbl (length js)) identity)
    ∙ (λ i. mul n (first i) (times (minus_i (length js)) (rest i)))
    ∙ (λ i. mul n (zs (j ∷ [])) (zs-product n js (λ i l. below (suc i) (omega arith)) i))
    ∙ zs-cons n j js
  where
    g : ℕ → Str
    g i = gamma (index_of (j ∷ js) i)

    first : paired n (g 0) (g 1) ≡ zs (j ∷ [])
    first = ap (λ a. paired n (gamma a) (gamma (2 * j + 1))) (add-zero (2 * j)) ∙ z-paired n j (below 0 (omega arith))

    next : (i : ℕ) → g (i + 2) ≡ gamma (index_of js i)
    next i = λ t. gamma (2 * get_or (j ∷ js) (half t) 0 + odd t)
      where
        half : (i + 2) / 2 ≡ suc (i / 2)
        half = omega arith

        odd : (i + 2) % 2 ≡ i % 2
        odd = omega arith

    rest : prod n g 2 (dbl (length js)) identity ≡ prod n (λ i. gamma (index_of js i)) 0 (dbl (length js)) identity
    rest =
        ap (λ k. prod n g k (dbl (length js)) identity) (sym (zero-add 2))
        ∙ prod-shift n g 2 0 (dbl (length js)) identity
        ∙ prod-cong n (λ i. g (i + 2)) (λ i. gamma (index_of js i)) 0 (dbl (length js)) identity identity (λ i a b. next i) refl
