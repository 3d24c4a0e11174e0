-- The engine's Pfaffian, in floats, of the values of -i x y for operators that turn one mode each and anticommute: it is the value of their product,
-- with -i for each pair. Such a matrix is a signed matching: a row has one entry at most, so the elimination has nothing to do, and an exchange of
-- rows turns the sign as an exchange of factors does. Up to the signs of zeros. Assumes nothing.
use mathlib.Core.Path.{◌≡◌, refl, sym, ap, ◌∙◌, subst}
use mathlib.Core.Logic.{◌⊎◌, inl, inr, ◌≢◌}
use mathlib.Core.Bool.{Bool, true, false, cond}
use Prim.Native.Nat.{ℕ, zero, suc, ◌+◌, ◌-◌, ◌≤◌, ◌<◌}
use native.Mathlib.Nat.{le_refl, add-zero}
use native.Mathlib.Omega.{arith}
use lib.Dec.{eqb}
use lib.Ieee.{Float, binary64, add, mul, div, neg, lt, eq}
use borrow.Author.Tests.{eq-eqb, ne_eqb}
use Rattle.laws.specs.Zeros.{+0, +1, nz}
use Rattle.laws.specs.Tables.{exchanged}
use Rattle.laws.specs.Matrix.{Mat}
use Rattle.laws.specs.Phase.{i2}
use Rattle.std.proofs.lemmas.Bool.{cases_eq}
use Rattle.laws.proofs.Tables.{exchanged-second, exchanged-away, exchanged-twice, exchanged-below, exchanged-from}
use Rattle.laws.proofs.Zeros.{div-cong, lt-cong, eq-cong}
use Rattle.laws.proofs.Phases.{comm}
use Rattle.num.specs.Order.{abs_of}
use Rattle.num.proofs.Alike.{abs-cong}
use Rattle.pfaffian.specs.Pfaffian.{search, pivot_of, pivoted, less}
use Rattle.pfaffian.proofs.Number.{pf}
use Rattle.signs.specs.Paulis.{Str, times, signed, mul as mulₛ, identity, Value, nought, plus, minus, turn, float, expectation}
use Rattle.signs.proofs.Values.{plus≢nought, minus≢nought, float_one, ◌×ᵥ◌, turn-turn, turn-left, turn-right, mul-nought, mul_assoc, mul-value, mul-plus}
use Rattle.signs.proofs.Values.{add-none-left, add-none-right}
use Rattle.signs.proofs.Values.{sg-value}
use Rattle.signs.proofs.Strings.{times-right, times-times}
use Rattle.signs.proofs.Expectations.{still-yes, expectation-still, expectation-signed}
use Rattle.signs.proofs.Pairs.{Turns, pairing, single}
use Rattle.signs.proofs.Products.{prod, Apart, swap, minus_i, worth, worth-none, worth-pair}

-- ---- values

some_or_none : (v : Value) → (v ≡ nought) ⊎ (v ≢ nought)
some_or_none nought = inl refl
some_or_none plus = inr plus≢nought
some_or_none minus = inr minus≢nought

abs-some : (x : Float) (v : Value) → nz x ≡ float v → v ≢ nought → nz (abs_of x) ≡ +1
unfolding abs_of
abs-some x nought h d = absurd (d refl)
abs-some x plus h d = abs-cong x +1 h
abs-some x minus h d = abs-cong x (float minus) h

abs-none : (x : Float) (v : Value) → nz x ≡ float v → v ≡ nought → nz (abs_of x) ≡ +0
unfolding abs_of
abs-none x v h e = abs-cong x +0 (h ∙ ap float e)

lt-01 : lt +0 +1 ≡ true
unfolding lt
lt-01 = refl

lt-00 : lt +0 +0 ≡ false
unfolding lt
lt-00 = refl

lt-10 : lt +1 +0 ≡ false
unfolding lt
lt-10 = refl

lt-11 : lt +1 +1 ≡ false
unfolding lt
lt-11 = refl

eq-00 : eq +0 +0 ≡ true
unfolding eq
eq-00 = refl

eq-10 : eq +1 +0 ≡ false
unfolding eq
eq-10 = refl

-- ---- the search: all is 0, or a column with a value is found

module _ (row : ℕ → Float) (g : ℕ → Value) (start : ℕ) where
  data Got (last : ℕ) (s : Float × ℕ) : Type 0 where
    nothing : nz s.0 ≡ +0 → ((i : ℕ) → start ≤ i → i < last → g i ≡ nought) → Got last s
    got : nz s.0 ≡ +1 → start ≤ s.1 → s.1 < last → g s.1 ≢ nought → Got last s

  -- one column more
  more : (j : ℕ) (best : Float) (piv : ℕ) → start ≤ j → nz (row j) ≡ float (g j) → Got j (best, piv)
      → Got (suc j) (elim (lt best (abs_of (row j))) as (λ b. Float × ℕ) [ true ↦ (abs_of (row j), j) | false ↦ (best, piv) ])
  more j best piv l e (nothing h all) = by (some_or_none (g j))
    where
      by : (g j ≡ nought) ⊎ (g j ≢ nought)
          → Got (suc j) (elim (lt best (abs_of (row j))) as (λ b. Float × ℕ) [ true ↦ (abs_of (row j), j) | false ↦ (best, piv) ])
      by (inl z) =
          rw (lt-cong best (abs_of (row j)) +0 +0 h (abs-none (row j) (g j) e z) ∙ lt-00)
          (nothing h (λ i a b. at i a b (cases_eq i j)))
        where
          at : (i : ℕ) → start ≤ i → i < suc j → (i ≡ j) ⊎ (i ≢ j) → g i ≡ nought
          at i a b (inl c) = ap g c ∙ z
          at i a b (inr c) = all i a (omega arith)
      by (inr d) =
          rw (lt-cong best (abs_of (row j)) +0 +1 h (abs-some (row j) (g j) e d) ∙ lt-01)
          (got (abs-some (row j) (g j) e d) l (omega arith) d)
  more j best piv l e (got h a b d) = by (some_or_none (g j))
    where
      by : (g j ≡ nought) ⊎ (g j ≢ nought)
          → Got (suc j) (elim (lt best (abs_of (row j))) as (λ b. Float × ℕ) [ true ↦ (abs_of (row j), j) | false ↦ (best, piv) ])
      by (inl z) = rw (lt-cong best (abs_of (row j)) +1 +0 h (abs-none (row j) (g j) e z) ∙ lt-10) (got h a (omega arith) d)
      by (inr c) = rw (lt-cong best (abs_of (row j)) +1 +1 h (abs-some (row j) (g j) e c) ∙ lt-11) (got h a (omega arith) d)

  finds : (m j : ℕ) (best : Float) (piv : ℕ) → start ≤ j → ((i : ℕ) → j ≤ i → i < j + m → nz (row i) ≡ float (g i)) → Got j (best, piv)
      → Got (j + m) (search row m j best piv)
  unfolding search
  finds zero j best piv l h s = subst (λ k. Got k (best, piv)) (sym (add-zero j)) s
  finds (suc m) j best piv l h s =
      by (lt best (abs_of (row j))) (more j best piv l (h j (le_refl j) (omega arith)) s)
      (λ s'. subst (λ k. Got k (search row m (suc j) (abs_of (row j)) j)) shift
      (finds m (suc j) (abs_of (row j)) j (omega arith) (λ i a b. h i (omega arith) (omega arith)) s'))
      (λ s'. subst (λ k. Got k (search row m (suc j) best piv)) shift
      (finds m (suc j) best piv (omega arith) (λ i a b. h i (omega arith) (omega arith)) s'))
    where
      shift : suc j + m ≡ j + suc m
      shift = omega arith

      by : (b : Bool) → Got (suc j) (elim b as (λ b. Float × ℕ) [ true ↦ (abs_of (row j), j) | false ↦ (best, piv) ])
          → (Got (suc j) (abs_of (row j), j) → Got (j + suc m) (search row m (suc j) (abs_of (row j)) j))
          → (Got (suc j) (best, piv) → Got (j + suc m) (search row m (suc j) best piv))
          → Got (j + suc m) (elim b as (λ b. Float × ℕ) [ true ↦ search row m (suc j) (abs_of (row j)) j | false ↦ search row m (suc j) best piv ])
      by true s' u v = u s'
      by false s' u v = v s'

-- the pivot of row k
pivot-got : (row : ℕ → Float) (g : ℕ → Value) (k dim : ℕ) → suc (suc k) ≤ dim → ((i : ℕ) → suc k ≤ i → i < dim → nz (row i) ≡ float (g i))
    → Got row g (suc k) dim (pivot_of row k dim)
pivot-got row g k dim l h =
    subst (λ m. Got row g (suc k) m (pivot_of row k dim)) all
    (finds row g (suc k) (dim - suc (suc k)) (suc (suc k)) (abs_of (row (suc k))) (suc k) (omega arith) (λ i a b. h i (omega arith) (omega arith))
    (by (some_or_none (g (suc k)))))
  where
    all : suc (suc k) + (dim - suc (suc k)) ≡ dim
    all = omega arith

    e : nz (row (suc k)) ≡ float (g (suc k))
    e = h (suc k) (le_refl (suc k)) l

    by : (g (suc k) ≡ nought) ⊎ (g (suc k) ≢ nought) → Got row g (suc k) (suc (suc k)) (abs_of (row (suc k)), suc k)
    by (inl z) = nothing (abs-none (row (suc k)) (g (suc k)) e z) (λ i a b. ap g (squeeze i a b) ∙ z)
      where
        squeeze : (i : ℕ) → suc k ≤ i → i < suc (suc k) → i ≡ suc k
        squeeze i a b = omega arith
    by (inr d) = got (abs-some (row (suc k)) (g (suc k)) e d) (le_refl (suc k)) (le_refl (suc (suc k))) d

-- ---- the elimination: row k has nothing right of its pivot, so the rest stays

div-none : (x y : Float) (w : Value) → nz x ≡ +0 → nz y ≡ float w → w ≢ nought → nz (div binary64 x y) ≡ +0
unfolding div
div-none x y nought h k d = absurd (d refl)
div-none x y plus h k d = div-cong x y +0 +1 h k (λ e. d (float_one plus nought (sym k ∙ e)))
div-none x y minus h k d = div-cong x y +0 (float minus) h k (λ e. d (float_one minus nought (sym k ∙ e)))

module _ (k dim : ℕ) (b : Mat) (v : ℕ → ℕ → Value) (h : (r c : ℕ) → k ≤ r → r < dim → k ≤ c → c < dim → nz (b r c) ≡ float (v r c)) where
  less-same : (i j : ℕ) → suc (suc k) ≤ i → i < dim → suc (suc k) ≤ j → j < dim → v k (suc k) ≢ nought → v k i ≡ nought → v k j ≡ nought
      → nz (less k b i j) ≡ float (v i j)
  less-same i j li mi lj mj d zi zj =
      add-none-right (b i j) (add binary64 x y) (v i j) nought (h i j (omega arith) mi (omega arith) mj)
      (add-none-left x y nought nought hx hy refl) refl
    where
      akk : Float
      akk = b k (suc k)

      ti : Float
      ti = div binary64 (b k i) akk

      tj : Float
      tj = div binary64 (b k j) akk

      x : Float
      x = mul binary64 (neg ti) (b (suc k) j)

      y : Float
      y = mul binary64 tj (b (suc k) i)

      hk : nz akk ≡ float (v k (suc k))
      hk = h k (suc k) (le_refl k) (omega arith) (omega arith) (omega arith)

      hi : nz ti ≡ +0
      hi = div-none (b k i) akk (v k (suc k)) (h k i (le_refl k) (omega arith) (omega arith) mi ∙ ap float zi) hk d

      hj : nz tj ≡ +0
      hj = div-none (b k j) akk (v k (suc k)) (h k j (le_refl k) (omega arith) (omega arith) mj ∙ ap float zj) hk d

      hx : nz x ≡ +0
      hx =
          mul-value (neg ti) (b (suc k) j) nought (v (suc k) j) (sg-value true ti nought hi)
          (h (suc k) j (omega arith) (omega arith) (omega arith) mj)

      hy : nz y ≡ +0
      hy = mul-value tj (b (suc k) i) nought (v (suc k) i) hj (h (suc k) i (omega arith) (omega arith) (omega arith) mi)

-- ---- an exchange keeps the first N apart

exchanged-apart : (n N p q : ℕ) (f : ℕ → Str) → p < N → q < N → Apart n N f → Apart n N (λ i. f (exchanged p q i))
exchanged-apart n N p q f hp hq apart i j hi hj d =
    apart (exchanged p q i) (exchanged p q j) (exchanged-below p q N i hp hq hi) (exchanged-below p q N j hp hq hj)
    (λ e. d (sym (exchanged-twice p q i) ∙ ap (exchanged p q) e ∙ exchanged-twice p q j))

-- ---- the Pfaffian

abbrev pub dbl : ℕ → ℕ
dbl zero = zero
dbl (suc p) = suc (suc (dbl p))

-- operators that turn one mode each and anticommute, and a matrix whose entries from k on are their values
pub record Matching (n k dim : ℕ) (a : Mat) (f : ℕ → Str) : Type 0 where
  pub apart : Apart n dim f
  pub turns : (i : ℕ) → i < dim → Turns n (f i)
  pub covers : (i j : ℕ) → k ≤ i → i < dim → k ≤ j → j < dim → nz (a i j) ≡ float (pairing n (f i) (f j))

worth-identity : (n : ℕ) → worth n 0 identity ≡ plus
worth-identity n = expectation-still n identity (still-yes identity.at n (λ w l. refl))

worth-signed : (n p : ℕ) (x : Str) → worth n p (signed true x) ≡ turn true (worth n p x)
worth-signed n p x =
    ap (expectation n) (times-times (minus_i p) i2 x ∙ ap (λ k. times k x) (comm (minus_i p) i2) ∙ sym (times-times i2 (minus_i p) x))
    ∙ expectation-signed n true (times (minus_i p) x)

-- what is to be shown of p pairs from k on
abbrev Worth : ℕ → ℕ → ℕ → ℕ → Type 0
Worth n p k dim = (a : Mat) (f : ℕ → Str) (acc : Float) (z : Value) → Matching n k dim a f → nz acc ≡ float z
    → nz (pf a p k dim acc) ≡ float (z ×ᵥ worth n p (prod n f k (dbl p) identity))

-- of p + 1 pairs whose pivot stands in its place
abbrev InPlace : ℕ → ℕ → ℕ → ℕ → Type 0
InPlace n p k dim = (b : Mat) (f : ℕ → Str) (x : Float) (w : Value) → Matching n k dim b f → pairing n (f k) (f (suc k)) ≢ nought → nz x ≡ float w
    → nz (pf (less k b) p (suc (suc k)) dim (mul binary64 x (b k (suc k)))) ≡ float (w ×ᵥ worth n (suc p) (prod n f k (suc (suc (dbl p))) identity))

in_place : (n p k dim : ℕ) → dim ≡ k + suc (suc (dbl p)) → Worth n p (suc (suc k)) dim → InPlace n p k dim
unfolding prod
in_place n p k dim size rest b f x w h d hx =
    rest (less k b) f (mul binary64 x (b k (suc k))) (w ×ᵥ pairing n (f k) (f (suc k)))
    (record { apart = h.apart; turns = h.turns; covers = covers })
    (mul-value x (b k (suc k)) w (pairing n (f k) (f (suc k))) hx (h.covers k (suc k) (le_refl k) (omega arith) (omega arith) (omega arith)))
    ∙ ap float (mul_assoc w (pairing n (f k) (f (suc k))) _ ∙ ap (λ v. w ×ᵥ v) (sym (worth-pair n p (f k) (f (suc k)) _ d)))
  where
    -- no other entry in row k
    none : (i : ℕ) → suc (suc k) ≤ i → i < dim → pairing n (f k) (f i) ≡ nought
    none i l m = by (some_or_none (pairing n (f k) (f i)))
      where
        by : (pairing n (f k) (f i) ≡ nought) ⊎ (pairing n (f k) (f i) ≢ nought) → pairing n (f k) (f i) ≡ nought
        by (inl e) = e
        by (inr c) =
            absurd
            (single n (f k) (f (suc k)) (f i) (h.turns k (omega arith)) (h.turns (suc k) (omega arith)) (h.turns i m)
            (h.apart (suc k) i (omega arith) m (λ e. omega arith)) d c)

    covers : (i j : ℕ) → suc (suc k) ≤ i → i < dim → suc (suc k) ≤ j → j < dim → nz (less k b i j) ≡ float (pairing n (f i) (f j))
    covers i j li mi lj mj =
        less-same k dim b (λ r c. pairing n (f r) (f c)) h.covers i j li mi lj mj d (none i li mi) (none j lj mj)

pub pf-worth : (n p k dim : ℕ) → dim ≡ k + dbl p → Worth n p k dim
unfolding pf prod
pf-worth n zero k dim size a f acc z h hz = hz ∙ ap float (sym (ap (λ v. z ×ᵥ v) (worth-identity n) ∙ mul-plus z))
pf-worth n (suc p) k dim size a f acc z h hz =
    by (pivot_of (a k) k dim)
    (pivot-got (a k) (λ j. pairing n (f k) (f j)) k dim (omega arith) (λ i l m. h.covers k i (le_refl k) (omega arith) (omega arith) m))
    (in_place n p k dim size (pf-worth n p (suc (suc k)) dim (omega arith)))
  where
    all : Value
    all = worth n (suc p) (prod n f k (suc (suc (dbl p))) identity)

    -- the engine's answer, by its pivot
    F : Float × ℕ → Float
    F s =
        let b = pivoted s.1 (suc k) a in
        cond (eq s.0 +0) +0 (pf (less k b) p (suc (suc k)) dim (mul binary64 (cond (eqb s.1 (suc k)) acc (neg acc)) (b k (suc k))))

    by : (s : Float × ℕ) → Got (a k) (λ j. pairing n (f k) (f j)) (suc k) dim s → InPlace n p k dim → nz (F s) ≡ float (z ×ᵥ all)
    by s (nothing e none) step =
        let no_value = worth-none n dim f h.apart h.turns (suc p) k (suc (dbl p)) (omega arith) (λ i l m. none i l (omega arith)) in
        rw (eq-cong s.0 +0 +0 +0 e refl ∙ eq-00) (sym (ap float (ap (λ v. z ×ᵥ v) no_value ∙ mul-nought z)))
    by s (got e l m d) step = at s.1 l m d (cases_eq s.1 (suc k))
      where
        at : (q : ℕ) → suc k ≤ q → q < dim → pairing n (f k) (f q) ≢ nought → (q ≡ suc k) ⊎ (q ≢ suc k) → nz (F (s.0, q)) ≡ float (z ×ᵥ all)
        at q l m d (inl c) =
            rw (eq-cong s.0 +0 +1 +0 e refl ∙ eq-10, eq-eqb q (suc k) c) (step a f acc z h (λ v. d (ap (λ j. pairing n (f k) (f j)) c ∙ v)) hz)
        at q l m d (inr c) =
            rw (eq-cong s.0 +0 +1 +0 e refl ∙ eq-10, ne_eqb q (suc k) c)
            (step (λ i j. a (to i) (to j)) (λ i. f (to i)) (neg acc) (turn true z) moved
            (λ v. d ((λ i. pairing n (f (sym to-k i)) (f (sym (exchanged-second q (suc k)) i))) ∙ v)) (sg-value true acc z hz)
            ∙ ap float (ap (λ v. turn true z ×ᵥ v) (ap (worth n (suc p)) exchange ∙ worth-signed n (suc p) _) ∙ signs))
          where
            to : ℕ → ℕ
            to i = exchanged q (suc k) i

            to-k : to k ≡ k
            to-k = exchanged-away q (suc k) k (λ e. omega arith) (λ e. omega arith)

            to_below : (i : ℕ) → i < dim → to i < dim
            to_below i b = exchanged-below q (suc k) dim i m (omega arith) b

            to-from : (i : ℕ) → k ≤ i → k ≤ to i
            to-from i b = exchanged-from q (suc k) k i (omega arith) (omega arith) b

            moved : Matching n k dim (λ i j. a (to i) (to j)) (λ i. f (to i))
            moved = record {
              apart = exchanged-apart n dim q (suc k) f m (omega arith) h.apart;
              turns = λ i b. h.turns (to i) (to_below i b);
              covers = λ i j li mi lj mj. h.covers (to i) (to j) (to-from i li) (to_below i mi) (to-from j lj) (to_below j mj);
            }

            signs : turn true z ×ᵥ turn true all ≡ z ×ᵥ all
            signs = turn-left true z (turn true all) ∙ ap (turn true) (turn-right true z all) ∙ turn-turn true (z ×ᵥ all)

            r : ℕ
            r = q - suc (suc k)

            left : ℕ
            left = dim - suc q

            place : suc (suc k) + r ≡ q
            place = omega arith

            length : suc (r + suc left) ≡ suc (dbl p)
            length = omega arith

            Swapped : ℕ → ℕ → Type 0
            Swapped Q L = prod n (λ i. f (exchanged Q (suc k) i)) (suc k) L identity ≡ signed true (prod n f (suc k) L identity)

            swapped : Swapped q (suc (dbl p))
            swapped =
                subst (λ Q. Swapped Q (suc (dbl p))) place
                (subst (λ L. Swapped (suc (suc k) + r) L) length (swap n dim f h.apart (suc k) r left (omega arith) identity))

            exchange : prod n (λ i. f (to i)) k (suc (suc (dbl p))) identity ≡ signed true (prod n f k (suc (suc (dbl p))) identity)
            exchange = (λ i. mulₛ n (f (to-k i)) (swapped i)) ∙ times-right n i2 (f k) (prod n f (suc k) (suc (dbl p)) identity)
