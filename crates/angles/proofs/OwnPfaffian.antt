-- In exact numbers the engine's elimination by pairs is the Pfaffian by its first row (page Pfaffians of crate `formulas`). Assumes nothing.
use mathlib.Core.Path.{◌≡◌, refl, sym, ap, subst, ◌∙◌}
use mathlib.Core.Logic.{◌⊎◌, inl, inr}
use mathlib.Core.Bool.{Bool, true, false, cond}
use mathlib.Core.List.{List, [], ◌∷◌, map}
use Prim.Native.Nat.{ℕ, zero, suc, ◌+◌, ◌-◌, ◌/◌, ◌%◌, ◌≤◌, ◌<◌}
use native.Mathlib.Omega.{arith}
use lib.Dec.{eqb}
use lib.ListN.{length}
use borrow.Author.Tests.{eqb-true, eqb-false}
use Rattle.laws.specs.Tables.{exchanged}
use Rattle.rings.specs.Rings.{Ops, IsRing, IsCommutative}
use Rattle.formulas.specs.Numbers.{Tests, Divides}
use Rattle.formulas.specs.Engine.{Mat}
use Rattle.formulas.specs.Pfaffians.{pfaffian, AllBelow, search, pivot_of, pivoted, less_pair, pf, own_pfaffian, up, Alternating}
use Rattle.formulas.specs.Pfaffians.{PfaffianByElimination, PfaffianTheorem}
use Rattle.laws.proofs.Tables.{exchanged-first, exchanged-second, exchanged-away}
use Rattle.rings.proofs.Rings.{mul-zero, neg-mul, mul-neg, neg-neg, neg-zero}
use Rattle.angles.proofs.Agree.{odd-size}
use Rattle.angles.proofs.Swaps.{fr, P, Turning, turning-more, turning, factor, lesser-alternates, named, textbook}

pub up-below : (dim s n : ℕ) → s + n ≤ dim → AllBelow dim (up s n)
up-below dim s zero h = tt
up-below dim s (suc n) h = (omega (arith, h), up-below dim (suc s) n (omega (arith, h)))

abbrev pub double : ℕ → ℕ
double zero = zero
double (suc p) = suc (suc (double p))

-- ---- exchanged indices

up-still : (p q s n : ℕ) → p < s → q < s → map (exchanged p q) (up s n) ≡ up s n
up-still p q s zero h k = refl
up-still p q s (suc n) h k =
    λ i. exchanged-away p q s (λ e. omega (arith, e, h)) (λ e. omega (arith, e, k)) i ∷ up-still p q (suc s) n (omega (arith, h)) (omega (arith, k)) i

module _ {𝓝 : Ops} (𝓒 : IsCommutative 𝓝) {𝓣 : Tests 𝓝} (𝓥 : Divides 𝓝 𝓣) where
  abbrev 𝓛 : IsRing 𝓝
  𝓛 = 𝓒.ring

  open 𝓝 use {N, zero as 𝟘, one as 𝟙, add as ◌⊹◌, mul as ◌⋆◌, neg}

  infixl 65 ◌⊹◌
  infixl 70 ◌⋆◌
  -- ---- the pivot

  -- the length s .0 of column s .1, one of those from lo on before hi: if it is zero, so are they
  record Good (row : ℕ → N) (lo hi : ℕ) (s : N × ℕ) : Type 0 where
    is : s.0 ≡ 𝓣.size (row s.1)
    from : lo ≤ s.1
    to : s.1 < hi
    least : 𝓣.null s.0 ≡ true → (i : ℕ) → lo ≤ i → i < hi → 𝓣.null (row i) ≡ true

  found : (row : ℕ → N) (lo n j : ℕ) (best : N) (p : ℕ) → Good row lo j (best, p) → Good row lo (j + n) (search 𝓝 𝓣 row n j best p)
  unfolding search
  found row lo zero j best p g = subst (λ h. Good row lo h (best, p)) same g
    where
      same : j ≡ j + 0
      same = omega arith
  found row lo (suc n) j best p g = by (𝓣.less best (𝓣.size (row j))) refl (λ b q. found row lo n (suc j) b q)
    where
      same : suc j + n ≡ j + suc n
      same = omega arith

      one-more : ((i : ℕ) → lo ≤ i → i < j → 𝓣.null (row i) ≡ true) → 𝓣.null (row j) ≡ true
          → (i : ℕ) → lo ≤ i → i < suc j → 𝓣.null (row i) ≡ true
      one-more h e i l k = at (eqb i j) refl
        where
          at : (b : Bool) → eqb i j ≡ b → 𝓣.null (row i) ≡ true
          at true q = ap (λ y. 𝓣.null (row y)) (eqb-true i j q) ∙ e
          at false q = h i l (omega (arith, k, eqb-false i j q))

      by : (b : Bool) → 𝓣.less best (𝓣.size (row j)) ≡ b
          → ((c : N) (q : ℕ) → Good row lo (suc j) (c, q) → Good row lo (suc j + n) (search 𝓝 𝓣 row n (suc j) c q))
          → Good row lo (j + suc n) (elim b [ true ↦ search 𝓝 𝓣 row n (suc j) (𝓣.size (row j)) j | false ↦ search 𝓝 𝓣 row n (suc j) best p ])
      by true e ih =
          subst (λ h. Good row lo h (search 𝓝 𝓣 row n (suc j) (𝓣.size (row j)) j)) same
          (ih (𝓣.size (row j)) j (record {
            is = refl;
            from = omega (arith, g.from, g.to);
            to = omega arith;
            least = λ z. one-more
                (g.least (ap 𝓣.null g.is ∙ 𝓥.size-null (row p)
                ∙ 𝓥.larger (row p) (row j) (ap (λ a. 𝓣.less a (𝓣.size (row j))) (sym g.is) ∙ e) (sym (𝓥.size-null (row j)) ∙ z)))
                (sym (𝓥.size-null (row j)) ∙ z);
          }))
      by false e ih =
          subst (λ h. Good row lo h (search 𝓝 𝓣 row n (suc j) best p)) same
          (ih best p (record {
            is = g.is;
            from = g.from;
            to = omega (arith, g.to);
            least = λ z. one-more (g.least z)
                (𝓥.not-larger (row p) (row j) (ap (λ a. 𝓣.less a (𝓣.size (row j))) (sym g.is) ∙ e)
                (sym (𝓥.size-null (row p)) ∙ ap 𝓣.null (sym g.is) ∙ z));
          }))

  pivot : (row : ℕ → N) (k dim : ℕ) → suc (suc k) ≤ dim → Good row (suc k) dim (pivot_of 𝓝 𝓣 row k dim)
  pivot row k dim h =
      subst (λ z. Good row (suc k) z (pivot_of 𝓝 𝓣 row k dim)) same
      (found row (suc k) (dim - suc (suc k)) (suc (suc k)) (𝓣.size (row (suc k))) (suc k) (record {
        is = refl;
        from = omega arith;
        to = omega arith;
        least = λ z i l u. ap (λ y. 𝓣.null (row y)) (only i l u) ∙ sym (𝓥.size-null (row (suc k))) ∙ z;
      }))
    where
      same : suc (suc k) + (dim - suc (suc k)) ≡ dim
      same = omega (arith, h)

      only : (i : ℕ) → suc k ≤ i → i < suc (suc k) → i ≡ suc k
      only i l u = omega (arith, l, u)

  -- a row of zeros
  zeros : (w : ℕ → N) (F : List ℕ → N) (s n : ℕ) → ((i : ℕ) → s ≤ i → i < s + n → w i ≡ 𝟘) → fr 𝓝 w F (up s n) ≡ 𝟘
  zeros w F s zero h = refl
  zeros w F s (suc n) h =
      (λ i. h s (omega arith) (omega arith) i ⋆ F (up (suc s) n)
      ⊹ neg (zeros w (λ qs. F (s ∷ qs)) (suc s) n (λ j l u. h j (omega (arith, l)) (omega (arith, u))) i))
      ∙ (λ i. (𝓒.comm 𝟘 (F (up (suc s) n)) ∙ mul-zero 𝓛 (F (up (suc s) n))) i ⊹ neg-zero 𝓛 i)
      ∙ 𝓛.add-zero 𝟘

  -- ---- the exchange of q with p, a later one

  module _ (dim q p : ℕ) (hq : q < dim) (hp : p < dim) where
    abbrev σ : ℕ → ℕ
    σ = exchanged p q

    exchange : (n s : ℕ) (F : List ℕ → N) → Turning 𝓝 dim F → q < s → s ≤ p → p < s + n → s + n ≤ dim → F (q ∷ up s n) ≡ neg (F (p ∷ map σ (up s n)))
    exchange zero s F h l m u d = absurd (omega (arith, m, u))
    exchange (suc n) s F h l m u d = by (eqb s p) refl (λ g. exchange n (suc s) g)
      where
        by : (b : Bool) → eqb s p ≡ b
            → ((G : List ℕ → N) → Turning 𝓝 dim G → q < suc s → suc s ≤ p → p < suc s + n → suc s + n ≤ dim
            → G (q ∷ up (suc s) n) ≡ neg (G (p ∷ map σ (up (suc s) n))))
            → F (q ∷ s ∷ up (suc s) n) ≡ neg (F (p ∷ σ s ∷ map σ (up (suc s) n)))
        by true e ih =
            h [] q s (up (suc s) n) hq (omega (arith, d))
            ∙ (λ i. neg
            (F (eqb-true s p e i ∷ sym (ap (exchanged p q) (eqb-true s p e) ∙ exchanged-first p q) i
            ∷ sym (up-still p q (suc s) n (omega (arith, eqb-true s p e)) (omega (arith, l)))
            i)))
        by false e ih =
            h [] q s (up (suc s) n) hq (omega (arith, d))
            ∙ ap neg (ih (λ qs. F (s ∷ qs)) (turning-more 𝓒 dim F h s) (omega (arith, l)) (omega (arith, m, eqb-false s p e)) (omega (arith, u))
            (omega (arith, d)))
            ∙ neg-neg 𝓛 (F (s ∷ p ∷ map σ (up (suc s) n)))
            ∙ h [] s p (map σ (up (suc s) n)) (omega (arith, d)) hp
            ∙ (λ i. neg (F (p ∷ sym (exchanged-away p q s (eqb-false s p e) (λ z. omega (arith, z, l))) i ∷ map σ (up (suc s) n))))

  -- ---- one pair

  -- the matrix with its pivot in place
  module _ (dim : ℕ) (a : Mat 𝓝) (𝓜 : Alternating 𝓝 dim a) (k n : ℕ) (fits : suc (suc k) + n ≡ dim) (p : ℕ) (from : suc k ≤ p) (to : p < dim) where
    abbrev b : Mat 𝓝
    b = pivoted 𝓝 𝓣 p (suc k) a

    σ-below : (i : ℕ) → i < dim → exchanged p (suc k) i < dim
    σ-below i h = by (eqb i p) (eqb i (suc k))
      where
        by : (c d : Bool) → cond c (suc k) (cond d p i) < dim
        by true d = omega (arith, fits)
        by false true = to
        by false false = h

    pivoted-alternates : Alternating 𝓝 dim b
    pivoted-alternates = by (eqb p (suc k))
      where
        by : (c : Bool) → Alternating 𝓝 dim (cond c a (λ i j. a (exchanged p (suc k) i) (exchanged p (suc k) j)))
        by true = 𝓜
        by false = record {
          turns = λ i j hi hj. 𝓜.turns (exchanged p (suc k) i) (exchanged p (suc k) j) (σ-below i hi) (σ-below j hj);
          nought-at = λ i hi. 𝓜.nought-at (exchanged p (suc k) i) (σ-below i hi);
        }

    -- the exchange turns the Pfaffian
    pivoted-turns : (q : ℕ) (acc : N)
        → cond (eqb p (suc k)) acc (neg acc) ⋆ P 𝓝 b q (k ∷ suc k ∷ up (suc (suc k)) n) ≡ acc ⋆ P 𝓝 a q (k ∷ suc k ∷ up (suc (suc k)) n)
    pivoted-turns q acc = by (eqb p (suc k)) refl
      where
        by : (c : Bool) → eqb p (suc k) ≡ c
            → cond c acc (neg acc) ⋆ P 𝓝 (cond c a (λ i j. a (exchanged p (suc k) i) (exchanged p (suc k) j))) q (k ∷ suc k ∷ up (suc (suc k)) n)
            ≡ acc ⋆ P 𝓝 a q (k ∷ suc k ∷ up (suc (suc k)) n)
        by true e = refl
        by false e =
            ap (λ x. neg acc ⋆ x)
            (named 𝓒 (exchanged p (suc k)) a q (k ∷ suc k ∷ up (suc (suc k)) n)
            ∙ (λ i. P 𝓝 a q
            (exchanged-away p (suc k) k (λ z. omega (arith, z, from)) (λ z. omega (arith, z)) i ∷ exchanged-second p (suc k) i
            ∷ map (exchanged p (suc k)) (up (suc (suc k)) n))))
            ∙ neg-mul 𝓛 acc (P 𝓝 a q (k ∷ p ∷ map (exchanged p (suc k)) (up (suc (suc k)) n)))
            ∙ sym (mul-neg 𝓛 acc (P 𝓝 a q (k ∷ p ∷ map (exchanged p (suc k)) (up (suc (suc k)) n))))
            ∙ ap (λ x. acc ⋆ x)
            (sym (exchange dim (suc k) p (omega (arith, fits)) to n (suc (suc k)) (λ qs. P 𝓝 a q (k ∷ qs))
            (turning-more 𝓒 dim (λ qs. P 𝓝 a q qs) (turning 𝓒 dim a 𝓜 q) k)
            (omega arith) (omega (arith, from, eqb-false p (suc k) e)) (omega (arith, to, fits)) (omega (arith, fits))))

    b-pivot : b k (suc k) ≡ a k p
    b-pivot = by (eqb p (suc k)) refl
      where
        by : (c : Bool) → eqb p (suc k) ≡ c → cond c a (λ i j. a (exchanged p (suc k) i) (exchanged p (suc k) j)) k (suc k) ≡ a k p
        by true e = ap (a k) (sym (eqb-true p (suc k) e))
        by false e =
            λ i. a (exchanged-away p (suc k) k (λ z. omega (arith, z, from)) (λ z. omega (arith, z)) i) (exchanged-second p (suc k) i)

    module _ (live : 𝓣.null (a k p) ≡ false) where
      lives : 𝓣.null (b k (suc k)) ≡ false
      lives = ap 𝓣.null b-pivot ∙ live

      less-alternates : Alternating 𝓝 dim (less_pair 𝓝 𝓣 k b)
      less-alternates =
          lesser-alternates 𝓒 dim b pivoted-alternates k (suc k) (omega (arith, fits)) (omega (arith, fits))
          (λ j. 𝓣.div (b k j) (b k (suc k))) (λ j. 𝓥.quotient (b k j) (b k (suc k)) lives) (𝓣.div 𝟙 (b k (suc k))) (𝓥.quotient 𝟙 (b k (suc k)) lives)

      less-factor : (q : ℕ) → b k (suc k) ⋆ P 𝓝 (less_pair 𝓝 𝓣 k b) q (up (suc (suc k)) n) ≡ P 𝓝 b (suc q) (k ∷ suc k ∷ up (suc (suc k)) n)
      less-factor q =
          factor 𝓒 dim b pivoted-alternates k (suc k) (omega (arith, fits)) (omega (arith, fits))
          (λ j. 𝓣.div (b k j) (b k (suc k))) (λ j. 𝓥.quotient (b k j) (b k (suc k)) lives) (𝓣.div 𝟙 (b k (suc k))) (𝓥.quotient 𝟙 (b k (suc k)) lives)
          q (up (suc (suc k)) n) (up-below dim (suc (suc k)) n (omega (arith, fits)))

  -- ---- all pairs

  pairs : (p : ℕ) (a : Mat 𝓝) (k dim : ℕ) (acc : N) (q : ℕ) → Alternating 𝓝 dim a → k + double p ≡ dim → p ≤ q
      → pf 𝓝 𝓣 a p k dim acc ≡ acc ⋆ P 𝓝 a (suc q) (up k (double p))
  unfolding pf P
  pairs zero a k dim acc q 𝓜 e l = sym (𝓛.mul-one acc)
  pairs (suc p) a k dim acc zero 𝓜 e l = absurd (omega (arith, l))
  pairs (suc p) a k dim acc (suc q) 𝓜 e l = by (𝓣.null s.0) refl (λ m x 𝓜. pairs p m (suc (suc k)) dim x q 𝓜 fits (omega (arith, l)))
    where
      s : N × ℕ
      s = pivot_of 𝓝 𝓣 (a k) k dim

      fits : suc (suc k) + double p ≡ dim
      fits = omega (arith, e)

      good : Good (a k) (suc k) dim s
      good = pivot (a k) k dim (omega (arith, fits))

      by : (c : Bool) → 𝓣.null s.0 ≡ c
          → ((m : Mat 𝓝) (x : N) → Alternating 𝓝 dim m → pf 𝓝 𝓣 m p (suc (suc k)) dim x ≡ x ⋆ P 𝓝 m (suc q) (up (suc (suc k)) (double p)))
          → cond c 𝟘 (pf 𝓝 𝓣 (less_pair 𝓝 𝓣 k (pivoted 𝓝 𝓣 s.1 (suc k) a)) p (suc (suc k)) dim
          (cond (eqb s.1 (suc k)) acc (neg acc) ⋆ pivoted 𝓝 𝓣 s.1 (suc k) a k (suc k)))
          ≡ acc ⋆ P 𝓝 a (suc (suc q)) (k ∷ suc k ∷ up (suc (suc k)) (double p))
      by true z ih =
          sym (mul-zero 𝓛 acc)
          ∙ ap (λ x. acc ⋆ x)
          (sym (zeros (a k) (λ qs. P 𝓝 a (suc q) qs) (suc k) (suc (double p)) (λ i f t. 𝓥.is-null (a k i) (good.least z i f (omega (arith, t, fits))))))
      by false z ih =
          ih (less_pair 𝓝 𝓣 k (pivoted 𝓝 𝓣 s.1 (suc k) a)) (cond (eqb s.1 (suc k)) acc (neg acc) ⋆ pivoted 𝓝 𝓣 s.1 (suc k) a k (suc k))
          (less-alternates dim a 𝓜 k (double p) fits s.1 good.from good.to live)
          ∙ 𝓛.mul-assoc (cond (eqb s.1 (suc k)) acc (neg acc)) (pivoted 𝓝 𝓣 s.1 (suc k) a k (suc k))
          (P 𝓝 (less_pair 𝓝 𝓣 k (pivoted 𝓝 𝓣 s.1 (suc k) a)) (suc q) (up (suc (suc k)) (double p)))
          ∙ ap (λ x. cond (eqb s.1 (suc k)) acc (neg acc) ⋆ x) (less-factor dim a 𝓜 k (double p) fits s.1 good.from good.to live (suc q))
          ∙ pivoted-turns dim a 𝓜 k (double p) fits s.1 good.from good.to (suc (suc q)) acc
        where
          live : 𝓣.null (a k s.1) ≡ false
          live = sym (𝓥.size-null (a k s.1)) ∙ ap 𝓣.null (sym good.is) ∙ z

  halved : (p : ℕ) → double p / 2 ≡ p
  halved zero = refl
  halved (suc p) = omega (arith, halved p)

  even : (p : ℕ) → double p % 2 ≡ 0
  even zero = refl
  even (suc p) = omega (arith, even p)

  -- THE ENGINE'S PFAFFIAN IS THE PFAFFIAN, of an alternating matrix of even dimension; q is any bound on the number of pairs
  pub own-pfaffian : (p q : ℕ) (a : Mat 𝓝) → Alternating 𝓝 (double p) a → p ≤ q → own_pfaffian 𝓝 𝓣 (double p) a ≡ pfaffian 𝓝 a q (up 0 (double p))
  unfolding own_pfaffian
  own-pfaffian p q a 𝓜 l =
      ap (λ r. cond (eqb r 1) 𝟘 (pf 𝓝 𝓣 a (double p / 2) 0 (double p) 𝟙)) (even p)
      ∙ ap (λ h. pf 𝓝 𝓣 a h 0 (double p) 𝟙) (halved p)
      ∙ pairs p a 0 (double p) 𝟙 q 𝓜 (omega arith) l
      ∙ 𝓛.one-mul (P 𝓝 a (suc q) (up 0 (double p)))
      ∙ sym (textbook 𝓒 a q (up 0 (double p)))

  own-pfaffian-odd : (p q : ℕ) (a : Mat 𝓝) → own_pfaffian 𝓝 𝓣 (suc (double p)) a ≡ pfaffian 𝓝 a q (up 0 (suc (double p)))
  unfolding own_pfaffian
  own-pfaffian-odd p q a =
      ap (λ r. cond (eqb r 1) 𝟘 (pf 𝓝 𝓣 a (suc (double p) / 2) 0 (suc (double p)) 𝟙)) odd
      ∙ sym (odd-size 𝓒 a (suc q) (up 0 (suc (double p))) (ap (λ k. k % 2) (up-size 0 (suc (double p))) ∙ odd))
      ∙ sym (textbook 𝓒 a q (up 0 (suc (double p))))
    where
      odd : suc (double p) % 2 ≡ 1
      odd = omega (arith, even p)

      up-size : (s n : ℕ) → length (up s n) ≡ n
      up-size s zero = refl
      up-size s (suc n) = ap suc (up-size (suc s) n)

  -- the same, of every dimension
  pub pfaffian-by-elimination : PfaffianByElimination 𝓝 𝓣
  pfaffian-by-elimination dim q a 𝓜 l = by (halves dim)
    where
      halves : (d : ℕ) → ((p : ℕ) × (double p ≡ d)) ⊎ ((p : ℕ) × (suc (double p) ≡ d))
      halves zero = inl (0, refl)
      halves (suc d) = next (halves d)
        where
          next : ((p : ℕ) × (double p ≡ d)) ⊎ ((p : ℕ) × (suc (double p) ≡ d)) → ((p : ℕ) × (double p ≡ suc d)) ⊎ ((p : ℕ) × (suc (double p) ≡ suc d))
          next (inl h) = inr (h.0, ap suc h.1)
          next (inr h) = inl (suc h.0, ap suc h.1)

      at-least : (p : ℕ) → p ≤ double p
      at-least zero = omega arith
      at-least (suc p) = omega (arith, at-least p)

      by : ((p : ℕ) × (double p ≡ dim)) ⊎ ((p : ℕ) × (suc (double p) ≡ dim)) → own_pfaffian 𝓝 𝓣 dim a ≡ pfaffian 𝓝 a q (up 0 dim)
      by (inl h) =
          subst (λ d. own_pfaffian 𝓝 𝓣 d a ≡ pfaffian 𝓝 a q (up 0 d)) h.1
          (own-pfaffian h.0 q a (subst (λ d. Alternating 𝓝 d a) (sym h.1) 𝓜) (omega (arith, l, h.1, at-least h.0)))
      by (inr h) = subst (λ d. own_pfaffian 𝓝 𝓣 d a ≡ pfaffian 𝓝 a q (up 0 d)) h.1 (own-pfaffian-odd h.0 q a)

-- THE STATEMENT
pub pfaffian-theorem : PfaffianTheorem
pfaffian-theorem 𝓝 𝓒 𝓣 𝓥 = pfaffian-by-elimination 𝓒 𝓥
