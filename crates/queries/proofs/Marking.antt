-- Laws of the marks: a turn of each loop that marks modes, and what the modes left are. Assumes nothing.
use mathlib.Core.Path.{◌≡◌, refl, sym, ap, ◌∙◌}
use mathlib.Core.Logic.{◌⊎◌, inl, inr, ◌≢◌, ⊎_elim}
use mathlib.Core.Bool.{Bool, true, false, not, cond, ◌&&◌, and-false}
use mathlib.Core.List.{List}
use Rattle.std.proofs.Common.{Option, Some, None}
use Prim.Native.Nat.{ℕ, zero, suc, ◌+◌, ◌≤◌, ◌<◌}
use native.Mathlib.Nat.{le_refl}
use native.Mathlib.Numerals.{add-one}
use native.Mathlib.Omega.{arith}
use lib.Dec.{eqb, leb, ltb}
use lib.ListN.{take, length, get_or, set, length-set, replicate, length-replicate, get_or-replicate}
use lib.Seq.{get_or-set_same, get_or-set_other}
use borrow.Author.Tests.{eq-eqb, ne_eqb, eqb-true, lt-ltb, leb-true, not-false}
use Rattle.laws.specs.Tests.{all_below}
use Rattle.std.proofs.lemmas.List.{length-take-le, get_or-take}
use Rattle.laws.specs.Bounds.{max_qubits}
use Rattle.std.proofs.lemmas.Bool.{cases_eq, and_parts}
use Rattle.laws.proofs.Tests.{all-each}
pub use Rattle.pfaffian.proofs.Listing.{bit-small}
use Rattle.pfaffian.specs.Shot.{bit}
use Rattle.queries.specs.Lists.{odd_modes, mode_listed, odd_mode, noted, conflicts_of, contradicts, bits_ok, passing}
use Rattle.std.specs.Option.{is_some, unwrap_or}
use Rattle.queries.specs.Marginals.{is_one}
use Rattle.queries.specs.Inner.{Marked, Odd, Spans, Asked, mark_of, Below}
use Rattle.queries.specs.declared.lists.Span.{Span}
use Rattle.queries.proofs.Searches.{odd-on, odd-off, passing-same, passing-ascends}

-- ---- one mark set

module _ {A B : Type 0} (d : A) (read : A → B) where
  pub marked-set : (n : ℕ) (f g : ℕ → B) (marks : List A) (k : ℕ) (x : A) → k < n → Marked d read n f marks → read x ≡ g k
      → ((j : ℕ) → j ≢ k → g j ≡ f j) → Marked d read n g (set marks k x)
  marked-set n f g marks k x h w e o = record {
    long = rw length-set w.long;
    each = λ j l. by j l (cases_eq j k);
  }
    where
      by : (j : ℕ) → j < n → (j ≡ k) ⊎ (j ≢ k) → read (get_or (set marks k x) j d) ≡ g j
      by j l (inl q) =
          ap (λ i. read (get_or (set marks k x) i d)) q ∙ ap read (get_or-set_same marks k x d (omega (arith, w.long))) ∙ e ∙ ap g (sym q)
      by j l (inr q) = ap read (get_or-set_other marks k j x d q) ∙ w.each j l ∙ sym (o j q)

  -- at first no mark is set
  pub marked-none : (n : ℕ) → n ≤ max_qubits → Marked d read n (λ k. read d) (replicate max_qubits d)
  marked-none n h = record {
    long = rw (length-replicate {A = A} max_qubits d) h;
    each = λ k g. ap read (get_or-replicate {A = A} max_qubits k d d (omega arith));
  }

  -- the marks of the modes below n are those of a part of n places
  pub marked-front : (n m : ℕ) (f : ℕ → B) (marks : List A) → m ≡ n → Marked d read n f marks → Marked d read n f (take m marks)
  marked-front n m f marks e w = record {
    long = rw (length-take-le m marks (omega (arith, w.long))) (omega arith);
    each = λ k h. ap read (get_or-take m marks k d (omega arith)) ∙ w.each k h;
  }

-- ---- a product: the count of a mode turns odd or even

pub odd-turn : (n : ℕ) (modes qs : List ℕ) (odd : List Bool) (i k : ℕ) (x : Bool) → k < n → k ≡ mode_listed modes qs i
    → Odd n (odd_mode modes qs i) odd → x ≡ not (get_or odd k false) → Odd n (odd_mode modes qs (i + 1)) (set odd k x)
odd-turn n modes qs odd i k x h e w ex =
    marked-set false (λ b. b) n _ _ odd k x h w
    (ex ∙ ap not (w.each k h) ∙ sym (odd-on (λ j. eqb (mode_listed modes qs j) k) i (eq-eqb (mode_listed modes qs i) k (sym e))))
    (λ j ne. odd-off (λ i. eqb (mode_listed modes qs i) j) i (ne_eqb (mode_listed modes qs i) j (λ q. ne (sym q ∙ sym e))))

-- all modes, whatever passes
pub spans-all : (n : ℕ) (p : ℕ → Bool) → Spans n p (record { low = 0; end = n })
spans-all n p = record {
  low = omega arith;
  end = le_refl n;
  before = λ k h. absurd (omega (arith, h));
  after = λ k h l. absurd (omega (arith, h, l));
}

-- the span takes the mode in
pub span-turn : (n : ℕ) (modes qs : List ℕ) (i k : ℕ) (was now : Span) → k ≡ mode_listed modes qs i → Spans n (odd_mode modes qs i) was
    → (now.low ≤ was.low) × (now.low ≤ k) → (was.end ≤ now.end) × (k < now.end) → now.end ≤ n → Spans n (odd_mode modes qs (i + 1)) now
span-turn n modes qs i k was now e w low end fits = record {
  low = omega (arith, w.low, low.0);
  end = fits;
  before = λ j h. still j (omega (arith, h, low.1)) ∙ w.before j (omega (arith, h, low.0));
  after = λ j h l. still j (omega (arith, h, end.1)) ∙ w.after j (omega (arith, h, end.0)) l;
}
  where
    still : (j : ℕ) → j ≢ k → odd_mode modes qs (i + 1) j ≡ odd_mode modes qs i j
    still j ne = odd-off (λ i. eqb (mode_listed modes qs i) j) i (ne_eqb (mode_listed modes qs i) j (λ q. ne (sym q ∙ sym e)))

-- ---- the bits that modes are asked for

-- a bit that is 0 or 1, as it is read
pub read_is : (x : ℕ) → x ≤ 1 → bit (eqb x 1) ≡ x
read_is x h = ⊎_elim (λ e. rw (eq-eqb x 1 e) (sym e)) (λ ne. rw (ne_eqb x 1 ne) (omega arith)) (cases_eq x 1)

-- a mode is asked for a bit, and for a one
pub is_asked : (o : Option Bool) → is_some o ≡ ltb 0 (mark_of o)
is_asked None = refl
is_asked (Some true) = refl
is_asked (Some false) = refl

pub asked_one : (o : Option Bool) → unwrap_or o false ≡ is_one (mark_of o)
asked_one None = refl
asked_one (Some true) = refl
asked_one (Some false) = refl

-- who is asked for nothing is asked for no one
pub unasked-one : (o : Option Bool) → ltb 0 (mark_of o) ≡ false → is_one (mark_of o) ≡ false
unasked-one None e = refl
unasked-one (Some true) e = e
unasked-one (Some false) e = refl

-- ---- a marginal: what a place without contradiction notes

module _ (m b : ℕ → ℕ) where
  pub noted_more : (i k : ℕ) → noted m b (i + 1) k ≡ cond (eqb (noted m b i k) 0 && eqb (m i) k) (suc (b i)) (noted m b i k)
  unfolding noted
  noted_more i k = rw add-one

  kept : (x y : ℕ) → conflicts_of x y ≡ false → cond (eqb x 0 && true) y x ≡ y
  kept x y e = by (cases_eq x 0)
    where
      by : (x ≡ 0) ⊎ (x ≢ 0) → cond (eqb x 0 && true) y x ≡ y
      by (inl q) = rw (eq-eqb x 0 q)
      by (inr q) =
          let above : ltb 0 x ≡ true = lt-ltb 0 x (omega arith) in
          rw (ne_eqb x 0 q) (eqb-true x y (not-false (eqb x y) (rw above at e)))

  -- of its own mode its bit, of others what was noted
  pub noted_here : (i k : ℕ) → k ≡ m i → contradicts m b i ≡ false → noted m b (i + 1) k ≡ suc (b i)
  noted_here i k e c =
      noted_more i k ∙ rw (eq-eqb (m i) k (sym e)) (kept (noted m b i k) (suc (b i)) (ap (λ k. conflicts_of (noted m b i k) (suc (b i))) e ∙ c))

  not-here : (x y : ℕ) (t : Bool) → cond (t && false) x y ≡ y
  not-here x y t = rw (and-false t)

  pub noted-there : (i k : ℕ) → k ≢ m i → noted m b (i + 1) k ≡ noted m b i k
  noted-there i k ne =
      noted_more i k ∙ rw (ne_eqb (m i) k (λ q. ne (sym q))) (not-here (suc (b i)) (noted m b i k) (eqb (noted m b i k) 0))

  pub note-turn : (n : ℕ) (asked : List (Option Bool)) (i k : ℕ) (x : Bool) → k < n → k ≡ m i → contradicts m b i ≡ false → bit x ≡ b i
      → Asked n (noted m b i) asked → Asked n (noted m b (i + 1)) (set asked k (Some x))
  note-turn n asked i k x h e c ex w =
      marked-set None mark_of n _ _ asked k (Some x) h w (ap suc ex ∙ sym (noted_here i k e c)) (λ j ne. noted-there i j (λ q. ne (q ∙ sym e)))

  -- of a mode that no place has, nothing is noted
  pub noted-none : (i k : ℕ) → ((j : ℕ) → j < i → m j ≢ k) → noted m b i k ≡ 0
  unfolding noted
  noted-none zero k h = refl
  noted-none (suc i) k h =
      rw (ne_eqb (m i) k (h i (omega arith))) (not-here (suc (b i)) (noted m b i k) (eqb (noted m b i k) 0))
      ∙ noted-none i k (λ j g. h j (omega arith))

  -- so there is no contradiction
  pub none-contradicts : (i : ℕ) → ((j : ℕ) → j < i → m j ≢ m i) → contradicts m b i ≡ false
  none-contradicts i h = rw (noted-none i (m i) h)

-- lists that are alike note the same
pub noted-alike : (m m' b b' : ℕ → ℕ) (i k : ℕ) → ((j : ℕ) → j < i → m j ≡ m' j) → ((j : ℕ) → j < i → b j ≡ b' j) → noted m b i k ≡ noted m' b' i k
unfolding noted
noted-alike m m' b b' zero k f g = refl
noted-alike m m' b b' (suc i) k f g =
    let n = noted-alike m m' b b' i k (λ j h. f j (omega arith)) (λ j h. g j (omega arith)) in
    λ t. cond (eqb (n t) 0 && eqb (f i (omega arith) t) k) (suc (g i (omega arith) t)) (n t)

-- ---- question 18

pub record Bits (qs bits : List ℕ) : Type 0 where
  pub many : length qs ≡ length bits
  pub small : (j : ℕ) → j < length bits → get_or bits j 0 ≤ 1

pub bits-asked : (qs bits : List ℕ) → bits_ok qs bits ≡ true → Bits qs bits
unfolding bits_ok
bits-asked qs bits e =
    let a = eqb (length qs) (length bits) in
    let ok = all_below (λ j. leb (get_or bits j 0) 1) (length bits) in record {
      many = eqb-true (length qs) (length bits) (and_parts a ok e).0;
      small = λ j h. leb-true (get_or bits j 0) 1 (all-each (λ j. leb (get_or bits j 0) 1) (length bits) j (and_parts a ok e).1 h);
    }

-- ---- the modes left

pub odd-left : (n : ℕ) (modes qs : List ℕ) (place : ℕ) (odd : List Bool) → place ≡ length qs → Odd n (odd_mode modes qs place) odd
    → passing (λ k. get_or odd k false) n ≡ odd_modes n modes qs
unfolding odd_modes
odd-left n modes qs place odd e w = passing-same _ _ n (λ k h. w.each k h ∙ ap (λ i. odd_mode modes qs i k) e)

-- as a list
pub passing-below : (n m : ℕ) (p : ℕ → Bool) (list : List ℕ) → n ≤ m → list ≡ passing p n → Below m list
passing-below n m p list more e = rw e (λ j h. omega (arith, (passing-ascends p n).below j h))
