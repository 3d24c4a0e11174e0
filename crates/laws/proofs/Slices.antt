-- Laws of what code makes of a slice: reads, a part that is lent and comes back, a loop's turns, a first part made anew. By induction on the list.
-- Assumes nothing.
use mathlib.Core.Path.{◌≡◌, refl, sym, ap, ◌∙◌}
use mathlib.Core.Logic.{◌⊎◌, inl, inr}
use mathlib.Core.List.{List, [], ◌∷◌, ◌++◌, map, append-nil}
use Prim.Native.Nat.{ℕ, zero, suc, ◌+◌, ◌-◌, ◌≤◌, ◌<◌}
use native.Mathlib.Nat.{le_refl, le_antisymm, le_of_suc-le-suc, not-suc-le-zero, zero-add, add-sub_cancel_left}
use native.Mathlib.Numerals.{add-one}
use native.Mathlib.Omega.{arith}
use lib.ListN.{length, get_or, take, drop, set, length-map, length-drop, get_or-append}
use lib.Seq.{sets, sets-eq, drop-length, length-take-le, get_or-take, get_or-drop, get_or-append-add, ext_get_or}
use borrow.Rule.Slice.PartMut.{put_mid, mid_len, same_len_mid}
use Rattle.laws.specs.Slices.{on_part, turns, mapped_to, filled}
use Rattle.std.proofs.lemmas.Bool.{cases_lt}

-- ---- reads and stores

-- where every place is stored to, what was there before is gone
pub all_set : {A : Type 0} (l vs : List A) → length l ≡ length vs → sets l 0 vs ≡ vs
all_set l vs e =
    sets-eq vs l 0 (omega arith) ∙ ap (λ k. vs ++ drop k l) (zero-add (length vs) ∙ sym e) ∙ rw drop-length (append-nil vs)

-- ---- a part that is lent and comes back: `&mut l[a..a + k]`

module _ {A : Type 0} (a k : ℕ) (l : List A) where
  -- it has k places
  pub part_length : a + k ≤ length l → length (take (a + k - a) (drop a l)) ≡ k
  part_length h = mid_len a (a + k) l h ∙ add-sub_cancel_left a k

  -- its place j is the whole's place a + j
  pub part_at : (d : A) (j : ℕ) → j < k → get_or (take k (drop a l)) j d ≡ get_or l (a + j) d
  part_at d j h = get_or-take k (drop a l) j d h ∙ get_or-drop a l j d

  -- what the callee made of it, said of the whole
  pub part-back : (f : List A → List A) (ys : List A) → ys ≡ f (take (a + k - a) (drop a l)) → put_mid a (a + k - a) l ys ≡ on_part a k f l
  unfolding on_part
  part-back f ys e = rw (e, add-sub_cancel_left a k)

-- the whole when k elements ys are put in the part's place
module _ {A : Type 0} (a k : ℕ) (l ys : List A) (d : A) (fit : a + k ≤ length l) (len : length ys ≡ k) where
  head : length (take a l) ≡ a
  head = length-take-le a l (omega arith)

  pub length-put : length (put_mid a k l ys) ≡ length l
  length-put = same_len_mid a k l ys (len ∙ sym (length-take-le k (drop a l) (rw length-drop (omega arith))))

  pub put-before : (i : ℕ) → i < a → get_or (put_mid a k l ys) i d ≡ get_or l i d
  put-before i h = get_or-append (take a l) (ys ++ drop k (drop a l)) d i (rw head h) ∙ get_or-take a l i d h

  pub put-inside : (j : ℕ) → j < k → get_or (put_mid a k l ys) (a + j) d ≡ get_or ys j d
  put-inside j h =
      ap (λ n. get_or (put_mid a k l ys) (n + j) d) (sym head)
      ∙ get_or-append-add (take a l) (ys ++ drop k (drop a l)) j d
      ∙ get_or-append ys (drop k (drop a l)) d j (rw len h)

  pub put-after : (i : ℕ) → a + k ≤ i → get_or (put_mid a k l ys) i d ≡ get_or l i d
  put-after i h =
      let e : i ≡ a + (k + (i - (a + k))) = omega arith in
      ap (λ n. get_or (put_mid a k l ys) n d) e
      ∙ ap (λ n. get_or (put_mid a k l ys) (n + (k + (i - (a + k)))) d) (sym head)
      ∙ get_or-append-add (take a l) (ys ++ drop k (drop a l)) (k + (i - (a + k))) d
      ∙ ap (λ n. get_or (ys ++ drop k (drop a l)) (n + (i - (a + k))) d) (sym len)
      ∙ get_or-append-add ys (drop k (drop a l)) (i - (a + k)) d
      ∙ get_or-drop k (drop a l) (i - (a + k)) d
      ∙ get_or-drop a l (k + (i - (a + k))) d
      ∙ ap (λ n. get_or l n d) (sym e)

-- ---- a loop's turns

module _ {A : Type 0} (f : ℕ → A → A) where
  pub turn : (n : ℕ) (a : A) → turns f (n + 1) a ≡ f n (turns f n a)
  unfolding turns
  turn n a = rw add-one

  -- one turn more
  pub turn_more : (n : ℕ) (a b b' : A) → b' ≡ f n b → b ≡ turns f n a → b' ≡ turns f (n + 1) a
  turn_more n a b b' s e = s ∙ ap (f n) e ∙ sym (turn n a)

  -- the loop's end
  pub turned : (i n : ℕ) (a b : A) → i ≤ n → n ≤ i → b ≡ turns f i a → b ≡ turns f n a
  turned i n a b h g e = e ∙ ap (λ n. turns f n a) (le_antisymm h g)

-- ---- a loop that makes each element anew, from the front. `filled` is the case of a constant

module _ {A : Type 0} (f : A → A) where
  pub mapped-none : (l : List A) → l ≡ mapped_to f 0 l
  unfolding mapped_to
  mapped-none l = refl

  pub length-mapped : (n : ℕ) (l : List A) → length (mapped_to f n l) ≡ length l
  unfolding mapped_to
  length-mapped zero l = refl
  length-mapped (suc n) [] = refl
  length-mapped (suc n) (x ∷ l) = ap suc (length-mapped n l)

  -- an element that is done, and one that is not
  pub mapped-done : (n : ℕ) (l : List A) (i : ℕ) (d : A) → i < n → i < length l → get_or (mapped_to f n l) i d ≡ f (get_or l i d)
  unfolding mapped_to
  mapped-done zero l i d h g = absurd (not-suc-le-zero h)
  mapped-done (suc n) [] i d h g = absurd (not-suc-le-zero g)
  mapped-done (suc n) (x ∷ l) zero d h g = refl
  mapped-done (suc n) (x ∷ l) (suc i) d h g = mapped-done n l i d (le_of_suc-le-suc h) (le_of_suc-le-suc g)

  pub mapped-left : (n : ℕ) (l : List A) (i : ℕ) (d : A) → n ≤ i → get_or (mapped_to f n l) i d ≡ get_or l i d
  unfolding mapped_to
  mapped-left zero l i d h = refl
  mapped-left (suc n) [] i d h = refl
  mapped-left (suc n) (x ∷ l) zero d h = absurd (not-suc-le-zero h)
  mapped-left (suc n) (x ∷ l) (suc i) d h = mapped-left n l i d (le_of_suc-le-suc h)

  set-mapped : (n : ℕ) (d : A) (l : List A) → n < length l → set (mapped_to f n l) n (f (get_or l n d)) ≡ mapped_to f (suc n) l
  unfolding mapped_to
  set-mapped n d [] h = absurd (not-suc-le-zero h)
  set-mapped zero d (x ∷ l) h = refl
  set-mapped (suc n) d (x ∷ l) h = ap (λ t. f x ∷ t) (set-mapped n d l (le_of_suc-le-suc h))

  -- one turn more: what is stored is f of the element that is there
  pub mapped-more : (n : ℕ) (d : A) (l m : List A) (v : A) → n < length l → m ≡ mapped_to f n l → v ≡ f (get_or m n d) → set m n v ≡ mapped_to f (n + 1) l
  mapped-more n d l m v h e s =
      rw (s ∙ ap (λ t. f (get_or t n d)) e ∙ ap f (mapped-left n l n d (le_refl n)), e, add-one n) (set-mapped n d l h)

  -- the loop's end, at n or at the list's
  pub mapped_end : (i n : ℕ) (l m : List A) → i ≤ n → n ≤ i → m ≡ mapped_to f i l → m ≡ mapped_to f n l
  mapped_end i n l m h g e = e ∙ ap (λ k. mapped_to f k l) (le_antisymm h g)

  pub mapped-all : (n : ℕ) (l : List A) → length l ≤ n → mapped_to f n l ≡ map f l
  unfolding mapped_to
  mapped-all zero [] h = refl
  mapped-all zero (x ∷ l) h = absurd (not-suc-le-zero h)
  mapped-all (suc n) [] h = refl
  mapped-all (suc n) (x ∷ l) h = ap (λ t. f x ∷ t) (mapped-all n l (le_of_suc-le-suc h))

-- what was in the first n places does not matter to what is filled there
pub filled-over : {A : Type 0} (n : ℕ) (v d : A) (l m : List A) → length m ≡ length l → ((i : ℕ) → n ≤ i → get_or m i d ≡ get_or l i d) → filled n v m ≡ filled n v l
filled-over {A = A} n v d l m e h = ext_get_or d (filled n v m) (filled n v l) (long m ∙ e ∙ sym (long l)) (λ i g. one i (rw (long m) at g) (cases_lt i n))
  where
    long : (l : List A) → length (filled n v l) ≡ length l
    long l = length-mapped (λ x. v) n l

    one : (i : ℕ) → i < length m → (i < n) ⊎ (n ≤ i) → get_or (filled n v m) i d ≡ get_or (filled n v l) i d
    one i g (inl k) = mapped-done (λ x. v) n m i d k g ∙ sym (mapped-done (λ x. v) n l i d k (rw e at g))
    one i g (inr k) = mapped-left (λ x. v) n m i d k ∙ h i k ∙ sym (mapped-left (λ x. v) n l i d k)

-- ---- a part of which each element is made anew

module _ {A : Type 0} (f : A → A) (a k : ℕ) (l : List A) (d : A) (fit : a + k ≤ length l) where
  part : List A
  part = take k (drop a l)

  long : length part ≡ k
  unfolding part
  long = length-take-le k (drop a l) (simp length-drop (omega (arith, fit)))

  len : length (map f part) ≡ k
  len = length-map part f ∙ long

  pub mapped_part-long : length (on_part a k (map f) l) ≡ length l
  unfolding on_part part
  mapped_part-long = length-put a k l (map f part) d fit len

  pub mapped_part-before : (i : ℕ) → i < a → get_or (on_part a k (map f) l) i d ≡ get_or l i d
  unfolding on_part part
  mapped_part-before = put-before a k l (map f part) d fit len

  pub mapped_part-inside : (j : ℕ) → j < k → get_or (on_part a k (map f) l) (a + j) d ≡ f (get_or l (a + j) d)
  unfolding on_part part
  mapped_part-inside j b =
      put-inside a k l (map f part) d fit len j b
      ∙ ap (λ m. get_or m j d) (sym (mapped-all f k part (omega (arith, long))))
      ∙ mapped-done f k part j d b (omega (arith, long))
      ∙ ap f (part_at a k l d j b)

  pub mapped_part-after : (i : ℕ) → a + k ≤ i → get_or (on_part a k (map f) l) i d ≡ get_or l i d
  unfolding on_part part
  mapped_part-after = put-after a k l (map f part) d fit len
