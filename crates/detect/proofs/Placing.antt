-- Operations in a slice: each has its places, and what is written one after the other is written at once. Assumes nothing.
use mathlib.Core.Path.{◌≡◌, refl, sym, ap, ap₂, ◌∙◌}
use mathlib.Core.List.{List, [], ◌∷◌, ◌++◌, append_assoc, append-nil}
use Prim.Native.Nat.{ℕ, ◌+◌, ◌-◌, ◌*◌, ◌≤◌}
use native.Mathlib.Nat.{add-zero, zero-add, add_assoc}
use native.Mathlib.Omega.{arith}
use lib.ListN.{length, take, drop, length-append, length-drop}
use lib.Seq.{length-take-le, take_all, take_at, drop-append-add, drop-drop, paste, paste-zero}
use lib.Ieee.{Float}
use borrow.Rule.Slice.PartMut.{put_mid}
use Rattle.std.proofs.lemmas.List.{drop_all}
use Rattle.laws.specs.Bounds.{op_places}
use Rattle.detect.specs.Operation.{Operation, one, two, interaction, places_of, all_places, placed, Put}

-- ---- its places

pub length-places : (o : Operation) → length (places_of o) ≡ op_places
unfolding places_of
length-places (one k q) = refl
length-places (two k q) = refl
length-places (interaction k b j w) = refl

pub length-all : (os : List Operation) → length (all_places os) ≡ op_places * length os
unfolding all_places
length-all [] = refl
length-all (o ∷ os) = omega (arith, length-append (places_of o) (all_places os), length-places o, length-all os)

pub all_append : (a b : List Operation) → all_places (a ++ b) ≡ all_places a ++ all_places b
unfolding all_places
all_append [] b = refl
all_append (o ∷ a) b = ap (λ l. places_of o ++ l) (all_append a b) ∙ sym (append_assoc (places_of o) (all_places a) (all_places b))

-- ---- lists of floats

module _ (p : ℕ) (l : List Float) where
  pub placed-none : placed p [] l ≡ l
  placed-none = sym (paste-zero l p [])

  module _ (ys : List Float) (room : p + length ys ≤ length l) where
    head-length : length (take p l ++ ys) ≡ p + length ys
    head-length = length-append (take p l) ys ∙ ap (λ k. k + length ys) (length-take-le p l (omega arith))

    pub length-placed : length (placed p ys l) ≡ length l
    length-placed = omega (arith, length-append (take p l ++ ys) (drop (p + length ys) l), head-length, length-drop (p + length ys) l)

    placed-again : (zs : List Float) → placed (p + length ys) zs (placed p ys l) ≡ placed p (ys ++ zs) l
    placed-again zs =
        let first : take (p + length ys) (placed p ys l) ≡ take p l ++ ys = take_at (take p l ++ ys) (drop (p + length ys) l) (p + length ys) head-length in
        let rest : drop (p + length ys + length zs) (placed p ys l) ≡ drop (p + length (ys ++ zs)) l =
        ap (λ k. drop (k + length zs) (placed p ys l)) (sym head-length)
        ∙ drop-append-add (take p l ++ ys) (drop (p + length ys) l) (length zs)
        ∙ drop-drop (length zs) (p + length ys) l
        ∙ ap (λ k. drop k l) (add_assoc p (length ys) (length zs) ∙ ap (λ k. p + k) (sym (length-append ys zs))) in
        ap₂ (λ a b. a ++ zs ++ b) first rest ∙ ap (λ a. a ++ drop (p + length (ys ++ zs)) l) (append_assoc (take p l) ys zs)

paste-placed : (l x : List Float) (p : ℕ) → length x ≡ op_places → paste l p x op_places ≡ placed p x l
paste-placed l x p e = ap₂ (λ a k. take p l ++ a ++ drop (p + k) l) (take_all op_places x (omega (arith, e))) (sym e)

-- ---- operations

module _ (p : ℕ) (l : List Float) where
  pub put-none : Put [] p l l p
  unfolding all_places
  put-none = record { is = sym (placed-none p l); next = sym (add-zero p) }

  pub put_one : (o : Operation) (m x : List Float) → x ≡ places_of o → m ≡ paste l p x op_places → Put (o ∷ []) p l m (p + op_places)
  unfolding all_places
  put_one o m x e h = record {
    is = h ∙ ap (λ x. paste l p x op_places) e ∙ paste-placed l (places_of o) p (length-places o) ∙ ap (λ x. placed p x l) (sym (append-nil (places_of o)));
    next = ap (λ k. p + k) (sym (length-places o) ∙ ap length (sym (append-nil (places_of o))));
  }

  module _ (a : List Operation) (m : List Float) (r : ℕ) (f : Put a p l m r) (room : p + length (all_places a) ≤ length l) where
    pub put-length : length m ≡ length l
    put-length = ap length f.is ∙ length-placed p l (all_places a) room

    pub put_then : (b : List Operation) (m' : List Float) (s : ℕ) → Put b r m m' s → Put (a ++ b) p l m' s
    put_then b m' s g = record {
      is =
          g.is ∙ ap₂ (λ k t. placed k (all_places b) t) f.next f.is ∙ placed-again p l (all_places a) room (all_places b)
          ∙ ap (λ y. placed p y l) (sym (all_append a b));
      next =
          g.next ∙ ap (λ k. k + length (all_places b)) f.next ∙ add_assoc p (length (all_places a)) (length (all_places b))
          ∙ ap (λ k. p + k) (sym (length-append (all_places a) (all_places b)) ∙ ap length (sym (all_append a b)));
    }

-- ---- room

pub one-long : (o : Operation) → length (all_places (o ∷ [])) ≡ op_places
one-long o = length-all (o ∷ [])

module _ (p : ℕ) (l : List Float) (a b : List Operation) (room : p + length (all_places (a ++ b)) ≤ length l) where
  split : length (all_places (a ++ b)) ≡ length (all_places a) + length (all_places b)
  split = ap length (all_append a b) ∙ length-append (all_places a) (all_places b)

  pub first-room : p + length (all_places a) ≤ length l
  first-room = omega (arith, room, split)

  pub next-room : (m : List Float) (r : ℕ) → Put a p l m r → r + length (all_places b) ≤ length m
  next-room m r f = omega (arith, room, split, f.next, put-length p l a m r f first-room)

  pub put_both : (m m' : List Float) (r s : ℕ) → Put a p l m r → Put b r m m' s → Put (a ++ b) p l m' s
  put_both m m' r s f g = put_then p l a m r f first-room b m' s g

-- ---- on the rest of a slice

module _ (p : ℕ) (l : List Float) where
  abbrev pub rest_of : List Float
  rest_of = take (length l - p) (drop p l)

  module _ (h : p ≤ length l) where
    rest-long : length (drop p l) ≡ length l - p
    rest-long = length-drop p l

    rest-is : rest_of ≡ drop p l
    rest-is = take_all (length l - p) (drop p l) (omega (arith, rest-long))

    pub rest-length : length rest_of ≡ length l - p
    rest-length = ap length rest-is ∙ rest-long

    rest-placed : (xs : List Float) → placed 0 xs rest_of ≡ xs ++ drop (length xs) (drop p l)
    rest-placed xs = ap (λ z. placed 0 xs z) rest-is ∙ ap (λ k. xs ++ drop k (drop p l)) (zero-add (length xs))

    -- what is written at the front of the rest is written from p on
    pub put_rest : {os : List Operation} {m : List Float} {r : ℕ} → Put os 0 rest_of m r → Put os p l (put_mid p (length l - p) l m) (p + r)
    put_rest {os = os} {m = m} f =
        let xs = all_places os in
        record {
          is =
              ap (λ z. take p l ++ (m ++ z)) (drop_all (length l - p) (drop p l) (omega (arith, rest-long)))
              ∙ ap (λ z. take p l ++ z) (append-nil m ∙ f.is ∙ rest-placed xs)
              ∙ sym (append_assoc (take p l) xs (drop (length xs) (drop p l)))
              ∙ ap (λ z. take p l ++ xs ++ z) (drop-drop (length xs) p l);
          next = ap (λ k. p + k) (f.next ∙ zero-add (length xs));
        }

-- operations at the front, and then others on the rest
module _ (l : List Float) (a b : List Operation) (room : length (all_places (a ++ b)) ≤ length l) where
  all-room : 0 + length (all_places (a ++ b)) ≤ length l
  all-room = omega (arith, room)

  pub front-room : length (all_places a) ≤ length l
  front-room = omega (arith, first-room 0 l a b all-room)

  module _ {m : List Float} {p : ℕ} (f : Put a 0 l m p) where
    pub rest-there : p + length (all_places b) ≤ length m
    rest-there = next-room 0 l a b all-room m p f

    there : p ≤ length m
    there = omega (arith, rest-there)

    pub rest-room : length (all_places b) ≤ length (rest_of p m)
    rest-room = omega (arith, rest-there, rest-length p m there)

    pub put_next : {m' : List Float} {s : ℕ} → Put b 0 (rest_of p m) m' s → Put (a ++ b) 0 l (put_mid p (length m - p) m m') (p + s)
    put_next {m' = m'} {s = s} g = put_both 0 l a b all-room m (put_mid p (length m - p) m m') p (p + s) f (put_rest p m there g)
