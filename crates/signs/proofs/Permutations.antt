-- Blocks that send Majorana operators to signed Majorana operators, by rows. The rows of a block have different columns, since the operators
-- anticommute; and the parity Z, or Z Z, of the block's modes takes the sign of the permutation: the number of minus signs and of inversions.
-- By computed tests over all rows. Assumes nothing.
use mathlib.Core.Path.{◌≡◌, refl, sym, ap, ◌∙◌, subst}
use mathlib.Core.Bool.{Bool, true, false, not, xor, ◌&&◌, ◌||◌}
use Prim.Native.Nat.{ℕ}
use lib.Dec.{T, eqb, ltb}
use lib.Ieee.Fits.{and_i, and_l, and_r}
use Rattle.laws.specs.Phase.{Phase, i0, i1, i2, i3, ◌⊕◌}
use Rattle.laws.proofs.Phases.{assoc, Sums, no-phase, eq_phase, eq_phase→, eq_phase-refl}
use Rattle.signs.specs.Paulis.{sgn, p_i, p_z, pr, ph}
use Rattle.signs.specs.Blocks.{One, Two, ◌·₁◌, ◌·◌, front₁, front, Block₁, Block}
use Rattle.signs.specs.Majoranas.{maj₁, maj, Four, c0, c1, c2, c3, num₁, num, Row, image₁, image, Sends₁, Sends}
use Rattle.signs.proofs.Tables.{four, same_pauli, same-pauli, pauli-refl, pr-comm}
use Rattle.signs.proofs.Tables.{pr-square, ph-square}

-- ---- tests over all rows

abbrev pub row : {C : Type 0} → Bool → C → Row C
row s c = record { minus = s; col = c }

abbrev all4 : (Four → Bool) → Bool
all4 f = f c0 && f c1 && f c2 && f c3

all4→ : (f : Four → Bool) → T (all4 f) → (c : Four) → T (f c)
all4→ f h c0 = (four (f c0) (f c1) (f c2) (f c3) h).0
all4→ f h c1 = (four (f c0) (f c1) (f c2) (f c3) h).1
all4→ f h c2 = (four (f c0) (f c1) (f c2) (f c3) h).2
all4→ f h c3 = (four (f c0) (f c1) (f c2) (f c3) h).3

abbrev all2 : (Bool → Bool) → Bool
all2 f = f false && f true

all2→ : (f : Bool → Bool) → T (all2 f) → (c : Bool) → T (f c)
all2→ f h false = and_l (f false) (f true) h
all2→ f h true = and_r (f false) (f true) h

abbrev pub all_rows₁ : (Row Bool → Bool) → Bool
all_rows₁ f = all2 (λ s. all2 (λ c. f (row s c)))

pub all_rows₁→ : (f : Row Bool → Bool) → T (all_rows₁ f) → (r : Row Bool) → T (f r)
all_rows₁→ f h r = all2→ (λ c. f (row r.minus c)) (all2→ (λ s. all2 (λ c. f (row s c))) h r.minus) r.col

abbrev pub all_rows : (Row Four → Bool) → Bool
all_rows f = all2 (λ s. all4 (λ c. f (row s c)))

pub all_rows→ : (f : Row Four → Bool) → T (all_rows f) → (r : Row Four) → T (f r)
all_rows→ f h r = all4→ (λ c. f (row r.minus c)) (all2→ (λ s. all4 (λ c. f (row s c))) h r.minus) r.col

-- two rows, and four of them
abbrev pub two_rows₁ : (Row Bool → Row Bool → Bool) → Bool
two_rows₁ f = all_rows₁ (λ r. all_rows₁ (f r))

pub two_rows₁→ : (f : Row Bool → Row Bool → Bool) → T (two_rows₁ f) → (r s : Row Bool) → T (f r s)
two_rows₁→ f h r = all_rows₁→ (f r) (all_rows₁→ (λ r. all_rows₁ (f r)) h r)

abbrev pub two_rows : (Row Four → Row Four → Bool) → Bool
two_rows f = all_rows (λ r. all_rows (f r))

pub two_rows→ : (f : Row Four → Row Four → Bool) → T (two_rows f) → (r s : Row Four) → T (f r s)
two_rows→ f h r = all_rows→ (f r) (all_rows→ (λ r. all_rows (f r)) h r)

abbrev pub four_rows : (Row Four → Row Four → Row Four → Row Four → Bool) → Bool
four_rows f = two_rows (λ r s. two_rows (f r s))

pub four_rows→ : (f : Row Four → Row Four → Row Four → Row Four → Bool) → T (four_rows f) → (r s t u : Row Four) → T (f r s t u)
four_rows→ f h r s = two_rows→ (f r s) (two_rows→ (λ r s. two_rows (f r s)) h r s)

-- a implies b
abbrev pub implies : Bool → Bool → Bool
implies a b = not a || b

pub by-implies : (a b : Bool) → T (implies a b) → T a → T b
by-implies true b h k = h
by-implies false b h k = absurd k

abbrev pub same_one : One → One → Bool
same_one x y = eq_phase x.phase y.phase && same_pauli x.at y.at

pub same-one : (x y : One) → T (same_one x y) → x ≡ y
same-one x y h =
    let a = eq_phase x.phase y.phase in
    let b = same_pauli x.at y.at in
    λ i. record { phase = eq_phase→ x.phase y.phase (and_l a b h) i; at = same-pauli x.at y.at (and_r a b h) i }

abbrev pub same_two : Two → Two → Bool
same_two x y = eq_phase x.phase y.phase && same_pauli x.first y.first && same_pauli x.second y.second

pub same-two : (x y : Two) → T (same_two x y) → x ≡ y
same-two x y h =
    let a = eq_phase x.phase y.phase in
    let b = same_pauli x.first y.first in
    let c = same_pauli x.second y.second in
    λ i. record {
      phase = eq_phase→ x.phase y.phase (and_l a b (and_l (a && b) c h)) i;
      first = same-pauli x.first y.first (and_r a b (and_l (a && b) c h)) i;
      second = same-pauli x.second y.second (and_r (a && b) c h) i;
    }

-- ---- the sign of a signed permutation: the number of minus signs and of inversions, odd or even

module _ {C : Type 0} (number : C → ℕ) where
  -- the columns differ
  abbrev pub differ : Row C → Row C → Bool
  differ r s = not (eqb (number r.col) (number s.col))

  -- the columns are in the wrong order
  abbrev pub inverted : Row C → Row C → Bool
  inverted r s = ltb (number s.col) (number r.col)

abbrev pub odd₁ : Row Bool → Row Bool → Bool
odd₁ r s = xor (xor r.minus s.minus) (inverted num₁ r s)

abbrev pub odd : Row Four → Row Four → Row Four → Row Four → Bool
odd r s t u =
    xor (xor (xor r.minus s.minus) (xor t.minus u.minus))
    (xor (xor (inverted num r s) (xor (inverted num r t) (inverted num r u))) (xor (inverted num s t) (xor (inverted num s u) (inverted num t u))))

abbrev pub distinct : Row Four → Row Four → Row Four → Row Four → Bool
distinct r s t u = differ num r s && differ num r t && differ num r u && (differ num s t && differ num s u && differ num t u)

-- ---- the product of the images is the parity, with that sign: i Z is X Y, and -(Z Z) is X I, Y I, Z X, Z Y

abbrev signed_z : Bool → One
signed_z b = record { phase = sgn b; at = p_z }

abbrev signed_zz : Bool → Two
signed_zz b = record { phase = sgn b; first = p_z; second = p_z }

abbrev product₁ : Row Bool → Row Bool → One
product₁ r s = front₁ i3 (image₁ r ·₁ image₁ s)

abbrev product : Row Four → Row Four → Row Four → Row Four → Two
product r s t u = front i2 (image r · image s · (image t · image u))

abbrev right₁ : Row Bool → Row Bool → Bool
right₁ r s = implies (differ num₁ r s) (same_one (product₁ r s) (signed_z (odd₁ r s)))

abbrev right : Row Four → Row Four → Row Four → Row Four → Bool
right r s t u = implies (distinct r s t u) (same_two (product r s t u) (signed_zz (odd r s t u)))

every₁ : T (two_rows₁ right₁)
unfolding xor
every₁ = tt

every : T (four_rows right)
unfolding xor
every = tt

-- of each outcome one: even by nothing, odd by a minus sign, odd by an inversion, even by both, and rows that are not distinct
outcomes : (odd (row false c0) (row false c1) (row false c2) (row false c3) ≡ false)
    × (odd (row true c0) (row false c1) (row false c2) (row false c3) ≡ true)
    × (odd (row false c0) (row false c2) (row false c1) (row false c3) ≡ true)
    × (odd (row false c0) (row true c2) (row false c1) (row false c3) ≡ false)
    × (distinct (row false c0) (row true c0) (row false c1) (row false c3) ≡ false)
    × (same_two (product (row true c0) (row false c1) (row false c2) (row false c3)) (signed_zz false) ≡ false)
    × (same_two (product (row true c0) (row false c1) (row false c2) (row false c3)) (signed_zz true) ≡ true)
    × (same_one (product₁ (row false true) (row false false)) (signed_z false) ≡ false)
unfolding xor
outcomes = (refl, refl, refl, refl, refl, refl, refl, refl)

pub product-is₁ : (r s : Row Bool) → T (differ num₁ r s) → product₁ r s ≡ signed_z (odd₁ r s)
product-is₁ r s d =
    same-one (product₁ r s) (signed_z (odd₁ r s))
    (by-implies (differ num₁ r s) (same_one (product₁ r s) (signed_z (odd₁ r s)))
    (two_rows₁→ right₁ every₁ r s) d)

pub product_is : (r s t u : Row Four) → T (distinct r s t u) → product r s t u ≡ signed_zz (odd r s t u)
product_is r s t u d =
    same-two (product r s t u) (signed_zz (odd r s t u))
    (by-implies (distinct r s t u) (same_two (product r s t u) (signed_zz (odd r s t u))) (four_rows→ right every r s t u) d)

-- ---- what anticommutes has different columns

abbrev anti₁ : Row Bool → Row Bool → Bool
anti₁ r s = implies (same_one (image₁ r ·₁ image₁ s) (front₁ i2 (image₁ s ·₁ image₁ r))) (differ num₁ r s)

abbrev anti : Row Four → Row Four → Bool
anti r s = implies (same_two (image r · image s) (front i2 (image s · image r))) (differ num r s)

every-anti₁ : T (two_rows₁ anti₁)
every-anti₁ = tt

every-anti : T (two_rows anti)
every-anti = tt

-- both outcomes
anti-outcomes : (same_two (image (row false c0) · image (row true c0)) (front i2 (image (row true c0) · image (row false c0))) ≡ false)
    × (same_two (image (row false c0) · image (row true c3)) (front i2 (image (row true c3) · image (row false c0))) ≡ true)
anti-outcomes = (refl, refl)

one-refl : (x : One) → T (same_one x x)
one-refl x = and_i (eq_phase x.phase x.phase) (same_pauli x.at x.at) (eq_phase-refl x.phase) (pauli-refl x.at)

two-refl : (x : Two) → T (same_two x x)
two-refl x =
    and_i (eq_phase x.phase x.phase && same_pauli x.first x.first) (same_pauli x.second x.second)
    (and_i (eq_phase x.phase x.phase) (same_pauli x.first x.first) (eq_phase-refl x.phase) (pauli-refl x.first))
    (pauli-refl x.second)

anti-differ₁ : (r s : Row Bool) → image₁ r ·₁ image₁ s ≡ front₁ i2 (image₁ s ·₁ image₁ r) → T (differ num₁ r s)
anti-differ₁ r s e =
    by-implies (same_one (image₁ r ·₁ image₁ s) (front₁ i2 (image₁ s ·₁ image₁ r))) (differ num₁ r s)
    (two_rows₁→ anti₁ every-anti₁ r s)
    (subst (λ x. T (same_one (image₁ r ·₁ image₁ s) x)) e (one-refl (image₁ r ·₁ image₁ s)))

anti-differ : (r s : Row Four) → image r · image s ≡ front i2 (image s · image r) → T (differ num r s)
anti-differ r s e =
    by-implies (same_two (image r · image s) (front i2 (image s · image r))) (differ num r s)
    (two_rows→ anti every-anti r s)
    (subst (λ x. T (same_two (image r · image s) x)) e (two-refl (image r · image s)))

-- ---- I stays I

pub none₁ : (g : Block₁) → g.to p_i ≡ record { phase = i0; at = p_i }
none₁ g =
    let x = g.to p_i in
    let e = g.hom p_i p_i in
    λ i. record {
      phase = no-phase x.phase (ph x.at x.at) (ph-square x.at) (ap (λ y. y.phase) e) i;
      at = (ap (λ y. y.at) e ∙ pr-square x.at) i;
    }

pub none : (g : Block) → g.to p_i p_i ≡ record { phase = i0; first = p_i; second = p_i }
none g =
    let x = g.to p_i p_i in
    let e = g.hom p_i p_i p_i p_i in
    λ i. record {
      phase = no-phase x.phase (ph x.first x.first ⊕ ph x.second x.second) (λ j. ph-square x.first j ⊕ ph-square x.second j)
          (ap (λ y. y.phase) e) i;
      first = (ap (λ y. y.first) e ∙ pr-square x.first) i;
      second = (ap (λ y. y.second) e ∙ pr-square x.second) i;
    }

-- ---- a block and its rows

front-front₁ : (a b : Phase) (x : One) → front₁ a (front₁ b x) ≡ front₁ (a ⊕ b) x
front-front₁ a b x = λ i. record { phase = sym (assoc a b x.phase) i; at = x.at }

front-front : (a b : Phase) (x : Two) → front a (front b x) ≡ front (a ⊕ b) x
front-front a b x = λ i. record { phase = sym (assoc a b x.phase) i; first = x.first; second = x.second }

front-mul : (a b : Phase) (x y : Two) → front a x · front b y ≡ front (a ⊕ b) (x · y)
front-mul a b x y =
    λ i. record {
      phase = move a b x.phase y.phase (ph x.first y.first ⊕ ph x.second y.second) i;
      first = pr x.first y.first;
      second = pr x.second y.second;
    }
  where
    move : (a b x y z : Phase) → a ⊕ x ⊕ (b ⊕ y) ⊕ z ≡ a ⊕ b ⊕ (x ⊕ y ⊕ z)
    move a b x y z = simp Sums

module _ (g : Block₁) (rows : Bool → Row Bool) (h : Sends₁ g rows) where
  images₁ : (c d : Bool) → image₁ (rows c) ·₁ image₁ (rows d) ≡ front₁ (ph (maj₁ c).at (maj₁ d).at) (g.to (pr (maj₁ c).at (maj₁ d).at))
  images₁ c d = (λ i. sym (h c) i ·₁ sym (h d) i) ∙ sym (g.hom (maj₁ c).at (maj₁ d).at)

  pub distinct₁ : T (differ num₁ (rows false) (rows true))
  distinct₁ =
      anti-differ₁ (rows false) (rows true)
      (images₁ false true ∙ sym (front-front₁ i2 i3 (g.to p_z)) ∙ ap (front₁ i2) (sym (images₁ true false)))

  -- Z takes the sign of the permutation
  pub parity₁ : g.to p_z ≡ signed_z (odd₁ (rows false) (rows true))
  parity₁ = sym (front-front₁ i3 i1 (g.to p_z)) ∙ ap (front₁ i3) (sym (images₁ false true)) ∙ product-is₁ (rows false) (rows true) distinct₁

module _ (g : Block) (rows : Four → Row Four) (h : Sends g rows) where
  abbrev at : Four → Two
  at c = g.to (maj c).first (maj c).second

  images : (c d : Four) → image (rows c) · image (rows d)
      ≡ front (ph (maj c).first (maj d).first ⊕ ph (maj c).second (maj d).second)
      (g.to (pr (maj c).first (maj d).first) (pr (maj c).second (maj d).second))
  images c d = (λ i. sym (h c) i · sym (h d) i) ∙ sym (g.hom (maj c).first (maj c).second (maj d).first (maj d).second)

  -- one after the other, and the other way round
  apart : (c d : Four) → (k : Phase) → ph (maj c).first (maj d).first ⊕ ph (maj c).second (maj d).second ≡ i2 ⊕ k
      → ph (maj d).first (maj c).first ⊕ ph (maj d).second (maj c).second ≡ k
      → T (differ num (rows c) (rows d))
  apart c d k e e' =
      anti-differ (rows c) (rows d)
      (images c d
      ∙ (λ i. front (e i) (g.to (pr-comm (maj c).first (maj d).first i) (pr-comm (maj c).second (maj d).second i)))
      ∙ sym (front-front i2 k (g.to (pr (maj d).first (maj c).first) (pr (maj d).second (maj c).second)))
      ∙ ap (front i2) ((λ i. front (sym e' i) (g.to (pr (maj d).first (maj c).first) (pr (maj d).second (maj c).second))) ∙ sym (images d c)))

  pub distinct-rows : T (distinct (rows c0) (rows c1) (rows c2) (rows c3))
  distinct-rows =
      let D : Four → Four → Bool = λ c d. differ num (rows c) (rows d) in
      let A = D c0 c1 && D c0 c2 in
      let B = D c1 c2 && D c1 c3 in
      and_i (A && D c0 c3) (B && D c2 c3)
      (and_i A (D c0 c3) (and_i (D c0 c1) (D c0 c2) (apart c0 c1 i3 refl refl) (apart c0 c2 i1 refl refl)) (apart c0 c3 i1 refl refl))
      (and_i B (D c2 c3) (and_i (D c1 c2) (D c1 c3) (apart c1 c2 i3 refl refl) (apart c1 c3 i3 refl refl)) (apart c2 c3 i3 refl refl))

  -- Z Z takes the sign of the permutation
  pub parity : g.to p_z p_z ≡ signed_zz (odd (rows c0) (rows c1) (rows c2) (rows c3))
  parity =
      sym (front-front i2 i2 (g.to p_z p_z))
      ∙ ap (λ x. front i2 (front i2 x)) (g.hom p_z p_i p_i p_z)
      ∙ ap (front i2) (sym (front-mul i1 i1 (g.to p_z p_i) (g.to p_i p_z)) ∙ (λ i. sym (images c0 c1) i · sym (images c2 c3) i))
      ∙ product_is (rows c0) (rows c1) (rows c2) (rows c3) distinct-rows
