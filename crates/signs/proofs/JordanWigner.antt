-- Jordan-Wigner: a block that sends its own Majorana operators to signed ones of its own by rows (`local`) leaves every earlier one alone (`earlier`)
-- and sends every later one to itself with the sign of the permutation (`later`). So the sign turn of the later modes is derived here, from
-- blocks that touch their own modes only. Assumes nothing.
use mathlib.Core.Path.{◌≡◌, refl, sym, ap, ◌∙◌}
use mathlib.Core.Logic.{◌⊎◌, inl, inr, ◌≢◌, ⊎_elim}
use mathlib.Core.Bool.{Bool, true, false, cond}
use Prim.Native.Nat.{ℕ, ◌+◌, ◌*◌, ◌/◌, ◌%◌, ◌≤◌, ◌<◌}
use native.Mathlib.Nat.{le_refl}
use native.Mathlib.Omega.{arith}
use lib.Dec.{eqb, ltb}
use borrow.Author.Tests.{eq-eqb, ne_eqb, lt-ltb, le-ltb}
use Rattle.laws.specs.Tables.{update}
use Rattle.laws.specs.Phase.{i0, ◌⊕◌}
use Rattle.std.proofs.lemmas.Bool.{cases_lt, cases_eq}
use Rattle.laws.proofs.Tables.{update_here, two-first, two-second, by_two}
use Rattle.laws.proofs.Phases.{comm}
use Rattle.signs.specs.Paulis.{sgn, Pauli, p_i, p_x, p_y, p_z, Str, signed, identity}
use Rattle.signs.specs.Blocks.{One, Two, Block₁, Block, on₁, on}
use Rattle.signs.specs.Majoranas.{xy, major, gamma, maj₁, maj, Four, c0, c1, c2, c3, num₁, num, Row, Sends₁, Sends}
use Rattle.signs.proofs.Permutations.{odd₁, odd, none₁, none, parity₁, parity}

-- ---- what stands where in a Majorana operator

module _ (j : ℕ) (y : Bool) (w : ℕ) where
  pub before : w < j → (major j y).at w ≡ p_z
  before h = rw (lt-ltb w j h)

  pub here : w ≡ j → (major j y).at w ≡ xy y
  here e = rw (le-ltb w j (omega arith), eq-eqb w j e)

  pub beyond : j < w → (major j y).at w ≡ p_i
  beyond h = rw (le-ltb w j (omega arith), ne_eqb w j (λ e. omega arith))

-- ---- a block that leaves what stands at its modes, up to a sign

near : (k : ℕ) → k ≢ k + 1
near k e = omega arith

put_back : (f : ℕ → Pauli) (k : ℕ) (p : Pauli) → f k ≡ p → (w : ℕ) → update k p f w ≡ f w
put_back f k p h w = ⊎_elim (λ e. rw (eq-eqb w k e) (sym (ap f e ∙ h))) (λ d. rw (ne_eqb w k d)) (cases_eq w k)

stays₁ : (g : Block₁) (k : ℕ) (s : Str) (b : Bool) (p : Pauli) → s.at k ≡ p → g.to p ≡ record { phase = sgn b; at = p } → on₁ g k s ≡ signed b s
stays₁ g k s b p h e =
    let x : g.to (s.at k) ≡ record { phase = sgn b; at = p } = ap g.to h ∙ e in
    λ i. record {
      phase = (ap (λ y. s.phase ⊕ y.phase) x ∙ comm s.phase (sgn b)) i;
      at = λ w. (ap (λ y. update k y.at s.at w) x ∙ put_back s.at k p h w) i;
    }

stays : (g : Block) (k : ℕ) (s : Str) (b : Bool) (p q : Pauli) → s.at k ≡ p → s.at (k + 1) ≡ q
    → g.to p q ≡ record { phase = sgn b; first = p; second = q } → on g k s ≡ signed b s
stays g k s b p q h h' e =
    let x : g.to (s.at k) (s.at (k + 1)) ≡ record { phase = sgn b; first = p; second = q } = (λ i. g.to (h i) (h' i)) ∙ e in
    λ i. record {
      phase = (ap (λ y. s.phase ⊕ y.phase) x ∙ comm s.phase (sgn b)) i;
      at = λ w. (ap (λ y. update k y.first (update (k + 1) y.second s.at) w) x
          ∙ ap (λ v. cond (eqb w k) p v) (put_back s.at (k + 1) q h' w) ∙ put_back s.at k p h w) i;
    }

pub identity₁ : (g : Block₁) (k : ℕ) → on₁ g k identity ≡ identity
identity₁ g k = stays₁ g k identity false p_i refl (none₁ g)

pub identity₂ : (g : Block) (k : ℕ) → on g k identity ≡ identity
identity₂ g k = stays g k identity false p_i p_i refl refl (none g)

-- ---- the later ones

pub later₁ : (g : Block₁) (rows : Bool → Row Bool) → Sends₁ g rows → (k j : ℕ) (y : Bool) → k < j
    → on₁ g k (major j y) ≡ signed (odd₁ (rows false) (rows true)) (major j y)
later₁ g rows h k j y l = stays₁ g k (major j y) (odd₁ (rows false) (rows true)) p_z (before j y k l) (parity₁ g rows h)

pub later : (g : Block) (rows : Four → Row Four) → Sends g rows → (k j : ℕ) (y : Bool) → k + 1 < j
    → on g k (major j y) ≡ signed (odd (rows c0) (rows c1) (rows c2) (rows c3)) (major j y)
later g rows h k j y l =
    stays g k (major j y) (odd (rows c0) (rows c1) (rows c2) (rows c3)) p_z p_z (before j y k (omega arith)) (before j y (k + 1) l) (parity g rows h)

-- ---- the earlier ones

pub earlier₁ : (g : Block₁) (k j : ℕ) (y : Bool) → j < k → on₁ g k (major j y) ≡ major j y
earlier₁ g k j y l = stays₁ g k (major j y) false p_i (beyond j y k l) (none₁ g)

pub earlier : (g : Block) (k j : ℕ) (y : Bool) → j < k → on g k (major j y) ≡ major j y
earlier g k j y l = stays g k (major j y) false p_i p_i (beyond j y k l) (beyond j y (k + 1) (omega arith)) (none g)

-- ---- its own: a signed Pauli at the block's modes, Z before it, nothing after it

abbrev around : ℕ → ℕ → Pauli
around k w = cond (ltb w k) p_z p_i

abbrev placed₁ : ℕ → One → Str
placed₁ k x = record { phase = x.phase; at = update k x.at (around k) }

abbrev placed : ℕ → Two → Str
placed k x = record { phase = x.phase; at = update k x.first (update (k + 1) x.second (around k)) }

-- what is put there last counts
over : (k : ℕ) (p q : Pauli) (f : ℕ → Pauli) (w : ℕ) → update k p (update k q f) w ≡ update k p f w
over k p q f w = by (eqb w k)
  where
    by : (b : Bool) → cond b p (cond b q (f w)) ≡ cond b p (f w)
    by true = refl
    by false = refl

over-two : (k : ℕ) (p p' q q' : Pauli) (f : ℕ → Pauli) (w : ℕ)
    → update k p (update (k + 1) p' (update k q (update (k + 1) q' f))) w ≡ update k p (update (k + 1) p' f) w
over-two k p p' q q' f w = by (eqb w k) (eqb w (k + 1))
  where
    by : (b c : Bool) → cond b p (cond c p' (cond b q (cond c q' (f w)))) ≡ cond b p (cond c p' (f w))
    by true c = refl
    by false true = refl
    by false false = refl

on-placed₁ : (g : Block₁) (k : ℕ) (c : Bool) → on₁ g k (placed₁ k (maj₁ c)) ≡ placed₁ k (g.to (maj₁ c).at)
on-placed₁ g k c =
    let e : g.to ((placed₁ k (maj₁ c)).at k) ≡ g.to (xy c) = ap g.to (update_here k (xy c) (around k)) in
    λ i. record {
      phase = (e i).phase;
      at = λ w. (ap (λ y. update k y.at (update k (xy c) (around k)) w) e ∙ over k (g.to (xy c)).at (xy c) (around k) w) i;
    }

on-placed : (g : Block) (k : ℕ) (c : Four) → on g k (placed k (maj c)) ≡ placed k (g.to (maj c).first (maj c).second)
on-placed g k c =
    let p = (maj c).first in
    let q = (maj c).second in
    let e : g.to ((placed k (maj c)).at k) ((placed k (maj c)).at (k + 1)) ≡ g.to p q =
    λ i. g.to (two-first k (k + 1) p q (around k) (near k) i) (two-second k (k + 1) p q (around k) (near k) i) in
    λ i. record {
      phase = (ap (λ y. (maj c).phase ⊕ y.phase) e ∙ ap (λ k. k ⊕ (g.to p q).phase) (no-phase c)) i;
      at = λ w. (ap (λ y. update k y.first (update (k + 1) y.second (update k p (update (k + 1) q (around k)))) w) e
          ∙ over-two k (g.to p q).first (g.to p q).second p q (around k) w) i;
    }
  where
    no-phase : (c : Four) → (maj c).phase ≡ i0
    no-phase c0 = refl
    no-phase c1 = refl
    no-phase c2 = refl
    no-phase c3 = refl

-- the Majorana operators are such strings
major-placed₁ : (k : ℕ) (c : Bool) → major k c ≡ placed₁ k (maj₁ c)
major-placed₁ k c = λ i. record { phase = i0; at = λ w. by w (cases_eq w k) i }
  where
    by : (w : ℕ) → (w ≡ k) ⊎ (w ≢ k) → (major k c).at w ≡ update k (xy c) (around k) w
    by w (inl e) = here k c w e ∙ rw (eq-eqb w k e)
    by w (inr d) = rw (ne_eqb w k d)

major-placed : (k j : ℕ) (y : Bool) (p q : Pauli) → k ≤ j → j ≤ k + 1 → (major j y).at k ≡ p → (major j y).at (k + 1) ≡ q
    → major j y ≡ placed k (record { phase = i0; first = p; second = q })
major-placed k j y p q l l' h h' = λ i. record { phase = i0; at = λ w. by_two k (k + 1) p q (around k) (near k) (major j y).at h h' rest w i }
  where
    rest : (w : ℕ) → w ≢ k → w ≢ k + 1 → (major j y).at w ≡ around k w
    rest w d d' = ⊎_elim (λ b. before j y w (omega arith) ∙ rw (lt-ltb w k b)) (λ b. beyond j y w (omega arith) ∙ rw (le-ltb w k b)) (cases_lt w k)

pub gamma-at : (a k : ℕ) (y : Bool) → a ≡ 2 * k + num₁ y → gamma a ≡ major k y
gamma-at a k false e = λ i. major (half i) (eqb (rest i) 1)
  where
    half : a / 2 ≡ k
    half = omega arith

    rest : a % 2 ≡ 0
    rest = omega arith
gamma-at a k true e = λ i. major (half i) (eqb (rest i) 1)
  where
    half : a / 2 ≡ k
    half = omega arith

    rest : a % 2 ≡ 1
    rest = omega arith

gamma-placed₁ : (k : ℕ) (c : Bool) → gamma (2 * k + num₁ c) ≡ placed₁ k (maj₁ c)
gamma-placed₁ k c = gamma-at (2 * k + num₁ c) k c refl ∙ major-placed₁ k c

gamma-placed : (k : ℕ) (c : Four) → gamma (2 * k + num c) ≡ placed k (maj c)
gamma-placed k c0 =
    gamma-at (2 * k + 0) k false refl
    ∙ major-placed k k false p_x p_i (le_refl k) (omega arith) (here k false k refl) (beyond k false (k + 1) (omega arith))
gamma-placed k c1 =
    gamma-at (2 * k + 1) k true refl
    ∙ major-placed k k true p_y p_i (le_refl k) (omega arith) (here k true k refl) (beyond k true (k + 1) (omega arith))
gamma-placed k c2 =
    gamma-at (2 * k + 2) (k + 1) false (omega arith)
    ∙ major-placed k (k + 1) false p_z p_x (omega arith) (le_refl (k + 1)) (before (k + 1) false k (omega arith)) (here (k + 1) false (k + 1) refl)
gamma-placed k c3 =
    gamma-at (2 * k + 3) (k + 1) true (omega arith)
    ∙ major-placed k (k + 1) true p_z p_y (omega arith) (le_refl (k + 1)) (before (k + 1) true k (omega arith)) (here (k + 1) true (k + 1) refl)

pub local₁ : (g : Block₁) (rows : Bool → Row Bool) → Sends₁ g rows → (k : ℕ) (c : Bool)
    → on₁ g k (gamma (2 * k + num₁ c)) ≡ signed (rows c).minus (gamma (2 * k + num₁ (rows c).col))
local₁ g rows h k c =
    ap (on₁ g k) (gamma-placed₁ k c) ∙ on-placed₁ g k c ∙ ap (placed₁ k) (h c) ∙ ap (signed (rows c).minus) (sym (gamma-placed₁ k (rows c).col))

pub local : (g : Block) (rows : Four → Row Four) → Sends g rows → (k : ℕ) (c : Four)
    → on g k (gamma (2 * k + num c)) ≡ signed (rows c).minus (gamma (2 * k + num (rows c).col))
local g rows h k c =
    ap (on g k) (gamma-placed k c) ∙ on-placed g k c ∙ ap (placed k) (h c) ∙ ap (signed (rows c).minus) (sym (gamma-placed k (rows c).col))
