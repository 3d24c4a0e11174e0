-- Laws of Pauli strings on n modes: the product is associative, phases go through it, and a block that lies within the n modes respects it.
-- Two strings are equal where their phases and all their Paulis are. Assumes nothing.
use mathlib.Core.Path.{◌≡◌, refl, sym, ap, ◌∙◌}
use mathlib.Core.Logic.{◌⊎◌, inl, inr, ◌≢◌}
use mathlib.Core.Bool.{Bool, true, false, xor, cond}
use Prim.Native.Nat.{ℕ, zero, suc, ◌+◌, ◌<◌}
use native.Mathlib.Omega.{arith}
use lib.Dec.{eqb}
use Rattle.laws.specs.Tables.{update}
use Rattle.laws.specs.Phase.{Phase, ◌⊕◌}
use Rattle.std.proofs.lemmas.Bool.{cases_eq}
use Rattle.laws.proofs.Tables.{update_here, update-away}
use Rattle.laws.proofs.Phases.{assoc, Sums, cancel}
use Rattle.signs.specs.Paulis.{sgn, Pauli, pr, ph, Str, times, signed, phases, mul}
use Rattle.signs.specs.Blocks.{Block₁, Block, on₁, on}
use Rattle.signs.proofs.Tables.{sgn-xor, pr-assoc, ph-assoc}

-- ---- the phases of products add up

phases-assoc : (n : ℕ) (f g h : ℕ → Pauli) → phases n f g ⊕ phases n (λ w. pr (f w) (g w)) h ≡ phases n g h ⊕ phases n f (λ w. pr (g w) (h w))
unfolding phases
phases-assoc zero f g h = refl
phases-assoc (suc n) f g h =
    four (phases n f g) (ph (f n) (g n)) (phases n (λ w. pr (f w) (g w)) h) (ph (pr (f n) (g n)) (h n))
    ∙ (λ i. phases-assoc n f g h i ⊕ ph-assoc (f n) (g n) (h n) i)
    ∙ four (phases n g h) (phases n f (λ w. pr (g w) (h w))) (ph (g n) (h n)) (ph (f n) (pr (g n) (h n)))
  where
    four : (a b c d : Phase) → a ⊕ b ⊕ (c ⊕ d) ≡ a ⊕ c ⊕ (b ⊕ d)
    four a b c d = simp Sums

module _ (n : ℕ) where
  pub mul_assoc : (s t u : Str) → mul n (mul n s t) u ≡ mul n s (mul n t u)
  mul_assoc s t u =
      λ i. record {
        phase = (first s.phase t.phase (phases n s.at t.at) u.phase _
            ∙ ap (λ k. s.phase ⊕ t.phase ⊕ u.phase ⊕ k) (phases-assoc n s.at t.at u.at)
            ∙ second s.phase t.phase u.phase (phases n t.at u.at) _) i;
        at = λ w. pr-assoc (s.at w) (t.at w) (u.at w) i;
      }
    where
      first : (a b x c y : Phase) → a ⊕ b ⊕ x ⊕ c ⊕ y ≡ a ⊕ b ⊕ c ⊕ (x ⊕ y)
      first a b x c y = simp Sums

      second : (a b c x y : Phase) → a ⊕ b ⊕ c ⊕ (x ⊕ y) ≡ a ⊕ (b ⊕ c ⊕ x) ⊕ y
      second a b c x y = simp Sums

  -- ---- a phase in front

  pub times-left : (k : Phase) (s t : Str) → mul n (times k s) t ≡ times k (mul n s t)
  times-left k s t = λ i. record { phase = move k s.phase t.phase (phases n s.at t.at) i; at = λ w. pr (s.at w) (t.at w) }
    where
      move : (k a b x : Phase) → k ⊕ a ⊕ b ⊕ x ≡ k ⊕ (a ⊕ b ⊕ x)
      move k a b x = simp Sums

  pub times-right : (k : Phase) (s t : Str) → mul n s (times k t) ≡ times k (mul n s t)
  times-right k s t = λ i. record { phase = move k s.phase t.phase (phases n s.at t.at) i; at = λ w. pr (s.at w) (t.at w) }
    where
      move : (k a b x : Phase) → a ⊕ (k ⊕ b) ⊕ x ≡ k ⊕ (a ⊕ b ⊕ x)
      move k a b x = simp Sums

pub times-times : (j k : Phase) (s : Str) → times j (times k s) ≡ times (j ⊕ k) s
times-times j k s = λ i. record { phase = sym (assoc j k s.phase) i; at = s.at }

pub signed-signed : (a b : Bool) (s : Str) → signed a (signed b s) ≡ signed (xor a b) s
signed-signed a b s = times-times (sgn a) (sgn b) s ∙ ap (λ k. times k s) (sgn-xor a b)

-- ---- one place changed

phases-cong : (n : ℕ) (f f' g g' : ℕ → Pauli) → ((w : ℕ) → w < n → f w ≡ f' w) → ((w : ℕ) → w < n → g w ≡ g' w) → phases n f g ≡ phases n f' g'
unfolding phases
phases-cong zero f f' g g' h k = refl
phases-cong (suc n) f f' g g' h k =
    λ i. phases-cong n f f' g g' (λ w l. h w (omega arith)) (λ w l. k w (omega arith)) i ⊕ ph (h n (omega arith) i) (k n (omega arith) i)

-- the last two terms of a sum change places
swap : (a b c : Phase) → a ⊕ b ⊕ c ≡ a ⊕ c ⊕ b
swap a b c = simp Sums

phases-update : (n k : ℕ) (f g : ℕ → Pauli) (p q : Pauli) → k < n → phases n (update k p f) (update k q g) ⊕ ph (f k) (g k) ≡ phases n f g ⊕ ph p q
unfolding phases
phases-update zero k f g p q l = absurd (omega arith)
phases-update (suc n) k f g p q l = by (cases_eq n k) (λ l'. phases-update n k f g p q l')
  where
    other : (w : ℕ) (p : Pauli) (f : ℕ → Pauli) → w ≢ k → update k p f w ≡ f w
    other w p f d = update-away k p f w d

    by : (n ≡ k) ⊎ (n ≢ k) → (k < n → phases n (update k p f) (update k q g) ⊕ ph (f k) (g k) ≡ phases n f g ⊕ ph p q)
        → phases n (update k p f) (update k q g) ⊕ ph (update k p f n) (update k q g n) ⊕ ph (f k) (g k) ≡ phases n f g ⊕ ph (f n) (g n) ⊕ ph p q
    by (inl e) ih =
        (λ i. phases-cong n (update k p f) f (update k q g) g (λ w l. other w p f (λ d. omega arith)) (λ w l. other w q g (λ d. omega arith)) i
        ⊕ ph ((ap (update k p f) e ∙ update_here k p f) i) ((ap (update k q g) e ∙ update_here k q g) i) ⊕ ph (f (sym e i)) (g (sym e i)))
        ∙ swap (phases n f g) (ph p q) (ph (f n) (g n))
    by (inr d) ih =
        ap (λ y. y ⊕ ph (f k) (g k)) (λ i. phases n (update k p f) (update k q g) ⊕ ph (other n p f d i) (other n q g d i))
        ∙ swap (phases n (update k p f) (update k q g)) (ph (f n) (g n)) (ph (f k) (g k))
        ∙ ap (λ y. y ⊕ ph (f n) (g n)) (ih (omega arith))
        ∙ swap (phases n f g) (ph p q) (ph (f n) (g n))

-- what stands at a place of a product
update-pr : (k : ℕ) (x y z : Pauli) (f g : ℕ → Pauli) → z ≡ pr x y → (w : ℕ)
    → update k z (λ w. pr (f w) (g w)) w ≡ pr (update k x f w) (update k y g w)
update-pr k x y z f g e w = by (eqb w k)
  where
    by : (b : Bool) → cond b z (pr (f w) (g w)) ≡ pr (cond b x (f w)) (cond b y (g w))
    by true = e
    by false = refl

-- the phases of a product before (a, b, P) and after (with x and y, Q), where c is what the changed places gave and d what they give
replaced : (a b P Q c z x y d : Phase) → c ⊕ z ≡ x ⊕ y ⊕ d → Q ⊕ c ≡ P ⊕ d → a ⊕ b ⊕ P ⊕ z ≡ a ⊕ x ⊕ (b ⊕ y) ⊕ Q
replaced a b P Q c z x y d h k =
    cancel c (a ⊕ b ⊕ P ⊕ z) (a ⊕ x ⊕ (b ⊕ y) ⊕ Q)
    (before a b P z c ∙ ap (λ t. a ⊕ b ⊕ P ⊕ t) h ∙ mid a b P x y d ∙ ap (λ t. a ⊕ x ⊕ (b ⊕ y) ⊕ t) (sym k) ∙ after (a ⊕ x ⊕ (b ⊕ y)) Q c)
  where
    before : (a b P z c : Phase) → c ⊕ (a ⊕ b ⊕ P ⊕ z) ≡ a ⊕ b ⊕ P ⊕ (c ⊕ z)
    before a b P z c = simp Sums

    mid : (a b P x y d : Phase) → a ⊕ b ⊕ P ⊕ (x ⊕ y ⊕ d) ≡ a ⊕ x ⊕ (b ⊕ y) ⊕ (P ⊕ d)
    mid a b P x y d = simp Sums

    after : (u Q c : Phase) → u ⊕ (Q ⊕ c) ≡ c ⊕ (u ⊕ Q)
    after u Q c = simp Sums

-- ---- blocks

pub on₁-times : (g : Block₁) (k : ℕ) (c : Phase) (s : Str) → on₁ g k (times c s) ≡ times c (on₁ g k s)
on₁-times g k c s = λ i. record { phase = assoc c s.phase (g.to (s.at k)).phase i; at = (on₁ g k s).at }

pub on-times : (g : Block) (k : ℕ) (c : Phase) (s : Str) → on g k (times c s) ≡ times c (on g k s)
on-times g k c s = λ i. record { phase = assoc c s.phase (g.to (s.at k) (s.at (k + 1))).phase i; at = (on g k s).at }

module _ (n k : ℕ) (s t : Str) where
  pub on₁-mul : (g : Block₁) → k < n → on₁ g k (mul n s t) ≡ mul n (on₁ g k s) (on₁ g k t)
  on₁-mul g l =
      let x = g.to (s.at k) in
      let y = g.to (t.at k) in
      let h = g.hom (s.at k) (t.at k) in
      λ i. record {
        phase =
            replaced s.phase t.phase (phases n s.at t.at) (phases n (update k x.at s.at) (update k y.at t.at))
            (ph (s.at k) (t.at k)) (g.to (pr (s.at k) (t.at k))).phase x.phase y.phase (ph x.at y.at) (ap (λ z. z.phase) h)
            (phases-update n k s.at t.at x.at y.at l) i;
        at = λ w. update-pr k x.at y.at _ s.at t.at (ap (λ z. z.at) h) w i;
      }

  pub on-mul : (g : Block) → k + 1 < n → on g k (mul n s t) ≡ mul n (on g k s) (on g k t)
  on-mul g l =
      let x = g.to (s.at k) (s.at (k + 1)) in
      let y = g.to (t.at k) (t.at (k + 1)) in
      let z = g.to (pr (s.at k) (t.at k)) (pr (s.at (k + 1)) (t.at (k + 1))) in
      let h = g.hom (s.at k) (s.at (k + 1)) (t.at k) (t.at (k + 1)) in
      let f = update (k + 1) x.second s.at in
      let f' = update (k + 1) y.second t.at in
      let c₁ = ph (s.at k) (t.at k) in
      let c₂ = ph (s.at (k + 1)) (t.at (k + 1)) in
      let d₁ = ph x.first y.first in
      let d₂ = ph x.second y.second in
      let P = phases n s.at t.at in
      let R = phases n f f' in
      let Q = phases n (update k x.first f) (update k y.first f') in
      let old : c₁ ≡ ph (f k) (f' k) = λ i. ph (sym (near x.second s.at) i) (sym (near y.second t.at) i) in
      let outer : Q ⊕ c₁ ≡ R ⊕ d₁ = ap (λ c. Q ⊕ c) old ∙ phases-update n k f f' x.first y.first (omega arith) in
      let inner : R ⊕ c₂ ≡ P ⊕ d₂ = phases-update n (k + 1) s.at t.at x.second y.second l in
      λ i. record {
        phase =
            replaced s.phase t.phase P Q (c₁ ⊕ c₂) z.phase x.phase y.phase (d₁ ⊕ d₂) (ap (λ z. z.phase) h)
            (both Q c₁ c₂ R d₁ d₂ P outer inner) i;
        at = λ w. (ap (λ v. cond (eqb w k) z.first v)
            (update-pr (k + 1) x.second y.second _ s.at t.at (ap (λ z. z.second) h) w)
            ∙ update-pr k x.first y.first _ f f' (ap (λ z. z.first) h) w) i;
      }
    where
      near : (p : Pauli) (f : ℕ → Pauli) → update (k + 1) p f k ≡ f k
      near p f = update-away (k + 1) p f k (λ e. omega arith)

      both : (Q c₁ c₂ R d₁ d₂ P : Phase) → Q ⊕ c₁ ≡ R ⊕ d₁ → R ⊕ c₂ ≡ P ⊕ d₂ → Q ⊕ (c₁ ⊕ c₂) ≡ P ⊕ (d₁ ⊕ d₂)
      both Q c₁ c₂ R d₁ d₂ P h k = sym (assoc Q c₁ c₂) ∙ ap (λ t. t ⊕ c₂) h ∙ swap R d₁ c₂ ∙ ap (λ t. t ⊕ d₁) k ∙ last P d₁ d₂
        where
          last : (P d₁ d₂ : Phase) → P ⊕ d₂ ⊕ d₁ ≡ P ⊕ (d₁ ⊕ d₂)
          last P d₁ d₂ = simp Sums
