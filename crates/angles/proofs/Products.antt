-- Products of parities are Pfaffians of the engine's covariance, in exact numbers (specs/Wick.antt says what that is). Assumes nothing.
use mathlib.Core.Path.{◌≡◌, refl, sym, ap, subst, ◌∙◌}
use mathlib.Core.Logic.{◌≢◌}
use mathlib.Core.Bool.{Bool, xor}
use mathlib.Core.List.{List, [], ◌∷◌, ◌++◌}
use Prim.Native.Nat.{ℕ, zero, suc, ◌+◌, ◌*◌, ◌/◌, ◌<◌}
use native.Mathlib.Nat.{zero-add as nat-zero-add}
use native.Mathlib.Omega.{arith}
use lib.ListN.{length}
use Rattle.std.proofs.lemmas.List.{length-append, append_assoc}
use Rattle.rings.specs.Rings.{Ops, IsRing, IsCommutative}
use Rattle.formulas.specs.Numbers.{Exact}
use Rattle.formulas.specs.Engine.{Mat, get}
use Rattle.formulas.specs.Determinants.{odd}
use Rattle.angles.specs.Qubits.{Operators, gamma}
use Rattle.angles.specs.Angles.{after, state_after}
use Rattle.formulas.specs.Pfaffians.{first_row, by_first, pfaffian, AllBelow, Apart, Distinct}
use Rattle.angles.specs.Wick.{gammas, pairs_after, indices, parities, ZProducts, ZTheorem}
use Rattle.rings.proofs.Rings.{mul-zero, mul-neg, neg-neg}
use Rattle.rings.proofs.Solve.{var, plus, times, minus, by-comm}
use Rattle.laws.proofs.Lists.{all_append}
use Rattle.angles.proofs.Lists.{distinct-without}
use Rattle.angles.proofs.Passing.{exchanged}
use Rattle.angles.proofs.Majoranas.{z-is}
use Rattle.angles.proofs.Steps.{Linear}
use Rattle.angles.proofs.Vacuum.{vac-linear}
use Rattle.angles.proofs.Runs.{every-angle, pulled-all}
use Rattle.angles.proofs.Wick.{wick}

-- ---- a Pfaffian whose entries have a factor

unfoldable pub power : (𝓝 : Ops) → 𝓝.N → ℕ → 𝓝.N
power 𝓝 s zero = 𝓝.one
power 𝓝 s (suc k) = 𝓝.mul s (power 𝓝 s k)

module _ {𝓝 : Ops} (𝓒 : IsCommutative 𝓝) (dim : ℕ) (f : 𝓝.N) (p m : Mat 𝓝)
    (e : (r c : ℕ) → r < dim → c < dim → r ≢ c → p r c ≡ 𝓝.mul f (m r c)) where
  regroup : (i u q v w : 𝓝.N)
      → 𝓝.add (𝓝.mul (𝓝.mul i u) (𝓝.mul q v)) (𝓝.neg (𝓝.mul (𝓝.mul i q) w)) ≡ 𝓝.mul (𝓝.mul i q) (𝓝.add (𝓝.mul u v) (𝓝.neg w))
  unfolding xor
  regroup i u q v w = by-comm 𝓒 (i ∷ u ∷ q ∷ v ∷ w ∷ [])
      (plus (times (times (var 0) (var 1)) (times (var 2) (var 3))) (minus (times (times (var 0) (var 2)) (var 4))))
      (times (times (var 0) (var 2)) (plus (times (var 1) (var 3)) (minus (var 4)))) refl

  first-factor : (t : ℕ) (F G : List ℕ → 𝓝.N)
      → ((qs : List ℕ) → AllBelow dim qs → Distinct qs → length qs ≡ t → F qs ≡ 𝓝.mul (power 𝓝 f (t / 2)) (G qs))
      → (r : ℕ) → r < dim → (seen rs : List ℕ) → AllBelow dim seen → AllBelow dim rs → Apart r rs → Distinct (seen ++ rs) → length seen + length rs ≡ suc t
      → first_row 𝓝 p F r seen rs ≡ 𝓝.mul (𝓝.mul f (power 𝓝 f (t / 2))) (first_row 𝓝 m G r seen rs)
  first-factor t F G h r hr seen [] hs hx a d k = sym (mul-zero 𝓒.ring (𝓝.mul f (power 𝓝 f (t / 2))))
  first-factor t F G h r hr seen (x ∷ xs) hs hx a d k =
      (λ i. 𝓝.add
      (𝓝.mul (e r x hr hx.0 a.0 i)
      (h (seen ++ xs) (all_append (λ r. r < dim) seen xs hs hx.1) (distinct-without x seen xs d) (omega (arith, length-append seen xs)) i))
      (𝓝.neg (first-factor t F G h r hr (seen ++ (x ∷ [])) xs (all_append (λ r. r < dim) seen (x ∷ []) hs (hx.0, tt)) hx.1 a.1
      (subst Distinct (sym (append_assoc seen (x ∷ []) xs)) d) (omega (arith, length-append seen (x ∷ []))) i)))
      ∙ regroup f (m r x) (power 𝓝 f (t / 2)) (G (seen ++ xs)) (first_row 𝓝 m G r (seen ++ (x ∷ [])) xs)

  by-factor : (F G : List ℕ → 𝓝.N) → ((qs : List ℕ) → AllBelow dim qs → Distinct qs → F qs ≡ 𝓝.mul (power 𝓝 f (length qs / 2)) (G qs))
      → (rs : List ℕ) → AllBelow dim rs → Distinct rs → by_first 𝓝 p F rs ≡ 𝓝.mul (power 𝓝 f (length rs / 2)) (by_first 𝓝 m G rs)
  unfolding power
  by-factor F G h [] b d = sym (𝓒.ring.one-mul 𝓝.one)
  by-factor F G h (r ∷ []) b d = sym (mul-zero 𝓒.ring (power 𝓝 f (length (r ∷ []) / 2)))
  by-factor F G h (r ∷ c ∷ cs) b d =
      first-factor (length cs) F G (λ qs hq dq z. h qs hq dq ∙ ap (λ k. 𝓝.mul (power 𝓝 f (k / 2)) (G qs)) z) r b.0 [] (c ∷ cs) tt b.1 d.0 d.1
      (nat-zero-add (suc (length cs)))
      ∙ ap (λ k. 𝓝.mul (power 𝓝 f k) (first_row 𝓝 m G r [] (c ∷ cs))) next
    where
      next : suc (length cs / 2) ≡ suc (suc (length cs)) / 2
      next = omega arith

  pub pfaffian-factor : (k : ℕ) (rs : List ℕ) → AllBelow dim rs → Distinct rs → pfaffian 𝓝 p k rs ≡ 𝓝.mul (power 𝓝 f (length rs / 2)) (pfaffian 𝓝 m k rs)
  unfolding pfaffian
  pfaffian-factor zero rs b d =
      by-factor (λ qs. 𝓝.zero) (λ qs. 𝓝.zero) (λ qs hq dq. sym (mul-zero 𝓒.ring (power 𝓝 f (length qs / 2)))) rs b d
  pfaffian-factor (suc k) rs b d = by-factor (λ qs. pfaffian 𝓝 p k qs) (λ qs. pfaffian 𝓝 m k qs) (pfaffian-factor k) rs b d

-- ---- indices of modes

pub all-indices : (n : ℕ) (ks : List ℕ) → AllBelow n ks → AllBelow (2 * n) (indices ks)
all-indices n [] h = tt
all-indices n (k ∷ ks) h = (omega (arith, h.0), (omega (arith, h.0), all-indices n ks h.1))

apart-first : (k : ℕ) (ks : List ℕ) → Apart k ks → Apart (2 * k) (indices ks)
apart-first k [] h = tt
apart-first k (j ∷ ks) h = ((λ e. h.0 (omega (arith, e))), ((λ e. h.0 (omega (arith, e))), apart-first k ks h.1))

apart-second : (k : ℕ) (ks : List ℕ) → Apart k ks → Apart (2 * k + 1) (indices ks)
apart-second k [] h = tt
apart-second k (j ∷ ks) h = ((λ e. h.0 (omega (arith, e))), ((λ e. h.0 (omega (arith, e))), apart-second k ks h.1))

pub distinct-indices : (ks : List ℕ) → Distinct ks → Distinct (indices ks)
distinct-indices [] h = tt
distinct-indices (k ∷ ks) h = ((omega arith, apart-first k ks h.0), (apart-second k ks h.0, distinct-indices ks h.1))

pub length-indices : (ks : List ℕ) → length (indices ks) / 2 ≡ length ks
length-indices [] = refl
length-indices (k ∷ ks) = omega (arith, length-indices ks)

module _ {𝓝 : Ops} {below : 𝓝.N → Bool} (𝓔 : Exact 𝓝 below) {n : ℕ} {𝓐 : Ops} (𝓠 : Operators 𝓝 𝓔.i n 𝓐) where
  open 𝓐 use {N, one as 𝟙, mul as ◌⋆◌}

  infixl 70 ◌⋆◌
  abbrev 𝓛 : IsRing 𝓐
  𝓛 = 𝓠.ring

  abbrev mi : 𝓝.N
  mi = 𝓝.neg 𝓔.i

  -- i times -i
  i-mi : 𝓝.mul 𝓔.i mi ≡ 𝓝.one
  i-mi = mul-neg 𝓔.laws.ring 𝓔.i 𝓔.i ∙ ap 𝓝.neg 𝓔.i-square ∙ neg-neg 𝓔.laws.ring 𝓝.one

  powers : (k : ℕ) → 𝓝.mul (power 𝓝 mi k) (power 𝓝 𝓔.i k) ≡ 𝓝.one
  unfolding power
  powers zero = 𝓔.laws.ring.one-mul 𝓝.one
  powers (suc k) =
      exchanged 𝓔.laws.ring mi (power 𝓝 mi k) 𝓔.i (power 𝓝 𝓔.i k) (𝓔.laws.comm (power 𝓝 mi k) 𝓔.i)
      ∙ (λ j. 𝓝.mul ((𝓔.laws.comm mi 𝓔.i ∙ i-mi) j) (powers k j))
      ∙ 𝓔.laws.ring.one-mul 𝓝.one

  -- Z Z .. Z = (-i)^m gamma gamma .. gamma
  parities-are : (ks : List ℕ) → AllBelow n ks → parities 𝓠 ks ≡ 𝓠.num (power 𝓝 mi (length ks)) ⋆ gammas 𝓠 (indices ks)
  unfolding power
  parities-are [] h = sym (ap (λ a. a ⋆ 𝟙) 𝓠.num-one ∙ 𝓛.one-mul 𝟙)
  parities-are (k ∷ ks) h =
      (λ j. sym (z-is 𝓔 𝓠 k h.0) j ⋆ parities-are ks h.1 j)
      ∙ exchanged 𝓛 (𝓠.num mi) two (𝓠.num (power 𝓝 mi (length ks))) rest (sym (𝓠.central (power 𝓝 mi (length ks)) two))
      ∙ (λ j. sym (𝓠.num-mul mi (power 𝓝 mi (length ks))) j ⋆ 𝓛.mul-assoc (gamma 𝓠 (2 * k)) (gamma 𝓠 (2 * k + 1)) rest j)
    where
      two : N
      two = gamma 𝓠 (2 * k) ⋆ gamma 𝓠 (2 * k + 1)

      rest : N
      rest = gammas 𝓠 (indices ks)

  pub z-products : ZProducts 𝓔 𝓠 (odd 𝓝 below)
  z-products gs ks h d =
      sym (𝓔.laws.ring.one-mul pf)
      ∙ ap (λ s. 𝓝.mul s pf) (sym (powers (length ks)))
      ∙ 𝓔.laws.ring.mul-assoc (power 𝓝 mi (length ks)) (power 𝓝 𝓔.i (length ks)) pf
      ∙ ap (𝓝.mul (power 𝓝 mi (length ks)))
      (ap (λ k. 𝓝.mul (power 𝓝 𝓔.i k) pf) (sym (length-indices ks))
      ∙ sym (pfaffian-factor 𝓔.laws (2 * n) 𝓔.i (pairs_after 𝓠 gs) m pair (length (indices ks)) (indices ks)
      (all-indices n ks h) (distinct-indices ks d))
      ∙ sym (wick 𝓔 𝓠 gs (indices ks) (all-indices n ks h)))
      ∙ sym (linear.nums (power 𝓝 mi (length ks)) (gammas 𝓠 (indices ks)))
      ∙ ap (after 𝓠 gs) (sym (parities-are ks h))
    where
      m : Mat 𝓝
      m = get 𝓝 (state_after 𝓔 𝓠 (odd 𝓝 below) gs)

      pf : 𝓝.N
      pf = pfaffian 𝓝 m (length (indices ks)) (indices ks)

      linear : Linear 𝓔 𝓠 (after 𝓠 gs)
      linear = pulled-all 𝓔 𝓠 gs 𝓠.vac (vac-linear 𝓔 𝓠)

      pair : (r c : ℕ) → r < 2 * n → c < 2 * n → r ≢ c → pairs_after 𝓠 gs r c ≡ 𝓝.mul 𝓔.i (m r c)
      pair r c hr hc dc =
          sym (𝓔.laws.ring.one-mul (pairs_after 𝓠 gs r c))
          ∙ ap (λ s. 𝓝.mul s (pairs_after 𝓠 gs r c)) (sym i-mi)
          ∙ 𝓔.laws.ring.mul-assoc 𝓔.i mi (pairs_after 𝓠 gs r c)
          ∙ ap (𝓝.mul 𝓔.i) (sym (linear.nums mi (gamma 𝓠 r ⋆ gamma 𝓠 c)) ∙ sym ((every-angle 𝓔 𝓠 gs).covariance r c hr hc dc))

-- THE STATEMENT
pub z-theorem : ZTheorem
z-theorem 𝓝 below 𝓔 n 𝓐 𝓠 = z-products 𝓔 𝓠
