-- Circuits joined, and one gate more: the operators of lists of gates. Assumes nothing.
use mathlib.Core.Path.{◌≡◌, refl, sym, ap, ◌∙◌}
use mathlib.Core.Bool.{Bool, xor}
use mathlib.Core.List.{List, [], ◌∷◌, ◌++◌}
use Prim.Native.Nat.{ℕ}
use Rattle.rings.specs.Rings.{Ops, IsRing}
use Rattle.formulas.specs.Numbers.{Exact}
use Rattle.angles.specs.Qubits.{Operators}
use Rattle.matchgates.specs.Maps.{Conjugate}
use Rattle.matchgates.specs.Circuits.{Act, operator, forth, reverse, back, conjugated}
use Rattle.rings.proofs.Solve.{var, times, by-free}

module _ {𝓝 : Ops} {below : 𝓝.N → Bool} (𝓔 : Exact 𝓝 below) {n : ℕ} {𝓐 : Ops} (𝓠 : Operators 𝓝 𝓔.i n 𝓐) where
  open 𝓐 use {mul as ◌⋆◌}

  infixl 70 ◌⋆◌
  abbrev 𝓛 : IsRing 𝓐
  𝓛 = 𝓠.ring

  pub forth-join : (gs hs : List (Act 𝓝)) → forth 𝓔 𝓠 (gs ++ hs) ≡ forth 𝓔 𝓠 hs ⋆ forth 𝓔 𝓠 gs
  unfolding forth
  forth-join [] hs = sym (𝓛.mul-one (forth 𝓔 𝓠 hs))
  forth-join (g ∷ gs) hs = ap (λ a. a ⋆ operator 𝓔 𝓠 g) (forth-join gs hs) ∙ 𝓛.mul-assoc (forth 𝓔 𝓠 hs) (forth 𝓔 𝓠 gs) (operator 𝓔 𝓠 g)

module _ {𝓝 : Ops} {below : 𝓝.N → Bool} (𝓔 : Exact 𝓝 below) (𝓙 : Conjugate 𝓝 𝓔.i) {n : ℕ} {𝓐 : Ops} (𝓠 : Operators 𝓝 𝓔.i n 𝓐) where
  open 𝓐 use {N, one as 𝟙, mul as ◌⋆◌}

  infixl 70 ◌⋆◌
  abbrev 𝓜 : IsRing 𝓐
  𝓜 = 𝓠.ring

  pub back-join : (gs hs : List (Act 𝓝)) → back 𝓔 𝓙 𝓠 (gs ++ hs) ≡ back 𝓔 𝓙 𝓠 gs ⋆ back 𝓔 𝓙 𝓠 hs
  unfolding back
  back-join [] hs = sym (𝓜.one-mul (back 𝓔 𝓙 𝓠 hs))
  back-join (g ∷ gs) hs =
      ap (λ a. reverse 𝓔 𝓙 𝓠 g ⋆ a) (back-join gs hs) ∙ sym (𝓜.mul-assoc (reverse 𝓔 𝓙 𝓠 g) (back 𝓔 𝓙 𝓠 gs) (back 𝓔 𝓙 𝓠 hs))

  pub conjugated-none : (a : N) → conjugated 𝓔 𝓙 𝓠 [] a ≡ a
  unfolding forth back
  conjugated-none a = 𝓜.one-mul (a ⋆ 𝟙) ∙ 𝓜.mul-one a

  -- (r b) (a (f u)) = r ((b (a f)) u)
  regroup : (r b a f u : N) → r ⋆ b ⋆ (a ⋆ (f ⋆ u)) ≡ r ⋆ (b ⋆ (a ⋆ f) ⋆ u)
  unfolding xor
  regroup r b a f u = by-free 𝓜 (r ∷ b ∷ a ∷ f ∷ u ∷ [])
      (times (times (var 0) (var 1)) (times (var 2) (times (var 3) (var 4))))
      (times (var 0) (times (times (var 1) (times (var 2) (var 3))) (var 4))) refl

  pub conjugated-step : (g : Act 𝓝) (gs : List (Act 𝓝)) (a : N)
      → conjugated 𝓔 𝓙 𝓠 (g ∷ gs) a ≡ reverse 𝓔 𝓙 𝓠 g ⋆ (conjugated 𝓔 𝓙 𝓠 gs a ⋆ operator 𝓔 𝓠 g)
  unfolding forth back
  conjugated-step g gs a = regroup (reverse 𝓔 𝓙 𝓠 g) (back 𝓔 𝓙 𝓠 gs) a (forth 𝓔 𝓠 gs) (operator 𝓔 𝓠 g)

  pub conjugated-join : (gs hs : List (Act 𝓝)) (a : N) → conjugated 𝓔 𝓙 𝓠 (gs ++ hs) a ≡ back 𝓔 𝓙 𝓠 gs ⋆ (conjugated 𝓔 𝓙 𝓠 hs a ⋆ forth 𝓔 𝓠 gs)
  conjugated-join gs hs a =
      (λ i. back-join gs hs i ⋆ (a ⋆ forth-join 𝓔 𝓠 gs hs i)) ∙ regroup (back 𝓔 𝓙 𝓠 gs) (back 𝓔 𝓙 𝓠 hs) a (forth 𝓔 𝓠 hs) (forth 𝓔 𝓠 gs)
