-- The angle theorem with the engine's own determinant. Assumes nothing.
use mathlib.Core.Path.{◌≡◌, refl, sym, ap, subst, ◌∙◌}
use mathlib.Core.Logic.{◌⊎◌, inl, inr}
use mathlib.Core.Bool.{Bool}
use mathlib.Core.List.{List, [], ◌∷◌, map}
use Prim.Native.Nat.{ℕ, ◌*◌}
use Rattle.laws.specs.Lists.{in_order}
use Rattle.rings.specs.Rings.{Ops, IsCommutative}
use Rattle.formulas.specs.Numbers.{Exact, Tests, Divides}
use Rattle.formulas.specs.Engine.{Local, State, Item, applied, interaction, each, step, run, vacuum}
use Rattle.formulas.specs.Determinants.{det, odd, own_det, own_odd}
use Rattle.angles.specs.Qubits.{Operators}
use Rattle.angles.specs.Angles.{Block, operation, Right, EveryAngle, OwnAngleTheorem}
use Rattle.angles.proofs.Elimination.{own-det-two, own-det-four}
use Rattle.angles.proofs.Runs.{every-angle}

-- ---- maps of the two widths, whatever they belong to

module _ {𝓝 : Ops} (𝓒 : IsCommutative 𝓝) {𝓣 : Tests 𝓝} (𝓥 : Divides 𝓝 𝓣) {A : Type 0} (op : A → Local 𝓝)
    (few : (x : A) → ((op x).width ≡ 2) ⊎ ((op x).width ≡ 4)) where
  own-det : (x : A) → det 𝓝 (op x).width (op x).map ≡ own_det 𝓝 𝓣 (op x).width (op x).map
  own-det x = by (few x)
    where
      by : ((op x).width ≡ 2) ⊎ ((op x).width ≡ 4) → det 𝓝 (op x).width (op x).map ≡ own_det 𝓝 𝓣 (op x).width (op x).map
      by (inl e) = subst (λ k. det 𝓝 k (op x).map ≡ own_det 𝓝 𝓣 k (op x).map) (sym e) (sym (own-det-two 𝓒 𝓥 (op x).map))
      by (inr e) = subst (λ k. det 𝓝 k (op x).map ≡ own_det 𝓝 𝓣 k (op x).map) (sym e) (sym (own-det-four 𝓒 𝓥 (op x).map))

  pub own-maps : (below : 𝓝.N → Bool) (xs : List (Item A)) (t : State 𝓝)
      → run 𝓝 below (odd 𝓝 below) (map (each op) xs) t ≡ run 𝓝 below (own_odd 𝓝 𝓣 below) (map (each op) xs) t
  unfolding in_order
  own-maps below [] t = refl
  own-maps below (interaction ∷ xs) t = own-maps below xs t
  own-maps below (applied x ∷ xs) t =
      own-maps below xs (step 𝓝 below (odd 𝓝 below) (op x) t)
      ∙ (λ i. run 𝓝 below (own_odd 𝓝 𝓣 below) (map (each op) xs) (step 𝓝 below (λ o. below (own-det x i)) (op x) t))

-- of one mode or two
pub two-or-four : (modes : ℕ) → (modes ≡ 1) ⊎ (modes ≡ 2) → (2 * modes ≡ 2) ⊎ (2 * modes ≡ 4)
two-or-four modes (inl e) = inl (ap (λ m. 2 * m) e)
two-or-four modes (inr e) = inr (ap (λ m. 2 * m) e)

-- ---- blocks

module _ {𝓝 : Ops} {𝓣 : Tests 𝓝} (𝓥 : Divides 𝓝 𝓣) {below : 𝓝.N → Bool} (𝓔 : Exact 𝓝 below) {n : ℕ} {𝓐 : Ops} (𝓠 : Operators 𝓝 𝓔.i n 𝓐) where
  pub own-run : (gs : List (Item (Block 𝓠))) (t : State 𝓝)
      → run 𝓝 below (odd 𝓝 below) (map (each (operation 𝓠)) gs) t ≡ run 𝓝 below (own_odd 𝓝 𝓣 below) (map (each (operation 𝓠)) gs) t
  own-run = own-maps 𝓔.laws 𝓥 (operation 𝓠) (λ g. two-or-four g.modes g.few) below

  pub every-angle-by-elimination : EveryAngle 𝓔 𝓠 (own_odd 𝓝 𝓣 below)
  every-angle-by-elimination gs = subst (Right 𝓠 gs) (own-run gs (vacuum 𝓝)) (every-angle 𝓔 𝓠 gs)

-- THE STATEMENT
pub own-angle-theorem : OwnAngleTheorem
own-angle-theorem 𝓝 below 𝓔 n 𝓐 𝓠 𝓣 𝓥 = every-angle-by-elimination 𝓥 𝓔 𝓠
