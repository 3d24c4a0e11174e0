-- `local::det::pivot2` meets its contract: the pivot is one of the two rows. Assumes nothing.
use mathlib.Core.Path.{◌≡◌, sym, ap, ◌∙◌}
use mathlib.Core.List.{[], ◌∷◌}
use native.Mathlib.Omega.{arith}
use Rattle.real.specs.declared.maps.Real2.{Real2}
use Rattle.local.specs.Det.{better_of, last_largest}
use Rattle.local.specs.declared.det.Best.{Best}
use Rattle.local.specs.Parts.{line2}
use Rattle.local.proofs.DetLaws.{largest-below, chosen}
use Rattle.local.proofs.det.pivot2.Goals as goal

-- the pivot's number
found : (a b : Real2) (f g : Best) → f ≡ record { row = 0; head = a.x0 } → g ≡ better_of f 1 b.x0
    → g.row ≡ last_largest (line2 b ∷ []) 1 (record { row = 0; head = a.x0 })
unfolding last_largest
found a b f g e h = ap (λ b. b.row) (h ∙ ap (λ f. better_of f 1 b.x0) e)

pub returns-in-0 : goal.returns-in-0
returns-in-0 c =
    let a = c.args in
    let p = found a.a a.b _ _ c.first.ensures c.or.ensures in
    c.below2.ensures ∙ sym (chosen 1 (line2 a.a) (line2 a.b ∷ []) a.d 0 (sym p ∙ c.in-0.is))

pub returns-in_default : goal.returns-in_default
returns-in_default c =
    let a = c.args in
    let p = found a.a a.b _ _ c.first.ensures c.or.ensures in
    let one : c.or.result.row ≡ 1 = omega (arith, p, largest-below (line2 a.b ∷ []) 1 (record { row = 0; head = a.a.x0 }) (omega arith)) in
    c.below2-in_default.ensures ∙ sym (chosen 1 (line2 a.a) (line2 a.b ∷ []) a.d 1 (sym p ∙ one))
