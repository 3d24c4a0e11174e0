-- `local::det::pivot3` meets its contract: the pivot is one of the three rows. Assumes nothing.
use mathlib.Core.Path.{◌≡◌, sym, ap, ◌∙◌}
use mathlib.Core.List.{[], ◌∷◌}
use native.Mathlib.Omega.{arith}
use Rattle.local.specs.Det.{better_of, last_largest}
use Rattle.local.specs.declared.det.Best.{Best}
use Rattle.local.specs.declared.det.Real3.{Real3}
use Rattle.local.specs.Parts.{line3}
use Rattle.local.proofs.DetLaws.{largest-below, chosen}
use Rattle.local.proofs.det.pivot3.Goals as goal

-- the pivot's number
found : (a b c : Real3) (f g h : Best) → f ≡ record { row = 0; head = a.x0 } → g ≡ better_of f 1 b.x0 → h ≡ better_of g 2 c.x0
    → h.row ≡ last_largest (line3 b ∷ line3 c ∷ []) 1 (record { row = 0; head = a.x0 })
unfolding last_largest
found a b c f g h e i j = ap (λ b. b.row) (j ∙ ap (λ g. better_of g 2 c.x0) (i ∙ ap (λ f. better_of f 1 b.x0) e))

pub returns-in-0 : goal.returns-in-0
returns-in-0 c =
    let a = c.args in
    let p = found a.a a.b a.c _ _ _ c.first.ensures c.or.ensures c.or-2.ensures in
    c.below3.ensures ∙ sym (chosen 2 (line3 a.a) (line3 a.b ∷ line3 a.c ∷ []) a.d 0 (sym p ∙ c.in-0.is))

pub returns-in-1 : goal.returns-in-1
returns-in-1 c =
    let a = c.args in
    let p = found a.a a.b a.c _ _ _ c.first.ensures c.or.ensures c.or-2.ensures in
    c.below3-in-1.ensures ∙ sym (chosen 2 (line3 a.a) (line3 a.b ∷ line3 a.c ∷ []) a.d 1 (sym p ∙ c.in-1.is))

pub returns-in_default : goal.returns-in_default
returns-in_default c =
    let a = c.args in
    let p = found a.a a.b a.c _ _ _ c.first.ensures c.or.ensures c.or-2.ensures in
    let two : c.or-2.result.row ≡ 2 =
    omega (arith, p, largest-below (line3 a.b ∷ line3 a.c ∷ []) 1 (record { row = 0; head = a.a.x0 }) (omega arith)) in
    c.below3-in_default.ensures ∙ sym (chosen 2 (line3 a.a) (line3 a.b ∷ line3 a.c ∷ []) a.d 2 (sym p ∙ two))
