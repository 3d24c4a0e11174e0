-- `local::det::det4` meets its contract: the pivot is one of the four rows. Assumes nothing.
use mathlib.Core.Path.{◌≡◌, sym, ap, ◌∙◌}
use mathlib.Core.List.{List, [], ◌∷◌}
use native.Mathlib.Omega.{arith}
use Rattle.local.specs.Det.{Line, better_of, last_largest, det}
use Rattle.local.specs.declared.det.Best.{Best}
use lib.Ieee.{of_bits}
use Rattle.laws.specs.Views.{up_from}
use Rattle.laws.specs.Zeros.{+1}
use Rattle.real.specs.declared.maps.Map4.{Map4}
use Rattle.local.specs.Parts.{line4}
use Rattle.local.proofs.DetLaws.{largest-below, chosen}
use Rattle.local.proofs.det.det4.Goals as goal

rows : Map4 → List Line
rows q = line4 q.r1 ∷ line4 q.r2 ∷ line4 q.r3 ∷ []

-- the pivot's number
found : (q : Map4) (f g h i : Best) → f ≡ record { row = 0; head = q.r0.x0 } → g ≡ better_of f 1 q.r1.x0 → h ≡ better_of g 2 q.r2.x0
    → i ≡ better_of h 3 q.r3.x0 → i.row ≡ last_largest (rows q) 1 (record { row = 0; head = q.r0.x0 })
unfolding last_largest rows
found q f g h i e j k l =
    ap (λ b. b.row) (l ∙ ap (λ h. better_of h 3 q.r3.x0) (k ∙ ap (λ g. better_of g 2 q.r2.x0) (j ∙ ap (λ f. better_of f 1 q.r1.x0) e)))

pub returns-in-0 : goal.returns-in-0
unfolding det up_from rows of_bits
returns-in-0 c =
    let q = c.args.q in
    let p = found q _ _ _ _ c.first.ensures c.or.ensures c.or-2.ensures c.or-best.ensures in
    c.below4.ensures ∙ sym (chosen 3 (line4 q.r0) (rows q) +1 0 (sym p ∙ c.in-0.is))

pub returns-in-1 : goal.returns-in-1
unfolding det up_from rows of_bits
returns-in-1 c =
    let q = c.args.q in
    let p = found q _ _ _ _ c.first.ensures c.or.ensures c.or-2.ensures c.or-best.ensures in
    c.below4-in-1.ensures ∙ sym (chosen 3 (line4 q.r0) (rows q) +1 1 (sym p ∙ c.in-1.is))

pub returns-in-2 : goal.returns-in-2
unfolding det up_from rows of_bits
returns-in-2 c =
    let q = c.args.q in
    let p = found q _ _ _ _ c.first.ensures c.or.ensures c.or-2.ensures c.or-best.ensures in
    c.below4-in-2.ensures ∙ sym (chosen 3 (line4 q.r0) (rows q) +1 2 (sym p ∙ c.in-2.is))

pub returns-in_default : goal.returns-in_default
unfolding det up_from rows of_bits
returns-in_default c =
    let q = c.args.q in
    let p = found q _ _ _ _ c.first.ensures c.or.ensures c.or-2.ensures c.or-best.ensures in
    let three : c.or-best.result.row ≡ 3 = omega (arith, p, largest-below (rows q) 1 (record { row = 0; head = q.r0.x0 }) (omega arith)) in
    c.below4-in_default.ensures ∙ sym (chosen 3 (line4 q.r0) (rows q) +1 3 (sym p ∙ three))
