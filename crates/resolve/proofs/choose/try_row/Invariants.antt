-- `resolve::choose::try_row` meets its contract: what is left to try from kb on gives the whole.
-- Assumes nothing.
use mathlib.Core.Path.{◌≡◌}
use Prim.Native.Nat.{◌+◌, ◌≤◌, ◌<◌}
use Rattle.resolve.specs.Cuts.{cuts}
use Rattle.resolve.specs.Choose.{offers_of, try_each}
use Rattle.std.specs.Prelude.{IsSome}
use Rattle.resolve.specs.Searched.{search_of}
use Rattle.resolve.specs.Slots.{first_row, second_row}
use Rattle.resolve.proofs.Choosing.{cuts_from}
use Rattle.resolve.proofs.choose.try_row.Given as goal

abbrev pub invariant-loop-kb : goal.invariant-loop-kb
invariant-loop-kb l =
    let pa = first_row l.work.floats in
    let pb = second_row l.work.floats in
    let left = offers_of l.ka (cuts_from l.lb l.kb) in
    let all = offers_of l.ka (cuts l.lb) in
    (l.kb ≤ l.lb + 1) × (l.ma ≡ pa l.ka)
    × (try_each l.rules.relabel l.rules.tol l.base pa pb left (search_of l.base l.s)
    ≡ try_each l.rules.relabel l.rules.tol l.base pa pb all (search_of l.base l.initial.s))
    × (0 < l.kb → IsSome l.s.best)
