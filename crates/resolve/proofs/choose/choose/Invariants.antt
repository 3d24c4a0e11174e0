-- `resolve::choose::choose` meets its contract: what is left to try from ka on gives the whole.
-- Assumes nothing.
use mathlib.Core.Path.{◌≡◌}
use Prim.Native.Nat.{◌+◌, ◌≤◌, ◌<◌}
use Rattle.resolve.specs.Cuts.{cuts}
use Rattle.resolve.specs.Choose.{all_offers, try_each, choose_of}
use Rattle.std.specs.Prelude.{IsSome}
use Rattle.resolve.specs.Searched.{search_of}
use Rattle.resolve.specs.Slots.{first_row, second_row}
use Rattle.resolve.proofs.Choosing.{cuts_from}
use Rattle.resolve.proofs.choose.choose.Given as goal

abbrev pub invariant-loop-ka : goal.invariant-loop-ka
invariant-loop-ka l =
    let pa = first_row l.work.floats in
    let pb = second_row l.work.floats in
    let left = all_offers (cuts_from l.la l.ka) (cuts l.lb) in
    (l.ka ≤ l.la + 1)
    × (try_each l.rules.relabel l.rules.tol l.base pa pb left (search_of l.base l.s) ≡ choose_of l.rules.relabel l.rules.tol l.base pa pb l.la l.lb)
    × (0 < l.ka → IsSome l.s.best)
