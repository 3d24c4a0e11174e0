-- A run is calls of `apply` with its own operations, so that what the calls answer its state answers. Assumes nothing.
use mathlib.Core.Path.{◌≡◌, refl, subst}
use mathlib.Core.List.{List}
use Prim.Native.Nat.{ℕ, ◌≤◌}
use lib.ListN.{length}
use lib.Ieee.{Float}
use Rattle.tape.specs.Parse.{Content, accepted, parse}
use Rattle.tape.specs.declared.header.Header.{Header}
use Rattle.detect.specs.Operation.{written}
use Rattle.detect.specs.Report.{report_of}
use Rattle.detect.specs.Compile.{reported_of, program_of}
use Rattle.local.specs.Bounds.{state_places}
use Rattle.state.specs.Bounds.{dim_of}
use Rattle.gaussian.proofs.Signs.{held, in_hand, before, calls, of_run}
use Rattle.rounded.specs.Operations.{items_in}
use Rattle.rounded.specs.Calls.{Rounds}
use Rattle.rounded.specs.Runs.{RunRounds, RoundedRuns}
use Rattle.rounded.proofs.Calls.{rounded-by-calls}

tape-rounds : (t : List ℕ) (h : Header) (c : Content) (parsed : parse t ≡ accepted h c) (ops s : List Float) (room : state_places (dim_of h.n) ≤ length s)
    → RunRounds (in_hand t h c parsed ops s room) (reported_of h c.gates).operations (written (program_of h c.gates) ops)
unfolding reported_of report_of
tape-rounds t h c parsed ops s room modes lent =
    subst (λ (l : List Float). Rounds h.n modes (items_in h.n (held t h c parsed ops s room)) l) (calls t h c parsed ops s room modes lent)
    (rounded-by-calls h.n (held t h c parsed ops s room) modes s (before t h c parsed ops s room modes lent))

-- THE STATEMENT
pub rounded-runs : RoundedRuns
rounded-runs t work marks ops state number =
    of_run t work marks ops state _ _ _ refl refl refl RunRounds (λ h c parsed ops s room. tape-rounds t h c parsed ops s room) number
