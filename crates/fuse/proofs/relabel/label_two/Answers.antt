-- `fuse::relabel::label_two` meets its contract: by the laws for a Swap that renames and for any other gate.
-- Assumes nothing.
use mathlib.Core.Path.{◌≡◌}
use mathlib.Core.Bool.{true, false, ◌&&◌}
use native.Mathlib.Omega.{arith}
use lib.Dec.{eqb}
use Rattle.std.proofs.lemmas.Bool.Decides.{nat_tests}
use Rattle.fuse.specs.Relabel.{swap_code}
use Rattle.fuse.proofs.Labels.{swap-labelled, two-labelled}
use Rattle.fuse.proofs.relabel.label_two.Goals as goal

pub returns-then-code-eq-SWAP : goal.returns-then-code-eq-SWAP
returns-then-code-eq-SWAP c =
    let on : (c.args.relabel && eqb c.args.code swap_code) ≡ true = grind (arith, nat_tests) in
    rw (c.put_event.ensures, c.exchange.ensures.exchanged) (swap-labelled _ c.requires.0 c.exchange.ensures.whole _ _ _ _ c.requires.1 c.requires.2 on)

pub returns : goal.returns
returns c =
    let off : (c.args.relabel && eqb c.args.code swap_code) ≡ false = grind (arith, nat_tests) in
    rw (c.put_matrix.ensures.put, c.put_event-2.ensures, c.mark-s.ensures.value, c.mark-t.ensures.value)
    (two-labelled _ c.requires.0 c.mark-s.ensures.whole _ _ _ _ c.requires.1 c.requires.2 off)
