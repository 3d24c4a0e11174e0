-- `detect::tables::table` meets its contract: the entries so far are the closure's. Assumes nothing.
use mathlib.Core.Path.{ap, ◌∙◌}
use native.Mathlib.Nat.{le_antisymm}
use native.Mathlib.Omega.{arith}
use Rattle.laws.specs.Views.{up_from}
use Rattle.detect.specs.Report.{table}
use Rattle.detect.proofs.Entries.{table_none, table_more}
use Rattle.detect.proofs.tables.table.Goals as goal

pub loop-k-init : goal.loop-k-init
unfolding up_from
loop-k-init g c = λ e h. table_none e

pub loop-k-preserved : goal.loop-k-preserved
loop-k-preserved g c = λ e h.
    let l = c.loop-k in
    table_more e l.k c.entry.result l.t (omega (arith, c.requires.few, c.loop-k-test.true)) (l.invariant e h) (h l.k c.entry.result c.loop-k-test.true c.entry.ensures)

pub returns : goal.returns
returns g c = λ e h.
    let l = c.loop-k in
    l.invariant e h ∙ ap (λ k. table k e) (le_antisymm l.auto.k-end c.loop-k-test.false)
