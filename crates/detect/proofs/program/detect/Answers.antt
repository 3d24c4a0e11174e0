-- `detect::program::detect` meets its contract: the passes one after the other. Assumes nothing.
use mathlib.Core.Path.{sym, ap, ◌∙◌}
use borrow.Author.Tests.{eqb-true}
use Rattle.detect.specs.Report.{report_of}
use Rattle.detect.specs.Compile.{reported_of}
use Rattle.detect.proofs.Detecting.{wires-there, items-held, tables-there, parts, detects}
use Rattle.detect.proofs.program.detect.Goals as goal

pub order_work-ordering-requires : goal.order_work-ordering-requires
order_work-ordering-requires c = wires-there c.requires c.relabels-relabel.ensures c.relabel_all-swaps.ensures c.fuse_events-fused.ensures

pub count_all-counts-requires : goal.count_all-counts-requires
count_all-counts-requires c =
    items-held c.requires c.relabels-relabel.ensures c.relabel_all-swaps.ensures c.fuse_events-fused.ensures c.reorders.ensures
    c.order_work-ordering.ensures

pub of-requires : goal.of-requires
of-requires c =
    tables-there c.requires c.relabels-relabel.ensures c.relabel_all-swaps.ensures c.fuse_events-fused.ensures c.reorders.ensures
    c.order_work-ordering.ensures c.count_all-counts.ensures.kept

pub returns : goal.returns
unfolding reported_of report_of
returns c =
    let r = c.relabel_all-swaps.ensures in
    let f = c.fuse_events-fused.ensures in
    let o = c.order_work-ordering.ensures in
    let k = c.count_all-counts.ensures in
    let p = parts c.requires c.relabels-relabel.ensures r f c.reorders.ensures o k.kept in
    let n = c.slots-n.ensures.count ∙ c.requires.slots in
    let counts = k.counts ∙ p.counts in
    let tables = c.of.ensures ∙ p.tables in
    detects c.requires c.relabels-relabel.ensures r f c.reorders.ensures o k.kept
    (c.report_of.ensures
    ∙ (λ z. report_of (n z) (counts z) (p.swaps z) (p.angled z) (p.name z) (tables z).order (tables z).starts (tables z).modes))
    (λ e. eqb-true c.count_all-counts.result.bad 0 (sym (ap (λ r. r.free) c.report_of.ensures) ∙ e))
