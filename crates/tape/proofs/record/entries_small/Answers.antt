-- `tape::record::entries_small` meets its contract. The loop's invariant: the entries passed are small. Assumes nothing.
use mathlib.Core.Path.{sym, ap, ◌∙◌}
use Rattle.laws.proofs.Tests.{all-fails}
use Rattle.tape.specs.Records.{small_entry, entries_small}
use Rattle.tape.proofs.record.entries_small.Goals as goal

pub returns-then-not-small_entry : goal.returns-then-not-small_entry
unfolding entries_small
returns-then-not-small_entry c =
    all-fails _ _ c.loop-j.j c.loop-j-test.true (sym (c.small_entry.ensures ∙ ap small_entry c.f64_at.ensures) ∙ c.if-not-small_entry.true)
