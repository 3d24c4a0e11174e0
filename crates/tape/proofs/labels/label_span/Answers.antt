-- `tape::labels::label_span` meets its contract: the label that one reading finds lies in the tape. Assumes nothing.
use mathlib.Core.Path.{◌≡◌, sym, subst}
use Rattle.std.proofs.Common.{rules}
use Rattle.tape.specs.Labels.{span_of}
use Rattle.tape.specs.declared.labels.Span.{Span}
use Rattle.tape.proofs.Reading.{Inside, label_inside}
use Rattle.tape.proofs.labels.label_span.Goals as goal

pub returns-in-Ok-clause-inside : goal.returns-in-Ok-clause-inside
returns-in-Ok-clause-inside c =
    let t = c.args.tape.now in
    let P : Span → Type 0 = Inside t in
    let e : c.unwrap_or.result ≡ span_of t c.args.which = search rules in
    subst P (sym e) (label_inside t c.args.which)
