-- `tape::labels::label` meets its contract: the part at the span. Assumes nothing.
use Rattle.tape.proofs.labels.label.Goals as goal

pub returns : goal.returns
returns c =
    let e = c.label_span.ensures.value in
    record { contents = rw (c.part.ensures.contents, e); place = (c.part.ensures.place.0, rw (c.part.ensures.place.1, e)) }
