-- `tape::check::read_tape` meets its contract: the header's answer, then that of the records. Assumes nothing.
use Rattle.tape.proofs.Reading.{no_header, with_header, refused_is}
use Rattle.tape.proofs.check.read_tape.Goals as goal

pub returns-in_err-header-clause-contents : goal.returns-in_err-header-clause-contents
returns-in_err-header-clause-contents c =
    (refused_is _ c.args.wanted _ _ c.from_residual.ensures.1 (no_header _ _ _ _ c.in_err-header.ensures)).0

pub returns-in_err-header-clause-label : goal.returns-in_err-header-clause-label
returns-in_err-header-clause-label c =
    (refused_is _ c.args.wanted _ _ c.from_residual.ensures.1 (no_header _ _ _ _ c.in_err-header.ensures)).1

pub read_records-requires : goal.read_records-requires
read_records-requires c = (with_header _ _ c.in_ok-header.ensures).1
