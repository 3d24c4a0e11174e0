-- `text::words::push_count` meets its contract: a count has ten digits at most. Assumes nothing.
use native.Mathlib.Omega.{arith}
use lib.ListN.{length-append}
use Rattle.text.specs.Ascii.{decimal}
use Rattle.text.proofs.Lengths.{short}
use Rattle.text.proofs.words.push_count.Goals as goal

pub push_field-requires : goal.push_field-requires
push_field-requires c =
    let x = c.args.x in
    rw c.from.ensures (omega (arith, c.requires, short x (omega arith), length-append c.args.word.now (decimal x)))
