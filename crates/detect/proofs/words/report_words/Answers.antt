-- `detect::words::report_words` meets its contract. Assumes nothing.
use mathlib.Core.Path.{◌≡◌, refl}
use mathlib.Core.Bool.{Bool, true, false}
use Rattle.std.specs.Int.{from_bool}
use Rattle.order.specs.Slice.{flag}
use Rattle.detect.specs.Words.{report_words}
use Rattle.detect.proofs.words.report_words.Goals as goal

flag_is : (b : Bool) → from_bool b ≡ flag b
flag_is true = refl
flag_is false = refl

pub returns : goal.returns
unfolding report_words
returns c =
    rw (
      c.from.ensures,
      c.from-2.ensures,
      c.from-3.ensures,
      c.from-4.ensures,
      c.from-5.ensures,
      c.from-6.ensures,
      c.from-7.ensures,
      c.from-8.ensures,
      c.from-9.ensures,
      c.from-10.ensures,
      c.from-11.ensures,
      c.ordering_word.ensures,
      flag_is c.args.r.conserving,
      flag_is c.args.r.exact,
      flag_is c.args.r.free,
      flag_is c.args.r.angled,
    )
