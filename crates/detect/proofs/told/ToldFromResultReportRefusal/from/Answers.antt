-- The answer as plain numbers: those of a refusal's report are zero. Assumes nothing.
use mathlib.Core.Path.{refl}
use Rattle.laws.specs.Views.{up_from}
use Rattle.detect.specs.Report.{no_report}
use Rattle.detect.proofs.told.ToldFromResultReportRefusal.from.Goals as goal

pub returns-in-Err : goal.returns-in-Err
unfolding no_report up_from
returns-in-Err c = rw (c.from.ensures, c.number.ensures, c.place.ensures, c.in-Err.is) refl
