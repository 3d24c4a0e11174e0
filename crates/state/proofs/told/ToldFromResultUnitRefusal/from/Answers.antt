-- An answer with no number becomes plain numbers, as one of zero. Assumes nothing.
use Rattle.std.proofs.Common.{◌≡◌, refl, ◌∙◌, Result, Ok, Err}
use Rattle.std.specs.Prelude.{⊤}
use Rattle.std.specs.Result.{result_and}
use Rattle.laws.specs.Zeros.{+0}
use Rattle.laws.proofs.Zeros.{zero_bits}
use Rattle.state.specs.Answers.{told, done}
use Rattle.state.specs.declared.answer.Refusal.{Refusal}
use Rattle.state.proofs.told.ToldFromResultUnitRefusal.from.Goals as goal

same : (r : Result ⊤ Refusal) → told (result_and r (Ok +0)) ≡ done r
unfolding told done
same (Ok _) = refl
same (Err e) = refl

pub returns : goal.returns
returns c = c.from.ensures ∙ rw (c.and.ensures, zero_bits) (same c.args.r)
