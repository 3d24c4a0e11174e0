-- No two answers of a product or a marginal are told alike (specs/Answers.antt), by the same law of a state call's. Assumes nothing.
use Rattle.std.proofs.Common.{◌≡◌, refl, ap, sym, ◌∙◌}
use mathlib.Core.Bool.{true≢false}
use Rattle.std.specs.Prelude.{Result, Ok, Err, Float}
use Rattle.std.specs.Result.{is_ok}
use Rattle.state.specs.declared.answer.Refusal.{Refusal}
use Rattle.state.specs.Answers.{told}
use Rattle.state.proofs.Apart.{told_apart}
use Rattle.queries.specs.Answers.{Number, answered}

-- the answer without its row
number_alone : Result Number Refusal → Result Float Refusal
number_alone (Ok x) = Ok x.value
number_alone (Err why) = Err why

alone-told : (x : Result Number Refusal) → (answered x).told ≡ told (number_alone x)
unfolding answered told number_alone
alone-told (Ok x) = refl
alone-told (Err why) = refl

pub answered_apart : (x y : Result Number Refusal) → answered x ≡ answered y → x ≡ y
unfolding answered number_alone
answered_apart x y e = by x y (told_apart (number_alone x) (number_alone y) (sym (alone-told x) ∙ ap (λ a. a.told) e ∙ alone-told y)) (ap (λ a. a.row) e)
  where
    by : (x y : Result Number Refusal) → number_alone x ≡ number_alone y → (answered x).row ≡ (answered y).row → x ≡ y
    by (Ok a) (Ok b) u v =
        let same : a.value ≡ b.value = ap (λ r. elim r [ Ok x ↦ x | Err why ↦ a.value ]) u in
        λ t. Ok record { value = same t; row = v t }
    by (Ok a) (Err why) u v = absurd (true≢false (ap is_ok u))
    by (Err why) (Ok b) u v = absurd (true≢false (sym (ap is_ok u)))
    by (Err why) (Err other) u v = ap (λ r. elim r [ Ok x ↦ Err why | Err why ↦ Err why ]) u
