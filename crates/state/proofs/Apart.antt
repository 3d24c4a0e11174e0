-- No two answers are told alike (specs/Answers.antt): each is found again from what is told of it. Assumes nothing.
use Rattle.std.proofs.Common.{◌≡◌, ℕ, refl, sym, ap, ◌∙◌}
use Rattle.std.specs.Prelude.{⊤, Result, Ok, Err, Float, cond, eqb}
use Rattle.state.specs.declared.answer.Refusal.{Refusal}
use Rattle.state.specs.declared.answer.Refusal.TheVariants.{BadState, BadOperation, BadBits, BadQubit, SmallWork, BadShots, BadDraw}
use Rattle.state.specs.Answers.{Told, refusal, done, told}

-- the refusal of this number at this place
refusal_by : ℕ → ℕ → Refusal
refusal_by number place =
    cond (eqb number 16) BadState
    (cond (eqb number 17) BadOperation
    (cond (eqb number 18) BadBits
    (cond (eqb number 19) (BadQubit place) (cond (eqb number 20) SmallWork (cond (eqb number 21) BadShots (BadDraw place))))))

-- the answer, whose value is x if nothing is refused
answer_by : {A : Type 0} → A → Told → Result A Refusal
answer_by x t = cond (eqb t.number 0) (Ok x) (Err (refusal_by t.number t.place))

-- a refusal is found again, whatever the value would be
refused_back : {A : Type 0} (x : A) (why : Refusal) → answer_by x (refusal why) ≡ Err why
unfolding refusal refusal_by answer_by
refused_back x BadState = refl
refused_back x BadOperation = refl
refused_back x BadBits = refl
refused_back x (BadQubit place) = refl
refused_back x SmallWork = refl
refused_back x BadShots = refl
refused_back x (BadDraw place) = refl

told_back : (x : Result Float Refusal) → answer_by (told x).value (told x) ≡ x
unfolding told answer_by
told_back (Ok x) = refl
told_back (Err why) = refused_back (refusal why).value why

done_back : (x : Result ⊤ Refusal) → answer_by tt (done x) ≡ x
unfolding done answer_by
done_back (Ok tt) = refl
done_back (Err why) = refused_back tt why

pub told_apart : (x y : Result Float Refusal) → told x ≡ told y → x ≡ y
told_apart x y e = sym (told_back x) ∙ ap (λ (t : Told). answer_by t.value t) e ∙ told_back y

pub done_apart : (x y : Result ⊤ Refusal) → done x ≡ done y → x ≡ y
done_apart x y e = sym (done_back x) ∙ ap (answer_by tt) e ∙ done_back y
