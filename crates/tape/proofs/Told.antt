-- What the code's results say (specs/Told.antt) is said of one result only: a fault is found again from its number and its place, and so is a result
-- from what is told of it. Assumes nothing.
use Rattle.std.proofs.Common.{◌≡◌, ℕ, [], ◌∷◌, get_or, refl, sym, ap, ap₂, ◌∙◌}
use Rattle.std.specs.Prelude.{Result, Ok, Err}
use Rattle.tape.specs.Checked.{Checked}
use Rattle.tape.specs.Checked as Check
use Rattle.tape.specs.Told.{number_of, place_of, told}
use Rattle.tape.specs.declared.check.Contents.{Contents}
use Rattle.tape.specs.declared.fault.Fault.{Fault}
use Rattle.tape.specs.declared.fault.Fault.TheVariants.{NoHeader, BadHeader, BadTolerance, ManyGates, BadRecord, BadQubit, SameQubit, LargeEntry}

fault_at : ℕ → ℕ → Fault
fault_at n at =
    get_or
    (NoHeader ∷ NoHeader ∷ BadHeader ∷ BadTolerance ∷ ManyGates at ∷ BadRecord at ∷ BadQubit at ∷ SameQubit at ∷ LargeEntry at ∷ [])
    n
    NoHeader

again : (f : Fault) → fault_at (number_of f) (place_of f) ≡ f
unfolding fault_at
again NoHeader = refl
again BadHeader = refl
again BadTolerance = refl
again (ManyGates at) = refl
again (BadRecord at) = refl
again (BadQubit at) = refl
again (SameQubit at) = refl
again (LargeEntry at) = refl

pub same_fault : (f g : Fault) → number_of f ≡ number_of g → place_of f ≡ place_of g → f ≡ g
same_fault f g n p = sym (again f) ∙ ap₂ fault_at n p ∙ again g

result_at : Checked → Result Contents Fault
result_at (Check.Good h g l) = Ok (record { header = h; gates = g; labels = l })
result_at (Check.Refused n at) = Err (fault_at n at)

told_back : (x : Result Contents Fault) → result_at (told x) ≡ x
unfolding result_at
told_back (Ok c) = refl
told_back (Err f) = ap Err (again f)

pub told_apart : (x y : Result Contents Fault) → told x ≡ told y → x ≡ y
told_apart x y e = sym (told_back x) ∙ ap result_at e ∙ told_back y
