-- The text of what was read is that of the whole input: either all of it was read, or both are too big. Assumes nothing.
use Rattle.std.proofs.Common.{◌≡◌, ℕ, ◌<◌, ◌≤◌, true, List, [], ◌++◌, length, inl, inr, refl, sym, ap, ◌∙◌, subst, arith, length-append}
use Rattle.std.specs.Prelude.{Option, None, Some, IfSome, ◌⊎◌}
use Rattle.std.proofs.lemmas.Bool.{lt-ltb}
use Rattle.std.proofs.lemmas.List.{append-nil}
use Rattle.std.proofs.Math.Nat.{eq-or-lt_of_le}
use Rattle.std.specs.Io.KnownBytes.{Appends, Consumes, IsAtEnd}
use Rattle.text.specs.Bounds.{max_tape}
use Rattle.text.specs.Lines.{too_big_line}
use Rattle.text.specs.Print.{is_too_big, printed}

too_big : (t : List ℕ) → max_tape < length t → is_too_big t ≡ true
unfolding is_too_big
too_big t h = rw (lt-ltb max_tape (length t) h) refl

cut : (t : List ℕ) → max_tape < length t → printed t ≡ too_big_line
unfolding printed
cut t h = rw (too_big t h) refl

-- the bytes read, and those left
same : (bs ys : List ℕ) (room : ℕ) → max_tape < room → length bs ≤ room → (length bs < room → ys ≡ []) → printed bs ≡ printed (bs ++ ys)
same bs ys room h fits end = by (eq-or-lt_of_le fits)
  where
    by : (length bs ≡ room) ⊎ (length bs < room) → printed bs ≡ printed (bs ++ ys)
    by (inl e) =
        let a : max_tape < length bs = omega arith in
        let b : max_tape < length (bs ++ ys) = omega (arith, length-append bs ys) in
        cut bs a ∙ sym (cut (bs ++ ys) b)
    by (inr l) = ap printed (sym (append-nil bs) ∙ ap (λ zs. bs ++ zs) (sym (end l)))

-- what is written
pub written : (before after : Option (List ℕ)) (bs : List ℕ) (room : ℕ) → max_tape < room → length bs ≤ room → Consumes before after bs
    → (length bs < room → IsAtEnd after) → (old new : Option (List ℕ)) → Appends old new (printed bs) → IfSome before (λ tape. Appends old new (printed tape))
written None after bs room h fits consumed end old new out = tt
written (Some xs) None bs room h fits consumed end old new out = absurd consumed
written (Some xs) (Some ys) bs room h fits consumed end old new out = subst (λ tape. Appends old new tape) (same bs ys room h fits end ∙ ap printed (sym consumed)) out
