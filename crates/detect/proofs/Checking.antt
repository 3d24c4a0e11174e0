-- From the check of a tape to its parse, question 9 and what is lent on, and the front of a slice made zero. Assumes nothing.
use mathlib.Core.Path.{◌≡◌, refl, sym, ap, ap₂, ◌∙◌}
use mathlib.Core.Bool.{Bool, true, false, cond}
use mathlib.Core.List.{List, [], ◌∷◌, ◌++◌}
use Prim.Native.Nat.{ℕ, zero, suc, ◌≤◌}
use native.Mathlib.Omega.{arith}
use lib.Dec.{ltb}
use lib.ListN.{length, take, drop}
use lib.Seq.{length-take-le}
use lib.Ieee.{Float}
use borrow.Author.Tests.{ltb-false}
use Rattle.laws.specs.Slices.{mapped_to, filled}
use Rattle.laws.specs.Bounds.{max_qubits}
use Rattle.work.specs.Sizes.{work_floats, work_marks}
use Rattle.tape.specs.Parse.{Parsed, Content, refused, accepted, parse, content_of, checked_of}
use Rattle.tape.specs.declared.header.Header.{Header}
use Rattle.tape.proofs.CursorLaws.{checked-passed}
use Rattle.tape.proofs.GoodLaws.{gates-good, gates-few}
use Rattle.work.specs.Lent.{Space}
use Rattle.fuse.specs.Slotted.{Gates}
use Rattle.tape.specs.Checked.{Good, Refused}
use Rattle.std.specs.Prelude.{Ok, Err}
use Rattle.detect.specs.declared.lending.Parts.{Parts}
use Rattle.detect.specs.declared.refusal.Refusal.{Refusal}
use Rattle.detect.specs.declared.refusal.Refusal.TheVariants.{SmallWork}
use Rattle.detect.specs.Questions.{Asked, early, has_work, asked_nine, asked_from}
use Rattle.detect.specs.Lending.{parts_of, lending_of, Read, Lent}

-- ---- question 9

-- what the lengths p of the parts say, of slices of w and u places
pub record Lends (g n w u : ℕ) (p : Parts) : Type 0 where
  pub some : has_work g n w u ≡ true
  pub floats : p.floats ≡ work_floats g n
  pub marks : p.marks ≡ work_marks g n
  pub floats-there : p.floats ≤ w
  pub marks-there : p.marks ≤ u

module _ (g n w u : ℕ) where
  pub lent-short : {e : Refusal} → lending_of g n w u ≡ Err e → (has_work g n w u ≡ false) × (e ≡ SmallWork)
  lent-short {e = e} q = by (has_work g n w u) refl q
    where
      by : (b : Bool) → has_work g n w u ≡ b → cond b (Ok (parts_of g n)) (Err SmallWork) ≡ Err e → (has_work g n w u ≡ false) × (e ≡ SmallWork)
      by false h k = (h, cc)
      by true h k = absurd (cc)

  pub lent-parts : {p : Parts} → lending_of g n w u ≡ Ok p → Lends g n w u p
  lent-parts {p = p} e = by (ltb w (work_floats g n)) (ltb u (work_marks g n)) refl refl
    where
      by : (a b : Bool) → ltb w (work_floats g n) ≡ a → ltb u (work_marks g n) ≡ b → Lends g n w u p
      by true b h k = (let z : Err SmallWork ≡ Ok p = sym (rw h) ∙ e in absurd (cc))
      by false true h k = (let z : Err SmallWork ≡ Ok p = sym (rw (h, k)) ∙ e in absurd (cc))
      by false false h k =
          let same : Ok (parts_of g n) ≡ Ok p = sym (rw (h, k)) ∙ e in
          let is : parts_of g n ≡ p = cc in
          let floats : work_floats g n ≡ p.floats = ap (λ p. p.floats) is in
          let marks : work_marks g n ≡ p.marks = ap (λ p. p.marks) is in
          record {
            some = rw (h, k);
            floats = sym floats;
            marks = sym marks;
            floats-there = omega (arith, ltb-false w (work_floats g n) h, floats);
            marks-there = omega (arith, ltb-false u (work_marks g n) k, marks);
          }

-- ---- the front of a slice

filled-split : {A : Type 0} (k : ℕ) (v : A) (l : List A) → k ≤ length l → filled k v (take k l) ++ drop k l ≡ filled k v l
unfolding mapped_to
filled-split zero v l h = refl
filled-split (suc k) v [] h = refl
filled-split (suc k) v (x ∷ l) h = ap (λ m. v ∷ m) (filled-split k v l (omega arith))

pub front-filled : {A : Type 0} (k : ℕ) (v : A) (l ys : List A) → k ≤ length l → ys ≡ filled (length (take k l)) v (take k l) → ys ++ drop k l ≡ filled k v l
front-filled k v l ys h e =
    ap (λ m. m ++ drop k l) (e ∙ ap (λ j. filled j v (take k l)) (length-take-le k l h)) ∙ filled-split k v l h

-- ---- a tape that is refused

module _ (p : Parsed) (r i : ℕ) (e : checked_of p ≡ Refused r i) where
  pub refused-is : p ≡ refused r i
  unfolding checked_of
  refused-is = by p e
    where
      by : (p : Parsed) → checked_of p ≡ Refused r i → p ≡ refused r i
      by (refused s j) q = let a : s ≡ r = cc in let b : j ≡ i = cc in rw (a, b)
      by (accepted h c) q = absurd (let z : ◌≡◌ {A = ℕ} 0 1 = cc in omega arith)

  pub asked-refused : (next : Header → Content → Asked) (w u : ℕ) → asked_from next p w u ≡ early r i
  unfolding asked_from
  asked-refused next w u = ap (λ p. asked_from next p w u) refused-is

-- ---- one that is accepted

pub asked-good : (p : Parsed) (h : Header) (g l : ℕ) → checked_of p ≡ Good h g l
    → (next : Header → Content → Asked) (w u : ℕ) → asked_from next p w u ≡ asked_nine next h (content_of p) g w u
unfolding checked_of asked_from content_of
asked-good (refused r i) h g l e next w u = absurd (let z : ◌≡◌ {A = ℕ} 0 1 = cc in omega arith)
asked-good (accepted k c) h g l e next w u =
    let a : k ≡ h = cc in
    let b : length c.gates ≡ g = cc in
    ap₂ (λ h g. asked_nine next h c g w u) a b

-- what the questions 1 to 8 say of its bytes
pub read-good : (t : List ℕ) (h : Header) (g l : ℕ) → checked_of (parse t) ≡ Good h g l → Read t h g
read-good t h g l e =
    let p = checked-passed t h g l e in
    record {
      gates = record { cursor = p.cursor; count = p.gates; good = λ x k. rw p.header_is (gates-good t x k) };
      qubits = rw p.header_is p.header.qubits;
      few = rw p.gates (gates-few t);
    }
