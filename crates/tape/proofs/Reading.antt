-- One reading of a tape's records: how far it has come (`Reads`), one record more, and what it has found at the end. Assumes nothing.
use mathlib.Core.Path.{◌≡◌, refl, sym, ap, subst, ◌∙◌}
use mathlib.Core.List.{List, [], ◌∷◌}
use Prim.Native.Nat.{ℕ, zero, suc, ◌+◌, ◌-◌, ◌≤◌, ◌<◌, zero-le}
use native.Mathlib.Nat.{add-zero}
use native.Mathlib.Omega.{arith}
use lib.ListN.{length, get_or}
use Rattle.std.specs.Prelude.{cond, eqb, Option, None, Some, Result, Ok, Err}
use Rattle.std.specs.Result.{IsErrAnd}
use borrow.Author.Tests.{eq-eqb, ne_eqb}
use Rattle.tape.specs.Bounds.{header_length}
use Rattle.tape.specs.Header.{header_of}
use Rattle.tape.specs.Records.{record_at}
use Rattle.tape.specs.Parse.{Parsed, refused, accepted, with_gate, with_label, stepped, walk, after_header, parse, content_of, checked_of}
use Rattle.tape.specs.Labels.{no_span, span_in, span_of}
use Rattle.tape.specs.Told.{number_of, place_of, told_read, span_found, label_read}
use Rattle.tape.specs.Gates.{gate_at}
use Rattle.tape.specs.Step.{Step}
use Rattle.tape.specs.Step.{Gate, Label, End, Refused}
use Rattle.tape.specs.Headed.{Headed}
use Rattle.tape.specs.Headed as Head
use Rattle.tape.specs.Checked as Check
use Rattle.tape.specs.declared.fault.Fault.{Fault}
use Rattle.tape.specs.declared.check.Read.{Read}
use Rattle.tape.specs.declared.header.Header.{Header}
use Rattle.tape.specs.declared.gates.Gate as Gates
use Rattle.tape.specs.declared.labels.Span.{Span}
use Rattle.tape.proofs.HeaderLaws.{HeaderIs, good, bad, header_is}
use Rattle.tape.proofs.RecordLaws.{gate-next, label-next}
use Rattle.tape.proofs.WalkLaws.{walk-read, counted, counted_none, counted-gate, counted-label, span-gate}

-- ---- the label k, where n labels were passed and `found` among them

pub sought : ℕ → ℕ → Option Span → List Span → Span
sought k n found [] = span_found found
sought k n found (s ∷ ss) = sought k (n + 1) (cond (eqb k n) (Some s) found) ss

past : (k n : ℕ) (found : Option Span) (ss : List Span) → k < n → sought k n found ss ≡ span_found found
unfolding sought
past k n found [] h = refl
past k n found (s ∷ ss) h = rw (ne_eqb k n (omega arith)) (past k (n + 1) found ss (omega arith))

from_start : (k n i : ℕ) (ss : List Span) → k ≡ n + i → get_or ss i no_span ≡ sought k n None ss
unfolding sought
from_start k n zero [] e = refl
from_start k n (suc i) [] e = refl
from_start k n zero (s ∷ ss) e = rw (eq-eqb k n (omega arith)) (sym (past k (n + 1) (Some s) ss (omega arith)))
from_start k n (suc i) (s ∷ ss) e = rw (ne_eqb k n (omega arith)) (from_start k (n + 1) i ss (omega arith))

-- a tape that is refused has none
unfoldable pub sought_in : ℕ → ℕ → Option Span → Parsed → Span
sought_in k n found (refused r p) = no_span
sought_in k n found (accepted h c) = sought k n found c.labels

sought_start : (k : ℕ) (w : Parsed) → span_in w k ≡ sought_in k 0 None w
unfolding span_in content_of sought_in
sought_start k (refused r p) = by k
  where
    by : (k : ℕ) → get_or [] k no_span ≡ no_span
    by zero = refl
    by (suc k) = refl
sought_start k (accepted h c) = from_start k 0 k c.labels (omega arith)

sought_gate : (k n i : ℕ) (found : Option Span) (x : Gates.Gate) (w : Parsed) → sought_in k n found (with_gate x i w) ≡ sought_in k n found w
unfolding sought_in with_gate
sought_gate k n i found x (refused r p) = refl
sought_gate k n i found x (accepted h c) = refl

sought_label : (k n : ℕ) (found : Option Span) (s : Span) (w : Parsed)
    → sought_in k n found (with_label s w) ≡ sought_in k (n + 1) (cond (eqb k n) (Some s) found) w
unfolding sought_in sought with_label
sought_label k n found s (refused r p) = refl
sought_label k n found s (accepted h c) = refl

-- ---- how far the reading has come

abbrev pub whole : List ℕ → Header → Parsed
whole t h = walk (length t) t h 0 header_length

-- the next record is at `at`; g gates and l labels were passed, and `found` is the label that is wanted
pub record Reads (t : List ℕ) (h : Header) (wanted : Option ℕ) (at g l : ℕ) (found : Option Span) : Type 0 where
  pub fuel : ℕ
  pub left : length t - at < fuel
  pub count : g + l ≤ at
  pub checked : checked_of (whole t h) ≡ counted g l (walk fuel t h g at)
  pub label : (k : ℕ) → wanted ≡ Some k → span_in (whole t h) k ≡ sought_in k l found (walk fuel t h g at)

pub reads_start : (t : List ℕ) (h : Header) (wanted : Option ℕ) → header_length ≤ length t → Reads t h wanted header_length 0 0 None
reads_start t h wanted room = record {
  fuel = length t;
  left = omega arith;
  count = zero-le;
  checked = sym (counted_none (whole t h));
  label = λ k e. sought_start k (whole t h);
}

module _ (t : List ℕ) (h : Header) (wanted : Option ℕ) (at g l : ℕ) (found : Option Span) (r : Reads t h wanted at g l found) where
  some : 0 < r.fuel
  some = let e = r.left in omega arith

  pub reads_gate : (next : ℕ) → Gate next ≡ record_at t at h.n g → Reads t h wanted next (g + 1) l found
  unfolding stepped
  reads_gate next e =
      let w = walk-read r.fuel t h g at h.n _ some refl e in
      let n = gate-next t at h.n g next (sym e) in
      let a = r.left in
      let b = r.count in
      record {
        fuel = r.fuel - 1;
        left = omega (arith, n.2, n.3);
        count = omega (arith, n.2);
        checked = r.checked ∙ ap (counted g l) w ∙ counted-gate g l at _ _;
        label = λ k q. r.label k q ∙ ap (sought_in k l found) w ∙ sought_gate k l at found _ _;
      }

  pub reads_label : (s : Span) (found' : Option Span) → Label s.start s.end ≡ record_at t at h.n g
      → ((k : ℕ) → wanted ≡ Some k → found' ≡ cond (eqb k l) (Some s) found) → Reads t h wanted s.end g (l + 1) found'
  unfolding stepped
  reads_label s found' e f =
      let w = walk-read r.fuel t h g at h.n _ some refl e in
      let n = label-next t at h.n g s.start s.end (sym e) in
      let a = r.left in
      let b = r.count in
      record {
        fuel = r.fuel - 1;
        left = omega (arith, n.0, n.1);
        count = omega (arith, n.0);
        checked = r.checked ∙ ap (counted g l) w ∙ counted-label g l _ _;
        label = λ k q. r.label k q ∙ ap (sought_in k l found) w ∙ sought_label k l found s _
            ∙ ap (λ x. sought_in k (l + 1) x (walk (r.fuel - 1) t h g s.end)) (sym (f k q));
      }

  pub reads_end : End ≡ record_at t at h.n g
      → Check.Good h g l ≡ checked_of (whole t h) × ((k : ℕ) → wanted ≡ Some k → span_found found ≡ span_in (whole t h) k)
  unfolding stepped counted sought_in sought
  reads_end e =
      let w = walk-read r.fuel t h g at h.n _ some refl e in
      (rw (r.checked ∙ ap (counted g l) w, add-zero g, add-zero l), λ k q. sym (r.label k q ∙ ap (sought_in k l found) w))

  pub reads_refused : (q p : ℕ) → Refused q p ≡ record_at t at h.n g
      → Check.Refused q p ≡ checked_of (whole t h) × ((k : ℕ) → wanted ≡ Some k → no_span ≡ span_in (whole t h) k)
  unfolding stepped counted sought_in
  reads_refused q p e =
      let w = walk-read r.fuel t h g at h.n _ some refl e in
      (sym (r.checked ∙ ap (counted g l) w), λ k f. sym (r.label k f ∙ ap (sought_in k l found) w))

-- ---- the header, then the records

-- the header is refused
pub no_header : (t : List ℕ) (wanted : Option ℕ) (q p : ℕ) → Head.Refused q p ≡ header_of t
    → Check.Refused q p ≡ checked_of (parse t) × ((k : ℕ) → wanted ≡ Some k → no_span ≡ span_of t k)
unfolding parse after_header checked_of span_in content_of
no_header t wanted q p e = (rw (← e), λ k f. rw (← e) (by k))
  where
    by : (k : ℕ) → no_span ≡ get_or [] k no_span
    by zero = refl
    by (suc k) = refl

-- it is good: the records follow it
pub with_header : (t : List ℕ) (h : Header) → Head.Good h ≡ header_of t → (whole t h ≡ parse t) × (header_length ≤ length t)
unfolding parse after_header
with_header t h e = (rw (← e), room (header_of t) (header_is t) e)
  where
    room : (x : Headed) → HeaderIs t x → Head.Good h ≡ x → header_length ≤ length t
    room _ (good w) e = w.room
    room _ (bad r) e = absurd (let z : ◌≡◌ {A = ℕ} 0 1 = cc in omega arith)

-- ---- a refusal that a result hands on

pub refused_is : (w : Parsed) (wanted : Option ℕ) (r : Result Read Fault) (f : Fault) → IsErrAnd r (λ e. e ≡ f)
    → Check.Refused (number_of f) (place_of f) ≡ checked_of w × ((k : ℕ) → wanted ≡ Some k → no_span ≡ span_in w k)
    → told_read r ≡ checked_of w × ((k : ℕ) → wanted ≡ Some k → label_read r ≡ span_in w k)
refused_is w wanted (Ok v) f e p = absurd e
refused_is w wanted (Err g) f e p = (rw e p.0, p.1)

-- ---- a label is a part of the tape

abbrev pub Inside : List ℕ → Span → Type 0
Inside t s = (s.start ≤ s.end) × (s.end ≤ length t)

module _ (t : List ℕ) where
  none : (k : ℕ) → Inside t (get_or [] k no_span)
  none zero = (zero-le, zero-le)
  none (suc k) = (zero-le, zero-le)

  one_more : (s : Span) (w : Parsed) → Inside t s → ((k : ℕ) → Inside t (span_in w k)) → (k : ℕ) → Inside t (span_in (with_label s w) k)
  unfolding span_in content_of with_label
  one_more s (refused r p) here rest k = none k
  one_more s (accepted h c) here rest zero = here
  one_more s (accepted h c) here rest (suc k) = rest k

  module _ (h : Header) where
    step : (f g i k : ℕ) (x : Step) → x ≡ record_at t i h.n g → ((g i k : ℕ) → Inside t (span_in (walk f t h g i) k))
        → Inside t (span_in (stepped (walk f t h) t h g i x) k)
    unfolding stepped span_in content_of
    step f g i k (Gate next) e rest =
        let P : Span → Type 0 = Inside t in
        subst P (sym (span-gate k i (gate_at t i) (walk f t h (g + 1) next))) (rest (g + 1) next k)
    step f g i k (Label a b) e rest =
        let n = label-next t i h.n g a b (sym e) in
        one_more (record { start = a; end = b }) (walk f t h g b) (n.2, n.1) (rest g b) k
    step f g i k End e rest = none k
    step f g i k (Refused r p) e rest = none k

    walk_inside : (f g i k : ℕ) → Inside t (span_in (walk f t h g i) k)
    unfolding walk span_in content_of
    walk_inside zero g i k = none k
    walk_inside (suc f) g i k = step f g i k (record_at t i h.n g) refl (walk_inside f)

  pub label_inside : (k : ℕ) → Inside t (span_of t k)
  unfolding parse after_header span_in content_of
  label_inside k = by (header_of t)
    where
      by : (x : Headed) → Inside t (span_in (after_header t x) k)
      by (Head.Refused q p) = none k
      by (Head.Good h) = walk_inside h (length t) 0 header_length k

-- what a reading comes to, for the functions' attributes
pub ruleset reads = (no_header, with_header, refused_is, reads_start, reads_gate, reads_label, reads_end, reads_refused)
