-- A pass over the gates of an accepted tape visits exactly the gates of its definition, in order: it starts after the header (`checked-passed`), and
-- at a cursor stands a label, after which the same gate is next, or the next gate (`found`). Assumes nothing.
use mathlib.Core.Path.{◌≡◌, refl, sym, ap, ◌∙◌}
use mathlib.Core.Bool.{true}
use mathlib.Core.List.{List, [], ◌∷◌}
use Prim.Native.Nat.{ℕ, zero, suc, ◌+◌, ◌≤◌, ◌<◌}
use native.Mathlib.Nat.{add-zero}
use native.Mathlib.Numerals.{add-one}
use native.Mathlib.Omega.{arith}
use lib.ListN.{length, get_or, drop, length-drop}
use lib.Seq.{drop-cons, get_or-drop}
use Rattle.num.specs.Bits.{byte_at}
use Rattle.tape.specs.Bounds.{gate_mark, label_mark, leading, header_length}
use Rattle.tape.specs.Header.{header_at}
use Rattle.tape.specs.Codes.{gate_length}
use Rattle.tape.specs.Records.{code_at, record_at}
use Rattle.tape.specs.Gates.{gate_at}
use Rattle.tape.specs.Parse.{Content, Parsed, refused, accepted, nothing, stepped, walk, parse, is_accepted, content_of, gates_of, places_of, labels_of, checked_of}
use Rattle.tape.specs.Cursor.{Cursor, Stands}
use Rattle.tape.specs.declared.header.Header.{Header}
use Rattle.tape.specs.Step.{Step}
use Rattle.tape.specs.declared.gates.Gate.{Gate}
use Rattle.tape.specs.Checked.{Good}
use Rattle.tape.specs.declared.labels.Span.{Span}
use Rattle.tape.proofs.RecordLaws.{LabelRecord, RecordIs, gate, label, end, bad, record_is}
use Rattle.tape.proofs.HeaderLaws.{GoodHeader}
use Rattle.tape.proofs.WalkLaws.{Accepted, accepted-parse, checked-good, after-gate, after-label}
use Rattle.tape.proofs.Walks.{walk-header}

-- ---- what is left of the gates

-- where nothing follows, there is no further gate
pub none_left : {A : Type 0} (l : List A) (k : ℕ) → [] ≡ drop k l → k < length l → ⊥
none_left l k e h = omega (arith, ap length e, length-drop k l)

-- the head and the tail of what is left
tail-left : {A : Type 0} (l r : List A) (k : ℕ) (x : A) → x ∷ r ≡ drop k l → r ≡ drop (k + 1) l
tail-left l r k x e =
    let h : k < length l = omega (arith, ap length e, length-drop k l) in
    let d = drop-cons l k x h in
    let q : r ≡ drop (suc k) l = cc in
    rw add-one q

-- ---- at a cursor

pub data Found (t : List ℕ) (k i : ℕ) : Type 0 where
  passes : LabelRecord t i → Cursor t k (i + leading + byte_at t (i + 2)) → Found t k i
  stands : byte_at t (i + 1) ≡ gate_mark → Stands t k i (i + gate_length (code_at t i)) → Found t k i

module _ (t : List ℕ) (k i : ℕ) where
  step : (f : ℕ) (c : Content) (x : Step) → RecordIs t i (header_at t).n k x
      → stepped (walk f t (header_at t)) t (header_at t) k i x ≡ accepted (header_at t) c
      → c.gates ≡ drop k (gates_of t) → c.places ≡ drop k (places_of t) → k < length (gates_of t) → Found t k i
  unfolding stepped
  step f c _ (gate w) e g p h =
      let a = after-gate (gate_at t i) i (walk f t (header_at t) (k + 1) (i + gate_length (code_at t i))) (header_at t) c e in
      let gs = tail-left (gates_of t) a.rest.gates k (gate_at t i) (sym a.gates ∙ g) in
      let ps = tail-left (places_of t) a.rest.places k i (sym a.places ∙ p) in
      stands w.mark
      (record {
        whole = w.whole;
        gate = sym g ∙ a.gates ∙ ap (λ y. gate_at t i ∷ y) gs;
        place = sym p ∙ a.places ∙ ap (λ y. i ∷ y) ps;
        after = record { fuel = f; content = a.rest; walks = a.is; gates = gs; places = ps };
      })
  step f c _ (label w) e g p h =
      let s : Span = record { start = i + leading; end = i + leading + byte_at t (i + 2) } in
      let a = after-label s (walk f t (header_at t) k (i + leading + byte_at t (i + 2))) (header_at t) c e in
      passes w (record { fuel = f; content = a.rest; walks = a.is; gates = sym a.gates ∙ g; places = sym a.places ∙ p })
  step f c _ (end l) e g p h =
      let q : nothing ≡ c = cc in
      absurd (none_left (gates_of t) k (ap (λ y. y.gates) q ∙ g) h)
  step f c _ (bad l r) e g p h = absurd (let z : ◌≡◌ {A = ℕ} 0 1 = cc in omega arith)

  walked : (f : ℕ) (c : Content) → walk f t (header_at t) k i ≡ accepted (header_at t) c
      → c.gates ≡ drop k (gates_of t) → c.places ≡ drop k (places_of t) → k < length (gates_of t) → Found t k i
  unfolding walk
  walked zero c e g p h =
      let q : nothing ≡ c = cc in
      absurd (none_left (gates_of t) k (ap (λ y. y.gates) q ∙ g) h)
  walked (suc f) c e g p h = step f c (record_at t i (header_at t).n k) (record_is t i (header_at t).n k) e g p h

  pub found : Cursor t k i → k < length (gates_of t) → Found t k i
  found c h = walked c.fuel c.content c.walks c.gates c.places h

  -- a record is there
  pub found-room : Found t k i → i + leading ≤ length t
  unfolding gate_length
  found-room (passes w c) = let r = w.room in omega arith
  found-room (stands m s) = let r = s.whole.room in omega arith

  -- which one its mark says
  pub found-label : Found t k i → byte_at t (i + 1) ≡ label_mark
      → (i + leading + byte_at t (i + 2) ≤ length t) × Cursor t k (i + leading + byte_at t (i + 2))
  found-label (passes w c) m = (w.room, c)
  found-label (stands n s) m = absurd (let z : ◌≡◌ {A = ℕ} gate_mark label_mark = sym n ∙ m in omega arith)

  pub found-gate : Found t k i → (byte_at t (i + 1) ≡ label_mark → ⊥) → Stands t k i (i + gate_length (code_at t i))
  found-gate (passes w c) m = absurd (m w.mark)
  found-gate (stands n s) m = s

-- ---- what a step gives, by number

module _ (t : List ℕ) (k i next : ℕ) (s : Stands t k i next) where
  pub stands-gate : (d : Gate) → get_or (gates_of t) k d ≡ gate_at t i
  stands-gate d = ap (λ j. get_or (gates_of t) j d) (sym (add-zero k)) ∙ sym (get_or-drop k (gates_of t) 0 d) ∙ ap (λ l. get_or l 0 d) s.gate

  pub stands-place : (d : ℕ) → get_or (places_of t) k d ≡ i
  stands-place d = ap (λ j. get_or (places_of t) j d) (sym (add-zero k)) ∙ sym (get_or-drop k (places_of t) 0 d) ∙ ap (λ l. get_or l 0 d) s.place

-- ---- the start

kept : (w : Parsed) (h : Header) (c : Content) → w ≡ accepted h c → content_of w ≡ c
unfolding content_of
kept w h c e = rw e

-- what the check of a tape says where it refuses nothing
pub record Passed (t : List ℕ) (h : Header) (g l : ℕ) : Type 0 where
  pub accepted-is : is_accepted (parse t) ≡ true
  pub header : GoodHeader t
  pub header_is : h ≡ header_at t
  pub gates : g ≡ length (gates_of t)
  pub labels : l ≡ length (labels_of t)
  pub cursor : Cursor t 0 header_length

pub checked-passed : (t : List ℕ) (h : Header) (g l : ℕ) → checked_of (parse t) ≡ Good h g l → Passed t h g l
unfolding checked_of
checked-passed t h g l e = by (parse t) refl e
  where
    ok : is_accepted (parse t) ≡ true
    ok = checked-good (parse t) h g l e

    w : Accepted t
    w = accepted-parse t ok

    by : (x : Parsed) → parse t ≡ x → checked_of x ≡ Good h g l → Passed t h g l
    by (refused r p) f q = absurd (let z : ◌≡◌ {A = ℕ} 0 1 = cc in omega arith)
    by (accepted k c) f q =
        let a : k ≡ h = cc in
        let b : length c.gates ≡ g = cc in
        let d : length c.labels ≡ l = cc in
        let m = walk-header t (header_at t) k c (length t) 0 header_length (sym w.walks ∙ f) in
        let v = kept (parse t) k c f in
        record {
          accepted-is = ok;
          header = w.header;
          header_is = sym a ∙ sym m;
          gates = sym b ∙ sym (ap (λ y. length y.gates) v);
          labels = sym d ∙ sym (ap (λ y. length y.labels) v);
          cursor = record {
            fuel = length t;
            content = c;
            walks = sym w.walks ∙ f ∙ ap (λ y. accepted y c) (sym m);
            gates = sym (ap (λ y. y.gates) v);
            places = sym (ap (λ y. y.places) v);
          };
        }

-- what is at a cursor, for the functions' attributes
pub ruleset cursors = (found, found-room, found-label, found-gate)
