-- What the record at an offset is, with all that the questions 4 to 8 say of it: `record_is`. By the definition's tests. Assumes nothing.
use mathlib.Core.Path.{◌≡◌, refl}
use mathlib.Core.Bool.{Bool, true, false, cond}
use mathlib.Core.List.{List}
use Prim.Native.Nat.{ℕ, ◌+◌, ◌-◌, ◌≤◌, ◌<◌}
use native.Mathlib.Omega.{arith}
use lib.Dec.{ltb, leb, eqb}
use lib.ListN.{length}
use borrow.Author.Tests.{ltb-false, leb-true, leb-false, eqb-false, eqb-true}
use native.Mathlib.Nat.{pos_of_ne-zero}
use Rattle.std.proofs.lemmas.Bool.{and_parts}
use Rattle.num.specs.Bits.{byte_at}
use Rattle.tape.specs.Bounds.{max_gates, max_label, mark_byte, gate_mark, label_mark, leading}
use Rattle.tape.specs.Codes.{qubits_of, floats_of, gate_length}
use Rattle.tape.specs.Records.{marked_at, code_at, entries_at, qubits_below, qubits_differ, entries_small, gate_fault, sound, gate_record_at, label_bytes, label_record_at, record_at}
use Rattle.tape.specs.Gates.{WholeGate}
use Rattle.tape.specs.Step.{Step}
use Rattle.tape.specs.Step.{Gate, Label, End, Refused}

-- ---- what a record is

-- a gate that passes 4 to 8
pub record GateRecord (t : List ℕ) (i n g : ℕ) : Type 0 where
  pub inside : i < length t
  pub mark : byte_at t (i + 1) ≡ gate_mark
  pub few : g < max_gates
  pub whole : WholeGate t i (qubits_of (code_at t i))
  pub below : qubits_below t i (qubits_of (code_at t i)) n ≡ true
  pub differ : qubits_differ t i (qubits_of (code_at t i)) ≡ true
  pub small : entries_small t (entries_at t i) (floats_of (code_at t i)) ≡ true

-- a label that passes 5
pub record LabelRecord (t : List ℕ) (i : ℕ) : Type 0 where
  pub inside : i < length t
  pub mark : byte_at t (i + 1) ≡ label_mark
  pub short : byte_at t (i + 2) ≤ max_label
  pub room : i + leading + byte_at t (i + 2) ≤ length t
  pub bytes : label_bytes t (i + leading) (byte_at t (i + 2)) ≡ true

pub data RecordIs (t : List ℕ) (i n g : ℕ) : Step → Type 0 where
  gate : GateRecord t i n g → RecordIs t i n g (Gate (i + gate_length (code_at t i)))
  label : LabelRecord t i → RecordIs t i n g (Label (i + leading) (i + leading + byte_at t (i + 2)))
  end : length t ≤ i → RecordIs t i n g End
  bad : i < length t → (r : ℕ) → RecordIs t i n g (Refused r i)

-- ---- the mark

pub marked-second : (t : List ℕ) (i k : ℕ) → marked_at t i k ≡ true → byte_at t (i + 1) ≡ k
unfolding marked_at
marked-second t i k e = eqb-true _ _ (and_parts (eqb (byte_at t i) mark_byte) (eqb (byte_at t (i + 1)) k) (by (ltb (length t - i) 2) e)).1
  where
    by : {x : Bool} (b : Bool) → cond b false x ≡ true → x ≡ true
    by true e = absurd (let z : ◌≡◌ {A = ℕ} 0 1 = cc in omega arith)
    by false e = e

-- ---- the record

module _ (t : List ℕ) (i n g : ℕ) (inside : i < length t) where
  faultless : (a b c : Bool) → g < max_gates → byte_at t (i + 1) ≡ gate_mark → WholeGate t i (qubits_of (code_at t i))
      → qubits_below t i (qubits_of (code_at t i)) n ≡ a → qubits_differ t i (qubits_of (code_at t i)) ≡ b
      → entries_small t (entries_at t i) (floats_of (code_at t i)) ≡ c
      → RecordIs t i n g (sound (cond a (cond b (cond c 0 8) 7) 6) i (i + gate_length (code_at t i)))
  unfolding sound
  faultless true true true few m w p q r = gate (record { inside = inside; mark = m; few = few; whole = w; below = p; differ = q; small = r })
  faultless true true false few m w p q r = bad inside 8
  faultless true false c few m w p q r = bad inside 7
  faultless false b c few m w p q r = bad inside 6

  gate-is : byte_at t (i + 1) ≡ gate_mark → RecordIs t i n g (gate_record_at t i n g)
  unfolding gate_record_at gate_fault
  gate-is m = by (leb max_gates g) (ltb (length t - i) leading) (eqb (qubits_of (code_at t i)) 0)
      (ltb (length t - i) (gate_length (code_at t i))) refl refl refl refl
    where
      by : (p q r s : Bool) → leb max_gates g ≡ p → ltb (length t - i) leading ≡ q → eqb (qubits_of (code_at t i)) 0 ≡ r
          → ltb (length t - i) (gate_length (code_at t i)) ≡ s
          → RecordIs t i n g (cond p (Refused 4 i) (cond q (Refused 5 i)
          (cond r (Refused 5 i) (cond s (Refused 5 i) (sound (gate_fault t i n) i (i + gate_length (code_at t i)))))))
      by true q r s _ _ _ _ = bad inside 4
      by false true r s _ _ _ _ = bad inside 5
      by false false true s _ _ _ _ = bad inside 5
      by false false false true _ _ _ _ = bad inside 5
      by false false false false a b c d =
          faultless _ _ _ (leb-false _ _ a) m
          (record { code = refl; some = pos_of_ne-zero (eqb-false _ _ c); room = fits (ltb-false _ _ d) })
          refl refl refl
        where
          fits : {x : ℕ} → x ≤ length t - i → i + x ≤ length t
          fits h = omega arith

  label_is : byte_at t (i + 1) ≡ label_mark → RecordIs t i n g (label_record_at t i)
  unfolding label_record_at
  label_is m =
      by (ltb (length t - i) leading) (ltb max_label (byte_at t (i + 2))) (ltb (length t - (i + leading)) (byte_at t (i + 2)))
      (label_bytes t (i + leading) (byte_at t (i + 2))) refl refl refl refl
    where
      by : (p q r s : Bool) → ltb (length t - i) leading ≡ p → ltb max_label (byte_at t (i + 2)) ≡ q
          → ltb (length t - (i + leading)) (byte_at t (i + 2)) ≡ r
          → label_bytes t (i + leading) (byte_at t (i + 2)) ≡ s
          → RecordIs t i n g (cond p (Refused 5 i) (cond q (Refused 5 i)
          (cond r (Refused 5 i) (cond s (Label (i + leading) (i + leading + byte_at t (i + 2))) (Refused 5 i)))))
      by true q r s _ _ _ _ = bad inside 5
      by false true r s _ _ _ _ = bad inside 5
      by false false true s _ _ _ _ = bad inside 5
      by false false false false _ _ _ _ = bad inside 5
      by false false false true a b c d =
          label (record { inside = inside; mark = m; short = ltb-false _ _ b; room = fits (ltb-false _ _ a) (ltb-false _ _ c); bytes = d })
        where
          fits : {x : ℕ} → leading ≤ length t - i → x ≤ length t - (i + leading) → i + leading + x ≤ length t
          fits h k = omega arith

pub record_is : (t : List ℕ) (i n g : ℕ) → RecordIs t i n g (record_at t i n g)
unfolding record_at
record_is t i n g = by (leb (length t) i) (marked_at t i gate_mark) (marked_at t i label_mark) refl refl refl
  where
    by : (p q r : Bool) → leb (length t) i ≡ p → marked_at t i gate_mark ≡ q → marked_at t i label_mark ≡ r
        → RecordIs t i n g (cond p End (cond q (gate_record_at t i n g) (cond r (label_record_at t i) (Refused 5 i))))
    by true q r a _ _ = end (leb-true _ _ a)
    by false true r a b _ = gate-is t i n g (leb-false _ _ a) (marked-second t i gate_mark b)
    by false false true a _ c = label_is t i n g (leb-false _ _ a) (marked-second t i label_mark c)
    by false false false a _ _ = bad (leb-false _ _ a) 5

-- ---- what a step that was read says

module _ (t : List ℕ) (i n g : ℕ) where
  -- a gate, and that the next record starts after it
  pub gate-next : (next : ℕ) → record_at t i n g ≡ Gate next → GateRecord t i n g × (next
      ≡ i + gate_length (code_at t i)) × (i < next) × (next ≤ length t)
  unfolding gate_length
  gate-next next = by (record_at t i n g) (record_is t i n g)
    where
      by : (s : Step) → RecordIs t i n g s → s ≡ Gate next → GateRecord t i n g × (next
          ≡ i + gate_length (code_at t i)) × (i < next) × (next ≤ length t)
      by _ (gate w) e =
          let p : next ≡ i + gate_length (code_at t i) = cc in
          let r = w.whole.room in
          (w, p, omega arith, omega arith)
      by _ (label w) e = absurd (let z : ◌≡◌ {A = ℕ} 0 1 = cc in omega arith)
      by _ (end h) e = absurd (let z : ◌≡◌ {A = ℕ} 0 1 = cc in omega arith)
      by _ (bad h r) e = absurd (let z : ◌≡◌ {A = ℕ} 0 1 = cc in omega arith)

  -- a label, where it stands, and that the next record starts after it
  pub label-next : (a b : ℕ) → record_at t i n g ≡ Label a b → (i < b) × (b ≤ length t) × (a ≤ b)
  label-next a b = by (record_at t i n g) (record_is t i n g)
    where
      by : (s : Step) → RecordIs t i n g s → s ≡ Label a b → (i < b) × (b ≤ length t) × (a ≤ b)
      by _ (gate w) e = absurd (let z : ◌≡◌ {A = ℕ} 0 1 = cc in omega arith)
      by _ (label w) e =
          let p : i + leading ≡ a = cc in
          let q : i + leading + byte_at t (i + 2) ≡ b = cc in
          let r = w.room in
          (omega arith, omega arith, omega arith)
      by _ (end h) e = absurd (let z : ◌≡◌ {A = ℕ} 0 1 = cc in omega arith)
      by _ (bad h r) e = absurd (let z : ◌≡◌ {A = ℕ} 0 1 = cc in omega arith)

  -- a refusal, and that its place is the record's
  pub refusal-place : (r p : ℕ) → record_at t i n g ≡ Refused r p → i ≡ p
  refusal-place r p = by (record_at t i n g) (record_is t i n g)
    where
      by : (s : Step) → RecordIs t i n g s → s ≡ Refused r p → i ≡ p
      by _ (gate w) e = absurd (let z : ◌≡◌ {A = ℕ} 0 1 = cc in omega arith)
      by _ (label w) e = absurd (let z : ◌≡◌ {A = ℕ} 0 1 = cc in omega arith)
      by _ (end h) e = absurd (let z : ◌≡◌ {A = ℕ} 0 1 = cc in omega arith)
      by _ (bad h q) e = cc
