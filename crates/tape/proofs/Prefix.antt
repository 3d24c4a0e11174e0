-- A refusal depends on the bytes up to the refused record alone: `parse-prefix`. No record is longer than `longest`, so two tapes that agree up to
-- there get the same answer. Assumes nothing.
use mathlib.Core.Path.{◌≡◌, sym, ap, ◌∙◌}
use mathlib.Core.Logic.{◌⊎◌, inl, inr}
use mathlib.Core.Bool.{Bool, true, false, cond, not, ◌&&◌}
use mathlib.Core.List.{List}
use Prim.Native.Nat.{ℕ, ◌+◌, ◌*◌, ◌-◌, ◌≤◌, ◌<◌, min}
use native.Mathlib.Omega.{arith}
use lib.Dec.{ltb, leb, eqb, lit<}
use lib.ListN.{length, get_or, take, length-take}
use lib.Seq.{get_or-take}
use lib.Ieee.{binary64, of_bits}
use borrow.Author.Tests.{ltb-false, lt-leb, le-ltb}
use Rattle.laws.specs.Bounds.{max_qubits}
use Rattle.laws.proofs.Tests.{else_same, all_same}
use Rattle.num.specs.Bits.{byte_at, le16, le32, le64, f64_at}
use Rattle.std.proofs.lemmas.Bool.{cases_lt}
use Rattle.tape.specs.Bounds.{max_flags, max_gates, max_label, header_length, mark_byte, header_mark, gate_mark, label_mark, leading, longest}
use Rattle.tape.specs.Header.{header_at, is_tolerance, header_marked, header_of}
use Rattle.tape.specs.Codes.{qubits_of, floats_of, gate_length}
use Rattle.tape.specs.Records.{marked_at, code_at, qubit_at, qubits_below, qubits_differ, small_entry, entries_small, gate_fault, sound, gate_record_at, printable, label_bytes, label_record_at, record_at}
use Rattle.tape.specs.Gates.{gate_at}
use Rattle.tape.specs.Parse.{Parsed, refused, accepted, with_gate, with_label, after_header, parse}
use Rattle.tape.specs.declared.header.Header.{Header}
use Rattle.tape.specs.Headed as Head
use Rattle.tape.specs.Step.{Step}
use Rattle.tape.specs.Step.{Label, End, Refused}
use Rattle.tape.specs.declared.gates.Gate as Gates
use Rattle.tape.specs.declared.labels.Span.{Span}
use Rattle.tape.proofs.CodeLaws.{qubits-few, gate-parts, gate-longest}
use Rattle.tape.proofs.RecordLaws.{gate-next, label-next, refusal-place}
use Rattle.tape.proofs.Walks.{Walks, to-gate, to-label, to_end, to-refusal, walks-is, Parses, no_header, records, parses}

-- ---- tapes that agree

-- they have the same bytes below k, and as far as k the same end
pub record Same (k : ℕ) (t u : List ℕ) : Type 0 where
  pub bytes : (j : ℕ) → j < k → byte_at t j ≡ byte_at u j
  pub ends : (length t ≡ length u) ⊎ ((k ≤ length t) × (k ≤ length u))

pub same-take : (k : ℕ) (t u : List ℕ) → take k t ≡ take k u → Same k t u
same-take k t u e = record {
  bytes = λ j h. sym (get_or-take k t j 0 h) ∙ ap (λ l. get_or l j 0) e ∙ get_or-take k u j 0 h;
  ends = by (cases_lt (length t) k) (cases_lt (length u) k);
}
  where
    long : min k (length t) ≡ min k (length u)
    long = sym (length-take k t) ∙ ap length e ∙ length-take k u

    by : (length t < k) ⊎ (k ≤ length t) → (length u < k) ⊎ (k ≤ length u) → (length t ≡ length u) ⊎ ((k ≤ length t) × (k ≤ length u))
    by (inl a) b = inl (omega (arith, long))
    by (inr a) (inl b) = inl (omega (arith, long))
    by (inr a) (inr b) = inr (a, b)

-- ---- the definitions of a record, with its code or its length apart

abbrev fault_of : List ℕ → ℕ → ℕ → ℕ → ℕ
fault_of v i n c = cond (qubits_below v i (qubits_of c) n) (cond (qubits_differ v i (qubits_of c))
    (cond (entries_small v (i + leading + qubits_of c) (floats_of c)) 0 8) 7) 6

abbrev gate_step : List ℕ → ℕ → ℕ → ℕ → ℕ → Step
gate_step v i n g c =
    cond (leb max_gates g) (Refused 4 i)
    (cond (ltb (length v - i) leading) (Refused 5 i)
    (cond (eqb (qubits_of c) 0) (Refused 5 i)
    (cond (ltb (length v - i) (gate_length c)) (Refused 5 i)
    (sound (gate_fault v i n) i (i + gate_length c)))))

abbrev label_rest : List ℕ → ℕ → ℕ → Step
label_rest v i b = cond (ltb (length v - (i + leading)) b) (Refused 5 i)
    (cond (label_bytes v (i + leading) b) (Label (i + leading) (i + leading + b)) (Refused 5 i))

abbrev label_step : List ℕ → ℕ → ℕ → Step
label_step v i b = cond (ltb (length v - i) leading) (Refused 5 i) (cond (ltb max_label b) (Refused 5 i) (label_rest v i b))

-- ---- a refusal passes through what stands before it

gate-refused : (x : Gates.Gate) (i : ℕ) (w : Parsed) (r p : ℕ) → with_gate x i w ≡ refused r p → w ≡ refused r p
unfolding with_gate
gate-refused x i (refused _ _) r p e = e
gate-refused x i (accepted h c) r p e = absurd (let z : ◌≡◌ {A = ℕ} 0 1 = cc in omega arith)

label-refused : (s : Span) (w : Parsed) (r p : ℕ) → with_label s w ≡ refused r p → w ≡ refused r p
unfolding with_label
label-refused s (refused _ _) r p e = e
label-refused s (accepted h c) r p e = absurd (let z : ◌≡◌ {A = ℕ} 0 1 = cc in omega arith)

module _ (k : ℕ) (t u : List ℕ) (s : Same k t u) where
  -- ---- the same numbers

  le16-same : (q : ℕ) → q + 2 ≤ k → le16 t q ≡ le16 u q
  unfolding le16
  le16-same q h = λ i. s.bytes q (omega arith) i + 0x100 * s.bytes (q + 1) (omega arith) i

  le32-same : (q : ℕ) → q + 4 ≤ k → le32 t q ≡ le32 u q
  unfolding le32
  le32-same q h = λ i. le16-same q (omega arith) i + 0x1_0000 * le16-same (q + 2) (omega arith) i

  le64-same : (q : ℕ) → q + 8 ≤ k → le64 t q ≡ le64 u q
  unfolding le64
  le64-same q h = λ i. le32-same q (omega arith) i + 0x1_0000_0000 * le32-same (q + 4) (omega arith) i

  f64-same : (q : ℕ) → q + 8 ≤ k → f64_at t q ≡ f64_at u q
  f64-same q h = ap (of_bits binary64) (le64-same q h)

  -- ---- the same end

  -- a test of the length that fails where it is k or more
  length-same : (f : ℕ → Bool) → ((n : ℕ) → k ≤ n → f n ≡ false) → f (length t) ≡ f (length u)
  length-same f h = by s.ends
    where
      by : (length t ≡ length u) ⊎ ((k ≤ length t) × (k ≤ length u)) → f (length t) ≡ f (length u)
      by (inl e) = ap f e
      by (inr (a, b)) = h (length t) a ∙ sym (h (length u) b)

  end_same : (i : ℕ) → i < k → leb (length t) i ≡ leb (length u) i
  end_same i h = length-same (λ n. leb n i) (λ n l. lt-leb n i (omega arith))

  short-same : (i m : ℕ) → i + m ≤ k → ltb (length t - i) m ≡ ltb (length u - i) m
  short-same i m h = length-same (λ n. ltb (n - i) m) (λ n l. le-ltb (n - i) m (omega arith))

  -- ---- the same record

  module _ (i n g : ℕ) (room : i + longest ≤ k) where
    code_same : code_at t i ≡ code_at u i
    code_same = s.bytes (i + 2) (omega arith)

    marked-same : (m : ℕ) → marked_at t i m ≡ marked_at u i m
    unfolding marked_at
    marked-same m = λ j. cond (short-same i 2 (omega arith) j) false
        (eqb (s.bytes i (omega arith) j) mark_byte && eqb (s.bytes (i + 1) (omega arith) j) m)

    qubit-same : (j : ℕ) → j < 3 → qubit_at t i j ≡ qubit_at u i j
    qubit-same j h = s.bytes (i + leading + j) (omega arith)

    below-same : (c : ℕ) → qubits_below t i (qubits_of c) n ≡ qubits_below u i (qubits_of c) n
    unfolding qubits_below
    below-same c = all_same (λ j. ltb (qubit_at t i j) n) (λ j. ltb (qubit_at u i j) n) (qubits_of c)
        (λ j h. ap (λ q. ltb q n) (qubit-same j (omega (arith, qubits-few c))))

    differ_same : (c : ℕ) → qubits_differ t i c ≡ qubits_differ u i c
    unfolding qubits_differ
    differ_same c = λ j.
        cond (ltb c 2) true
        (cond (eqb (qubit-same 0 (lit< tt) j) (qubit-same 1 (lit< tt) j)) false
        (cond (ltb c 3) true
        (cond (eqb (qubit-same 0 (lit< tt) j) (qubit-same 2 (lit< tt) j)) false
        (not (eqb (qubit-same 1 (lit< tt) j) (qubit-same 2 (lit< tt) j))))))

    small_same : (c : ℕ) → entries_small t (i + leading + qubits_of c) (floats_of c) ≡ entries_small u (i + leading + qubits_of c) (floats_of c)
    unfolding entries_small
    small_same c =
        all_same (λ j. small_entry (f64_at t (i + leading + qubits_of c + 8 * j))) (λ j. small_entry (f64_at u (i + leading + qubits_of c + 8 * j)))
        (floats_of c)
        (λ j h. ap small_entry (f64-same (i + leading + qubits_of c + 8 * j) (inside c j h)))
      where
        inside : (c j : ℕ) → j < floats_of c → i + leading + qubits_of c + 8 * j + 8 ≤ k
        inside c j h = omega (arith, gate-parts c)

    fault-same : gate_fault t i n ≡ gate_fault u i n
    unfolding gate_fault
    fault-same = at_code (code_at t i) ∙ ap (fault_of u i n) code_same
      where
        at_code : (c : ℕ) → fault_of t i n c ≡ fault_of u i n c
        at_code c = λ j. cond (below-same c j) (cond (differ_same (qubits_of c) j) (cond (small_same c j) 0 8) 7) 6

    gate_same : gate_record_at t i n g ≡ gate_record_at u i n g
    unfolding gate_record_at
    gate_same = at_code (code_at t i) ∙ ap (gate_step u i n g) code_same
      where
        at_code : (c : ℕ) → gate_step t i n g c ≡ gate_step u i n g c
        at_code c = λ j.
            cond (leb max_gates g) (Refused 4 i)
            (cond (short-same i leading (omega arith) j) (Refused 5 i)
            (cond (eqb (qubits_of c) 0) (Refused 5 i)
            (cond (short-same i (gate_length c) (omega (arith, gate-longest c)) j) (Refused 5 i)
            (sound (fault-same j) i (i + gate_length c)))))

    bytes_same : (b : ℕ) → b ≤ max_label → label_bytes t (i + leading) b ≡ label_bytes u (i + leading) b
    unfolding label_bytes
    bytes_same b h = all_same (λ j. printable (byte_at t (i + leading + j))) (λ j. printable (byte_at u (i + leading + j))) b
        (λ j l. ap printable (s.bytes (i + leading + j) (omega arith)))

    label_same : label_record_at t i ≡ label_record_at u i
    unfolding label_record_at
    label_same = at_length (byte_at t (i + 2)) ∙ ap (label_step u i) code_same
      where
        rest : (b : ℕ) → b ≤ max_label → label_rest t i b ≡ label_rest u i b
        rest b l = λ j. cond (short-same (i + leading) b (omega arith) j) (Refused 5 i)
            (cond (bytes_same b l j) (Label (i + leading) (i + leading + b)) (Refused 5 i))

        at_length : (b : ℕ) → label_step t i b ≡ label_step u i b
        at_length b = λ j.
            cond (short-same i leading (omega arith) j) (Refused 5 i)
            (else_same (ltb max_label b) (Refused 5 i) (label_rest t i b) (label_rest u i b) (λ f. rest b (ltb-false max_label b f)) j)

    pub record_same : record_at t i n g ≡ record_at u i n g
    unfolding record_at
    record_same = λ j.
        cond (end_same i (omega arith) j) End
        (cond (marked-same gate_mark j) (gate_same j)
        (cond (marked-same label_mark j) (label_same j)
        (Refused 5 i)))

  -- ---- the same header

  header-same : header_length ≤ k → header_of t ≡ header_of u
  unfolding header_of header_marked header_at is_tolerance
  header-same h = λ j.
      cond (length-same (λ n. ltb n header_length) (λ n l. le-ltb n header_length (omega arith)) j) (Head.Refused 1 0)
      (cond (eqb (s.bytes 0 (omega arith) j) mark_byte && eqb (s.bytes 1 (omega arith) j) header_mark)
      (cond (ltb max_qubits (s.bytes 2 (omega arith) j)) (Head.Refused 2 0)
      (cond (ltb max_flags (s.bytes 3 (omega arith) j)) (Head.Refused 2 0)
      (cond (is_tolerance (f64-same 4 (omega arith) j))
      (Head.Good
      (record {
        n = s.bytes 2 (omega arith) j;
        flags = s.bytes 3 (omega arith) j;
        tolerance = f64-same 4 (omega arith) j;
        limit = le64-same 12 (omega arith) j;
      }))
      (Head.Refused 3 0))))
      (Head.Refused 1 0))

  -- ---- the same refusal

  module _ (h : Header) (r p : ℕ) (room : p + longest ≤ k) where
    -- it is at i or later, and the other tape's too
    walk_same : (g i : ℕ) (w : Parsed) → Walks t h g i w → w ≡ refused r p → (i ≤ p) × Walks u h g i (refused r p)
    unfolding with_gate with_label
    walk_same g i _ (to-gate {next = next} {w = w} e ws) q =
        let f = gate-next t i h.n g next e in
        let a = walk_same (g + 1) next w ws (gate-refused (gate_at t i) i w r p q) in
        let l : i ≤ p = omega arith in
        (l, to-gate (sym (record_same i h.n g (omega arith)) ∙ e) a.1)
    walk_same g i _ (to-label {a = a} {e = b} {w = w} e ws) q =
        let f = label-next t i h.n g a b e in
        let v = walk_same g b w ws (label-refused (record { start = a; end = b }) w r p q) in
        let l : i ≤ p = omega arith in
        (l, to-label (sym (record_same i h.n g (omega arith)) ∙ e) v.1)
    walk_same g i _ (to_end e) q = absurd (let z : ◌≡◌ {A = ℕ} 0 1 = cc in omega arith)
    walk_same g i _ (to-refusal {r = r'} {p = p'} e) q =
        let a : r' ≡ r = cc in
        let b : p' ≡ p = cc in
        let l : i ≡ p = refusal-place t i h.n g r' p' e ∙ b in
        (omega arith, to-refusal (sym (record_same i h.n g (omega arith)) ∙ e ∙ (λ j. Refused (a j) (b j))))

-- ---- the whole tape

-- tapes that agree up to the refused record, and as far as the longest record reaches, are refused alike
pub same-refusal : (t u : List ℕ) (r p : ℕ) → parse t ≡ refused r p → Same (p + longest) t u → parse u ≡ refused r p
unfolding parse after_header
same-refusal t u r p e s = by (parse t) (parses t) e
  where
    head : header_of u ≡ header_of t
    head = sym (header-same (p + longest) t u s (omega arith))

    whole : header_length ≤ length t → (length t ≡ length u) ⊎ ((p + longest ≤ length t) × (p + longest ≤ length u)) → header_length ≤ length u
    whole l (inl e) = omega arith
    whole l (inr (a, b)) = omega arith

    by : (w : Parsed) → Parses t w → w ≡ refused r p → after_header u (header_of u) ≡ refused r p
    by _ (no_header f) q = ap (after_header u) (head ∙ f) ∙ q
    by w (records g f ws) q =
        let l = whole g.room s.ends in
        let v = (walk_same (p + longest) t u s (header_at t) r p (omega arith) 0 header_length w ws q).1 in
        ap (after_header u) (head ∙ f) ∙ walks-is u (header_at t) 0 header_length (refused r p) v (length u) (omega arith)

pub parse-prefix : (t u : List ℕ) (r p : ℕ) → parse t ≡ refused r p → take (p + longest) t ≡ take (p + longest) u → parse u ≡ refused r p
parse-prefix t u r p e s = same-refusal t u r p e (same-take (p + longest) t u s)
