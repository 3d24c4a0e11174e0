-- Two questions of 11 to 15 whose answer is no at once: the first gives the number. In every row the state slice is too short as well (15). One theorem
-- over the header and the report says which number a run gives, whatever the later questions would; the rows are its instances. Assumes nothing.
use mathlib.Core.Path.{◌≡◌, refl, ap, ◌∙◌}
use mathlib.Core.Bool.{true, false}
use mathlib.Core.List.{List, [], ◌∷◌}
use Prim.Native.Nat.{ℕ, ◌*◌, ◌≤◌, ◌<◌}
use native.Mathlib.Omega.{arith}
use lib.ListN.{length}
use lib.Ieee.{Float, lt, le, of_bits}
use borrow.Author.Tests.{le-ltb, lt-ltb, eq-eqb}
use Rattle.laws.specs.Bounds.{op_places}
use Rattle.laws.specs.Tests.{all_below}
use Rattle.laws.specs.Views.{up_from}
use Rattle.num.specs.Bits.{le16, le32, le64}
use Rattle.named.specs.Table.{matrix2q_of}
use Rattle.tape.specs.Header.{header_at, is_tolerance, header_marked, header_of}
use Rattle.tape.specs.Codes.{qubits_of, floats_of, gate_length}
use Rattle.tape.specs.Records.{marked_at, qubits_below, qubits_differ, entries_small, gate_fault, sound, gate_record_at, record_at}
use Rattle.tape.specs.Gates.{matrix2_at, gate_at}
use Rattle.tape.specs.Parse.{Content, accepted, nothing, with_gate, stepped, walk, after_header, parse}
use Rattle.tape.specs.declared.header.Header.{Header}
use Rattle.tape.specs.declared.gates.Gate.{Gate}
use Rattle.fuse.specs.Relabel.{labelled, unlabelled}
use Rattle.fuse.specs.Fuse.{fused}
use Rattle.fuse.specs.Compress.{compressed}
use Rattle.resolve.specs.Resolve.{resolved, with_rests, start_of}
use Rattle.resolve.specs.Whole.{resolved_of, fuse_of}
use Rattle.detect.specs.Answers.{Answer}
use Rattle.detect.specs.declared.report.Report.{Report}
use Rattle.detect.specs.Counts.{counted_onto}
use Rattle.detect.specs.Report.{report_of}
use Rattle.detect.specs.Compile.{labels_of, items_of, tape_counts, reported_of, program_of}
use Rattle.work.specs.Sizes.{work_floats, work_marks}
use Rattle.detect.specs.Questions.{has_work, answer_of, asked_from}
use Rattle.detect.proofs.Edges.{edges}
use Rattle.detect.proofs.Reports.{blocks-add, operations-told}
use Rattle.local.specs.Bounds.{state_places}
use Rattle.state.specs.Bounds.{dim_of}
use Rattle.gaussian.specs.Run.{all_apart, interacts, bytes_of, verdict_of, asked_report, ran}
use Rattle.gaussian.proofs.Rows.{operations-few}
use Rattle.gaussian.proofs.Edges.{tape, cz01, iswap02, headed, only, cz_on01, iswap_on02, limit-unseen}

-- ---- the theorem

-- question k of 11 to 15 has no for an answer; s places are there for the state
pub data No (h : Header) (r : Report) (s : ℕ) : ℕ → Type 0 where
  no-11 : all_apart r ≡ true → No h r s 11
  no-12 : 0 < r.bad → No h r s 12
  no-13 : interacts h r ≡ true → No h r s 13
  no-14 : h.limit < bytes_of h.n → No h r s 14
  no-15 : s < state_places (dim_of h.n) → No h r s 15

-- and none before it has
pub data First (h : Header) (r : Report) : ℕ → Type 0 where
  eleven : all_apart r ≡ true → First h r 11
  thirteen : r.bad ≡ 0 → interacts h r ≡ true → First h r 13
  fourteen : r.bad ≡ 0 → interacts h r ≡ false → h.limit < bytes_of h.n → First h r 14

module _ (h : Header) (r : Report) (n o s : ℕ) (ten : op_places * n ≤ o) where
  first-verdict : {k : ℕ} → First h r k → verdict_of h r n o s ≡ k
  unfolding verdict_of all_apart
  first-verdict (eleven apart) = rw (le-ltb o (op_places * n) ten, apart)
  first-verdict (thirteen free some) = rw (le-ltb o (op_places * n) ten, eq-eqb r.bad 0 free, le-ltb 0 r.bad (omega arith), some)
  first-verdict (fourteen free calm limit) =
      rw (
        le-ltb o (op_places * n) ten,
        eq-eqb r.bad 0 free,
        le-ltb 0 r.bad (omega arith),
        calm,
        lt-ltb h.limit (bytes_of h.n) limit,
      )

first_some : {h : Header} {r : Report} {k : ℕ} → First h r k → 0 < k
first_some (eleven a) = omega arith
first_some (thirteen a b) = omega arith
first_some (fourteen a b c) = omega arith

module _ (t : List ℕ) (h : Header) (c : Content) (parsed : parse t ≡ accepted h c) (work : List Float) (marks : List ℕ) (ops state : List Float)
    (nine : has_work (length c.gates) h.n (length work) (length marks) ≡ true) (ten : op_places * length (program_of h c.gates) ≤ length ops) where
  -- a run that passes 1 to 10 gives the number of the first
  pub first-answer : {k : ℕ} → First h (reported_of h c.gates) k → (ran t work marks ops state).answer ≡ Answer.Refused k 0
  unfolding asked_from answer_of
  first-answer {k = k} x =
      ap (λ p. (answer_of (asked_from (asked_report (length ops) (length state)) p (length work) (length marks))).answer) parsed
      ∙ rw (
        nine,
        first-verdict h (reported_of h c.gates) (length (program_of h c.gates)) (length ops) (length state) ten x,
        lt-ltb 0 k (first_some x),
      )

-- ---- the rows

-- the tape, the number that its run gives, and a later question whose answer is no too
pub data Fails : List ℕ → ℕ → ℕ → Type 0 where
  -- ISwap(0,2) without reordering is apart (11, and 12 too), with a limit of 287 = 31 + 256 for 288 bytes (14)
  apart-12 : Fails (tape 3 0 31 1 iswap02) 11 12
  apart-14 : Fails (tape 3 0 31 1 iswap02) 11 14
  apart-15 : Fails (tape 3 0 31 1 iswap02) 11 15
  -- Cz without relabelling interacts (13), with a limit of 127 for 128 bytes
  interaction-14 : Fails (tape 2 0 127 0 cz01) 13 14
  interaction-15 : Fails (tape 2 0 127 0 cz01) 13 15
  -- no gate, and the same limit
  limit-15 : Fails (tape 2 0 127 0 []) 14 15

-- work of one gate and three qubits, three operations, and less than the state of two qubits
pub record Short (work : List Float) (marks : List ℕ) (ops state : List Float) : Type 0 where
  pub floats : work_floats 1 3 ≤ length work
  pub numbers : work_marks 1 3 ≤ length marks
  pub operations : op_places * 3 ≤ length ops
  pub places : length state < state_places (dim_of 2)

pub record Both (t : List ℕ) (k l : ℕ) (work : List Float) (marks : List ℕ) (ops state : List Float) : Type 0 where
  pub header : Header
  pub content : Content
  pub parsed : parse t ≡ accepted header content
  pub first : No header (reported_of header content.gates) (length state) k
  pub second : No header (reported_of header content.gates) (length state) l
  pub answer : (ran t work marks ops state).answer ≡ Answer.Refused k 0

-- ---- what the tapes are

parses : (parse (tape 3 0 31 1 iswap02) ≡ accepted (headed 3 0 287) (only iswap_on02))
    × (parse (tape 2 0 127 0 cz01) ≡ accepted (headed 2 0 127) (only cz_on01))
    × (parse (tape 2 0 127 0 []) ≡ accepted (headed 2 0 127) nothing)
unfolding parse after_header header_of header_marked is_tolerance header_at le64 le32 le16 of_bits lt le walk stepped record_at marked_at gate_record_at qubits_of
    gate_length floats_of gate_fault qubits_below qubits_differ entries_small all_below sound with_gate gate_at matrix2_at matrix2q_of
parses = (refl, refl, refl)

apart : ((reported_of (headed 3 0 287) (iswap_on02 ∷ [])).bad ≡ 1) × ((reported_of (headed 3 0 287) (iswap_on02 ∷ [])).nonadjacent ≡ 1)
apart =
    let e = limit-unseen 3 0 287 0 (iswap_on02 ∷ []) in
    (ap (λ (r : Report). r.bad) e ∙ edges.1.bad-is, ap (λ (r : Report). r.nonadjacent) e ∙ edges.1.nonadjacent-is)

all_apart-iswap : all_apart (reported_of (headed 3 0 287) (iswap_on02 ∷ [])) ≡ true
unfolding all_apart
all_apart-iswap = rw (apart.0, apart.1)

interaction : ((reported_of (headed 2 0 127) (cz_on01 ∷ [])).bad ≡ 0) × ((reported_of (headed 2 0 127) (cz_on01 ∷ [])).interactions ≡ 1)
interaction =
    let e = limit-unseen 2 0 127 0 (cz_on01 ∷ []) in
    (ap (λ (r : Report). r.bad) e ∙ edges.3.bad-is, ap (λ (r : Report). r.interactions) e ∙ edges.3.interactions-are)

kept : interacts (headed 2 0 127) (reported_of (headed 2 0 127) (cz_on01 ∷ [])) ≡ true
unfolding interacts
kept = rw interaction.1

empty : ((reported_of (headed 2 0 127) []).bad ≡ 0) × (interacts (headed 2 0 127) (reported_of (headed 2 0 127) []) ≡ false)
unfolding interacts reported_of report_of tape_counts counted_onto items_of labels_of labelled unlabelled fuse_of resolved_of fused compressed resolved with_rests
    start_of up_from
empty = (refl, refl)

-- ---- they pass 9 and 10

module _ (work : List Float) (marks : List ℕ) (ops state : List Float) (short : Short work marks ops state) where
  nine : (g n : ℕ) → g ≤ 1 → n ≤ 3 → has_work g n (length work) (length marks) ≡ true
  nine g n l k =
      rw (
        le-ltb (length work) (work_floats g n) (omega (arith, short.floats, l, k)),
        le-ltb (length marks) (work_marks g n) (omega (arith, short.numbers, l, k)),
      )

  ten : (h : Header) (gs : List Gate) → (reported_of h gs).blocks ≤ 1 → op_places * length (program_of h gs) ≤ length ops
  ten h gs l = omega (arith, operations-few h gs, operations-told h gs, l, short.operations)

  row : (t : List ℕ) (k l : ℕ) (h : Header) (c : Content) → parse t ≡ accepted h c → length c.gates ≤ 1 → h.n ≤ 3 → (reported_of h c.gates).blocks ≤ 1
      → No h (reported_of h c.gates) (length state) k → First h (reported_of h c.gates) k → No h (reported_of h c.gates) (length state) l
      → Both t k l work marks ops state
  row t k l h c e g n b fails first second = record {
    header = h;
    content = c;
    parsed = e;
    first = fails;
    second = second;
    answer = first-answer t h c e work marks ops state (nine (length c.gates) h.n g n) (ten h c.gates b) first;
  }

  iswap-row : (l : ℕ) → No (headed 3 0 287) (reported_of (headed 3 0 287) (iswap_on02 ∷ [])) (length state) l → Both (tape 3 0 31 1 iswap02) 11 l work marks ops state
  iswap-row l =
      row (tape 3 0 31 1 iswap02) 11 l (headed 3 0 287) (only iswap_on02) parses.0 (omega arith) (omega arith) (omega (arith, one)) (no-11 all_apart-iswap)
      (eleven all_apart-iswap)
    where
      one : (reported_of (headed 3 0 287) (iswap_on02 ∷ [])).blocks ≤ 1
      one = rw (limit-unseen 3 0 287 0 (iswap_on02 ∷ []))
          (omega (arith, blocks-add (headed 3 0 0) (iswap_on02 ∷ []), edges.1.gaussian-is, edges.1.bad-is, edges.1.interactions-are))

  cz-row : (l : ℕ) → No (headed 2 0 127) (reported_of (headed 2 0 127) (cz_on01 ∷ [])) (length state) l → Both (tape 2 0 127 0 cz01) 13 l work marks ops state
  cz-row l =
      row (tape 2 0 127 0 cz01) 13 l (headed 2 0 127) (only cz_on01) parses.1 (omega arith) (omega arith) (omega (arith, one)) (no-13 kept)
      (thirteen interaction.0 kept)
    where
      one : (reported_of (headed 2 0 127) (cz_on01 ∷ [])).blocks ≤ 1
      one = rw (limit-unseen 2 0 127 0 (cz_on01 ∷ []))
          (omega (arith, blocks-add (headed 2 0 0) (cz_on01 ∷ []), edges.3.gaussian-is, edges.3.bad-is, edges.3.interactions-are))

  none : (reported_of (headed 2 0 127) []).blocks ≤ 1
  unfolding reported_of report_of tape_counts counted_onto items_of labels_of labelled unlabelled fuse_of resolved_of fused compressed resolved with_rests start_of
      up_from
  none = omega arith

  pub both : {t : List ℕ} {k l : ℕ} → Fails t k l → Both t k l work marks ops state
  both apart-12 = iswap-row 12 (no-12 (omega (arith, apart.0)))
  both apart-14 = iswap-row 14 (no-14 (omega arith))
  both apart-15 = iswap-row 15 (no-15 (omega (arith, short.places)))
  both interaction-14 = cz-row 14 (no-14 (omega arith))
  both interaction-15 = cz-row 15 (no-15 (omega (arith, short.places)))
  both limit-15 =
      row (tape 2 0 127 0 []) 14 15 (headed 2 0 127) nothing parses.2 (omega arith) (omega arith) none (no-14 (omega arith))
      (fourteen empty.0 empty.1 (omega arith)) (no-15 (omega (arith, short.places)))
