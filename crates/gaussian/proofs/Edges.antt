-- The edges that need a run, rows of tables under a theorem each. A tape is given byte by byte; the slices are any that suffice. The counts are those of
-- `detect`'s edges, or of every plain register tape; Z is the register claim's. No float is computed here. Assumes nothing.
use mathlib.Core.Path.{◌≡◌, refl, sym, ap, ◌∙◌}
use mathlib.Core.Bool.{true, false}
use mathlib.Core.List.Memᴰ
use mathlib.Core.List.{List, [], ◌∷◌, Memᴰ}
use Prim.Native.Nat.{ℕ, ◌+◌, ◌≤◌, ◌<◌}
use native.Mathlib.Omega.{arith}
use lib.ListN.{length, take}
use lib.Ieee.{Float, lt, le, neg, of_bits}
use borrow.Author.Tests.{eq-eqb}
use Rattle.laws.specs.Views.{from, up_from}
use Rattle.laws.specs.Tests.{all_below}
use Rattle.num.specs.Bits.{le16, le32, le64}
use Rattle.gate.specs.Complex.{f0, f1}
use Rattle.gate.specs.declared.matrix.Mat2.{Mat2}
use Rattle.named.specs.Table.{f-1, gate_x, gate_cz, gate_i_swap, matrix1q_of, matrix2q_of}
use Rattle.tape.specs.Bounds.{header_length}
use Rattle.tape.specs.Header.{header_at, is_tolerance, header_marked, header_of}
use Rattle.tape.specs.Codes.{qubits_of, floats_of, gate_length}
use Rattle.tape.specs.Records.{marked_at, qubits_below, qubits_differ, entries_small, gate_fault, sound, gate_record_at, record_at}
use Rattle.tape.specs.Gates.{matrix1_at, matrix2_at, gate_at}
use Rattle.tape.specs.Parse.{Content, accepted, nothing, with_gate, stepped, walk, after_header, parse}
use Rattle.tape.specs.declared.header.Header.{Header}
use Rattle.tape.specs.declared.gates.Gate.{Gate}
use Rattle.tape.specs.declared.gates.Gate.TheVariants.{One, Two}
use Rattle.fuse.specs.Relabel.{labelled, unlabelled}
use Rattle.fuse.specs.Fuse.{fused}
use Rattle.fuse.specs.Compress.{compressed}
use Rattle.resolve.specs.Resolve.{resolved, with_rests, start_of}
use Rattle.resolve.specs.Whole.{resolved_of, fuse_of}
use Rattle.order.specs.declared.choice.Ordering.{Ordering}
use Rattle.detect.specs.Answers.{Compiled, number_of}
use Rattle.detect.specs.declared.report.Report.{Report}
use Rattle.detect.specs.Report.{report_of}
use Rattle.detect.specs.Compile.{labels_of, items_of, order_of, tape_counts, reported_of}
use Rattle.detect.proofs.Reports.{blocks-add, blocks-items, no_blocks as fraction-one}
use Rattle.detect.proofs.Edges.{Reporting, edges}
use Rattle.state.specs.Answers as Answers
use Rattle.queries.specs.Calls.{expectation_z_product_of}
use Rattle.register.specs.Register.{RegisterTape, RegisterGate, PlainGate, register_from, register_bits}
use Rattle.register.proofs.Tapes.{good-gates}
use Rattle.basis.specs.Answers.{odd_ones, register_product}
use Rattle.claim.proofs.Plain.{plain-free}
use Rattle.gaussian.specs.Run.{drops_of, interacts, bytes_of, ran, ran_state}
use Rattle.gaussian.specs.Claim.{Suffice}
use Rattle.gaussian.proofs.Claim.{register-claim}
use Rattle.gaussian.proofs.Expectation.{Accepted, z_after, register-tape, run-qubits, z-told}
use Rattle.gaussian.proofs.Rows.{Says, yes, eleven, thirteen, fourteen, Row, Roomy, numbered, row-run, row-answer}

-- ---- the tables

-- a tape: n, flags, tolerance 0, a limit of two bytes, the lower first, and the gates' records
abbrev pub tape : ℕ → ℕ → ℕ → ℕ → List ℕ → List ℕ
tape n flags low high gates = 0x51 ∷ 0x48 ∷ n ∷ flags ∷ 0 ∷ 0 ∷ 0 ∷ 0 ∷ 0 ∷ 0 ∷ 0 ∷ 0 ∷ low ∷ high ∷ 0 ∷ 0 ∷ 0 ∷ 0 ∷ 0 ∷ 0 ∷ gates

-- X on 0, Cz(0, 1), ISwap(0, 2)
abbrev pub x0 : List ℕ
x0 = 0x51 ∷ 0x47 ∷ 0x02 ∷ 0 ∷ []

abbrev pub cz01 : List ℕ
cz01 = 0x51 ∷ 0x47 ∷ 0x11 ∷ 0 ∷ 1 ∷ []

abbrev pub iswap02 : List ℕ
iswap02 = 0x51 ∷ 0x47 ∷ 0x13 ∷ 0 ∷ 2 ∷ []

-- the number that the run gives, 0 if it gives none
pub data Edge : List ℕ → ℕ → Type 0 where
  -- "n = 2: limit 128 passes, 127 is 14", without a gate and with one
  limit-128 : Edge (tape 2 0 128 0 []) 0
  limit-127 : Edge (tape 2 0 127 0 []) 14
  x-128 : Edge (tape 2 0 128 0 x0) 0
  x-127 : Edge (tape 2 0 127 0 x0) 14
  -- "Cz with relabelling: matchgate"; "without, bit 2 clear: 13". The limit is 128
  cz-relabelled : Edge (tape 2 1 128 0 cz01) 0
  cz-13 : Edge (tape 2 0 128 0 cz01) 13
  -- "ISwap(0,2), n = 3: .. paths"; "without reorder 11". The limit is 288 = 32 + 256 * 1
  iswap-reordered : Edge (tape 3 2 32 1 iswap02) 0
  iswap-11 : Edge (tape 3 0 32 1 iswap02) 11

-- what a run shows: ordering, wires by mode and modes by qubit; Z of a qubit, with work for it; Gaussian blocks in proportion to all
pub data Shown : Type 0 where
  order : Ordering → List ℕ → List ℕ → Shown
  parity : ℕ → Float → Shown
  fraction : Float → Shown

pub data Shows : List ℕ → Shown → Type 0 where
  -- "mode table 1 0"
  cz-modes : Shows (tape 2 1 128 0 cz01) (order Ordering.Identity (0 ∷ 1 ∷ []) (1 ∷ 0 ∷ []))
  -- "order 0 2 1, paths"
  iswap-order : Shows (tape 3 2 32 1 iswap02) (order Ordering.Paths (0 ∷ 2 ∷ 1 ∷ []) (0 ∷ 2 ∷ 1 ∷ []))
  -- "X on 0: Z is -1"
  x-parity : Shows (tape 2 0 128 0 x0) (parity 0 f-1)
  -- "No blocks: fraction 1.0"
  no_blocks : Shows (tape 2 0 128 0 []) (fraction f1)

pub record Ordered (r : Report) (o : Ordering) (order modes : List ℕ) : Type 0 where
  pub ordering-is : r.ordering ≡ o
  pub order_is : take r.n r.order ≡ order
  pub modes-are : take r.n r.modes ≡ modes

-- of the report and the state that a run gives and leaves
abbrev pub Seen : Report → List Float → Shown → Type 0
Seen r s (order o wires modes) = Ordered r o wires modes
Seen r s (parity q x) =
    (w : List Float) → 4 ≤ length w → (expectation_z_product_of r.n s r.modes (q ∷ []) w).told ≡ Answers.accepted x
Seen r s (fraction x) = r.fraction ≡ x

-- ---- what the tapes are parsed to

abbrev pub headed : ℕ → ℕ → ℕ → Header
headed n flags limit = record { n = n; flags = flags; tolerance = f0; limit = limit }

abbrev pub only : Gate → Content
only g = record { gates = g ∷ []; places = header_length ∷ []; labels = [] }

abbrev pub x_on0 : Gate
x_on0 = One 0x02 0 gate_x

abbrev pub cz_on01 : Gate
cz_on01 = Two 0x11 0 1 gate_cz

abbrev pub iswap_on02 : Gate
iswap_on02 = Two 0x13 0 2 gate_i_swap

pub parses : (parse (tape 2 0 128 0 []) ≡ accepted (headed 2 0 128) nothing)
    × (parse (tape 2 0 127 0 []) ≡ accepted (headed 2 0 127) nothing)
    × (parse (tape 2 0 128 0 x0) ≡ accepted (headed 2 0 128) (only x_on0))
    × (parse (tape 2 0 127 0 x0) ≡ accepted (headed 2 0 127) (only x_on0))
    × (parse (tape 2 1 128 0 cz01) ≡ accepted (headed 2 1 128) (only cz_on01))
    × (parse (tape 2 0 128 0 cz01) ≡ accepted (headed 2 0 128) (only cz_on01))
    × (parse (tape 3 2 32 1 iswap02) ≡ accepted (headed 3 2 288) (only iswap_on02))
    × (parse (tape 3 0 32 1 iswap02) ≡ accepted (headed 3 0 288) (only iswap_on02))
unfolding parse after_header header_of header_marked is_tolerance header_at le64 le32 le16 of_bits lt le walk stepped record_at marked_at gate_record_at
    qubits_of gate_length floats_of gate_fault qubits_below qubits_differ entries_small all_below sound with_gate gate_at matrix1_at matrix2_at
    matrix1q_of matrix2q_of
parses = (refl, refl, refl, refl, refl, refl, refl, refl)

-- ---- interactions

calm : (h : Header) (r : Report) → r.interactions ≡ 0 → interacts h r ≡ false
unfolding interacts
calm h r e = rw (eq-eqb r.interactions 0 e)

-- one that bit 2 does not drop
kept : (h : Header) (r : Report) → r.interactions ≡ 1 → drops_of h ≡ false → interacts h r ≡ true
unfolding interacts
kept h r e d = rw (e, d)

-- ---- rows by the counts of `detect`'s edges

-- the report does not see the limit
pub limit-unseen : (n flags k l : ℕ) (gs : List Gate) → reported_of (headed n flags k) gs ≡ reported_of (headed n flags l) gs
unfolding reported_of tape_counts items_of labels_of order_of
limit-unseen n flags k l gs = refl

counted : {t : List ℕ} {k : ℕ} {g : Gate} (n flags limit : ℕ) → parse t ≡ accepted (headed n flags limit) (only g) → n ≤ 3
    → {gaussian bad nonadjacent interactions : ℕ} {o : Ordering} {order modes : List ℕ}
    → Reporting (headed n flags 0) (g ∷ []) gaussian bad nonadjacent interactions o order modes → gaussian + bad + interactions ≤ 1
    → Says (headed n flags limit) (reported_of (headed n flags 0) (g ∷ [])) k → Row t k (reported_of (headed n flags 0) (g ∷ []))
counted {g = g} n flags limit e few y one s = record {
  header = headed n flags limit;
  content = only g;
  parsed = e;
  reported = limit-unseen n flags limit 0 (g ∷ []);
  gates = omega arith;
  qubits = few;
  blocks = omega (arith, blocks-add (headed n flags 0) (g ∷ []), y.gaussian-is, y.bad-is, y.interactions-are);
  says = s;
}

cz-row : Row (tape 2 1 128 0 cz01) 0 (reported_of (headed 2 1 0) (cz_on01 ∷ []))
cz-row =
    let y = edges.2 in
    counted 2 1 128 parses.4 (omega arith) y (omega arith) (yes y.bad-is (calm _ _ y.interactions-are) (omega arith))

cz-row-13 : Row (tape 2 0 128 0 cz01) 13 (reported_of (headed 2 0 0) (cz_on01 ∷ []))
cz-row-13 =
    let y = edges.3 in
    counted 2 0 128 parses.5 (omega arith) y (omega arith) (thirteen y.bad-is (kept _ _ y.interactions-are refl))

iswap-row : Row (tape 3 2 32 1 iswap02) 0 (reported_of (headed 3 2 0) (iswap_on02 ∷ []))
iswap-row =
    let y = edges.0 in
    counted 3 2 288 parses.6 (omega arith) y (omega arith) (yes y.bad-is (calm _ _ y.interactions-are) (omega arith))

iswap-row-11 : Row (tape 3 0 32 1 iswap02) 11 (reported_of (headed 3 0 0) (iswap_on02 ∷ []))
iswap-row-11 =
    let y = edges.1 in
    counted 3 0 288 parses.7 (omega arith) y (omega arith) (eleven (omega (arith, y.bad-is)) (y.nonadjacent-is ∙ sym y.bad-is))

-- ---- rows of plain register tapes: no bad blocks, no interactions

-- only I, X, Y, Z, S, Sdg, ISwap and ISwapdg, on neighbours
abbrev pub PlainRegister : List Gate → Type 0
PlainRegister gs = (g : Gate) → Memᴰ g gs → RegisterGate g × PlainGate g

pub no-gate : PlainRegister []
no-gate g i = absurd (Memᴰ.not-nil i)

pub one-x : (m : Mat2) → PlainRegister (One 0x02 0 m ∷ [])
one-x m g i = let e : g ≡ One 0x02 0 m = Memᴰ.eq_of_singleton i in rw e (tt, tt)

no_items : (k : ℕ) → length (items_of (headed 2 0 k) []).items ≤ 1
unfolding items_of labels_of labelled unlabelled fuse_of resolved_of fused compressed resolved with_rests start_of up_from
no_items k = omega arith

one-item : (k : ℕ) → length (items_of (headed 2 0 k) (x_on0 ∷ [])).items ≤ 1
unfolding items_of labels_of labelled unlabelled fuse_of resolved_of fused compressed resolved with_rests start_of up_from from
one-item k = omega arith

module _ (t : List ℕ) (h : Header) (c : Content) (e : parse t ≡ accepted h c) (all : PlainRegister c.gates) where
  pub plain-register : RegisterTape t
  plain-register = register-tape t h c e (λ g i. (all g i).0)

  module _ (qubits : h.n ≤ 3) (gates : length c.gates ≤ 1) (items : length (items_of h c.gates).items ≤ 1) where
    none-bad : (reported_of h c.gates).bad ≡ 0
    unfolding reported_of report_of
    none-bad = (plain-free t h c e plain-register (λ g i. (all g i).1)).0

    none-interacts : interacts h (reported_of h c.gates) ≡ false
    unfolding reported_of report_of
    none-interacts = calm h (reported_of h c.gates) (plain-free t h c e plain-register (λ g i. (all g i).1)).2

    plain_row : {k : ℕ} → Says h (reported_of h c.gates) k → Row t k (reported_of h c.gates)
    plain_row s = record {
      header = h;
      content = c;
      parsed = e;
      reported = refl;
      gates = gates;
      qubits = qubits;
      blocks = omega (arith, blocks-items h c.gates, items);
      says = s;
    }

    enough : bytes_of h.n ≤ h.limit → Row t 0 (reported_of h c.gates)
    enough l = plain_row (yes none-bad none-interacts l)

    short : h.limit < bytes_of h.n → Row t 14 (reported_of h c.gates)
    short l = plain_row (fourteen none-bad none-interacts l)

-- ---- the theorems

empty-row : Row (tape 2 0 128 0 []) 0 (reported_of (headed 2 0 128) [])
empty-row = enough _ (headed 2 0 128) nothing parses.0 no-gate (omega arith) (omega arith) (no_items 128) (omega arith)

row : {t : List ℕ} {k : ℕ} → Edge t k → (r : Report) × Row t k r
row limit-128 = (_, empty-row)
row limit-127 = (_, short _ (headed 2 0 127) nothing parses.1 no-gate (omega arith) (omega arith) (no_items 127) (omega arith))
row x-128 = (_, enough _ (headed 2 0 128) (only x_on0) parses.2 (one-x gate_x) (omega arith) (omega arith) (one-item 128) (omega arith))
row x-127 = (_, short _ (headed 2 0 127) (only x_on0) parses.3 (one-x gate_x) (omega arith) (omega arith) (one-item 127) (omega arith))
row cz-relabelled = (_, cz-row)
row cz-13 = (_, cz-row-13)
row iswap-reordered = (_, iswap-row)
row iswap-11 = (_, iswap-row-11)

module _ (work : List Float) (marks : List ℕ) (ops state : List Float) (roomy : Roomy work marks ops state) where
  -- the answer of every row, a refusal's place 0
  pub edge : {t : List ℕ} {k : ℕ} → Edge t k → (ran t work marks ops state).answer ≡ numbered k
  edge x = row-answer (row x).1 work marks ops state roomy

  ordered : {t : List ℕ} {h : Header} {gs : List Gate} {gaussian bad nonadjacent interactions : ℕ} {o : Ordering} {wires modes : List ℕ}
      → Row t 0 (reported_of h gs) → Reporting h gs gaussian bad nonadjacent interactions o wires modes
      → Ordered (ran t work marks ops state).report o wires modes
  unfolding reported_of report_of
  ordered w y =
      let e = row-run w work marks ops state roomy in record {
        ordering-is = ap (λ (c : Compiled). c.report.ordering) e ∙ y.ordering-is;
        order_is = ap (λ (c : Compiled). take c.report.n c.report.order) e ∙ y.order_is;
        modes-are = ap (λ (c : Compiled). take c.report.n c.report.modes) e ∙ y.modes-are;
      }

-- ---- "X on 0: Z is -1"

-- of every tape with this gate only, whatever its n, flags and tolerance
module _ (t : List ℕ) (h : Header) (c : Content) (m : Mat2) (e : parse t ≡ accepted h c) (x : c.gates ≡ One 0x02 0 m ∷ [])
    (work : List Float) (marks : List ℕ) (ops state : List Float) where
  all : PlainRegister c.gates
  all = rw x (one-x m)

  -- where slices and limit suffice
  pub x-accepted : Suffice h c.gates (length work) (length marks) (length ops) (length state) → Accepted t work marks ops state
  x-accepted = (register-claim t work marks ops state).accepts h c e (plain-register t h c e all) (λ g i. (all g i).1)

  pub x-turns : Accepted t work marks ops state → (w : List Float) → 4 ≤ length w → z_after t work marks ops state 0 w ≡ Answers.accepted f-1
  unfolding register_bits register_from odd_ones of_bits neg
  x-turns a w four =
      let some : 0 < h.n = (good-gates t h c e (One 0x02 0 m) (rw x (Memᴰ.head refl))).below in
      z-told t work marks ops state a (plain-register t h c e all) 0 (rw (run-qubits t work marks ops state a h c e) some) w four h c e
      ∙ ap (λ gs. Answers.accepted (register_product (register_bits gs) (0 ∷ []))) x

-- ---- what every row shows

blocks-none : (reported_of (headed 2 0 128) []).blocks ≡ 0
unfolding items_of labels_of labelled unlabelled fuse_of resolved_of fused compressed resolved with_rests start_of up_from
blocks-none = omega (arith, blocks-items (headed 2 0 128) [])

pub shown : {t : List ℕ} {x : Shown} → Shows t x → (work : List Float) (marks : List ℕ) (ops state : List Float) → Roomy work marks ops state
    → Seen (ran t work marks ops state).report (ran_state t work marks ops state) x
shown cz-modes work marks ops state roomy = ordered work marks ops state roomy cz-row edges.2
shown iswap-order work marks ops state roomy = ordered work marks ops state roomy iswap-row edges.0
shown x-parity work marks ops state roomy =
    x-turns (tape 2 0 128 0 x0) (headed 2 0 128) (only x_on0) gate_x parses.2 refl work marks ops state (ap number_of (edge work marks ops state roomy x-128))
shown no_blocks work marks ops state roomy =
    ap (λ (c : Compiled). c.report.fraction) (row-run empty-row work marks ops state roomy)
    ∙ fraction-one (headed 2 0 128) [] blocks-none
