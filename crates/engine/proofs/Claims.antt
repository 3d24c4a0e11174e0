-- The claims of the C call, on the register, on the signs and beside the plain engine: what is in its caller's slices is what `run` gives and leaves, the mode
-- table for the first n entries. Assumes nothing.
use mathlib.Core.Path.{◌≡◌, refl, sym, ap, ◌∙◌, subst, transport}
use mathlib.Core.Logic.{◌≢◌}
use mathlib.Core.Bool.{Bool, true, false, true≢false}
use mathlib.Core.List.{List}
use Prim.Native.Nat.{ℕ, ◌+◌, ◌*◌, ◌≤◌, ◌<◌}
use native.Mathlib.Omega.{arith}
use lib.ListN.{length, get_or, drop}
use lib.Seq.{get_or-drop}
use lib.Ieee.{Float}
use Rattle.laws.specs.Bounds.{max_qubits}
use Rattle.laws.specs.Tables.{mode_at}
use Rattle.laws.proofs.Stores.{row-own, row_first}
use Rattle.detect.specs.Answers.{Compiled, number_of}
use Rattle.detect.specs.declared.report.Report.{Report}
use Rattle.detect.specs.Words.{word_count, table_count, report_words}
use Rattle.register.specs.Register.{register_bits}
use Rattle.claim.specs.Queries.{answer, answers, Begins, RightAnswers}
use Rattle.claim.proofs.Tables.{qubits-few}
use Rattle.gaussian.specs.Claim.{Left, left_by, AnswersRight, RegisterClaim}
use Rattle.gaussian.specs.Signs.{SignsRight, SignClaim}
use Rattle.gaussian.specs.Beside.{AnswersPlainly, PlainRun}
use Rattle.engine.specs.Answers.{no_room}
use Rattle.engine.specs.Reports.{laid, words_written, tables_written, room_of, Reports}
use Rattle.engine.specs.Claims.{left_in, operations_in, CallClaim}
use Rattle.engine.proofs.Laid.{laid-long}
use Rattle.engine.proofs.Room.{room-words, room-tables}

-- ---- n and the modes, as they are read from the slices

n-told : (r : Report) (w : List ℕ) → word_count ≤ length w → get_or (words_written r w) 0 0 ≡ r.n
unfolding words_written report_words
n-told r w long = row_first word_count 0 (λ k. get_or (report_words r) k 0) w 0 (omega arith) (omega arith)

mode-told : (r : Report) (l : List ℕ) → table_count * max_qubits ≤ length l → (q : ℕ) → q < max_qubits
    → get_or (tables_written r l) (2 * max_qubits + q) 0 ≡ mode_at r.modes q
unfolding tables_written
mode-told r l long q less =
    let order = laid-long 0 r.order l _ max_qubits refl in
    let starts = laid-long max_qubits r.starts (laid max_qubits 0 r.order l) _ max_qubits refl in
    row-own max_qubits (2 * max_qubits) (λ k. get_or r.modes k 0) (laid max_qubits max_qubits r.starts (laid max_qubits 0 r.order l)) q 0 less
    (omega (arith, order, starts))

operations-told : (r : Report) (w : List ℕ) → word_count ≤ length w → operations_in (words_written r w) ≡ r.operations
unfolding words_written report_words
operations-told r w long = row-own word_count 0 (λ k. get_or (report_words r) k 0) w 8 0 (omega arith) (omega arith)

-- what the caller has in hand, where there is room for it
record InHand (c : Compiled) (r : ℕ) (words tables : List ℕ) : Type 0 where
  number : r ≡ number_of c.answer
  n : get_or words 0 0 ≡ c.report.n
  operations : operations_in words ≡ c.report.operations
  modes : (q : ℕ) → q < max_qubits → get_or tables (2 * max_qubits + q) 0 ≡ mode_at c.report.modes q

in-hand : (c : Compiled) (p w : List ℕ) (m : List Float) (l : List ℕ) (r : ℕ) (p' w' : List ℕ) (m' : List Float) (l' : List ℕ)
    → Reports c p w m l r p' w' m' l' → room_of p w m l ≡ true → InHand c r w' l'
in-hand c p w m l r p' w' m' l' tells room =
    let words : w' ≡ words_written c.report w = tells.words ∙ rw room in
    let tables : l' ≡ tables_written c.report l = tells.tables ∙ rw room in
    let long = room-words (length p) (length w) (length m) (length l) room in record {
      number = tells.number ∙ rw room;
      n = ap (λ l. get_or l 0 0) words ∙ n-told c.report w long;
      operations = ap operations_in words ∙ operations-told c.report w long;
      modes = λ q k.
          ap (λ l. get_or l (2 * max_qubits + q) 0) tables ∙ mode-told c.report l (room-tables (length p) (length w) (length m) (length l) room) q k;
    }

-- without room 99 is returned, which is not 0
roomless : (c : Compiled) (p w : List ℕ) (m : List Float) (l : List ℕ) (r : ℕ) (p' w' : List ℕ) (m' : List Float) (l' : List ℕ)
    → Reports c p w m l r p' w' m' l' → room_of p w m l ≡ false → r ≢ 0
roomless c p w m l r p' w' m' l' tells short e = let number : r ≡ no_room = tells.number ∙ rw short in omega (arith, number, e)

-- the caller's mode table lent is the report's
lent-table : (c : Compiled) (r : ℕ) (words tables : List ℕ) → InHand c r words tables → (n : ℕ) → n ≤ max_qubits → (modes : List ℕ)
    → Begins n (drop (2 * max_qubits) tables) modes → Begins n c.report.modes modes
lent-table c r words tables hand n few modes lent = record {
  long = lent.long;
  same = λ q l. lent.same q l ∙ get_or-drop (2 * max_qubits) tables q 0 ∙ hand.modes q (omega (arith, l, few));
}

-- ---- the register claim

module _ (t : List ℕ) (work : List Float) (marks : List ℕ) (ops state : List Float) (c : Compiled) (s : List Float)
    (claim : RegisterClaim answer t work marks ops state (left_by c s)) where
  -- it does not turn on what stands behind the first n modes
  right-told : (x : ℕ) (words tables : List ℕ) → InHand c x words tables → AnswersRight answer t (left_in x words tables s)
  right-told x words tables hand register e =
      let y = claim.right register (sym hand.number ∙ e) in
      let few = qubits-few t y.header y.content y.parsed in record {
        header = y.header;
        content = y.content;
        parsed = y.parsed;
        right = λ modes lent qs.
            subst (λ (k : ℕ). RightAnswers y.header.n (register_bits y.content.gates) qs (answers answer k s modes qs)) (sym hand.n)
            (y.right modes (lent-table c x words tables hand y.header.n few modes lent) qs);
      }

-- of the number returned and the slices as they are left
pub claim-told : (t : List ℕ) (work : List Float) (marks : List ℕ) (ops state : List Float) (c : Compiled) (s : List Float)
    (p w : List ℕ) (m : List Float) (l : List ℕ) (r : ℕ) (p' w' : List ℕ) (m' : List Float) (l' : List ℕ) → Reports c p w m l r p' w' m' l'
    → (room_of p w m l ≡ true → RegisterClaim answer t work marks ops state (left_by c s))
    → CallClaim t work marks ops state (room_of p w m l) (left_in r w' l' s)
claim-told t work marks ops state c s p w m l r p' w' m' l' tells claim = by (room_of p w m l) refl
  where
    by : (b : Bool) → room_of p w m l ≡ b → CallClaim t work marks ops state (room_of p w m l) (left_in r w' l' s)
    by true room =
        let hand = in-hand c p w m l r p' w' m' l' tells room in record {
          right = right-told t work marks ops state c s (claim room) r w' l' hand;
          accepts = λ some h k e register plain f. hand.number ∙ (claim room).accepts h k e register plain f;
        }
    by false short = record {
      right = λ register e. absurd (roomless c p w m l r p' w' m' l' tells short e);
      accepts = λ some. absurd (true≢false (sym some ∙ short));
    }

-- ---- the signs, and the run beside the plain engine

module _ (c : Compiled) (s ops : List Float) (few : number_of c.answer ≡ 0 → c.report.n ≤ max_qubits) (p w : List ℕ) (m : List Float) (l : List ℕ) (r : ℕ)
    (p' w' : List ℕ) (m' : List Float) (l' : List ℕ) (tells : Reports c p w m l r p' w' m' l') where
  -- the report's n, with the caller's mode table
  abbrev with_table : Left
  with_table = record { number = r; n = c.report.n; modes = drop (2 * max_qubits) l'; state = s }

  -- what is claimed where the call returned 0: of n and the count as they are read from the slices. Without room it has not
  in-slices : (Claim : Left → ℕ → List Float → Type 0)
      → (room_of p w m l ≡ true → number_of c.answer ≡ 0
      → ((modes : List ℕ) → Begins c.report.n with_table.modes modes → Begins c.report.n c.report.modes modes)
      → Claim with_table c.report.operations ops)
      → r ≡ 0 → Claim (left_in r w' l' s) (operations_in w') ops
  in-slices Claim holds e = by (room_of p w m l) refl
    where
      by : (b : Bool) → room_of p w m l ≡ b → Claim (left_in r w' l' s) (operations_in w') ops
      by true room =
          let hand = in-hand c p w m l r p' w' m' l' tells room in
          let zero : number_of c.answer ≡ 0 = sym hand.number ∙ e in
          transport
          (λ i. Claim (record { number = r; n = sym hand.n i; modes = drop (2 * max_qubits) l'; state = s }) (sym hand.operations i) ops)
          (holds room zero (lent-table c r w' l' hand c.report.n (few zero)))
      by false short = absurd (roomless c p w m l r p' w' m' l' tells short e)

  pub signs-told : (room_of p w m l ≡ true → SignClaim answer (left_by c s) c.report.operations ops)
      → SignClaim answer (left_in r w' l' s) (operations_in w') ops
  signs-told signs =
      in-slices (SignsRight answer) (λ room zero lent xs stand.
      let right = signs room zero xs stand in
      record { covariance = right.covariance; parities = λ modes begins. right.parities modes (lent modes begins) })

  pub plain-told : (room_of p w m l ≡ true → PlainRun (left_by c s) c.report.operations ops) → PlainRun (left_in r w' l' s) (operations_in w') ops
  plain-told plain = in-slices AnswersPlainly (λ room zero lent modes begins. plain room zero modes (lent modes begins))
