-- Public `compile`: its questions 1 to 10 in their order are one value, `asked`, from which the answer and every slice follow. The questions up to 9, what
-- they come to, and what a refusal leaves are said for `run` too, which asks on (crate `gaussian`). Assumes nothing. A public promise rests on this.
use Rattle.std.specs.Prelude.{Bool, cond, List, ℕ, ◌*◌, ltb, length, Float}
use Rattle.laws.specs.Slices.{filled}
use Rattle.laws.specs.Bounds.{op_places}
use Rattle.gate.specs.Complex.{f0}
use Rattle.work.specs.Sizes.{work_floats, work_marks}
use Rattle.tape.specs.Parse.{Parsed, Content, refused, accepted, parse}
use Rattle.tape.specs.declared.header.Header.{Header}
use Rattle.detect.specs.Answers.{Compiled, refusal, done}
use Rattle.detect.specs.Operation.{written}
use Rattle.detect.specs.Compile.{reported_of, program_of}

-- ---- what the questions come to

pub data Asked : Type 0 where
  -- one of 1 to 9 has no for an answer: its number and its place
  early : ℕ → ℕ → Asked
  -- 1 to 9 have yes for an answer and a later one has no: its number. Its place is 0
  late : ℕ → Header → Content → Asked
  -- all have yes
  passed : Header → Content → Asked

unfoldable pub answer_of : Asked → Compiled
answer_of (early number place) = refusal number place
answer_of (late number h c) = refusal number 0
answer_of (passed h c) = done (reported_of h c.gates)

-- "From here on" (9) "those places are zero after every answer": l is the floats or the marks, which with g gates and n qubits have k g n such places,
-- and v their zero
unfoldable pub work_after : {A : Type 0} → (ℕ → ℕ → ℕ) → A → Asked → List A → List A
work_after k v (early number place) l = l
work_after k v (late number h c) l = filled (k (length c.gates) h.n) v l
work_after k v (passed h c) l = filled (k (length c.gates) h.n) v l

-- "and no slice changes, except work"; "places after the last operation keep their values"
unfoldable pub ops_after : Asked → List Float → List Float
ops_after (early number place) l = l
ops_after (late number h c) l = l
ops_after (passed h c) l = written (program_of h c.gates) l

-- ---- the questions; what is asked after one is `next`

-- 9. Has work 64(G+n) f64 and 32(G+n) u32 places? w and u are there
abbrev pub has_work : ℕ → ℕ → ℕ → ℕ → Bool
has_work g n w u = cond (ltb w (work_floats g n)) Bool.false (cond (ltb u (work_marks g n)) Bool.false Bool.true)

abbrev pub asked_nine : (Header → Content → Asked) → Header → Content → ℕ → ℕ → ℕ → Asked
asked_nine next h c g w u = cond (has_work g h.n w u) (next h c) (early 9 0)

-- 1 to 9
unfoldable pub asked_from : (Header → Content → Asked) → Parsed → ℕ → ℕ → Asked
asked_from next (refused number place) w u = early number place
asked_from next (accepted h c) w u = asked_nine next h c (length c.gates) w u

-- 10. Has the operation slice 18 places per operation? o are there, for k operations: it has not
abbrev pub ops_lack : ℕ → ℕ → Bool
ops_lack o k = ltb o (op_places * k)

abbrev pub asked_ten : ℕ → Header → Content → Asked
asked_ten o h c = cond (ops_lack o (length (program_of h c.gates))) (late 10 h c) (passed h c)

-- ---- of the tape's bytes and the lent slices

-- all
abbrev pub asked : List ℕ → List Float → List ℕ → List Float → Asked
asked t work marks ops = asked_from (asked_ten (length ops)) (parse t) (length work) (length marks)

-- the answer; the floats, the marks and the operations afterwards
abbrev pub compiled : List ℕ → List Float → List ℕ → List Float → Compiled
compiled t work marks ops = answer_of (asked t work marks ops)

abbrev pub compiled_work : List ℕ → List Float → List ℕ → List Float → List Float
compiled_work t work marks ops = work_after work_floats f0 (asked t work marks ops) work

abbrev pub compiled_marks : List ℕ → List Float → List ℕ → List Float → List ℕ
compiled_marks t work marks ops = work_after work_marks 0 (asked t work marks ops) marks

abbrev pub compiled_ops : List ℕ → List Float → List ℕ → List Float → List Float
compiled_ops t work marks ops = ops_after (asked t work marks ops) ops
