-- `state::check::all_met` meets its contract: the words are those of the modes met so far (`words_more`), and at the end they tell (`words-all`).
-- Assumes nothing.
use Rattle.std.proofs.Common.{length, ◌≡◌, ◌+◌, ◌*◌, ◌%◌, ◌≤◌, subst, arith, le-ltb}
use Rattle.laws.specs.Tables.{mode_at}
use Rattle.state.specs.Modes.{mode_ok}
use Rattle.laws.proofs.Tests.{all-fails}
use Rattle.state.proofs.Words.{Words, words-first, words_more, words-all}
use Rattle.state.proofs.check.all_met.Goals as goal
use Rattle.state.proofs.check.all_met.Goals.{then-k-n-via-then-k-n, then-k-n-via-else-k-n+then-l-n}

pub returns-then-first-n : goal.returns-then-first-n
returns-then-first-n c =
    let table = c.args.table.now in
    let n = length table in
    let h : n ≤ mode_at table 0 = omega (arith, c.mode_at-first.ensures, c.if-first-n.true) in
    all-fails (mode_ok n table) n 0 c.requires.0 (rw (le-ltb _ _ h))

pub loop-i-init : goal.loop-i-init
loop-i-init c =
    let table = c.args.table.now in
    let n = length table in
    let q : n % 2 + 2 * 0 ≡ n % 2 = omega arith in
    rw (c.bit-a.ensures, q)
    (words-first n table (n % 2) _ c.requires.0 (omega arith) c.mode_at-first.ensures c.if-first-n.false)

pub returns-then-k-n : goal.returns-then-k-n
returns-then-k-n c =
    let table = c.args.table.now in
    let n = length table in
    let q = n % 2 + 2 * c.loop-i.i in
    elim c.then-k-n.branch [
      | then-k-n-via-then-k-n w ↦
          let h : n ≤ mode_at table q = omega (arith, c.mode_at-k.ensures, w.if-k-n.true) in
          all-fails (mode_ok n table) n q (omega arith) (rw (le-ltb _ _ h))
      | then-k-n-via-else-k-n+then-l-n w ↦
          let h : n ≤ mode_at table (q + 1) = omega (arith, c.mode_at-l.ensures, w.if-l-n.true) in
          all-fails (mode_ok n table) n (q + 1) (omega arith) (rw (le-ltb _ _ h))
    ]

pub loop-i-preserved : goal.loop-i-preserved
loop-i-preserved c =
    let l = c.loop-i in
    let table = c.args.table.now in
    let n = length table in
    let q = n % 2 + 2 * l.i in
    let next : n % 2 + 2 * (l.i + 1) ≡ q + 2 = omega arith in
    rw (next, c.bit-b.ensures, c.bit-a-in-loop-i.ensures)
    (words_more n table q _ _ l.a l.b (omega arith) c.mode_at-k.ensures c.mode_at-l.ensures c.if-k-n.false c.if-l-n.false
    l.invariant)

pub returns : goal.returns
returns c =
    let l = c.loop-i in
    let table = c.args.table.now in
    let n = length table in
    let all : n % 2 + 2 * l.i ≡ n = omega arith in
    rw c.ones.ensures (words-all n table l.a l.b (omega arith) (subst (λ q. Words n table q l.a l.b) all l.invariant))
