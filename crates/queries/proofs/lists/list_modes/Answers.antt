-- `queries::lists::list_modes` meets its contract: the modes passed are listed. Assumes nothing.
use mathlib.Core.Logic.{⊎_elim}
use Rattle.std.proofs.Common.{refl, sym, ◌∙◌, ◌<◌, ◌≤◌, arith, true, false}
use Rattle.std.proofs.lemmas.Bool.{cases_lt}
use Rattle.queries.proofs.Searches.{passing-none, passing-on, passing-off, passing-rest}
use Rattle.queries.proofs.lists.list_modes.Goals as goal
use Rattle.queries.proofs.lists.list_modes.Goals.{then-left, else-left}

pub loop-k-init : goal.loop-k-init
loop-k-init g c =
    let e = c.new-list.ensures in
    (rw e (omega arith), λ h. absurd (omega (arith, h)), λ p none h. e ∙ sym (passing-none p c.args.among.low none))

pub loop-k-preserved : goal.loop-k-preserved
loop-k-preserved g c =
    let l = c.loop-k in
    let i = l.invariant in
    let below = c.loop-k-test.true in
    elim c.if-left.branch [
      | then-left w ↦ (
        rw w.list-is (omega (arith, w.push.ensures.len, i.0)),
        λ h. omega (arith, below),
        λ p none h. rw (w.list-is, passing-on p l.k (sym (h l.k true below w.if-left.ensures)), w.push.ensures.items, i.2 p none h) refl,
      )
      | else-left w ↦ (
        rw w.list-is (omega (arith, i.0)),
        λ h. omega (arith, below),
        λ p none h. rw (w.list-is, passing-off p l.k (sym (h l.k false below w.if-left.ensures))) (i.2 p none h),
      )
    ]

pub returns-clause-modes : goal.returns-clause-modes
returns-clause-modes g c =
    let l = c.loop-k in
    let i = l.invariant in
    let end : c.args.among.end ≤ l.k = omega (arith, c.loop-k-test.false) in
    λ n p among h.
    i.2 p among.before h
    ∙ passing-rest p l.k n
    (⊎_elim (λ (more : c.args.among.low < l.k). omega (arith, i.1 more, among.end)) (λ (none : l.k ≤ c.args.among.low). omega (arith, none, among.low))
    (cases_lt c.args.among.low l.k))
    (λ j from below. among.after j (omega (arith, end, from)) below)
