-- `queries::samples::check_draws` meets its contract: none of the draws passed is bad. Assumes nothing.
use Rattle.std.proofs.Common.{not, length, get_or, refl, sym, ap, ◌∙◌, arith}
use lib.Ieee.{nan}
use Rattle.queries.specs.Samples.{draw_ok_of, bad_draw_of}
use native.Mathlib.Nat.{sub-zero}
use Rattle.queries.proofs.Searches.{first-hit, first-miss, first-none}
use Rattle.queries.proofs.samples.check_draws.Goals as goal

pub loop-i-init : goal.loop-i-init
unfolding bad_draw_of
loop-i-init c = rw sub-zero

pub loop-i-preserved : goal.loop-i-preserved
loop-i-preserved c =
    let l = c.loop-i in
    sym (first-miss (λ j. not (draw_ok_of (get_or c.args.draws.now j nan))) l.i (length c.args.draws.now) (omega arith)
    (ap not (sym c.draw_ok.ensures ∙ c.if-not-draw_ok.false))) ∙ l.invariant

pub returns-then-not-draw_ok : goal.returns-then-not-draw_ok
returns-then-not-draw_ok c =
    let l = c.loop-i in
    let place = sym (first-hit (λ j. not (draw_ok_of (get_or c.args.draws.now j nan))) l.i (length c.args.draws.now) (omega arith)
    (ap not (sym c.draw_ok.ensures ∙ c.if-not-draw_ok.true))) ∙ l.invariant in
    rw (← place) (omega arith, refl)

pub returns : goal.returns
returns c =
    let l = c.loop-i in
    sym l.invariant ∙ first-none _ l.i _ (omega arith) ∙ omega arith
