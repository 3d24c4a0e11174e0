-- `queries::marginals::odd_ones` meets its contract: the parity of the modes passed. Assumes nothing.
use Rattle.std.proofs.Common.{◌≡◌, ℕ, Bool, true, false, not, cond, refl, ap, sym, ◌∙◌, get_or, take, None}
use mathlib.Core.Bool.{beq}
use native.Mathlib.Numerals.{add-one}
use lib.Seq.{take-suc}
use Rattle.queries.specs.Marginals.{is_one}
use Rattle.queries.specs.Inner.{mark_at, odd_among}
use Rattle.queries.proofs.Among.{among-more}
use Rattle.queries.proofs.Marking.{asked_one}
use Rattle.queries.proofs.marginals.odd_ones.Goals as goal

pub loop-j-init : goal.loop-j-init
unfolding odd_among
loop-j-init c = refl

xor : (a b : Bool) → not (beq a b) ≡ cond b (not a) a
xor true true = refl
xor true false = refl
xor false true = refl
xor false false = refl

pub loop-j-preserved : goal.loop-j-preserved
loop-j-preserved c =
    let l = c.loop-j in
    let list = c.args.list.now in
    let asked = c.args.asked.now in
    let k = get_or list l.j 0 in
    let p : ℕ → Bool = λ k. is_one (mark_at asked k) in
    let more = take-suc list l.j 0 c.loop-j-test.true in
    let one : c.unwrap_or-odd.result ≡ is_one (mark_at asked k) = rw c.from.ensures at c.unwrap_or-odd.ensures ∙ asked_one (get_or asked k None) in
    xor l.odd _ ∙ ap (λ b. cond b (not l.odd) l.odd) one ∙ ap (λ o. cond (p k) (not o) o) l.invariant
    ∙ sym (among-more p (take l.j list) k) ∙ ap (odd_among p) (sym more ∙ ap (λ j. take j list) (sym (add-one l.j)))
