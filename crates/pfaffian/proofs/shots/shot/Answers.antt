-- `pfaffian::shots::shot` meets its contract: what was listed are the outcomes, and each word is made of them. Assumes nothing.
use mathlib.Core.Path.{◌∙◌}
use Rattle.real.specs.Squares.{cells}
use Rattle.laws.specs.Tables.{mode_at}
use Rattle.pfaffian.specs.Shot.{shot, draw_from}
use Rattle.pfaffian.proofs.Listing.{length-shot, listed-all, word_same, words_same, modes-taken}
use Rattle.pfaffian.proofs.shots.shot.Goals as goal

pub returns-clause-words : goal.returns-clause-words
returns-clause-words c =
    let bits = c.measure_modes.new.bits in
    let e = cells c.args.m.now in
    let outcomes = shot e 0 c.args.n (draw_from c.args.draws.now 0) in
    let same = words_same (mode_at c.args.modes.now) c.args.n outcomes bits
    (listed-all c.args.n 128 outcomes bits (length-shot _ _ _ _) c.measure_modes.ensures.bits) in
    let own = word_same _ _ (λ q. modes-taken c.args.modes.now c.args.n bits q c.requires.n_in_bounds_3) in
    λ t. record { low = (c.word-low.ensures ∙ own 0 64 ∙ same 0 64) t; high = (c.word-high.ensures ∙ own 64 64 ∙ same 64 64) t }
