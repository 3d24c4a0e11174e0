-- `engine::reports::put_words` meets its contract: the copy at once is that of each word. Assumes nothing.
use mathlib.Core.Path.{◌≡◌, sym, ap, ◌∙◌}
use mathlib.Core.List.{◌++◌}
use native.Mathlib.Omega.{arith}
use lib.ListN.{length, drop}
use Rattle.std.proofs.Common.{rules}
use Rattle.std.proofs.lemmas.List.Edits.{paste_all}
use Rattle.detect.specs.Words.{word_count}
use Rattle.engine.proofs.Laid.{laid_pasted}
use Rattle.engine.proofs.reports.put_words.Goals as goal

pub returns : goal.returns
returns c =
    let long : length c.args.x.now ≡ word_count = search rules in
    ap (λ y. y ++ drop word_count c.args.out.now) c.copy_from_slice.ensures.after
    ∙ sym (paste_all c.args.out.now 0 c.args.x.now word_count (sym long))
    ∙ laid_pasted 0 c.args.x.now c.args.out.now word_count c.requires (omega (arith, long))
