-- The bytes written are the text of those that were read, which is that of the whole input.
use Rattle.std.proofs.Common.{◌≡◌, ◌<◌, ◌≤◌, length, take, arith, subst, ap, ◌∙◌}
use Rattle.std.proofs.Math.Seq.{take-append_seam}
use Rattle.std.specs.Io.KnownBytes.{Appends}
use Rattle.text.specs.Print.{printed}
use Rattle.std.proofs.lemmas.Result.{on_ok_weaker}
use Rattle.printing.proofs.Cut.{written}
use Rattle.printing.proofs.print_from.Goals as goal

pub returns : goal.returns
returns g c =
    let n = c.in_ok-n.n in
    let space = c.read_full.new.space in
    let bs = take n space in
    let room : length space ≡ 65536 = omega arith in
    let many : n ≡ length bs = c.in_ok-n.ensures.count.1 in
    let inside : n ≤ length space = c.in_ok-n.ensures.count.0 in
    let fits : length bs ≤ 65536 = omega arith in
    let put : take c.print_tape-end.result c.print_tape-end.new.out ≡ printed bs =
    ap (λ k. take k c.print_tape-end.new.out) c.print_tape-end.ensures.end
    ∙ ap (take (length (printed bs))) c.print_tape-end.ensures.text
    ∙ take-append_seam (printed bs) _ in
    on_ok_weaker c.write_all.result
    (λ out.
    written _ _ bs 65536 (omega arith) fits c.in_ok-n.ensures.bytes
    (λ (h : length bs < 65536). let short : n < length space = omega arith in c.in_ok-n.ensures.end short)
    _ _ (subst (Appends _ _) put out))
    c.write_all.ensures.bytes
