-- `text::lines::push_report_line` meets its contract: the fields one behind the other are the line. Assumes nothing.
use Rattle.text.specs.Ascii.{ascii}
use Rattle.text.specs.Lines.{field, report_line}
use Rattle.text.proofs.Pieces.{behind}
use Rattle.text.proofs.lines.push_report_line.Goals as goal

pub returns-clause-line : goal.returns-clause-line
unfolding ascii report_line
returns-clause-line c =
    let t = c.args.text.now.bytes in
    let r = c.args.r.now in
    let two = behind t c.push_field.new.text.bytes c.push_count.new.text.bytes (field "qubits " r.n) (field " blocks " r.blocks)
    c.push_field.ensures.text c.push_count.ensures.text in
    let three = behind t _ c.push_count-2.new.text.bytes _ (field " gaussian " r.gaussian) two c.push_count-2.ensures.text in
    let four = behind t _ c.push_count-3.new.text.bytes _ (field " bad " r.bad) three c.push_count-3.ensures.text in
    let five = behind t _ c.push_count-4.new.text.bytes _ (field " interactions " r.interactions) four c.push_count-4.ensures.text in
    behind t _ c.push_str.new.self.bytes _ (ascii "\n") five c.push_str.ensures.bytes
