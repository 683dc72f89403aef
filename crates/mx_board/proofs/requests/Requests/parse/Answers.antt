use Rattle.mx_board.proofs.Reading.{reading_begins, reading_goes_on, reading_keeps}
use Rattle.mx_board.proofs.requests.Requests.parse.Goals as goal

pub lines-init : goal.lines-init
lines-init c = rw c.new-cycles.ensures.items (reading_begins c.args.bytes.now c.requires)

pub invariant_of-result : goal.invariant_of-result
invariant_of-result c =
    reading_keeps c.args.bytes.now c.lines.cycles.items c.lines.line c.lines.text.now c.without_return.result.now c.add_line.new.cycles.items
    c.lines.invariant c.in_ok-add_line.ensures.clean c.in_ok-add_line.ensures.added

pub lines-preserved : goal.lines-preserved
lines-preserved c =
    reading_goes_on c.args.bytes.now c.lines.cycles.items c.lines.line c.lines.text.now c.split_line.result.0.now c.without_return.result.now
    c.in-Some.rest.now c.add_line.new.cycles.items c.lines.invariant (rw c.in-Some.is at c.split_line.ensures.more) c.without_return.ensures
    (rw c.in-Some.is at c.split_line.ensures.shorter) c.in_ok-add_line.ensures.clean c.in_ok-add_line.ensures.added
