use Rattle.std.proofs.Common.{refl, inl}
use Rattle.mx_io.specs.Shelves.{Told, Counts}
use Rattle.cmd_answer.specs.Protocol.{IsFault}
use Rattle.cmd_answer.proofs.Replies.{step_fails}
use Rattle.cmd_source.specs.Replied.{IsReplied}
use Rattle.cmd_source.proofs.Readings.{FileRefused, fault_is_replied}
use Rattle.cmd_source.proofs.files.read_named.Goals as goal

pub returns-in_err-bytes-clause-refused : goal.returns-in_err-bytes-clause-refused
returns-in_err-bytes-clause-refused g c =
    let told : Told = g.S.Shelf.told c.args.shelf.now in
    let before : Counts = g.S.Shelf.counts c.args.shelf.now in
    let between : Counts = g.S.Shelf.counts c.read_file.new.shelf in
    step_fails c.from_residual.result c.in_err-bytes.field-0.0 (IsFault told c.args.kind c.args.name.now before between)
    (FileRefused told c.args.kind c.args.name.now before between) c.from_residual.ensures.1 c.in_err-bytes.ensures.fault
    (λ answer fault next. (between, c.in_err-bytes.ensures.read, inl (refl, fault)))

pub returns-in_err-bytes-clause-replied : goal.returns-in_err-bytes-clause-replied
returns-in_err-bytes-clause-replied g c =
    let told : Told = g.S.Shelf.told c.args.shelf.now in
    let before : Counts = g.S.Shelf.counts c.args.shelf.now in
    let between : Counts = g.S.Shelf.counts c.read_file.new.shelf in
    step_fails c.from_residual.result c.in_err-bytes.field-0.0 (IsFault told c.args.kind c.args.name.now before between) IsReplied
    c.from_residual.ensures.1 c.in_err-bytes.ensures.fault (fault_is_replied told c.args.kind c.args.name.now before between)
