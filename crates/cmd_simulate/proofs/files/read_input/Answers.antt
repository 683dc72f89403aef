use Rattle.std.proofs.Common.{ℕ, List, Option, option_map, refl, inl, subst, sym}
use Rattle.std.specs.Borrow.{Bor}
use Rattle.cmd_answer.specs.declared.FileKind.TheVariants.{Input}
use Rattle.mx_io.specs.Shelves.{Told, Counts}
use Rattle.cmd_answer.specs.Protocol.{IsFault, Performed}
use Rattle.cmd_answer.proofs.Replies.{step_fails}
use Rattle.cmd_simulate.specs.Machines.{input_protocol}
use Rattle.cmd_simulate.proofs.Readings.{InputRefused}
use Rattle.cmd_simulate.proofs.files.read_input.Goals as goal

pub returns-in_err-bytes-in-Some-clause-refused : goal.returns-in_err-bytes-in-Some-clause-refused
returns-in_err-bytes-in-Some-clause-refused g c =
    let told : Told = g.S.Shelf.told c.args.shelf.now in
    let before : Counts = g.S.Shelf.counts c.args.shelf.now in
    let between : Counts = g.S.Shelf.counts c.read_file.new.shelf in
    step_fails c.from_residual.result c.in_err-bytes-in-Some.field-0.0 (IsFault told Input c.in-Some.name.now before between)
    (InputRefused told (option_map (λ s. s.now) c.args.name) before between) c.from_residual.ensures.1 c.in_err-bytes-in-Some.ensures.fault
    (λ answer fault next. subst
    (λ (n : Option (Bor (List ℕ))). Performed told (input_protocol (option_map (λ s. s.now) n) next) before between answer) (sym c.in-Some.is)
    (between, c.in_err-bytes-in-Some.ensures.read, inl (refl, fault)))
