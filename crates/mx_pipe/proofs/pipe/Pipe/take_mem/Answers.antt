use Rattle.std.proofs.Common.{ap, ◌∙◌}
use Rattle.std.specs.Prelude.{slice_index}
use Rattle.mx_isa.specs.declared.inst.Inst.{Inst}
use Rattle.mx_isa.specs.Words.{write}
use Rattle.mx_isa.specs.Views.{dest}
use Rattle.mx_pipe.proofs.pipe.Pipe.take_mem.Goals as goal

pub returns-clause-file : goal.returns-clause-file
returns-clause-file g c = λ before left.
    c.set.ensures
    ∙ ap (λ d. write (slice_index c.args.lane.now.registers.file) d c.args.lane.now.replaced)
    (c.dest-to.ensures ∙ ap (λ (i : Inst). dest i) c.of-inst.ensures.what)
    ∙ left.file
