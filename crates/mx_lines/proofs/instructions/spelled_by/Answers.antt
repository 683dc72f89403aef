use Rattle.mx_lines.proofs.Fits.{by_alone}
use Rattle.mx_lines.proofs.instructions.spelled_by.Goals as goal

pub returns-in-Compute-clause-fits : goal.returns-in-Compute-clause-fits
returns-in-Compute-clause-fits c = by_alone c.args.labels.now c.compute.result c.compute.ensures.fits

pub returns-in-Not-clause-fits : goal.returns-in-Not-clause-fits
returns-in-Not-clause-fits c = by_alone c.args.labels.now c.of_one.result c.of_one.ensures.fits

pub returns-in-Mstart-clause-fits : goal.returns-in-Mstart-clause-fits
returns-in-Mstart-clause-fits c = by_alone c.args.labels.now c.mstart.result c.mstart.ensures.fits

pub returns-in-Asr-clause-fits : goal.returns-in-Asr-clause-fits
returns-in-Asr-clause-fits c = by_alone c.args.labels.now c.asr.result c.asr.ensures.fits

pub returns-in-Sh-clause-fits : goal.returns-in-Sh-clause-fits
returns-in-Sh-clause-fits c = by_alone c.args.labels.now c.sh.result c.sh.ensures.fits

pub returns-in-Addi-clause-fits : goal.returns-in-Addi-clause-fits
returns-in-Addi-clause-fits c = by_alone c.args.labels.now c.addi.result c.addi.ensures.fits

pub returns-in-Mov-clause-fits : goal.returns-in-Mov-clause-fits
returns-in-Mov-clause-fits c = by_alone c.args.labels.now c.of_one-in-Mov.result c.of_one-in-Mov.ensures.fits

pub returns-in-Nop-clause-fits : goal.returns-in-Nop-clause-fits
returns-in-Nop-clause-fits c = by_alone c.args.labels.now c.nop.result c.nop.ensures.fits

pub returns-in-MoveFrom-clause-fits : goal.returns-in-MoveFrom-clause-fits
returns-in-MoveFrom-clause-fits c = by_alone c.args.labels.now c.move_from.result c.move_from.ensures.fits

pub returns-in-MoveTo-clause-fits : goal.returns-in-MoveTo-clause-fits
returns-in-MoveTo-clause-fits c = by_alone c.args.labels.now c.move_to.result c.move_to.ensures.fits

pub returns-in-CallReg-clause-fits : goal.returns-in-CallReg-clause-fits
returns-in-CallReg-clause-fits c = by_alone c.args.labels.now c.call_register.result c.call_register.ensures.fits

pub returns-in-JumpReg-clause-fits : goal.returns-in-JumpReg-clause-fits
returns-in-JumpReg-clause-fits c = by_alone c.args.labels.now c.jump.result c.jump.ensures.fits

pub returns-in-Halt-clause-fits : goal.returns-in-Halt-clause-fits
returns-in-Halt-clause-fits c = by_alone c.args.labels.now c.halt.result c.halt.ensures.fits

pub returns-in-System-clause-fits : goal.returns-in-System-clause-fits
returns-in-System-clause-fits c = by_alone c.args.labels.now c.system.result c.system.ensures.fits
