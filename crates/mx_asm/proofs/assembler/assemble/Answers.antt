use Rattle.mx_asm.proofs.PrintedTexts.{printed_answer}
use Rattle.mx_asm.proofs.assembler.assemble.Goals as goal

pub returns-clause-printed : goal.returns-clause-printed
returns-clause-printed c = printed_answer c.args.text.now c.assemble_at.result c.assemble_at.ensures.source c.assemble_at.ensures.refused
