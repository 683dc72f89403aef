use Rattle.cc_emit.proofs.print.put_plain.Goals as goal

pub returns-in-Move : goal.returns-in-Move
returns-in-Move c = rw c.in-Move.is c.two.ensures

pub returns-in-Not : goal.returns-in-Not
returns-in-Not c = rw c.in-Not.is c.two-in-Not.ensures

pub returns-in-Asr : goal.returns-in-Asr
returns-in-Asr c = rw c.in-Asr.is c.three-in-Asr.ensures
