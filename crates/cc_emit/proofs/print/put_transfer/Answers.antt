use Rattle.cc_emit.proofs.print.put_transfer.Goals as goal

pub returns-in-Call : goal.returns-in-Call
returns-in-Call c = rw c.in-Call.is c.two.ensures

pub returns-in-CallReg : goal.returns-in-CallReg
returns-in-CallReg c = rw c.in-CallReg.is c.two-in-CallReg.ensures

pub returns-in-Halt : goal.returns-in-Halt
returns-in-Halt c = rw c.in-Halt.is c.put.ensures
