use Rattle.std.proofs.Common.{⊎_elim, sym, subst}
use Rattle.cc_plan.specs.Knowing.{IsSound}
use Rattle.cc_plan.proofs.Divisions.{named_of}
use Rattle.cc_plan.proofs.knowledge.Knowledge.of.Goals as goal

pub returns-in-None : goal.returns-in-None
returns-in-None c words holds read = ⊎_elim
    (λ nothing. subst (λ k. IsSound words k (words c.args.register.0)) (sym nothing) (record { is = tt; base = λ b by. absurd (cc) }))
    (λ found. holds.known c.args.register.0 c.noted.result (named_of c.args.register.0 read c.if-register.false) c.in-None.ensures.none found)
    c.noted.ensures
