use Rattle.std.proofs.Common.{Some, subst, sym}
use Rattle.cc_plan.specs.Knowing.{Holds}
use Rattle.cc_plan.specs.Places.{divided}
use Rattle.cc_plan.proofs.Divisions.{divided_holds}
use Rattle.cc_plan.proofs.knowledge.Knowledge.place_by_quotient.Goals as goal

pub returns-clause-known : goal.returns-clause-known
returns-clause-known c words holds read = let q = c.next_quotient-into.ensures in
    subst (λ k. Holds k (divided words (Some (c.args.base.0, c.next_quotient-into.result)))) (sym c.note.ensures)
    (divided_holds c.args.self.now c.next_quotient-into.new.self words c.args.base.0 c.next_quotient-into.result q.register holds q.known q.points)
