use Rattle.std.proofs.Common.{◌∙◌, ap, sym, option_map}
use Rattle.cc_plan.specs.declared.places.Datum.{Datum}
use Rattle.cc_plan.proofs.Learning.{read_base}
use Rattle.cc_plan.proofs.places.place_instruction.Goals as goal

pub returns-in-Some-clause-known : goal.returns-in-Some-clause-known
returns-in-Some-clause-known c words holds read =
    let is = sym c.datum_of.ensures ∙ ap (option_map (λ (d : Datum). (d.base.0, d.offset))) c.in-Some.is in
    c.place_datum.ensures.known words holds
    (read_base c.args.knowledge.now.computes c.args.instruction.now c.in-Some.datum.base.0 c.in-Some.datum.offset is read)
