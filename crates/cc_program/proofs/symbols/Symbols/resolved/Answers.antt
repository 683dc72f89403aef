use Rattle.std.proofs.Common.{◌-◌, ap, sym, ◌∙◌}
use Rattle.cc_program.specs.Programs.{alias_in, alias_of}
use Rattle.cc_program.specs.declared.symbols.TheConstants.{MOST_ALIASES}
use Rattle.cc_program.proofs.Aliases.{stays, step, no_alias}
use Rattle.cc_program.proofs.symbols.Symbols.resolved.Goals as goal

pub returns-in_default : goal.returns-in_default
returns-in_default c =
    let at = c.loop.at in
    let same = ap (alias_in at) (sym c.own_meaning.ensures) ∙ no_alias at c.own_meaning.result c.in_default.not-Alias in
    sym (stays (alias_of c.args.self.now.list.items) (MOST_ALIASES - c.loop.counter) at same) ∙ c.loop.invariant

pub loop-preserved : goal.loop-preserved
loop-preserved c =
    let on = ap (alias_in c.loop.at) (sym c.own_meaning.ensures ∙ c.in-Alias.is) in
    step (alias_of c.args.self.now.list.items) MOST_ALIASES c.loop.counter c.loop.at c.in-Alias.other c.loop-test.true on ∙ c.loop.invariant
