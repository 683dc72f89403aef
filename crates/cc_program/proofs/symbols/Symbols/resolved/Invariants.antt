use Rattle.std.proofs.Common.{◌≡◌, ◌-◌}
use Rattle.std.specs.Fn.{iterate}
use Rattle.cc_program.specs.Programs.{alias_of, resolved}
use Rattle.cc_program.specs.declared.symbols.TheConstants.{MOST_ALIASES}
use Rattle.cc_program.proofs.symbols.Symbols.resolved.Given as goal

-- the steps that are left lead where all of them lead
abbrev pub invariant-loop : goal.invariant-loop
invariant-loop l = iterate (alias_of l.self.list.items) (MOST_ALIASES - l.counter) l.at ≡ resolved l.self.list.items l.number
