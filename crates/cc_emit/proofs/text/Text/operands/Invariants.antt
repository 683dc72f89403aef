use Rattle.std.proofs.Common.{◌≡◌, ◌++◌, take, codes}
use Rattle.std.specs.List.{flat_map}
use Rattle.cc_emit.specs.Statements.{operand_text}
use Rattle.cc_emit.proofs.text.Text.operands.Given as goal

abbrev pub invariant-loop-one : goal.invariant-loop-one
invariant-loop-one l = l.self ≡ l.initial.self ++ flat_map (λ one. codes "," ++ operand_text l.symbols.list.items one) (take l.one-index l.operands)
