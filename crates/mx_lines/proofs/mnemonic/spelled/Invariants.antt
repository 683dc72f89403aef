use Rattle.std.proofs.Common.{◌≡◌, map, drop}
use Rattle.mx_lines.specs.Mnemonics.{spelled, row}
use Rattle.mx_lines.proofs.mnemonic.spelled.Given as goal

-- the name spells among the rows that are left what it spells among all
abbrev pub invariant-loop-spelling : goal.invariant-loop-spelling
invariant-loop-spelling l = spelled (map row (drop l.spelling-index l.rows)) l.name ≡ spelled (map row l.rows) l.name
