-- What contracts see of a program.
use Rattle.mx_source.specs.Meaning.{Program}
use Rattle.mx_seq.specs.Programs.{bytes_in}
use Rattle.mx_seq.specs.declared.program.Program.TheInside.{Inside}

-- what contracts see of what runs
abbrev pub program_value : Inside → Program
program_value p = record { statements = p.statements.items; place = p.place; input = bytes_in p.input }
