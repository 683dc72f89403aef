-- The places behind a name as the program keeps them. Only private functions cite this.
use Rattle.mx_lines.specs.Words.{Comma, Open, Close, Hash}
use Rattle.mx_faults.specs.declared.role.Role.{Role as Kept}
use Rattle.mx_faults.specs.declared.role.Role.TheVariants as kept
use Rattle.mx_faults.specs.Forms.{Role, Register, SpecialName, Immediate, ShiftCount, Offset, CodeName, AnyName, DataValue, WordCount, Mark}

-- what a place of the program takes
abbrev pub role : Kept → Role
role kept.Register = Register
role kept.SpecialName = SpecialName
role kept.Immediate = Immediate
role kept.ShiftCount = ShiftCount
role kept.Offset = Offset
role kept.CodeName = CodeName
role kept.AnyName = AnyName
role kept.DataValue = DataValue
role kept.WordCount = WordCount
role kept.Comma = Mark Comma
role kept.Open = Mark Open
role kept.Close = Mark Close
role kept.Hash = Mark Hash
