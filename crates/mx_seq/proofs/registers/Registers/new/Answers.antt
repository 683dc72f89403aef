use Rattle.mx_source.specs.declared.statement.Value.TheVariants.{Int}
use Rattle.mx_seq.proofs.Zeros.{get_or-replicate_same}
use Rattle.mx_seq.proofs.registers.Registers.new.Goals as goal

pub returns : goal.returns
returns c = λ i n. get_or-replicate_same 32 n (Int 0) i
