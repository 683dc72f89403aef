-- The words of lower crates that the laws of the texts of words speak in: instructions, statements, their canonical text, and names.
pub use Rattle.mx_isa.specs.declared.inst.Cond.{Cond}
pub use Rattle.mx_isa.specs.declared.inst.Inst.{Inst}
pub use Rattle.mx_code.specs.Decoding.{inst_of}
pub use Rattle.mx_source.specs.declared.statement.Statement.{Statement}
pub use Rattle.mx_source.specs.Statements.{IsPlain}
pub use Rattle.mx_source.specs.Printed.{statement_text, place_name, register, spelled}
pub use Rattle.mx_lines.specs.Instructions.{Labels}
pub use Rattle.mx_asm.specs.Printable.{is_name}
