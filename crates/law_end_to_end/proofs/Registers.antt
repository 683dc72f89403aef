-- The registers of a text's statements are 0 to 31.
use Rattle.std.proofs.Common.{ℕ, List, arith}
use Rattle.std.specs.Prelude.{All}
use Rattle.mx_lex.specs.Lines.{lines_of}
use Rattle.mx_isa.specs.Registers.{IsRegister}
use Rattle.mx_code.specs.Codes.{HasRegisters}
use Rattle.mx_source.specs.declared.Label.{Label}
use Rattle.mx_source.specs.declared.Label.TheVariants.{Code, Data}
use Rattle.mx_source.specs.declared.Statement.{Statement}
use Rattle.mx_blocks.specs.Leaders.{inst_of}
use Rattle.mx_lines.specs.Instructions.{Labels, address_of}
use Rattle.mx_lines.proofs.Forms.{Forms}
use Rattle.mx_asm.specs.Positions.{start}
use Rattle.mx_asm.specs.Texts.{text_labels, text_effects, source_of}
use Rattle.mx_asm.proofs.Held.{statements_have}

abbrev Has : Statement → Type 0
Has s = HasRegisters (inst_of s)

zero_few : IsRegister 0
zero_few = omega arith

address_has : (l : Label) (dest : ℕ) → IsRegister dest → Has (address_of l dest)
address_has (Code i) dest h = (zero_few, h)
address_has (Data a) dest h = (zero_few, h)

forms_have : (labels : Labels) → Forms labels Has
forms_have labels = record {
  compute = λ o a dest b fits p q r. (p, r, q);
  addi = λ a dest imm fits p q. (p, q);
  move_from = λ dest h. h;
  move_to = λ a h. h;
  load = λ word base dest o e p q. (p, q);
  store = λ word base value o e p q. (p, q);
  address = λ name l dest e h. address_has l dest h;
  branch = λ name a b c target e p q. (p, q);
  call = λ name dest target e h. (zero_few, h);
  call_register = λ a dest p q. (p, q);
  jump = λ a h. (h, zero_few);
  halt = tt;
}

pub text_registers : (low : ℕ) (text : List ℕ) → All (λ (s : Statement). HasRegisters (inst_of s)) (source_of low text).statements
unfolding source_of text_effects
text_registers low text = statements_have (text_labels low text) Has (forms_have (text_labels low text)) (start low) 1 (lines_of text)
