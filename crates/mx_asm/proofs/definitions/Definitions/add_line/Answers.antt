use Rattle.std.proofs.Common.{map, ap, ◌∙◌, subst}
use Rattle.std.specs.Prelude.{OnOk}
use Rattle.mx_lines.specs.Shapes.{word}
use Rattle.mx_asm.specs.Defined.{Defines}
use Rattle.mx_asm.proofs.definitions.Definitions.add_line.Goals as goal

pub returns : goal.returns
returns c = subst (λ ws. OnOk c.add.result (Defines c.args.self.now c.add.new.self c.args.number ws))
    (ap (map word) c.deref.ensures.value ∙ c.in_ok-words_or_none.ensures) c.add.ensures
