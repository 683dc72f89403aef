-- The registers of a program's statements are 0 to 31.
use Rattle.std.proofs.Common.{ℕ, ◌+◌, List, [], ◌∷◌, sym, subst}
use Rattle.std.specs.Prelude.{All}
use Rattle.std.proofs.lemmas.List.Elements.{All-nil, All-append}
use Rattle.mx_asm.specs.Texts.{effects_from, statements_in}
use Rattle.mx_asm.specs.Printable.{NamesRegisters}
use Rattle.mx_asm.proofs.Held.{names_registers, statements_have}
use Rattle.mx_module.specs.Modules.{ModuleValue}
use Rattle.mx_module.specs.Joined.{seen_in, effects_in}
use Rattle.mx_module.proofs.Appended.{statements_both}

pub modules_registers : (all rest : List ModuleValue) (place : ℕ) → All NamesRegisters (statements_in (effects_in all place rest))
modules_registers all [] place = All-nil NamesRegisters
modules_registers all (m ∷ rest) place =
    let seen = seen_in all place m in
    let own = effects_from seen m.start 1 m.lines in
    let later = effects_in all (place + 1) rest in
    subst (All NamesRegisters) (sym (statements_both own later))
    (All-append NamesRegisters (statements_in own) (statements_in later)
    (statements_have seen NamesRegisters (names_registers seen) m.start 1 m.lines)
    (modules_registers all rest (place + 1)))
