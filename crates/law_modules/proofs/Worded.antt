-- The data words of a program are words of 32 bits.
use Rattle.std.proofs.Common.{ℕ, ◌+◌, List, [], ◌∷◌, Option, Some, None, sym, subst, arith}
use Rattle.std.specs.Prelude.{All, IfOk, IfSome, ok_or}
use Rattle.std.specs.Str.{bytes_eq}
use Rattle.std.proofs.lemmas.List.Elements.{All-nil, All-append}
use Rattle.mx_source.specs.declared.Label.{Label}
use Rattle.mx_source.specs.declared.Label.TheVariants as label
use Rattle.mx_lines.specs.declared.Fault.TheVariants.{UndefinedLabel}
use Rattle.mx_lines.specs.Operands.{label_named, any_label}
use Rattle.mx_lines.specs.Instructions.{Labels}
use Rattle.mx_lines.specs.LabelTable.{IsNear}
use Rattle.mx_lines.proofs.Forms.{was_read}
use Rattle.mx_lines.proofs.Tables.{lookup_All}
use Rattle.mx_asm.specs.Directives.{value_at}
use Rattle.mx_asm.specs.Printable.{IsWord}
use Rattle.mx_asm.specs.Texts.{effects_from, values_in}
use Rattle.mx_asm.proofs.Held.{Words, values_have}
use Rattle.mx_module.specs.Modules.{ModuleValue}
use Rattle.mx_module.specs.Joined.{seen_in, effects_in}
use Rattle.mx_module.proofs.Appended.{values_both}
use Rattle.mx_module.proofs.Sounded.{AllLabels, imports_have}

near_word : (l : Label) → IsNear l → IsWord (value_at l)
near_word (label.Code i) h = tt
near_word (label.Data a) h = omega (arith, h)

found_near : (o : Option Label) → IfSome o IsNear → IfOk (ok_or o UndefinedLabel) IsNear
found_near (Some l) h = h
found_near None h = tt

named_near : (labels : Labels) (name : List ℕ) → All (λ (p : List ℕ × Label). IsNear p.1) labels → IfOk (any_label labels name) IsNear
unfolding any_label
named_near labels name near = found_near (label_named labels name) (lookup_All IsNear (bytes_eq name) labels near)

-- where labels stand near, each data word that is read is a word
are_words : (labels : Labels) → All (λ (p : List ℕ × Label). IsNear p.1) labels → Words labels IsWord
are_words labels near = record {
  number = λ w h. h;
  named = λ name l e. near_word l (was_read IsNear (any_label labels name) l (named_near labels name near) e);
}

-- of modules whose labels stand at 65,537 or before
pub modules_words : (all rest : List ModuleValue) (place : ℕ) → AllLabels IsNear all → AllLabels IsNear rest
    → All IsWord (values_in (effects_in all place rest))
modules_words all [] place near h = All-nil IsWord
modules_words all (m ∷ rest) place near h =
    let seen = seen_in all place m in
    let own = effects_from seen m.start 1 m.lines in
    let later = effects_in all (place + 1) rest in
    subst (All IsWord) (sym (values_both own later))
    (All-append IsWord (values_in own) (values_in later)
    (values_have seen IsWord (are_words seen (imports_have IsNear all place near m.links m.labels h.0)) m.start 1 m.lines)
    (modules_words all rest (place + 1) near h.1))
