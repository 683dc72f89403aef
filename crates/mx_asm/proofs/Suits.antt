-- What reads without a fault fits in a source.
use Rattle.std.proofs.Common.{◌≡◌, ℕ, ◌<◌, List, Ok, ℤ, refl, arith}
use Rattle.std.specs.Prelude.{IfOk, pos}
use Rattle.std.proofs.lemmas.Result.{IfOk-weaker}
use Rattle.mx_isa.specs.Fields.{IsSignedField}
use Rattle.mx_source.specs.declared.statement.Label.{Label}
use Rattle.mx_source.specs.declared.statement.Label.TheVariants.{Code, Data}
use Rattle.mx_source.specs.declared.statement.Statement.{Statement}
use Rattle.mx_source.specs.declared.statement.Value.{Value}
use Rattle.mx_source.specs.Labels.{IsPlace}
use Rattle.mx_source.specs.Statements.{StatementFits, ValueFits}
use Rattle.mx_lines.specs.declared.fault.Fault.TheVariants.{UndefinedLabel}
use Rattle.mx_asm.specs.declared.position.Section.{Section}
use Rattle.mx_lines.specs.Words.{Word, Name, Number}
use Rattle.mx_lines.specs.Operands.{any_label, code_label, code_index, data_label, data_address, offset}
use Rattle.mx_lines.specs.Instructions.{Labels, address_of}
use Rattle.mx_asm.specs.Directives.{Effect, Nothing, Instruction, Data as DataWords, Input, value_at, effect_of}
use Rattle.mx_asm.specs.Effects.{EffectFits}
use Rattle.mx_lines.specs.Fitting.{LabelsFit, NamedFits}
use Rattle.mx_lines.proofs.Fits.{any_fits}
use Rattle.mx_lines.proofs.Forms.{Forms, was_read, bind_has, immediate_fits}
use Rattle.mx_asm.proofs.Held.{Words, EachHas, effect_has}

module _ (labels : Labels) (statements : ℕ) (fit : LabelsFit statements labels) where
  abbrev Place : ℕ → Type 0
  Place = IsPlace labels statements

  abbrev Fits : Statement → Type 0
  Fits = StatementFits Place

  abbrev FitsData : Value → Type 0
  FitsData = ValueFits Place

  named_fits : (name : List ℕ) → IfOk (any_label labels name) (NamedFits labels statements)
  unfolding any_label
  named_fits name = any_fits labels name statements UndefinedLabel fit

  label_fits : (name : List ℕ) (l : Label) → any_label labels name ≡ Ok l → NamedFits labels statements l
  label_fits name l e = was_read (NamedFits labels statements) (any_label labels name) l (named_fits name) e

  index_fits : (l : Label) → NamedFits labels statements l → IfOk (code_index l) Place
  index_fits (Code i) h = h
  index_fits (Data a) h = tt

  code_fits : (name : List ℕ) (target : ℕ) → code_label labels name ≡ Ok target → Place target
  unfolding code_label
  code_fits name target e =
      was_read Place (code_label labels name) target
      (bind_has Place (any_label labels name) code_index (λ l is. index_fits l (label_fits name l is))) e

  address_fits : (l : Label) → NamedFits labels statements l → IfOk (data_address l) (λ a. a < 65536)
  address_fits (Code i) h = tt
  address_fits (Data a) h = h

  data_fits : (name : List ℕ) → IfOk (data_label labels name) (λ a. a < 65536)
  unfolding data_label
  data_fits name = bind_has (λ a. a < 65536) (any_label labels name) data_address (λ l e. address_fits l (label_fits name l e))

  offset_read : (word : Word) → IfOk (offset labels word) (IsSignedField 16)
  unfolding offset
  offset_read (Number negative value) = immediate_fits negative value
  offset_read (Name name) = bind_has (IsSignedField 16) (data_label labels name) (λ a. Ok (pos a))
      (λ a e. let h : a < 65536 = was_read (λ a. a < 65536) (data_label labels name) a (data_fits name) e in omega (arith, h))
  offset_read _ = tt

  offset_fits : (word : Word) (o : ℤ) → offset labels word ≡ Ok o → IsSignedField 16 o
  offset_fits word o e = was_read (IsSignedField 16) (offset labels word) o (offset_read word) e

  address_of_fits : (l : Label) (dest : ℕ) → NamedFits labels statements l → Fits (address_of l dest)
  address_of_fits (Code i) dest h = h
  address_of_fits (Data a) dest h = (tt, omega (arith, h))

  forms_fit : Forms labels Fits
  forms_fit = record {
    compute = λ o a dest b fits p q r. (tt, fits);
    addi = λ a dest imm fits p q. (tt, fits);
    move_from = λ dest h. (refl, tt);
    move_to = λ a h. (refl, tt);
    load = λ word base dest o e p q. (tt, offset_fits word o e);
    store = λ word base value o e p q. (tt, offset_fits word o e);
    address = λ name l dest e h. address_of_fits l dest (label_fits name l e);
    branch = λ name a b c target e p q. code_fits name target e;
    call = λ name dest target e h. code_fits name target e;
    call_register = λ a dest p q. tt;
    jump = λ a h. tt;
    halt = tt;
  }

  at_fits : (l : Label) → NamedFits labels statements l → FitsData (value_at l)
  at_fits (Code i) h = h
  at_fits (Data a) h = tt

  words_fit : Words labels FitsData
  words_fit = record { number = λ w h. tt; named = λ name l e. at_fits l (label_fits name l e) }

  adds_fits : (e : Effect) → EachHas Fits FitsData e → EffectFits labels statements e
  adds_fits (Instruction s) h = h
  adds_fits (DataWords values) h = h
  adds_fits Nothing h = tt
  adds_fits Input h = tt

  pub effect_fits : (s : Section) (words : List Word) → IfOk (effect_of labels s words) (EffectFits labels statements)
  effect_fits s words = IfOk-weaker (effect_of labels s words) _ _ adds_fits (effect_has labels Fits forms_fit FitsData words_fit s words)
