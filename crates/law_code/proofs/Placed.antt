-- The lines of a translation are at their places in its source.
use Rattle.std.proofs.Common.{◌≡◌, ℕ, ◌≤◌, ◌-◌, ◌/◌, List, ◌∷◌, ◌++◌, Some, refl, sym, ap, ◌∙◌, subst, append_assoc}
use Rattle.std.specs.Prelude.{All, count_by}
use Rattle.mx_source.specs.SourceValue.{SourceValue}
use Rattle.mx_source.specs.declared.statement.Label.TheVariants.{Code}
use Rattle.mx_lines.specs.declared.labels.TheConstants.{PAST_END}
use Rattle.mx_lines.specs.Operands.{label_named}
use Rattle.mx_asm.specs.Texts.{ReadsAs}
use Rattle.cc_rules.specs.declared.numbers.TheConstants.{FIRST_BYTE}
use Rattle.cc_program.specs.declared.program.Program.{Program}
use Rattle.cc_emit.specs.declared.line.Line.{Line}
use Rattle.cc_emit.specs.declared.line.Line.TheVariants.{Mark}
use Rattle.cc_emit.specs.declared.line.Target.TheVariants.{Skip}
use Rattle.cc_emit.specs.declared.output.Output.{Output}
use Rattle.cc_emit.specs.Lines.{is_statement, lines_text}
use Rattle.cc_emit.specs.Sources.{title, size_text, data_text, source_text}
use Rattle.cc_emit.specs.Statements.{target_label}
use Rattle.law_emit.specs.Reading.{LineFits}
use Rattle.law_emit.specs.Lines.{DataFits}
use Rattle.law_emit.proofs.Data.{source_read}
use Rattle.law_emit.proofs.Labels.{labels_found}
use Rattle.law_code.specs.Code.{IsAt}

pub placed : (p : Program) (out : Output) (behind end : ℕ) (before code after : List Line) → All (LineFits p) (before ++ (code ++ after))
    → lines_text p out.lines.items ≡ lines_text p (before ++ (code ++ after)) → DataFits p out behind end → (address limit : ℕ) → address ≤ PAST_END
    → (source : SourceValue) → ReadsAs address limit (source_text p out behind end) source → IsAt p source before code after
placed p out behind end before code after fits same kept address limit near source h = record {
  fits = fits;
  resolved = source_read p out behind end (before ++ (code ++ after)) fits same kept address limit near source h;
  marks = marked;
}
  where
    marked : (first rest : List Line) (n : ℕ) → code ≡ first ++ Mark (Skip n) ∷ rest
        → label_named source.labels (target_label p.symbols.list.items (Skip n)) ≡ Some (Code (count_by is_statement (before ++ first)))
    marked first rest n cut =
        let line = Mark (Skip n) in
        let all : before ++ (code ++ after) ≡ (before ++ first) ++ line ∷ (rest ++ after) =
        ap (λ c. before ++ (c ++ after)) cut
        ∙ ap (λ c. before ++ c) (append_assoc first (line ∷ rest) after)
        ∙ sym (append_assoc before first (line ∷ (rest ++ after))) in
        let more = data_text p out behind end ++ size_text out.statements out.instructions ((end - FIRST_BYTE) / 4) in
        labels_found p (before ++ first) (rest ++ after) line (subst (All (LineFits p)) all fits) address limit near more source
        (subst (λ t. ReadsAs address limit t source) (ap (λ t. title ++ t ++ more) (same ∙ ap (lines_text p) all)) h)
        (target_label p.symbols.list.items (Skip n)) refl
