use Rattle.std.proofs.Common.{◌≡◌, ℕ, map, drop}
use Rattle.std.specs.Prelude.{All}
use Rattle.mx_source.specs.Labels.{IsPlace}
use Rattle.mx_source.specs.Statements.{ValueFits}
use Rattle.mx_asm.specs.Directives.{values_of}
use Rattle.mx_lines.specs.Fitting.{LabelsFit}
use Rattle.mx_lines.specs.Shapes.{word}
use Rattle.mx_asm.proofs.Fronts.{prepend}
use Rattle.mx_asm.proofs.effect.values_of.Given as goal

abbrev pub invariant-loop-word : goal.invariant-loop-word
invariant-loop-word l = record {
  read : prepend l.values.items (values_of l.labels (map word (drop l.word-index l.words))) ≡ values_of l.labels (map word l.words);
  fits : (count : ℕ) → LabelsFit count l.labels → All (ValueFits (IsPlace l.labels count)) l.values.items;
}
