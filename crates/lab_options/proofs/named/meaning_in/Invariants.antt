use Rattle.std.proofs.Common.{◌≡◌, drop}
use Rattle.std.specs.Prelude.{find}
use Rattle.std.specs.Str.{bytes_eq}
use Rattle.lab_options.proofs.named.meaning_in.Given as goal

abbrev pub invariant-loop-row : goal.invariant-loop-row
invariant-loop-row g l = find (λ row. bytes_eq row.word.now l.word) l.rows ≡ find (λ row. bytes_eq row.word.now l.word) (drop l.row-index l.rows)
