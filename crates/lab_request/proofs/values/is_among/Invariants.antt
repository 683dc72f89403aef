use Rattle.std.proofs.Common.{◌≡◌, drop}
use Rattle.std.specs.List.{list_any}
use Rattle.std.specs.Str.{bytes_eq}
use Rattle.lab_request.proofs.values.is_among.Given as goal

abbrev pub invariant-loop-it : goal.invariant-loop-it
invariant-loop-it l = list_any (λ w. bytes_eq w.now l.word) l.words ≡ list_any (λ w. bytes_eq w.now l.word) (drop l.it-index l.words)
