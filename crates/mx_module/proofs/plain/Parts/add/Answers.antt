use Rattle.std.proofs.Common.{◌++◌, ◌∷◌, [], List, ℕ, Bor, Result, Ok, Err, OnOk, ap, ◌∙◌}
use Rattle.std.proofs.lemmas.List.{map-append}
use Rattle.mx_lines.specs.Words.{texts}
use Rattle.mx_module.proofs.plain.Parts.add.Goals as goal

known : {T E : Type 0} (r : Result T E) (P : Type 0) → P → OnOk r P
known (Ok value) P holds = holds
known (Err error) P holds = tt

pub returns-clause-lines : goal.returns-clause-lines
returns-clause-lines c =
    known c.add_link.result _
    (ap texts c.in_ok-push.ensures.items
    ∙ map-append (λ (l : Bor (List ℕ)). l.now) c.args.self.now.lines.items (c.plain_line.result ∷ [])
    ∙ ap (λ l. texts c.args.self.now.lines.items ++ l ∷ []) c.plain_line.ensures)
