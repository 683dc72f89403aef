use Rattle.std.proofs.Common.{◌≡◌, ◌++◌, ◌∙◌, List, ℕ, IfOk, codes, take, ap, subst, rules}
use Rattle.lab_request.specs.Fields.{command_name}
use Rattle.lab_request.specs.Answers.{Refuses, of_field}
use Rattle.lab_request.proofs.refusal.refuse_key.Goals as goal

pub returns : goal.returns
returns c =
    let shown : c.first_bytes.result.now ≡ take 80 c.args.key.now = c.first_bytes.ensures ∙ ap (take 80) c.as_bytes-2.ensures.value in
    let why : c.as_slice.result.now ≡ codes "no field of " ++ command_name c.args.command = search rules in
    subst (λ (w : List ℕ). IfOk c.refuse_field.result (Refuses (of_field (take 80 c.args.key.now) w))) why
    (subst (λ (f : List ℕ). IfOk c.refuse_field.result (Refuses (of_field f c.as_slice.result.now))) shown c.refuse_field.ensures)
