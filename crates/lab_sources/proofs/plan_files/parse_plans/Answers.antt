-- The lines are read for as many blocks as the source has.
use Rattle.std.proofs.Common.{◌≡◌, ◌∙◌, ℕ, Ok, subst}
use Rattle.mx_plans.specs.Files.{lines_said, plans_in}
use Rattle.lab_sources.proofs.plan_files.parse_plans.Goals as goal

pub returns-in-Ok : goal.returns-in-Ok
returns-in-Ok c = (
  c.in_ok-found.found.items,
  c.in_ok-found.ensures,
  subst (λ (n : ℕ). plans_in n c.args.text.now ≡ Ok (lines_said c.in-Ok.lines.items)) (c.len.ensures ∙ c.in_ok-found.found.ok.0) c.in-Ok.ensures.read,
)
