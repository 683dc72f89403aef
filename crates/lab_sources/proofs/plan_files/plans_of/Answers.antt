-- The bytes that were read are the text of the plan file.
use Rattle.std.proofs.Common.{◌≡◌, ℕ, List, length, Ok, subst}
use Rattle.mx_plans.specs.Files.{lines_said, plans_in}
use Rattle.lab_sources.proofs.plan_files.plans_of.Goals as goal

pub returns-clause-read : goal.returns-clause-read
returns-clause-read g c =
    let k = c.in_ok-lines.ensures in
    record {
      text = c.in_ok-text.text.items;
      read = c.in_ok-text.ensures.read;
      blocks = k.0;
      are = k.1;
      spelled = subst (λ (t : List ℕ). plans_in (length k.0) t ≡ Ok (lines_said c.in_ok-lines.lines.items)) c.as_slice.ensures.value k.2;
    }
