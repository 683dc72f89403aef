-- A statement's number is that of its cost, which has the words that were executed.
use Rattle.std.proofs.Common.{ℕ, List, length, ap, ◌∙◌, arith}
use Rattle.std.specs.Prelude.{slice_index}
use Rattle.mx_link.specs.declared.linked.Origin.{Origin}
use Rattle.mx_link.specs.Gathered.{gathered}
use Rattle.lab_profile.specs.declared.lines.LineCost.{LineCost}
use Rattle.lab_profile.specs.Charges.{executed_at}
use Rattle.lab_profile.specs.Lines.{saturated, executed_of}
use Rattle.lab_sources.specs.Runs.{loaded}
use Rattle.lab_runs.specs.Ran.{words_of}
use Rattle.lab_runs.proofs.Ran.{count_of, gathered_same}
use Rattle.lab_runs.proofs.blocks_ran.executed_in.Goals as goal

pub returns : goal.returns
returns c i within =
    let run = c.args.run.now in
    let origins = run.program.linked.origin.items in
    let told = slice_index c.args.profile.now.tally.executed.items in
    ap (λ (counts : List ℕ). slice_index counts i) c.in_ok-counts.ensures
    ∙ count_of c.as_slice.result.now i
    ∙ ap (λ (costs : List LineCost). executed_of costs i) c.as_slice.ensures.value
    ∙ c.in_ok-costs.ensures.executed i (omega (arith, within, ap length c.statements-statements.ensures.value))
    ∙ ap (λ (origins : List Origin). saturated (gathered told i 0 origins)) c.as_slice-origin.ensures.value
    ∙ gathered_same told (executed_at (loaded run) run.stimulus.requests (words_of run) run.budget) i origins c.requires.tally.executed
