use Rattle.std.proofs.Common.{◌≡◌, ℕ, ap, length, sym, subst, ◌∙◌}
use Rattle.mx_source.specs.Meaning.{given}
use Rattle.mx_layout.specs.Kept.{AreKept}
use Rattle.mx_turn.specs.Handler.{shipped}
use Rattle.mx_turn.specs.Program.{program_of}
use Rattle.mx_turn.specs.Run.{MachineRun, run_of}
use Rattle.mx_plans.specs.Files.{lines_said, marks_of}
use Rattle.mx_plans.specs.Says.{IsProposed}
use Rattle.mx_plans.specs.Copies.{as_planned}
use Rattle.lab_measures.specs.Figures.{run_with, linked_run}
use Rattle.lab_plans.proofs.figures.figures_by_plans.Goals as goal

pub returns-clause-figures : goal.returns-clause-figures
returns-clause-figures g c =
    let source = c.args.source.now in
    let requests = c.args.conditions.now.requests.now in
    let bytes = c.args.conditions.now.input.now in
    let budget = c.args.conditions.now.budget in
    let lines = lines_said c.args.plans.now in
    let proposes = IsProposed source (marks_of lines) in
    let linked = c.in_ok-told.told.linked in
    let t = c.in_ok-told.ensures.told in
    let k = t.is in
    let f = c.in_ok-figures.ensures in
    let runs : linked_run source linked requests bytes budget ≡ run_with (as_planned lines) source k.sites requests bytes budget =
    λ i. run_of (program_of shipped (k.code i) (k.user_data i) (given source.input bytes)) requests budget in
    record {
      figures = record {
        sites = k.sites;
        proposals = linked.proposals.items;
        layout = k.layout;
        kept = subst (λ (n : ℕ). AreKept proposes n k.sites linked.proposals.items) (sym f.rejected) k.kept;
        words = f.words ∙ ap length k.code;
        noops = f.noops ∙ k.noops;
        copies = f.copies ∙ k.copies;
        cycles = f.cycles ∙ ap (λ (r : MachineRun). r.counts.cycles) runs;
        fetches = f.fetches ∙ ap (λ (r : MachineRun). r.counts.fetches) runs;
        misses = f.misses ∙ ap (λ (r : MachineRun). r.counts.misses) runs;
        squashes = f.squashes ∙ ap (λ (r : MachineRun). r.counts.squashes) runs;
        halted = f.halted ∙ ap (λ (r : MachineRun). r.halted) runs;
      };
      told = t.told;
    }
