-- A run is the one that was asked for: what its parts are, over plain variables.
use Rattle.std.proofs.Common.{◌≡◌, ℕ, List, Result, Ok, Err, IfOk, sym, ap, ◌∙◌, subst}
use Rattle.std.specs.Prelude.{option_map}
use Rattle.mx_io.specs.Shelves.{Told, Counts}
use Rattle.mx_source.specs.SourceValue.{SourceValue}
use Rattle.mx_plans.specs.declared.PlanLine.{PlanLine}
use Rattle.mx_plans.specs.Files.{lines_said}
use Rattle.cmd_source.specs.declared.sources.Program.{Program}
use Rattle.lab_failure.specs.declared.failure.LabFailure.{LabFailure}
use Rattle.lab_options.specs.declared.options.RunOptions.{RunOptions}
use Rattle.lab_sources.specs.declared.runs.GivenRun.{GivenRun}
use Rattle.lab_sources.specs.declared.planners.Planner.{Planner}
use Rattle.lab_sources.specs.declared.planners.Planner.TheVariants.{Scheduler, File}
use Rattle.lab_sources.specs.declared.planners.PlannedProgram.{PlannedProgram}
use Rattle.lab_sources.specs.PlanFiles.{ArePlansOf}
use Rattle.lab_sources.specs.Planners.{IsLinkedAs, IsByLines, IsOfPlanFile, IsAskedFor}
use Rattle.lab_sources.specs.Sources.{IsSourceOf}
use Rattle.lab_sources.specs.Stimuli.{AreGiven}
use Rattle.lab_sources.specs.Runs.{IsRunOf}

-- what holds of a value
pub weaker : {T : Type 0} (r : Result T LabFailure) (P Q : T → Type 0) → ((x : T) → P x → Q x) → IfOk r P → IfOk r Q
weaker (Ok x) P Q more holds = more x holds
weaker (Err failure) P Q more holds = tt

-- plans with the lines of a plan file are those of the file
pub by_lines :
    (told : Told) (name : List ℕ) (source : SourceValue) (before after : Counts) (lines : List PlanLine) (by : Planner) → IsByLines lines by
    → ArePlansOf told name source before after (lines_said lines) → IsOfPlanFile told name source before after by
by_lines told name source before after lines (Scheduler s) none are = absurd none
by_lines told name source before after lines (File plans) same are =
    subst (λ (l : List PlanLine). ArePlansOf told name source before after (lines_said l)) (sym same) are

-- what is known of the steps of reading a run, which read the shelf in these states
pub record Steps (told told_read told_planned : Told) (options : RunOptions) (before read planned after : Counts) (program : Program) (made : PlannedProgram)
    (run : GivenRun) : Type 0 where
  pub first_tells : told_read ≡ told
  pub then_tells : told_planned ≡ told
  pub source : IsSourceOf told options.source.now before read program.text.items program.source
  pub linked : IsLinkedAs made.by made.program
  pub same : (made.program.text ≡ program.text) × (made.program.source ≡ program.source)
  pub asked : IsAskedFor told_read options.plans program.source read planned made.by
  pub parts : (run.program ≡ made.program) × (run.by ≡ made.by) × (run.budget ≡ options.budget)
  pub given : AreGiven told_planned (option_map (λ s. s.now) options.stimulus.interrupts) (option_map (λ s. s.now) options.stimulus.input)
      planned after run.stimulus

module _ {told told_read told_planned : Told} {options : RunOptions} {before read planned after : Counts} {program : Program} {made : PlannedProgram}
    {run : GivenRun} (k : Steps told told_read told_planned options before read planned after program made run) where
  text : program.text.items ≡ run.program.text.items
  text = sym (ap (λ (p : Program). p.text.items) k.parts.0 ∙ ap (λ v. v.items) k.same.0)

  source : program.source ≡ run.program.source
  source = sym (ap (λ (p : Program). p.source) k.parts.0 ∙ k.same.1)

  pub is_run : IsRunOf told options before after run
  is_run = record {
    read = read;
    planned = planned;
    source = subst (λ (s : SourceValue). IsSourceOf told options.source.now before read run.program.text.items s) source
        (subst (λ (t : List ℕ). IsSourceOf told options.source.now before read t program.source) text k.source);
    asked = subst (λ (t : Told). IsAskedFor t options.plans run.program.source read planned run.by) k.first_tells
        (subst (λ (s : SourceValue). IsAskedFor told_read options.plans s read planned run.by) source
        (subst (λ (b : Planner). IsAskedFor told_read options.plans program.source read planned b) (sym k.parts.1) k.asked));
    linked = subst (λ (b : Planner). IsLinkedAs b run.program) (sym k.parts.1)
        (subst (λ (p : Program). IsLinkedAs made.by p) (sym k.parts.0) k.linked);
    stimulus = subst (λ (t : Told). AreGiven t (option_map (λ s. s.now) options.stimulus.interrupts) (option_map (λ s. s.now) options.stimulus.input)
        planned after run.stimulus) k.then_tells k.given;
    budget = k.parts.2;
  }
