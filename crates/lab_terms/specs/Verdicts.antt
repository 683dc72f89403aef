-- What is said of a meaning and a run.
use Rattle.std.specs.Prelude.{ℕ, ◌+◌, ◌*◌, Bool, true, false}
use Rattle.cmd_meaning.specs.declared.steps.Ending.{Ending}
use Rattle.cmd_meaning.specs.declared.steps.Ending.TheVariants as ending
use Rattle.lab_terms.specs.declared.verdict.Verdict.{Verdict}
use Rattle.lab_terms.specs.declared.verdict.Verdict.TheVariants.{AsMeant, BudgetShort, Unended, Stuck}

-- a stuck meaning promises nothing, however the run stands
abbrev pub verdict : Ending → Bool → Verdict
verdict ending.Halted true = AsMeant
verdict ending.Halted false = BudgetShort
verdict ending.Running halted = Unended
verdict (ending.Stuck why) halted = Stuck why

-- the budget with which a run halts whose meaning halts in n statements, under k interrupt requests
abbrev pub enough_budget : ℕ → ℕ → ℕ
enough_budget n k = 9 * n + 96 * k + 16
