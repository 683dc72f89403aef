-- The text of a run of linked code is that of the layout.
use Rattle.std.proofs.Common.{◌≡◌, ℕ, List, sym, ap, ◌∙◌}
use Rattle.std.specs.Prelude.{None}
use Rattle.mx_source.specs.SourceValue.{SourceValue}
use Rattle.mx_gen.specs.Generated.{generated}
use Rattle.mx_squash.specs.Copies.{Site}
use Rattle.mx_link.specs.declared.linked.Linked.{Linked}
use Rattle.mx_link.specs.Origins.{from_target}
use Rattle.mx_link.specs.Linked.{IsLinked, linked_code, linked_data}
use Rattle.mx_reorg.specs.Greedy.{IsGreedy}
use Rattle.mx_turn.specs.Counted.{Counted}
use Rattle.mx_turn.specs.Handler.{shipped}
use Rattle.mx_turn.specs.Program.{program_of}
use Rattle.mx_turn.specs.Run.{MachineRun, run_of, bound}
use Rattle.mx_isa.specs.Board.{board}
use Rattle.law_schedule.specs.Schedule.{IsScheduler}
use Rattle.law_schedule.proofs.Kept.{linked_sites}
use Rattle.cmd_soak.specs.Soak.{multiples, steps_of, soaked_text, layout_text, soak_text}

-- the text of a run of these words
abbrev words_run_text : ℕ → List ℕ → List ℕ → List ℕ → ℕ → List ℕ
words_run_text steps code data_words requests budget =
    let r : MachineRun = run_of (program_of shipped code data_words None) requests budget in
    soaked_text steps r.counts r.console code

-- the text of a layout of which the steps are given
abbrev sites_text : SourceValue → ℕ → List Site → List ℕ
sites_text source steps sites =
    words_run_text steps (linked_code from_target source board sites) (linked_data source board sites) (multiples 97 1000) (bound steps 1000)

-- what was run, and what it counted and sent
pub record WasRun (code data_words requests : List ℕ) (budget : ℕ) (counted : Counted) (sent : List ℕ) : Type 0 where
  pub counts : counted ≡ (run_of (program_of shipped code data_words None) requests budget).counts
  pub console : sent ≡ (run_of (program_of shipped code data_words None) requests budget).console

run-told : (steps : ℕ) (code data_words requests : List ℕ) (budget : ℕ) (counts : Counted) (console : List ℕ)
    → WasRun code data_words requests budget counts console
    → soaked_text steps counts console code ≡ words_run_text steps code data_words requests budget
run-told steps code data_words requests budget counts console w = λ i. soaked_text steps (w.counts i) (w.console i) code

pub layout-told : (layout_of : SourceValue → List Site) → IsScheduler layout_of → (source : SourceValue) (l : Linked)
    → IsLinked IsGreedy from_target source board l
    → (steps budget : ℕ) (requests : List ℕ) (counts : Counted) (console : List ℕ) → steps ≡ steps_of source → requests ≡ multiples 97 1000
    → budget ≡ bound steps 1000
    → WasRun l.image.code.items l.image.user_data.items requests budget counts console
    → soaked_text steps counts console l.image.code.items ≡ layout_text source (layout_of source)
layout-told layout_of is source l k steps budget requests counts console counted asked limit w =
    let sites = linked_sites layout_of is from_target source l k in
    run-told steps l.image.code.items l.image.user_data.items requests budget counts console w
    ∙ (λ i. words_run_text steps (k.code i) (k.user_data i) (asked i) (limit i))
    ∙ ap (λ (s : List Site). sites_text source steps s) (sym sites)
    ∙ ap (λ n. sites_text source n (layout_of source)) counted

pub soak-told : (layout_of : SourceValue → List Site) (seed count : ℕ) (source : SourceValue) → source ≡ generated seed count
    → layout_text source (layout_of source) ≡ soak_text layout_of seed count
unfolding soak_text
soak-told layout_of seed count source e = ap (λ (s : SourceValue). layout_text s (layout_of s)) e
