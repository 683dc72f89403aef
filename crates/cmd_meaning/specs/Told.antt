-- What is told of a meaning after some steps.
use Rattle.std.specs.Prelude.{ℕ, zero, suc, ◌+◌, List, [], ◌∷◌, ◌++◌, codes, slice_index}
use Rattle.std.specs.Fmt.{decimal}
use Rattle.mx_isa.specs.declared.Place.{Place}
use Rattle.mx_source.specs.declared.Value.{Value}
use Rattle.mx_source.specs.declared.Value.TheVariants.{Int, Code}
use Rattle.mx_source.specs.declared.Why.{Why}
use Rattle.mx_source.specs.declared.Why.TheVariants as why
use Rattle.mx_source.specs.SourceValue.{SourceValue}
use Rattle.mx_source.specs.Values.{value_in}
use Rattle.mx_source.specs.Meaning.{Program, State, Mark, Going, Halted, Stuck, Run, run_step, run_for, program, start}
use Rattle.cmd_answer.specs.declared.Status.{Status}
use Rattle.cmd_answer.specs.declared.Status.TheVariants as status
use Rattle.cmd_answer.specs.Answer.{Answer, prints}
use Rattle.mx_text.specs.Text.{word_text, line, named_line, count_line, register_line, lines_from, console_lines}

-- a step that went or halted counts, and one that got stuck does not
abbrev pub went : Mark → Mark → ℕ
went Going (Stuck w) = 0
went Going after = 1
went before after = 0

-- how many of the next n steps go or halt
abbrev pub steps_in : Program → ℕ → Run → ℕ
steps_in p zero r = 0
steps_in p (suc n) r = went r.state.mark (run_step p r).state.mark + steps_in p n (run_step p r)

abbrev pub why_text : Why → List ℕ
why_text why.PastEnd = codes "PastEnd"
why_text why.CodeOperand = codes "CodeOperand"
why_text why.LoadOutside = codes "LoadOutside"
why_text why.StoreOutside = codes "StoreOutside"
why_text why.CodeToConsole = codes "CodeToConsole"
why_text why.JumpNotCode = codes "JumpNotCode"

-- how it stands; a statement is named by its line, and the place past the last one by 0
abbrev pub mark_text : List ℕ → ℕ → Mark → List ℕ
mark_text lines index Going = line (codes "running")
mark_text lines index Halted = line (codes "halted")
mark_text lines index (Stuck w) = line (codes "stuck line " ++ decimal (slice_index lines index) ++ 32 ∷ why_text w)

abbrev pub value_text : Value → List ℕ
value_text (Int word) = word_text word
value_text (Code i) = codes "code " ++ decimal i

abbrev pub registers_text : State → List ℕ
registers_text s =
    (line (codes "registers") ++ lines_from (λ n. register_line n (value_text (value_in s.regs n))) 31 1)
    ++ named_line (codes "md") (word_text s.md)

-- registers are told at a halt alone
abbrev pub last_text : Mark → State → List ℕ
last_text Halted s = registers_text s
last_text m s = []

abbrev pub meaning_text : List ℕ → Run → ℕ → List ℕ
meaning_text lines r steps =
    ((mark_text lines r.state.index r.state.mark ++ count_line (codes "steps") steps) ++ console_lines r.console) ++ last_text r.state.mark r.state

abbrev pub status_of : Mark → Status
status_of Going = status.OutOfBudget
status_of Halted = status.Halted
status_of (Stuck w) = status.Stuck

-- the meaning of a source at a place, with the bytes of its input, after at most n steps
unfoldable pub meaning_answer : SourceValue → Place → List ℕ → ℕ → Answer
meaning_answer source place input n =
    let p = program source place input in
    let begin : Run = record { state = start source place; console = [] } in
    let r = run_for p n begin in
    prints (status_of r.state.mark) (meaning_text source.lines r (steps_in p n begin))
