-- What a step of a command that reads files gives.
use Rattle.mx_io.specs.Shelves.{Told, Counts}
use Rattle.cmd_answer.specs.Answer.{Answer}
use Rattle.cmd_answer.specs.Protocol.{Protocol, Performed}

-- the step gives this value: what goes on by it is performed as a whole, with the step, where it is performed behind it
abbrev pub Gives : {T : Type 0} → ((T → Protocol) → Protocol) → Told → Counts → Counts → T → Type 0
Gives {T} step told before between value = (next : T → Protocol) (after : Counts) (answer : Answer)
    → Performed told (next value) between after answer → Performed told (step next) before after answer

-- the step is answered already, whatever would have gone on
abbrev pub Refuses : {T : Type 0} → ((T → Protocol) → Protocol) → Told → Counts → Counts → Answer → Type 0
Refuses {T} step told before after answer = (next : T → Protocol) → Performed told (step next) before after answer
