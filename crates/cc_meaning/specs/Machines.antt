-- What contracts see of a machine.
use Rattle.std.specs.Prelude.{◌≡◌}
use Rattle.cc_meaning.specs.declared.machine.Machine.{Machine}
use Rattle.cc_meaning.specs.declared.machine.Stepped.{Stepped}
use Rattle.cc_meaning.specs.declared.machine.Stepped.TheVariants as stepped
use Rattle.cc_meaning.specs.States.{State, Outcome, Next, Halted, Stuck}

-- the state in which it is
abbrev pub state_of : Machine → State
state_of m = record {
  next = m.next;
  registers = m.registers.items;
  low = m.low;
  high = m.high;
  memory = m.memory.items;
  taken = m.taken;
}

-- what a call answers that took a step
abbrev pub answer_of : Outcome → Stepped
answer_of (Next after sent) = stepped.Went sent
answer_of (Halted status) = stepped.Halted status
answer_of (Stuck why) = stepped.Stuck why

-- the state that it leaves
abbrev pub state_after : Outcome → State → State
state_after (Next after sent) s = after
state_after (Halted status) s = s
state_after (Stuck why) s = s

-- a call took this step
pub record Does (outcome : Outcome) (old new : Machine) (result : Stepped) : Type 0 where
  pub state : state_of new ≡ state_after outcome (state_of old)
  pub answer : result ≡ answer_of outcome
