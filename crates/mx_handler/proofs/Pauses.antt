-- The turns of a handler, between two of user code, told for any handler.
use Rattle.std.proofs.Common.{◌≡◌, ℕ, zero, suc, ◌<◌, ◌≤◌, Bool, true, false, List, ◌++◌, Option, Some, None, refl, sym, ap, ◌∙◌, arith}
use Rattle.std.specs.Prelude.{is_some, option_to_list}
use Rattle.std.proofs.lemmas.Bool.{cond-false, and_left, and_right}
use Rattle.mx_isa.specs.Words.{Words}
use Rattle.mx_delay.specs.Delay.{Code}
use Rattle.mx_delay.specs.Clean.{Watched}
use Rattle.mx_turn.specs.Counted.{Counted, no_counts}
use Rattle.mx_turn.specs.Cycle.{MachineState, shifted, commit_byte, is_taken, entered, decided, turned, reached, ended, start}
use Rattle.mx_turn.specs.Run.{is_users}
use Rattle.mx_turn.specs.OneTurn.{before_turn}
use Rattle.mx_handler.specs.Returns.{turns, IsQuiet}

-- no request is latched
abbrev pub off : ℕ → Bool
off j = false

-- what does not depend on when a turn acts
abbrev pub erased : MachineState → MachineState
erased m = before_turn 0 false no_counts m

-- that nothing is taken
pub goes_on : (code : Code) (c : MachineState) → c.halted ≡ false → is_taken c ≡ false → ended code c ≡ decided code c
goes_on code c goes quiet = cond-false _ c (turned code c) goes ∙ cond-false _ (entered c) (decided code c) quiet

nothing_of : (o : Option ℕ) → is_some o ≡ false → o ≡ None
nothing_of None h = refl
nothing_of (Some n) h = absurd (cc)

-- user code under a handler
pub record Setting : Type 1 where
  pub code : Code
  pub input : Option (List ℕ)
  -- what is known of who runs
  pub Known : Type 0
  -- it is so of this machine, once the word in MEM has committed in a turn of user code
  pub In : MachineState → Known → Type 0
  -- the steps of the running program that are done
  pub runs : Known → Watched
  -- one more of its words passes, or none
  pub past : Bool → Known → Known
  -- an interrupt is taken, or none
  pub after : Bool → Known → Known
  -- how many turns after the first of the handler user code comes again
  pub last : ℕ

module _ (x : Setting) where
  -- the machine j turns later
  abbrev pub later : ℕ → MachineState → MachineState
  later j base = turns x.code x.input off j base

  -- in the coming turn nothing is taken, whatever is latched, and no halt commits
  pub record Still (m : MachineState) : Type 0 where
    pub nothing : (latch : Bool) → is_taken (reached x.code x.input (record m { latch = latch })) ≡ false
    pub goes : (reached x.code x.input m).halted ≡ false

  -- in the coming turn no byte goes out and no word of the user passes
  pub record Silent (m : MachineState) : Type 0 where
    pub silent : commit_byte x.code x.input (shifted m) ≡ None
    pub system : is_users m.alu ≡ false

  -- so many turns later, and one more, the machine is in user code
  pub record Pause (base : MachineState) (last : ℕ) (k : x.Known) : Type 0 where
    pub still : (j : ℕ) → j < last → Still (later j base)
    pub silent : (j : ℕ) → j ≤ last → Silent (later j base)
    pub back : x.In (reached x.code x.input (later last base)) k
    pub waits : (x.runs k).at.halted ≡ false

  -- what comes of an interrupt in user code: the handler's turns, and user code again
  abbrev pub Handled : Type 0
  Handled = (c : MachineState) (k : x.Known) → x.In c k → c.halted ≡ false → Pause (entered c) x.last (x.after true k)

  -- what is known after a turn of user code
  pub record Stepped (m : MachineState) (k : x.Known) : Type 0 where
    pub in_user : x.In (reached x.code x.input m) (x.past true k)
    pub byte : (x.runs k).at.console ++ option_to_list (commit_byte x.code x.input (shifted m)) ≡ (x.runs (x.past true k)).at.console

  -- user code does one step a turn; the wait, requests and counts do not matter
  pub record IsLawful : Type 0 where
    pub no_word : (k : x.Known) → x.past false k ≡ k
    pub no_interrupt : (k : x.Known) → x.after false k ≡ k
    pub halted : (c : MachineState) (k : x.Known) → x.In c k → c.halted ≡ (x.runs k).at.halted
    pub users : (c : MachineState) (k : x.Known) → x.In c k → is_users c.alu ≡ true
    pub alike : (c : MachineState) (k : x.Known) (stall : ℕ) (latch : Bool) (counts : Counted) → x.In c k → x.In (before_turn stall latch counts c) k
    pub turn : (c : MachineState) (k : x.Known) (stall : ℕ) (latch : Bool) (counts : Counted) → x.In c k → c.halted ≡ false → is_taken c ≡ false
        → (x.runs (x.past true k)).clean ≡ true → Stepped (before_turn stall latch counts (ended x.code c)) k

  -- a still turn does the same, whatever came between the turns
  pub still_turn : (m : MachineState) (stall : ℕ) (latch : Bool) (counts : Counted) → Still m
      → erased (ended x.code (reached x.code x.input (before_turn stall latch counts m)))
      ≡ erased (ended x.code (reached x.code x.input (record m { latch = false })))
  still_turn m stall latch counts s =
      ap erased (goes_on x.code (reached x.code x.input (before_turn stall latch counts m)) s.goes (s.nothing latch))
      ∙ sym (ap erased (goes_on x.code (reached x.code x.input (record m { latch = false })) s.goes (s.nothing false)))

  pub quiet_still : (m : MachineState) → IsQuiet x.code x.input m → Still m
  quiet_still m q = record { nothing = λ latch. and_left (reached x.code x.input m).psw.current.interrupts _ q.off; goes = q.goes }

  pub quiet_silent : (m : MachineState) → is_some (commit_byte x.code x.input (shifted m)) ≡ false → is_users m.alu ≡ false → Silent m
  quiet_silent m e f = record { silent = nothing_of _ e; system = f }

  -- the first turns
  module _ (words : Words) where
    first_still : (j : ℕ) → j < 2 → Still (later j (start words))
    first_still zero h = record { nothing = λ latch. and_right latch false refl; goes = refl }
    first_still (suc zero) h = record { nothing = λ latch. and_right latch false refl; goes = refl }
    first_still (suc (suc j)) h = absurd (omega arith)

    first_silent : (j : ℕ) → j ≤ 2 → Silent (later j (start words))
    first_silent zero h = record { silent = refl; system = refl }
    first_silent (suc zero) h = record { silent = refl; system = refl }
    first_silent (suc (suc zero)) h = record { silent = refl; system = refl }
    first_silent (suc (suc (suc j))) h = absurd (omega arith)

    pub first_pause : (k : x.Known) → x.In (reached x.code x.input (later 2 (start words))) k → (x.runs k).at.halted ≡ false → Pause (start words) 2 k
    first_pause k back waits = record { still = first_still; silent = first_silent; back = back; waits = waits }

  pub reached_alike : IsLawful → (m : MachineState) (k : x.Known) (stall : ℕ) (latch : Bool) (counts : Counted) → x.In (reached x.code x.input m) k
      → x.In (reached x.code x.input (before_turn stall latch counts m)) k
  reached_alike laws m k stall latch counts u =
      laws.alike (reached x.code x.input m) k stall latch counts u
