-- A turn of user code in which nothing is taken is one clean step.
use Rattle.std.proofs.Common.{◌≡◌, ℕ, ◌+◌, ◌%◌, ◌^◌, ◌<◌, ◌≤◌, Bool, true, false, cond, leb, ◌&&◌, List, ◌++◌, ◌⊎◌, Option, Some, None, refl, sym, ap, ◌∙◌, subst, arith, ⊎_elim, inr}
use Rattle.std.specs.Prelude.{option_to_list}
use Rattle.std.proofs.lemmas.Bool.{cond-false, leb-true, and_parts, and_right}
use Rattle.std.specs.Int.{w32, cast_unsigned}
use Rattle.mx_isa.specs.declared.board.TheConstants.{CODE_BASE}
use Rattle.mx_isa.specs.declared.inst.Inst.{Inst}
use Rattle.mx_isa.specs.declared.inst.Inst.TheVariants.{Branch, Jspci}
use Rattle.mx_isa.specs.declared.place.Place.{Place}
use Rattle.mx_isa.specs.Arithmetic.{condition_holds}
use Rattle.mx_isa.specs.Words.{Words, reg}
use Rattle.mx_isa.specs.Effect.{Decision, decides}
use Rattle.mx_isa.specs.Views.{reads, reads_md, is_load, dest, access}
use Rattle.mx_delay.specs.Delay.{Code, next_of, idle, does, Delay, stepped, delay_step, delay_byte}
use Rattle.mx_delay.specs.Clean.{is_lawful, loads_to, Watched}
use Rattle.mx_pcchain.specs.Modes.{psw_restored}
use Rattle.mx_turn.specs.Counted.{Counted}
use Rattle.mx_turn.specs.Stages.{live}
use Rattle.mx_turn.specs.System.{Slot, slot_of, pops, restores}
use Rattle.mx_turn.specs.Cycle.{MachineState, shifted, commit_byte, is_taken, decided, reached, ended}
use Rattle.mx_turn.specs.OneTurn.{Follows, IsOnBoard, before_turn}
use Rattle.mx_turn.proofs.OneTurn.{one_turn, nor_restored}
use Rattle.mx_handler.proofs.Pauses.{goes_on}
use Rattle.mx_delay.proofs.Watched.{next, CleanStep, clean_step, console_next}

-- a code address from the user's on
abbrev pub IsUsers : ℕ → Type 0
IsUsers a = (CODE_BASE ≤ a) × (a < 2 ^ 31)

-- a queue of user code
pub record IsQueue (d : Delay) : Type 0 where
  pub first : IsUsers d.first.address
  pub second : IsUsers d.second.address
  pub third : IsUsers d.third.address

branch_short : (b s : Bool) (t last : ℕ) → t < 2 ^ 31
    → (let d : Decision = cond b (record { target = Some t; cancels = false }) (record { target = None; cancels = s }) in next_of d.target last < 2 ^ 31)
branch_short true s t last h = h
branch_short false s t last h = omega arith

-- where an instruction leads is a code address
next_short : (i : Inst) (at : ℕ) (r : Words) (last : ℕ) → next_of (decides i at r).target last < 2 ^ 31
next_short (Branch a b condition squash by) at r last =
    branch_short (condition_holds condition (reg r a) (reg r b)) squash ((at + cast_unsigned w32 by) % 2 ^ 31) last (omega arith)
next_short (Jspci a d imm) at r last = omega arith
next_short _ at r last = omega arith

slot_register : (b : Bool) (d v : ℕ)
    → (let s : Slot = cond b (record { register = d; value = v }) (record { register = 0; value = 0 }) in s.register ≡ cond b d 0)
slot_register true d v = refl
slot_register false d v = refl

-- once the word in MEM has committed in a turn of user code: the machine follows, and no load is seen late but the last word's
pub record InUser (p : Place) (c : MachineState) (s : Watched) : Type 0 where
  pub follows : Follows p c s.at
  pub queue : IsQueue s.at
  pub slot : (c.slot.register ≡ 0) ⊎ (c.slot.register ≡ s.loaded)
  pub on : c.psw.current.interrupts ≡ true

-- the wait, requests and counts do not matter
pub in_user_alike : (p : Place) (c : MachineState) (s : Watched) (stall : ℕ) (latch : Bool) (counts : Counted) → InUser p c s
    → InUser p (before_turn stall latch counts c) s
in_user_alike p c s stall latch counts u =
    let f = u.follows in
    record {
      follows = record {
        user = f.user;
        alu = f.alu;
        rf = f.rf;
        fetch = f.fetch;
        next = f.next;
        regs = f.regs;
        md = f.md;
        mem = f.mem;
        taken = f.taken;
        halted = f.halted;
      };
      queue = u.queue;
      slot = u.slot;
      on = u.on;
    }

-- the coming turn of user code is clean, and takes no interrupt
pub record IsReady (code own : Code) (inside : ℕ → Bool) (p : Place) (input : Option (List ℕ)) (c : MachineState) (s : Watched) : Type 0 where
  pub at_board : IsOnBoard p
  pub from : CODE_BASE ≤ p.code
  pub words : (a : ℕ) → CODE_BASE ≤ a → inside a ≡ true → code a ≡ own a
  pub goes : c.halted ≡ false
  pub quiet : is_taken c ≡ false
  pub clean : (next own inside p input s).clean ≡ true

module _ (code own : Code) (inside : ℕ → Bool) (p : Place) (input : Option (List ℕ)) (c : MachineState) (s : Watched)
    (stall : ℕ) (latch : Bool) (counts : Counted)
    (u : InUser p c s) (ready : IsReady code own inside p input c s) where
  abbrev i : Inst
  i = does own s.at.first

  -- the machine before that turn
  abbrev pub x : MachineState
  x = before_turn stall latch counts (ended code c)

  pub goes' : s.at.halted ≡ false
  goes' = sym u.follows.halted ∙ ready.goes

  pub step : CleanStep own inside p input s
  step = clean_step own inside p input s goes' ready.clean

  parts : (inside s.at.first.address ≡ true) × (is_lawful p input (access i) s.at.core.regs && leb p.code (delay_step own p input s.at).third.address ≡ true)
  parts = and_parts (inside s.at.first.address) _ step.clean

  inner : (is_lawful p input (access i) s.at.core.regs ≡ true) × (leb p.code (delay_step own p input s.at).third.address ≡ true)
  inner = and_parts (is_lawful p input (access i) s.at.core.regs) _ parts.1

  pub lawful : is_lawful p input (access i) s.at.core.regs ≡ true
  lawful = inner.0

  same_word : code s.at.first.address ≡ own s.at.first.address
  same_word = ready.words s.at.first.address u.queue.first.0 parts.0

  pub not_slot : reads i c.slot.register ≡ false
  not_slot = ⊎_elim (λ e. ap (reads i) e ∙ and_right (reads_md i) false refl) (λ e. ap (reads i) e ∙ step.apart) u.slot

  one : Follows p (reached code input x) (delay_step own p input s.at) × (commit_byte code input (shifted x) ≡ delay_byte own p input s.at)
  one = one_turn code own inside p input c s.at stall latch counts ready.at_board u.follows ready.goes ready.quiet not_slot step.clean same_word

  pub ends : ended code c ≡ decided code c
  ends = goes_on code c ready.goes ready.quiet

  pub alu : live code c.alu ≡ i
  alu = ap (live code) u.follows.alu ∙ ap (cond s.at.first.squashed idle) same_word

  abbrev after : Delay
  after = stepped p input i (decides i s.at.first.address s.at.core.regs) s.at

  steps : (next own inside p input s).at ≡ after
  steps = step.at ∙ cond-false s.at.halted s.at after goes'

  high : CODE_BASE ≤ (next own inside p input s).at.third.address
  high =
      let e = leb-true p.code (next own inside p input s).at.third.address (ap (λ (d : Delay). leb p.code d.third.address) step.at ∙ inner.1) in
      let f = ready.from in
      omega (arith, e, f)

  low : (next own inside p input s).at.third.address < 2 ^ 31
  low = subst (λ a. a < 2 ^ 31) (sym (ap (λ (d : Delay). d.third.address) steps)) (next_short i s.at.first.address s.at.core.regs s.at.third.address)

  slot_is : (reached code input x).slot.register ≡ (next own inside p input s).loaded
  slot_is =
      ap (λ (m : MachineState). (slot_of (live code m.alu) m.core.regs).register) ends
      ∙ slot_register (is_load (live code c.alu)) (dest (live code c.alu)) (reg c.core.regs (dest (live code c.alu)))
      ∙ ap loads_to alu
      ∙ sym step.loaded

  still_on : (reached code input x).psw.current.interrupts ≡ true
  still_on =
      ap (λ (m : MachineState). m.psw.current.interrupts) ends
      ∙ ap (λ b. (cond b (psw_restored c.psw) c.psw).current.interrupts)
      (nor_restored (restores (live code c.alu)) (pops (live code c.alu)) c.psw.current.user u.follows.user)
      ∙ u.on

  pub user_turn : InUser p (reached code input x) (next own inside p input s)
  user_turn = record {
    follows = subst (Follows p (reached code input x)) (sym step.at) one.0;
    queue = record {
      first = subst IsUsers (sym (ap (λ (d : Delay). d.first.address) steps)) u.queue.second;
      second = subst IsUsers (sym (ap (λ (d : Delay). d.second.address) steps)) u.queue.third;
      third = (high, low);
    };
    slot = inr slot_is;
    on = still_on;
  }

  pub user_byte : s.at.console ++ option_to_list (commit_byte code input (shifted x)) ≡ (next own inside p input s).at.console
  user_byte = ap (λ o. s.at.console ++ option_to_list o) one.1 ∙ sym (console_next own inside p input s goes' step)
