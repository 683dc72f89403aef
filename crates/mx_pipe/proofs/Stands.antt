-- How a cycle keeps what a pipeline stands for.
use Rattle.std.proofs.Common.{arith, ◌≡◌, ℕ, Bool, true, false, not, cond, List, [], ◌∷◌, ◌++◌, refl, sym, ap, ◌∙◌, subst, Option}
use Rattle.mx_isa.specs.declared.board.TheConstants.{CODE_BASE}
use Rattle.mx_code.specs.Decoding.{inst_of}
use Rattle.mx_delay.specs.Delay.{Code, code_from}
use Rattle.mx_icache.specs.Residency.{resident}
use Rattle.mx_pcchain.specs.declared.chain.Chain.{Chain}
use Rattle.mx_pcchain.specs.declared.psw.Psw.{Psw}
use Rattle.mx_pcchain.specs.Fetch.{Fetch}
use Rattle.mx_turn.specs.declared.latches.Latches.{Latches}
use Rattle.mx_turn.specs.declared.machine.Cycled.{Cycled}
use Rattle.mx_turn.specs.Counted.{Counted}
use Rattle.mx_turn.specs.Decoded.{code_in}
use Rattle.mx_turn.specs.Cycle.{MachineState, is_taken, entered, decided, turned, ended, latched, cycled, answer}
use Rattle.mx_turn.specs.Program.{Program, code_with, code_of, state_after, answer_after}
use Rattle.mx_turn.proofs.Steps.{after_one_more}
use Rattle.mx_pipe.specs.declared.pipe.Pipe.{Pipe}
use Rattle.mx_pipe.specs.declared.pipe.Wait.{Wait}
use Rattle.mx_pipe.specs.declared.pipe.Wait.TheVariants.{NotAsked, Missed}
use Rattle.mx_pipe.specs.Latched.{Latched}
use Rattle.mx_pipe.specs.Kept.{code_of_pipe, Holds, Shows, Waits, has_missed, KeepsProgram, StandsFor, IsBehind}
use Rattle.mx_pipe.proofs.Shows.{shows_cycled}

-- what is behind the word in ALU does not depend on what is before it
pub behind_alike : {C : Type 0} (p : Pipe C) (m : MachineState) (next : Fetch) (fetch rf : Latched) (psw : Psw) (chain : Chain) (wait : Wait) (counts : Counted)
    (shown : Latches) (next' : Fetch) (fetch' rf' : Option Fetch) (psw' : Psw) (chain' : Chain) (stall : ℕ) (counts' : Counted) (shown' : Latches)
    → IsBehind p m
    → (let q : Pipe C = record p { next = next; fetch = fetch; rf = rf; psw = psw; chain = chain; wait = wait; counts = counts; shown = shown } in
    let n : MachineState = record m { next = next'; fetch = fetch'; rf = rf'; psw = psw'; chain = chain'; stall = stall; counts = counts'; shown = shown' } in
    IsBehind q n)
behind_alike p m next fetch rf psw chain wait counts shown next' fetch' rf' psw' chain' stall counts' shown' h =
    record { mem = h.mem; wb = h.wb; to = h.to; within = h.within; file = h.file; regs = h.regs; slot = h.slot }

-- neither the wait nor the counts and stalled cycles are in the tie, and what is shown stands alone
pub showing_alike : {C : Type 0} (code : Code) (p : Pipe C) (m : MachineState) (w : Wait) (d : Counted) (shown : Latches) (stall : ℕ) (counts : Counted)
    (shown' : Latches) → shown ≡ shown' → Holds code p m
    → (let q : Pipe C = record p { wait = w; counts = d; shown = shown } in
    let n : MachineState = record m { stall = stall; counts = counts; shown = shown' } in Holds code q n)
showing_alike code p m w d shown stall counts shown' e h = record {
  fetch = h.fetch;
  rf = h.rf;
  alu = record { word = h.alu.word; inst = h.alu.inst; a = h.alu.a; b = h.alu.b; result = h.alu.result; md = h.alu.md };
  behind = behind_alike p m p.next p.fetch p.rf p.psw p.chain w d shown m.next m.fetch m.rf m.psw m.chain stall counts shown' h.behind;
  rest = record {
    next = h.rest.next;
    md = h.rest.md;
    words = h.rest.words;
    taken = h.rest.taken;
    chain = h.rest.chain;
    psw = h.rest.psw;
    asked = h.rest.asked;
    halted = h.rest.halted;
    shown = e;
    short = h.rest.short;
  };
}

pub waiting : {C : Type 0} (code : Code) (p : Pipe C) (m : MachineState) (w : Wait) (d : Counted) (stall : ℕ) (counts : Counted) → Holds code p m
    → (let q : Pipe C = record p { wait = w; counts = d } in let n : MachineState = record m { stall = stall; counts = counts } in Holds code q n)
waiting code p m w d stall counts h = showing_alike code p m w d p.shown stall counts m.shown h.rest.shown h

past_either : (b : Bool) (x y : MachineState) (l : List ℕ) → x.past ≡ l → y.past ≡ l → (cond b x y).past ≡ l
past_either true x y l e f = e
past_either false x y l e f = f

-- the fetch of a turn has joined the addresses at its end
pub past_ended : (code : Code) (c : MachineState) → (ended code c).past ≡ c.past
past_ended code c = past_either c.halted c (turned code c) c.past refl (past_either (is_taken c) (entered c) (decided code c) c.past refl refl)

pub same_code : {C : Type 0} (p p' : Pipe C) → KeepsProgram p p' → code_of_pipe p' ≡ code_of_pipe p
same_code p p' e = λ k. code_with (code_from inst_of 0 (e.handler k).items) (code_from inst_of CODE_BASE (e.code k).items)

pub keeps_both : {C : Type 0} (p p' p'' : Pipe C) → KeepsProgram p p' → KeepsProgram p' p'' → KeepsProgram p p''
keeps_both p p' p'' e f = record { code = f.code ∙ e.code; handler = f.handler ∙ e.handler; decoded = f.decoded ∙ e.decoded; input = f.input ∙ e.input }

module _ {C : Type 0} (holds : C → List ℕ → Type 0) (t : Pipe C) (p : Program) (h : List Bool) (s : StandsFor holds t p h) (request : Bool) where
  abbrev m : MachineState
  m = state_after p h

  same_program : code_of_pipe t ≡ code_of p
  same_program = λ k. code_with (code_from inst_of 0 (s.handler k)) (code_from inst_of CODE_BASE (s.code k))

  pub answers : (r : Cycled) → r ≡ answer (code_of_pipe t) t.board.input m request → r ≡ answer_after p h request
  answers r e = e ∙ (λ k. answer (same_program k) (s.input k) m request)

  pub stands_on : (t' : Pipe C) (n : MachineState) → KeepsProgram t t' → n ≡ cycled resident (code_of_pipe t) t.board.input m request
      → Waits holds t'.cache n t'.wait → t'.counts ≡ n.counts → Holds (code_of_pipe t) t' n → StandsFor holds t' p (h ++ request ∷ [])
  stands_on t' n keeps e waits counts tied =
      let from : cycled resident (code_of_pipe t) t.board.input m request ≡ state_after p (h ++ request ∷ []) =
      (λ k. cycled resident (same_program k) (s.input k) m request) ∙ sym (after_one_more resident (code_of p) p.input _ h request) in
      let to : n ≡ state_after p (h ++ request ∷ []) = e ∙ from in
      record {
        code = ap (λ v. v.items) keeps.code ∙ s.code;
        handler = ap (λ v. v.items) keeps.handler ∙ s.handler;
        decoded = ap code_in keeps.decoded ∙ s.decoded;
        input = keeps.input ∙ s.input;
        waits = subst (λ x. Waits holds t'.cache x t'.wait) to waits;
        counts = counts ∙ ap (λ (x : MachineState). x.counts) to;
        tied = subst (λ x. Holds (code_of_pipe t') t' x) to (subst (λ x. Holds x t' n) (sym (same_code t t' keeps)) tied);
        shows = subst Shows from (shows_cycled resident (code_of_pipe t) t.board.input m request s.shows);
      }

resident_now : (b : Bool) (stall : ℕ) → stall ≡ cond b 0 2 → stall ≡ 0 → false ≡ not b
resident_now true stall e f = refl
resident_now false stall e f = absurd (omega (arith, e, f))

-- where a turn acts, its fetch missed or is resident
pub missed_is : {C : Type 0} (holds : C → List ℕ → Type 0) (c : C) (m : MachineState) (w : Wait) → Waits holds c m w → m.stall ≡ 0
    → has_missed w ≡ not (resident m.past m.next.address)
missed_is holds c m NotAsked s e = resident_now (resident m.past m.next.address) m.stall s.1 e
missed_is holds c m (Missed n) s e = ap not (sym s.2)

-- once the request is latched, in a pipeline that waits as before
module _ {C : Type 0} (holds : C → List ℕ → Type 0) (t u : Pipe C) (p : Program) (h : List Bool) (s : StandsFor holds t p h) (request : Bool)
    (latches : (code : Code) (m : MachineState) → Holds code t m → Holds code u (latched request m)) (wait : u.wait ≡ t.wait) (cache : u.cache ≡ t.cache) where
  pub tied_latched : Holds (code_of_pipe t) u (latched request (state_after p h))
  tied_latched = latches (code_of_pipe t) (state_after p h) s.tied

  pub waits_latched : Waits holds u.cache (state_after p h) u.wait
  waits_latched = subst (λ x. Waits holds x (state_after p h) u.wait) (sym cache) (subst (λ w. Waits holds t.cache (state_after p h) w) (sym wait) s.waits)
