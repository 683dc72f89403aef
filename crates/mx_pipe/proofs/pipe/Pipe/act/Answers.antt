use Rattle.std.proofs.Common.{◌≡◌, Bool, false, cond, not, ◌&&◌, None, sym, ap, ◌∙◌, subst}
use Rattle.mx_delay.specs.Delay.{Code}
use Rattle.mx_turn.specs.Counted.{after_turn}
use Rattle.mx_turn.specs.Cycle.{MachineState, shifted, commit_byte, reached, turned, is_taken, decision}
use Rattle.mx_pipe.specs.declared.alu.Course.TheVariants.{To}
use Rattle.mx_pipe.specs.declared.memory.Signal.TheVariants.{Nothing}
use Rattle.mx_pipe.specs.declared.pipe.Pipe.{Pipe}
use Rattle.mx_pipe.specs.Made.{byte_of, halts}
use Rattle.mx_pipe.specs.Kept.{code_of_pipe, has_missed, Holds, Shows, Leads}
use Rattle.mx_pipe.proofs.Decides.{leads_on}
use Rattle.mx_pipe.proofs.pipe.Pipe.act.Goals as goal
use Rattle.mx_pipe.proofs.pipe.Pipe.act.Goals.{After-end-taken, After-halts}
use Rattle.mx_pipe.proofs.pipe.Pipe.act.Given as given

-- where the turn ends as most do
module _ (g : given.Over) (c : After-end-taken g) (m : MachineState) (h : Holds (code_of_pipe c.args.self.now) c.args.self.now m) (s : Shows m) where
  abbrev before : Pipe g.row.C.Denot
  before = c.args.self.now

  abbrev code : Code
  code = code_of_pipe before

  abbrev r : MachineState
  r = reached code before.board.input m

  shown : Holds code c.step-signal.new.self r
  shown = c.step-signal.ensures.state m h s

  quiet : c.step-signal.result.0 ≡ Nothing
  quiet = c.ends_plainly.ensures.signal c.if-ends_plainly.true

  on : false ≡ r.halted
  on = sym (ap halts quiet) ∙ c.step-signal.ensures.halt ∙ shown.rest.halted

  leads : Leads code r (To c.step-signal.result.1)
  leads =
      leads_on code c.step-signal.new.self r shown c.step-signal.result.1 (c.ends_plainly.ensures.target c.if-ends_plainly.true)
      (c.step-signal.ensures.target m h)

pub returns-then-ends_plainly-clause-state : goal.returns-then-ends_plainly-clause-state
returns-then-ends_plainly-clause-state g c = λ m h s.
    subst (λ (b : Bool). Holds (code g c m h s) c.end-taken.new.self (cond b (r g c m h s) (turned (code g c m h s) (r g c m h s)))) (on g c m h s)
    (c.end-taken.ensures.state (code g c m h s) (r g c m h s) (shown g c m h s) (leads g c m h s))

pub returns-then-ends_plainly-clause-answer : goal.returns-then-ends_plainly-clause-answer
returns-then-ends_plainly-clause-answer g c = λ m h s.
    let sends : None ≡ commit_byte (code g c m h s) c.args.self.now.board.input (shifted m) =
    sym (ap byte_of (quiet g c m h s)) ∙ c.step-signal.ensures.byte m h in
    let takes = c.end-taken.ensures.taken (code g c m h s) (r g c m h s) (shown g c m h s) in
    λ k. record {
      byte = sends k;
      taken = (takes ∙ (λ l. not (on g c m h s l) && is_taken (r g c m h s))) k;
      halted = on g c m h s k;
      stalled = false;
    }

pub returns-then-ends_plainly-clause-counts : goal.returns-then-ends_plainly-clause-counts
returns-then-ends_plainly-clause-counts g c = λ m h s d.
    let taken = is_taken (r g c m h s) in
    let cancels = (decision (code g c m h s) (r g c m h s)).cancels in
    let missed = ap has_missed c.step-signal.ensures.wait in
    let same = c.step-signal.ensures.counts ∙ d in
    c.end-taken.ensures.counts (code g c m h s) (r g c m h s) (shown g c m h s) (leads g c m h s)
    ∙ (λ k. after_turn (missed k) (not (on g c m h s k) && (not taken && cancels)) (not (on g c m h s k) && taken) (same k))

-- where it ends otherwise
module _ (g : given.Over) (c : After-halts g) (m : MachineState) (h : Holds (code_of_pipe c.args.self.now) c.args.self.now m) (s : Shows m) where
  abbrev before' : Pipe g.row.C.Denot
  before' = c.args.self.now

  abbrev code' : Code
  code' = code_of_pipe before'

  abbrev r' : MachineState
  r' = reached code' before'.board.input m

  shown' : Holds code' c.step-signal.new.self r'
  shown' = c.step-signal.ensures.state m h s

  halts' : halts c.step-signal.result.0 ≡ r'.halted
  halts' = c.step-signal.ensures.halt ∙ shown'.rest.halted

pub returns-clause-state : goal.returns-clause-state
returns-clause-state g c = λ m h s.
    c.end_apart-taken.ensures.state (code' g c m h s) (r' g c m h s) (shown' g c m h s) (halts' g c m h s) (c.step-signal.ensures.target m h)

pub returns-clause-answer : goal.returns-clause-answer
returns-clause-answer g c = λ m h s.
    let sends = c.byte.ensures ∙ c.step-signal.ensures.byte m h in
    let takes = c.end_apart-taken.ensures.taken (code' g c m h s) (r' g c m h s) (shown' g c m h s) (halts' g c m h s) in
    let stops = c.halts.ensures ∙ halts' g c m h s in
    λ k. record { byte = sends k; taken = takes k; halted = stops k; stalled = false }

pub returns-clause-counts : goal.returns-clause-counts
returns-clause-counts g c = λ m h s d.
    let taken = is_taken (r' g c m h s) in
    let cancels = (decision (code' g c m h s) (r' g c m h s)).cancels in
    let missed = ap has_missed c.step-signal.ensures.wait in
    let same = c.step-signal.ensures.counts ∙ d in
    let halted = (r' g c m h s).halted in
    c.end_apart-taken.ensures.counts (code' g c m h s) (r' g c m h s) (shown' g c m h s) (halts' g c m h s) (c.step-signal.ensures.target m h)
    ∙ (λ k. after_turn (missed k) (not halted && (not taken && cancels)) (not halted && taken) (same k))
