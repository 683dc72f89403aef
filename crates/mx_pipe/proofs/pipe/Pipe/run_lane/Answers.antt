use Rattle.std.proofs.Common.{arith, ◌≡◌, ◌+◌, ℕ, suc, Bool, true, false, not, cond, List, ◌∷◌, ◌++◌, option_to_list, append_assoc, refl, sym, ap, ◌∙◌, subst}
use Rattle.std.proofs.lemmas.Bool.{eq-eqb}
use Rattle.mx_isa.specs.declared.board.TheConstants.{CODE_BASE}
use Rattle.mx_isa.specs.Words.{reg}
use Rattle.mx_isa.specs.Views.{dest}
use Rattle.mx_code.specs.Decoding.{inst_of}
use Rattle.mx_delay.specs.Delay.{Code, code_from}
use Rattle.mx_icache.specs.Residency.{resident}
use Rattle.mx_turn.specs.declared.machine.Cycled.{Cycled}
use Rattle.mx_turn.specs.Counted.{after_turn}
use Rattle.mx_turn.specs.Decoded.{code_in}
use Rattle.mx_turn.specs.Stages.{live}
use Rattle.mx_turn.specs.Cycle.{MachineState, shifted, committed, commit_byte, showing, ended, squashes, takes}
use Rattle.mx_turn.specs.Program.{Program, code_with, code_of, state_after, answer_after, quiet, quiet_bytes}
use Rattle.mx_turn.proofs.Steps.{answer_acted}
use Rattle.mx_lane.specs.declared.lane.Lane.{Lane}
use Rattle.mx_lane.specs.Lanes.{lane_of, quietly, later_bytes, InTurn, IsLeft}
use Rattle.mx_lane.proofs.Leaving.{may_leave}
use Rattle.mx_pipe.specs.declared.pipe.Pipe.{Pipe}
use Rattle.mx_pipe.specs.declared.pipe.Wait.TheVariants.{NotAsked}
use Rattle.mx_pipe.specs.Kept.{code_of_pipe, Holds, Commits, Waits, KeepsProgram, StandsFor}
use Rattle.mx_pipe.proofs.Stands.{same_code, keeps_both}
use Rattle.mx_pipe.proofs.Lanes.{quiet_state, first_and_later, cut, stands_after, goes_after}
use Rattle.mx_pipe.proofs.pipe.Pipe.run_lane.Goals as goal
use Rattle.mx_pipe.proofs.pipe.Pipe.run_lane.Goals.{After-finish}
use Rattle.mx_pipe.proofs.pipe.Pipe.run_lane.Given as given

module _ (g : given.Over) (c : After-finish g) (p : Program) (h : List Bool) (s : StandsFor g.C.FetchCache.holds c.args.self.now p h) where
  abbrev self : Pipe g.row.C.Denot
  self = c.args.self.now

  abbrev code : Code
  code = code_of p

  abbrev m : MachineState
  m = state_after p h

  -- once the word in MEM has committed
  abbrev q : Pipe g.row.C.Denot
  q = c.commit-reached.new.self

  abbrev n0 : MachineState
  n0 = committed code self.board.input (shifted m)

  abbrev n : ℕ
  n = c.in_ok-turns.turns

  abbrev first : Lane
  first = c.lane-lane.result

  abbrev last : Lane
  last = c.run.new.self

  same : code_of_pipe self ≡ code
  same = λ k. code_with (code_from inst_of 0 (s.handler k)) (code_from inst_of CODE_BASE (s.code k))

  tied : Holds code self m
  tied = subst (λ x. Holds x self m) same s.tied

  commits : Commits code q n0
  commits = c.commit-reached.ensures.state code m tied

  halted : n0.halted ≡ false
  halted = sym commits.rest.halted ∙ c.commit-reached.ensures.halted ∙ c.requires.halt

  latch : n0.latch ≡ false
  latch = sym commits.rest.asked ∙ c.commit-reached.ensures.asked ∙ c.requires.asked

  waits : Waits g.C.FetchCache.holds self.cache m NotAsked
  waits = subst (λ w. Waits g.C.FetchCache.holds self.cache m w) c.requires.wait s.waits

  here : resident m.past m.next.address ≡ true
  here = ap (λ f. resident m.past f.address) (sym s.tied.rest.next) ∙ c.requires.resident m.past waits.0

  stall : m.stall ≡ 0
  stall = waits.1 ∙ ap (λ b. cond b 0 2) here

  decodes : code_in q.decoded ≡ code
  decodes = ap code_in c.commit-reached.ensures.program.decoded ∙ s.decoded

  begins : lane_of first q.board n0.past n0.before n0.shown n0.counts ≡ n0
  begins = c.lane-lane.ensures.state code n0 commits halted latch stall

  enters : InTurn g.C.FetchCache.holds code m first q.board q.cache
  enters = record {
    past = m.next.address ∷ m.past;
    before = m.core.regs;
    state = (λ k. committed code (c.commit-reached.ensures.program.input k) (shifted m)) ∙ sym begins;
    on = sym s.tied.rest.halted ∙ c.requires.running;
    counts = c.lane-lane.ensures.counts ∙ c.commit-reached.ensures.counts ∙ s.counts;
    missed = c.lane-lane.ensures.missed ∙ sym (ap not here);
    replaced =
        c.lane-lane.ensures.replaced code n0 commits
        ∙ (λ k. reg m.core.regs (dest (live (decodes k) (sym (ap (λ (x : MachineState). x.mem) begins) k))));
    held =
        subst (λ x. g.C.FetchCache.holds x (m.next.address ∷ m.past)) (sym c.commit-reached.ensures.cache)
        (subst (λ f. g.C.FetchCache.holds self.cache (f.address ∷ m.past)) s.tied.rest.next (c.requires.cache m.past waits.0));
  }

  entered : InTurn g.C.FetchCache.holds (code_in q.decoded) m first q.board q.cache
  entered = subst (λ x. InTurn g.C.FetchCache.holds x m first q.board q.cache) (sym decodes) enters

  input_is : q.board.input ≡ p.input
  input_is = c.commit-reached.ensures.program.input ∙ s.input

  ran : InTurn g.C.FetchCache.holds code (state_after p (quiet h n)) last c.run.new.board c.run.new.cache
  ran =
      subst (λ x. InTurn g.C.FetchCache.holds code x last c.run.new.board c.run.new.cache)
      ((λ k. quietly (decodes k) (input_is k) n m) ∙ sym (quiet_state p h n))
      (subst (λ x. InTurn g.C.FetchCache.holds x (quietly (code_in q.decoded) q.board.input n m) last c.run.new.board c.run.new.cache) decodes
      (c.in_ok-turns.ensures.next m entered))

  -- behind the lane
  abbrev r : Pipe g.row.C.Denot
  r = record q { board = c.run.new.board; cache = c.run.new.cache }

  abbrev t : Pipe g.row.C.Denot
  t = c.take_back-left.new.self

  abbrev z : MachineState
  z = cut g.C.FetchCache.holds self c.finish.new.self p h n s last c.run.new.board c.run.new.cache ran (c.in_ok-turns.ensures.input ∙ input_is) q.shown

  keeps_r : KeepsProgram self r
  keeps_r = record {
    code = c.commit-reached.ensures.program.code;
    handler = c.commit-reached.ensures.program.handler;
    decoded = c.commit-reached.ensures.program.decoded;
    input = c.in_ok-turns.ensures.input ∙ c.commit-reached.ensures.program.input;
  }

  keeps_t : KeepsProgram self t
  keeps_t = keeps_both self r t keeps_r c.take_back-left.ensures.program

  code_t : code_of_pipe t ≡ code
  code_t = same_code self t keeps_t ∙ same

  back : Commits (code_of_pipe t) t z
  back =
      subst (λ x. Commits x t z) (decodes ∙ sym code_t)
      (c.take_back-left.ensures.state ran.past ran.before (state_after p (quiet h n)).counts commits.rest.short
      (subst (λ x. IsLeft x last ran.before) (sym decodes)
      (may_leave g.C.FetchCache.holds code (state_after p (quiet h n)) last c.run.new.board c.run.new.cache ran)))

  stands : StandsFor g.C.FetchCache.holds c.finish.new.self p (quiet h (suc n))
  stands =
      stands_after g.C.FetchCache.holds self c.finish.new.self p h n s last c.run.new.board c.run.new.cache ran
      (c.in_ok-turns.ensures.input ∙ input_is) q.shown
      (keeps_both self t c.finish.new.self keeps_t c.finish.ensures.program)
      (subst (λ x. Holds x c.finish.new.self (ended x (showing x z))) code_t (c.finish.ensures.state z back refl))
      (c.finish.ensures.counts z back refl
      ∙ (λ k. after_turn (c.take_back-left.ensures.missed k) (squashes (code_t k) (showing (code_t k) z)) (takes (showing (code_t k) z))
      (c.take_back-left.ensures.counts k)))
      c.finish.ensures.wait
      (c.finish.ensures.cache ∙ c.take_back-left.ensures.cache)

  goes : (state_after p (quiet h (suc n))).halted ≡ false
  goes =
      goes_after g.C.FetchCache.holds self c.finish.new.self p h n s last c.run.new.board c.run.new.cache ran
      (c.in_ok-turns.ensures.input ∙ input_is) q.shown

  one_more : suc n ≡ n + 1
  one_more = omega arith

  byte_is : c.byte.result ≡ (answer_after p h false).byte
  byte_is =
      c.byte.ensures
      ∙ c.commit-reached.ensures.byte code m tied
      ∙ (λ k. commit_byte code (s.input k) (shifted m))
      ∙ ap (λ (a : Cycled). a.byte) (answer_acted resident code p.input m false (sym s.tied.rest.halted ∙ c.requires.running) (eq-eqb m.stall 0 stall))

  sent : c.run.new.console.items ≡ c.args.console.now.items ++ quiet_bytes p h (suc n)
  sent =
      c.in_ok-turns.ensures.console m entered
      ∙ (λ k. c.in_ok-push_byte.ensures.ok k ++ later_bytes (decodes k) (input_is k) n m)
      ∙ (λ k. (c.args.console.now.items ++ option_to_list (byte_is k)) ++ later_bytes code p.input n m)
      ∙ append_assoc c.args.console.now.items (option_to_list (answer_after p h false).byte) (later_bytes code p.input n m)
      ∙ ap (λ l. c.args.console.now.items ++ l) (sym (first_and_later p h n))

pub returns-clause-next : goal.returns-clause-next
returns-clause-next g c = λ p h s. subst (λ k. StandsFor g.C.FetchCache.holds c.finish.new.self p (quiet h k)) (one_more g c p h s) (stands g c p h s)

pub returns-clause-console : goal.returns-clause-console
returns-clause-console g c = λ p h s. sent g c p h s ∙ ap (λ k. c.args.console.now.items ++ quiet_bytes p h k) (one_more g c p h s)

pub returns-clause-going : goal.returns-clause-going
returns-clause-going g c = λ p h s. ap (λ k. (state_after p (quiet h k)).halted) (sym (one_more g c p h s)) ∙ goes g c p h s
