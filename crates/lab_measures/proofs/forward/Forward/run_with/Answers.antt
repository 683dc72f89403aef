use Rattle.std.proofs.Common.{◌≡◌, ◌++◌, ℕ, Bool, List, true, arith, append-nil, sym, ap, ◌∙◌, subst}
use Rattle.std.proofs.lemmas.Bool.{true≢false}
use Rattle.mx_icache.specs.LineSets.{CacheHolds}
use Rattle.mx_turn.specs.Cycle.{MachineState}
use Rattle.mx_turn.specs.Program.{state_after}
use Rattle.mx_turn.specs.Run.{bits, console_after}
use Rattle.mx_report.proofs.Runs.{state_still, console_still}
use Rattle.lab_measures.specs.Going.{IsTold}
use Rattle.lab_measures.specs.Terms.{StandsFor}
use Rattle.lab_measures.proofs.Quiet.{bits_before}
use Rattle.lab_measures.proofs.forward.Forward.run_with.Goals as goal

pub returns-then-self : goal.returns-then-self
returns-then-self c = λ p come quiet.
    let reqs = c.args.requests.now in
    let n = c.args.self.now.cycle in
    let m = c.args.budget in
    let before = c.args.self.now.notes.console.items in
    let same = bits_before reqs n quiet in
    let stopped : (state_after p (bits reqs n)).halted ≡ true = ap (λ (h : List Bool). (state_after p h).halted) same ∙ sym come.halted ∙ c.if-self.true in
    record {
      halted = sym (ap (λ (s : MachineState). s.halted) (state_still p reqs n stopped m c.requires) ∙ stopped);
      counts = c.counts.ensures.counts p _ come.stands
          ∙ ap (λ (h : List Bool). (state_after p h).counts) (sym same)
          ∙ ap (λ (s : MachineState). s.counts) (sym (state_still p reqs n stopped m c.requires));
      console = ap (λ l. before ++ l) c.new.ensures.items ∙ append-nil before ∙ come.console
          ∙ ap (console_after p) (sym same) ∙ sym (console_still p reqs n stopped m c.requires);
      entry = record {
        cycles = n;
        ends = record {
          within = c.requires;
          going = λ k l. ap (λ (h : List Bool). (state_after p h).halted) (bits_before reqs k (λ j i. quiet j (omega arith))) ∙ come.going k l;
          whole = λ h. absurd (true≢false (sym stopped ∙ h));
        };
        entry = λ e is. true≢false (sym is.asked.comes ∙ quiet is.last is.asked.within);
      };
    }

pub returns : goal.returns
returns c = λ p come quiet.
    let reqs = c.args.requests.now in
    let n = c.args.self.now.cycle in
    let same = bits_before reqs n quiet in
    subst (λ (sent : List ℕ). IsTold p reqs c.args.budget sent c.in_ok-run.run') c.console.ensures
    (c.in_ok-run.ensures p
    (subst (λ (h : List Bool). StandsFor CacheHolds c.in_ok-machine.machine p h) (sym same) (c.in_ok-machine.ensures.stands p _ come.stands))
    (record {
      quiet = quiet;
      going = ap (λ (h : List Bool). (state_after p h).halted) same ∙ sym come.halted ∙ c.if-self.false;
      sent = c.console.ensures ∙ come.console ∙ ap (console_after p) (sym same);
    }))
