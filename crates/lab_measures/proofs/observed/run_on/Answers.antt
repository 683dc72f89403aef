use Rattle.std.proofs.Common.{◌++◌, append-nil, ap, refl, sym, ◌∙◌, subst}
use Rattle.mx_turn.specs.Cycle.{MachineState}
use Rattle.mx_report.proofs.Runs.{console_end}
use Rattle.lab_measures.specs.declared.observed.Progress.{Progress}
use Rattle.lab_measures.specs.Entries.{signals_of}
use Rattle.lab_measures.specs.Progress.{Reached}
use Rattle.lab_measures.proofs.Noted.{entry_of}
use Rattle.lab_measures.proofs.observed.run_on.Goals as goal

pub returns : goal.returns
returns g c = λ p s comes.
    let reqs = c.args.requests.now in
    let r = c.in-Ok.reached in
    let e = c.in-Ok.ensures in
    let start = c.no_notes-notes.ensures in
    let idle = subst (λ (x : Progress). Reached (signals_of p reqs) c.args.from c.args.from x) (sym start.progress) comes.quiet in
    let sent = ap (λ l. c.args.before.now ++ l) start.console ∙ append-nil c.args.before.now ∙ comes.sent in
    let saw = e.saw p s comes.going (sent, idle) in
    record {
      halted = e.halted p s comes.going ∙ ap (λ (m : MachineState). m.halted) (e.last refl p s comes.going);
      counts = c.counts.ensures.counts p _ (e.stands p s comes.going) ∙ ap (λ (m : MachineState). m.counts) (e.last refl p s comes.going);
      console = saw.0 ∙ console_end p reqs r.cycles c.args.budget r.halted (e.halted p s comes.going) e.within (λ h. e.whole h refl);
      entry = record {
        cycles = r.cycles;
        ends = record {
          within = e.within;
          going = e.going p s comes.going;
          whole = λ h. e.whole (e.halted p s comes.going ∙ h) refl;
        };
        entry = entry_of (signals_of p reqs) r.cycles _ _ c.entry.ensures.entry c.entry.ensures.none saw.1;
      };
    }
