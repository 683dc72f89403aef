use Rattle.std.proofs.Common.{◌≡◌, ℕ, List, ◌++◌, option_to_list, append-nil, Option, None, sym, ap, ◌∙◌}
use Rattle.mx_source.specs.Meaning.{Going, Stuck, Program, State, step}
use Rattle.mx_seq.specs.Seqs.{program_of, state_of}
use Rattle.cmd_meaning.proofs.Walks.{is_stuck_by, ends_silently}
use Rattle.cmd_meaning.proofs.steps.take_step.Goals as goal

pub returns-in-Stuck-clause-run : goal.returns-in-Stuck-clause-run
returns-in-Stuck-clause-run c =
    let p : Program = program_of c.args.seq.now in
    let s : State = state_of c.args.seq.now in
    let old : List ℕ = c.args.console.now.items in
    let stuck : (step p s).after.mark ≡ Stuck c.in-Stuck.why =
    is_stuck_by (step p s).after.mark (step p s).byte c.in-Stuck.why (sym c.in-Stuck.is ∙ c.step.ensures.answer) in
    let nothing : (step p s).byte ≡ None = ends_silently p s c.requires (λ g. let bad : Stuck c.in-Stuck.why ≡ Going = sym stuck ∙ g in absurd (cc)) in
    let kept : old ≡ old ++ option_to_list (step p s).byte = sym (ap (λ (b : Option ℕ). old ++ option_to_list b) nothing ∙ append-nil old) in
    λ k. record { state = c.step.ensures.state k; console = kept k }
