use Rattle.std.proofs.Common.{◌≡◌, [], ◌∙◌, arith}
use Rattle.mx_source.specs.Meaning.{Run, start}
use Rattle.mx_seq.specs.Seqs.{program_of, state_of}
use Rattle.cmd_meaning.specs.Told.{steps_in}
use Rattle.mx_isa.specs.Board.{board}
use Rattle.cmd_soak.specs.Soak.{steps_within}
use Rattle.cmd_soak.proofs.Steps.{few_steps}
use Rattle.cmd_soak.proofs.soaking.count_steps.Goals as goal

pub returns-in-Ok-clause-exact : goal.returns-in-Ok-clause-exact
unfolding steps_within
returns-in-Ok-clause-exact c =
    let begin : Run = record { state = start c.args.source.now board; console = [] } in
    let at_start : ◌≡◌ {A = Run} (record { state = state_of c.in_ok-seq.seq; console = c.new-console.result.items }) begin =
    λ k. record { state = c.in_ok-seq.ensures.state k; console = c.new-console.ensures.items k } in
    c.in-Ok.ensures.steps ∙ (λ k. steps_in (c.in_ok-seq.ensures.program k) c.args.most (at_start k))

pub returns-in-Ok-clause-few : goal.returns-in-Ok-clause-few
returns-in-Ok-clause-few c =
    let few = few_steps (program_of c.in_ok-seq.seq) c.args.most (record { state = state_of c.in_ok-seq.seq; console = c.new-console.result.items }) in
    omega (arith, c.in-Ok.ensures.steps)
