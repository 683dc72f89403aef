use Rattle.std.proofs.Common.{ap, ◌∙◌}
use Rattle.std.specs.Option.{option_copied}
use Rattle.mx_turn.specs.Counted.{Counted}
use Rattle.mx_turn.specs.Handler.{shipped}
use Rattle.mx_turn.specs.Program.{Program, program_of}
use Rattle.mx_turn.specs.Run.{run_of}
use Rattle.lab_measures.proofs.measure.figures_of_linked.Goals as goal

pub returns-clause-cycles : goal.returns-clause-cycles
returns-clause-cycles g c =
    let image = c.args.linked.now.image in
    let p : Program = program_of shipped image.code.items image.user_data.items (option_copied c.given_to-input.result) in
    c.cycles_in.ensures
    ∙ ap (λ (x : Counted). x.cycles) (c.in_ok-driven.ensures.counts p c.in_ok-machine.ensures)
    ∙ ap (λ o. (run_of (program_of shipped image.code.items image.user_data.items o)
    c.args.conditions.now.requests.now c.args.conditions.now.budget).counts.cycles) c.given_to-input.ensures

pub returns-clause-fetches : goal.returns-clause-fetches
returns-clause-fetches g c =
    let image = c.args.linked.now.image in
    let p : Program = program_of shipped image.code.items image.user_data.items (option_copied c.given_to-input.result) in
    c.fetches_in.ensures
    ∙ ap (λ (x : Counted). x.fetches) (c.in_ok-driven.ensures.counts p c.in_ok-machine.ensures)
    ∙ ap (λ o. (run_of (program_of shipped image.code.items image.user_data.items o)
    c.args.conditions.now.requests.now c.args.conditions.now.budget).counts.fetches) c.given_to-input.ensures

pub returns-clause-misses : goal.returns-clause-misses
returns-clause-misses g c =
    let image = c.args.linked.now.image in
    let p : Program = program_of shipped image.code.items image.user_data.items (option_copied c.given_to-input.result) in
    c.misses_in.ensures
    ∙ ap (λ (x : Counted). x.misses) (c.in_ok-driven.ensures.counts p c.in_ok-machine.ensures)
    ∙ ap (λ o. (run_of (program_of shipped image.code.items image.user_data.items o)
    c.args.conditions.now.requests.now c.args.conditions.now.budget).counts.misses) c.given_to-input.ensures

pub returns-clause-squashes : goal.returns-clause-squashes
returns-clause-squashes g c =
    let image = c.args.linked.now.image in
    let p : Program = program_of shipped image.code.items image.user_data.items (option_copied c.given_to-input.result) in
    c.squashes_in.ensures
    ∙ ap (λ (x : Counted). x.squashes) (c.in_ok-driven.ensures.counts p c.in_ok-machine.ensures)
    ∙ ap (λ o. (run_of (program_of shipped image.code.items image.user_data.items o)
    c.args.conditions.now.requests.now c.args.conditions.now.budget).counts.squashes) c.given_to-input.ensures

pub returns-clause-halted : goal.returns-clause-halted
returns-clause-halted g c =
    let image = c.args.linked.now.image in
    let p : Program = program_of shipped image.code.items image.user_data.items (option_copied c.given_to-input.result) in
    c.has_halted.ensures
    ∙ c.in_ok-driven.ensures.halted p c.in_ok-machine.ensures
    ∙ ap (λ o. (run_of (program_of shipped image.code.items image.user_data.items o) c.args.conditions.now.requests.now c.args.conditions.now.budget).halted)
    c.given_to-input.ensures
