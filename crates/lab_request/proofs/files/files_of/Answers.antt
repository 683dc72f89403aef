use Rattle.std.proofs.Common.{◌∙◌, None}
use Rattle.mx_io.specs.MemoryShelf.{held_in}
use Rattle.serde_json.specs.View.{view}
use Rattle.lab_request.specs.Requests.{Held, interrupts_file, interrupts_in, input_file, input_in, plans_file, plans_in, with_file}
use Rattle.lab_request.proofs.Adding.{over, put}
use Rattle.lab_request.proofs.files.files_of.Goals as goal

pub returns-clause-held : goal.returns-clause-held
returns-clause-held c = λ n.
    let d = view c.args.value.now in
    let none : Held = λ name. None in
    let plans : Held = with_file plans_file (plans_in d) none in
    let input : Held = with_file input_file (input_in d) plans in
    c.in_ok-add.ensures.ok n ∙ put n _ _ _ _ _ _ c.name_in.ensures (c.as_bytes.ensures.value ∙ c.source_in.ensures)
    (c.in_ok-add_interrupts.ensures.held n ∙ over interrupts_file (interrupts_in d) (held_in c.add_input.new.files) input n
    (c.in_ok-add_input.ensures.held n ∙ over input_file (input_in d) (held_in c.add_plans.new.files) plans n
    (c.in_ok-add_plans.ensures.held n ∙ over plans_file (plans_in d) (held_in c.new-files.result) none n (c.new-files.ensures.empty n))))
