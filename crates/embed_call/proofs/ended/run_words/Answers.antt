use Rattle.std.proofs.Common.{◌≡◌, Option, IfOk, map, string_bytes, ap, subst}
use Rattle.cmd_table.specs.Asked.{command_of}
use Rattle.cmd_table.specs.Commands.{Command}
use Rattle.mx_command.specs.Accepted.{Held}
use Rattle.embed_call.specs.Answered.{Answered}
use Rattle.embed_call.specs.Held.{held_by}
use Rattle.embed_call.specs.QuietShelf.{held_in}
use Rattle.embed_call.proofs.ended.run_words.Goals as goal

pub returns : goal.returns
returns c =
    let result = c.run_on_shelf.result in
    let held : held_in c.in_ok-shelf.shelf ≡ held_by c.args.call.now = λ i n. c.in_ok-shelf.ensures n i in
    subst (λ (a : Option Command). IfOk result (λ e. Answered a (held_by c.args.call.now) e.status e.output.items e.file.items)) (ap command_of c.requires)
    (subst (λ (h : Held). IfOk result (λ e. Answered (command_of (map string_bytes c.args.words.now)) h e.status e.output.items e.file.items)) held
    c.run_on_shelf.ensures)
