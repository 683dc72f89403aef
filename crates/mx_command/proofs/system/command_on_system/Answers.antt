-- Nothing was asked of the shelf before, and nothing was put out, so that the whole log agrees where the command's reads do.
use Rattle.std.proofs.Common.{◌++◌, List, map, string_bytes, ap, ◌∙◌, subst}
use Rattle.mx_io.specs.Reads.{Read}
use Rattle.mx_io.specs.RealShelf.{told_of}
use Rattle.mx_io.specs.RealSink.{handed_to}
use Rattle.cmd_answer.specs.Logged.{Agree}
use Rattle.cmd_table.specs.Asked.{command_of}
use Rattle.mx_command.specs.Promised.{Promised}
use Rattle.mx_command.proofs.system.command_on_system.Goals as goal

pub returns-clause-promised : goal.returns-clause-promised
returns-clause-promised g c = λ taken held agree.
    let made = c.command.ensures.promised taken.0 taken.1 in
    let all = made.1 ∙ ap (λ (l : List Read). l ++ made.0) c.requires.unread in
    subst (λ put. Promised (command_of (map string_bytes c.args.words.now)) held c.command.result
    (told_of c.args.shelf.now) (told_of c.command.new.shelf) put (handed_to c.command.new.out))
    c.requires.silent (made.2 held (subst (Agree held) all agree))
