use Rattle.std.proofs.Common.{List, ℕ, [], subst}
use Rattle.std.specs.Borrow.{Bor}
use Rattle.cmd_line.specs.Command.{texts}
use Rattle.mx_io.specs.Shelves.{Told, Counts}
use Rattle.cmd_answer.specs.Protocol.{Performed}
use Rattle.cmd_answer.specs.Replies.{OnAnswer}
use Rattle.mx_command.specs.Protocols.{modules_protocol}
use Rattle.mx_command.proofs.Own.{by_command, answered_with}
use Rattle.mx_command.proofs.reply.command_reply.Goals as goal

pub returns-in-Run-clause-performed : goal.returns-in-Run-clause-performed
returns-in-Run-clause-performed g c = λ layout_of is.
    by_command layout_of _ _ _ _ c.in-Run.is (c.run_reply.ensures.performed layout_of is)

pub returns-in-Meaning-clause-performed : goal.returns-in-Meaning-clause-performed
returns-in-Meaning-clause-performed g c = λ layout_of is.
    by_command layout_of _ _ _ _ c.in-Meaning.is c.told_reply.ensures.performed

pub returns-in-Build-clause-performed : goal.returns-in-Build-clause-performed
returns-in-Build-clause-performed g c = λ layout_of is.
    by_command layout_of _ _ _ _ c.in-Build.is (c.build_reply.ensures.performed layout_of is)

pub returns-in-Exec-clause-performed : goal.returns-in-Exec-clause-performed
returns-in-Exec-clause-performed g c = λ layout_of is.
    by_command layout_of _ _ _ _ c.in-Exec.is c.exec_reply.ensures.performed

pub returns-in-Listing-clause-performed : goal.returns-in-Listing-clause-performed
returns-in-Listing-clause-performed g c = λ layout_of is.
    by_command layout_of _ _ _ _ c.in-Listing.is (c.list_reply.ensures.performed layout_of is)

pub returns-in-Best-clause-performed : goal.returns-in-Best-clause-performed
returns-in-Best-clause-performed g c = λ layout_of is.
    by_command layout_of _ _ _ _ c.in-Best.is (c.best_reply.ensures.performed layout_of is)

pub returns-in-Gen-clause-performed : goal.returns-in-Gen-clause-performed
returns-in-Gen-clause-performed g c = λ layout_of is.
    let told : Told = g.S.Shelf.told c.args.shelf.now in
    let before : Counts = g.S.Shelf.counts c.args.shelf.now in
    by_command layout_of told before before _ c.in-Gen.is (answered_with told before c.gen_reply.result _ c.gen_reply.ensures)

pub returns-in-Soak-clause-performed : goal.returns-in-Soak-clause-performed
returns-in-Soak-clause-performed g c = λ layout_of is.
    let told : Told = g.S.Shelf.told c.args.shelf.now in
    let before : Counts = g.S.Shelf.counts c.args.shelf.now in
    by_command layout_of told before before _ c.in-Soak.is (answered_with told before c.soak_reply.result _ (c.soak_reply.ensures layout_of is))

pub returns-in-Migrate-clause-performed : goal.returns-in-Migrate-clause-performed
returns-in-Migrate-clause-performed g c = λ layout_of is.
    by_command layout_of _ _ _ _ c.in-Migrate.is c.migrate_reply.ensures.performed

pub returns-in-Share-clause-performed : goal.returns-in-Share-clause-performed
returns-in-Share-clause-performed g c = λ layout_of is.
    by_command layout_of _ _ _ _ c.in-Share.is (c.share_reply.ensures.performed layout_of is)

pub returns-in-Debug-clause-performed : goal.returns-in-Debug-clause-performed
returns-in-Debug-clause-performed g c = λ layout_of is.
    by_command layout_of _ _ _ _ c.in-Debug.is (c.debug_reply.ensures.performed layout_of is)

pub returns-in-Join-clause-performed : goal.returns-in-Join-clause-performed
returns-in-Join-clause-performed g c = λ layout_of is.
    let told : Told = g.S.Shelf.told c.args.shelf.now in
    let before : Counts = g.S.Shelf.counts c.args.shelf.now in
    let after : Counts = g.S.Shelf.counts c.join_reply.new.shelf in
    by_command layout_of _ _ _ _ c.in-Join.is
    (subst (λ (names : List (Bor (List ℕ))). OnAnswer c.join_reply.result (Performed told (modules_protocol (texts names) []) before after))
    c.as_slice.ensures.value c.join_reply.ensures.performed)
