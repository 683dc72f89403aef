use Rattle.std.proofs.Common.{◌≡◌, ◌⊎◌, Option, Some, None, Result, Ok, Err, OnOk, IfSome, option_map, map, string_bytes, inl, subst, sym, ap, ◌∙◌}
use Rattle.mx_io.specs.declared.fault.Memory as io
use Rattle.mx_io.specs.Shelves.{Told, Counts}
use Rattle.cmd_answer.specs.declared.Reply.{Reply}
use Rattle.cmd_answer.specs.Protocol.{Performed}
use Rattle.cmd_answer.specs.Replies.{OnAnswer}
use Rattle.cmd_answer.proofs.Replies.{reply_weaker, replied_is}
use Rattle.cmd_table.specs.Seen.{seen_command, IsAllowed}
use Rattle.cmd_table.specs.Commands.{Command}
use Rattle.cmd_table.specs.Asked.{command_of}
use Rattle.law_schedule.proofs.Scheduler.{scheduler}
use Rattle.cmd_source.specs.Replied.{IsReplied}
use Rattle.mx_command.specs.Protocols.{protocol_of}
use Rattle.mx_command.specs.Within.{IsWithin}
use Rattle.mx_command.proofs.Own.{command_is_replied}
use Rattle.mx_command.proofs.Within.{within_of}
use Rattle.mx_command.proofs.reply.reply_to.Goals as goal

always : (r : Result Reply io.Memory) (P : Type 0) → P → OnOk r P
always (Ok reply) P holds = holds
always (Err fault) P holds = tt

pub returns-in-Some-clause-performed : goal.returns-in-Some-clause-performed
returns-in-Some-clause-performed g c = λ layout_of is.
    let told : Told = g.S.Shelf.told c.args.shelf.now in
    let before : Counts = g.S.Shelf.counts c.args.shelf.now in
    let after : Counts = g.S.Shelf.counts c.command_reply.new.shelf in
    let asked : Some (seen_command c.in-Some.asked) ≡ command_of (map string_bytes c.args.words.now) =
    sym (ap (option_map seen_command) c.in-Some.is) ∙ c.in_ok-asked.ensures.command in
    replied_is c.command_reply.result c.replied.result
    (Performed told (protocol_of layout_of (command_of (map string_bytes c.args.words.now))) before after) c.replied.ensures
    (subst (λ (a : Option Command). OnAnswer c.command_reply.result (Performed told (protocol_of layout_of a) before after)) asked
    (c.command_reply.ensures.performed layout_of is))

pub returns-in-Some-clause-replied : goal.returns-in-Some-clause-replied
returns-in-Some-clause-replied g c =
    let told : Told = g.S.Shelf.told c.args.shelf.now in
    let before : Counts = g.S.Shelf.counts c.args.shelf.now in
    let after : Counts = g.S.Shelf.counts c.command_reply.new.shelf in
    replied_is c.command_reply.result c.replied.result (λ answer. IsReplied answer ⊎ (command_of (map string_bytes c.args.words.now) ≡ None))
    c.replied.ensures
    (reply_weaker c.command_reply.result (Performed told (protocol_of scheduler.0 (Some (seen_command c.in-Some.asked))) before after)
    (λ answer. IsReplied answer ⊎ (command_of (map string_bytes c.args.words.now) ≡ None))
    (c.command_reply.ensures.performed scheduler.0 scheduler.1)
    (λ answer performed. inl (command_is_replied scheduler.0 told before after answer c.in-Some.asked performed)))

pub returns-in-Some-clause-within : goal.returns-in-Some-clause-within
returns-in-Some-clause-within g c =
    let asked : Some (seen_command c.in-Some.asked) ≡ command_of (map string_bytes c.args.words.now) =
    sym (ap (option_map seen_command) c.in-Some.is) ∙ c.in_ok-asked.ensures.command in
    always c.replied.result (IsWithin (command_of (map string_bytes c.args.words.now)))
    (subst IsWithin asked (within_of c.in-Some.asked (subst (λ r. IfSome r IsAllowed) c.in-Some.is c.in_ok-asked.ensures.allowed)))

pub returns-in_ok-reply-in-None-clause-within : goal.returns-in_ok-reply-in-None-clause-within
returns-in_ok-reply-in-None-clause-within g c =
    subst IsWithin (sym (ap (option_map seen_command) c.in-None.is) ∙ c.in_ok-asked.ensures.command) tt
