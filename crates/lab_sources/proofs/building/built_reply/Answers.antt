use Rattle.std.proofs.Common.{◌≡◌, ◌++◌, ℕ, List, length, Result, Ok, Err, IfOk, OnOk, subst, sym}
use Rattle.mx_isa.specs.Board.{board}
use Rattle.mx_link.specs.Linked.{linked_code}
use Rattle.mx_image.specs.Contents.{LinksFit}
use Rattle.mx_plans.specs.Files.{lines_said, marks_of}
use Rattle.mx_plans.specs.Says.{IsProposed}
use Rattle.mx_plans.specs.Copies.{as_planned}
use Rattle.mx_image.specs.Files.{file_bytes}
use Rattle.cmd_answer.specs.declared.Reply.{Reply}
use Rattle.lab_failure.specs.declared.failure.LabFailure.{LabFailure}
use Rattle.cmd_answer.specs.Answer.{writes}
use Rattle.cmd_answer.specs.Replies.{reply_answer}
use Rattle.lab_sources.specs.Building.{contents_linked, IsBuilt}
use Rattle.lab_sources.proofs.Links.{links_fit}
use Rattle.lab_sources.proofs.TooFar.{too_far}
use Rattle.lab_sources.proofs.building.built_reply.Goals as goal

-- what is known of a reply, and what holds where there is one
both : (r : Result Reply LabFailure) (P Q : Reply → Type 0) (B : Type 0)
    → IfOk r P → OnOk r B → ((reply : Reply) → P reply → B → Q reply) → IfOk r Q
both (Ok reply) P Q B says holds also = also reply says holds
both (Err failure) P Q B says holds also = tt

pub written-requires : goal.written-requires
written-requires c =
    let source = c.args.source.now in
    let linked = c.in-Ok.told.linked in
    let k = c.in-Ok.ensures.told.is in
    subst (λ (code : List ℕ). LinksFit (length code) linked.links.items) (sym k.code)
    (subst (λ (links : List ℕ). LinksFit (length (linked_code (as_planned (lines_said c.args.lines.now)) source board k.sites)) links) (sym k.links)
    (links_fit (as_planned (lines_said c.args.lines.now)) source k.sites c.in-Ok.ensures.source))

pub returns-in-Ok-clause-built : goal.returns-in-Ok-clause-built
returns-in-Ok-clause-built c =
    let source = c.args.source.now in
    let lines = lines_said c.args.lines.now in
    let name = c.args.options.now.image.now in
    let before = c.args.notes.now.items in
    let after = c.written.new.notes.items in
    let told = c.in-Ok.told in
    both c.written.result (λ r. reply_answer r ≡ writes name (file_bytes (contents_linked source told.linked)))
    (λ r. IsBuilt source lines name before after (reply_answer r)) (after ≡ before ++ told.rejections.items) c.written.ensures.reply c.written.ensures.noted
    (λ r says noted. record { told = told; linked = c.in-Ok.ensures.told; writes = says; noted = noted })

pub returns-in-Err-clause-refused : goal.returns-in-Err-clause-refused
returns-in-Err-clause-refused c =
    too_far (IsProposed c.args.source.now (marks_of (lines_said c.args.lines.now))) c.args.options.now.source.now c.args.source.now
    c.in-Err.error c.unlinked.result c.in-Err.ensures.refused c.unlinked.ensures
