use Rattle.cmd_answer.specs.Delivery.{HasStatus}
use Rattle.cmd_answer.proofs.Replies.{reply_fails}
use Rattle.cc_command.specs.Translated.{IsTranslated}
use Rattle.cc_command.proofs.top.asked_reply.Goals as goal

pub returns-in_err-texts-clause-status : goal.returns-in_err-texts-clause-status
returns-in_err-texts-clause-status g c =
    reply_fails c.from_residual.result c.in_err-texts.field-0.0 HasStatus HasStatus c.from_residual.ensures.1 c.in_err-texts.ensures.fault
    (λ answer holds. holds)

pub returns-in_err-texts-clause-translated : goal.returns-in_err-texts-clause-translated
returns-in_err-texts-clause-translated g c =
    reply_fails c.from_residual.result c.in_err-texts.field-0.0 IsTranslated IsTranslated c.from_residual.ensures.1 c.in_err-texts.ensures.untranslated
    (λ answer holds. holds)
