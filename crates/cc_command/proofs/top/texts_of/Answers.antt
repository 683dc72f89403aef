use Rattle.cmd_answer.specs.Delivery.{HasStatus}
use Rattle.cmd_answer.proofs.Replies.{step_fails}
use Rattle.cc_command.specs.Translated.{IsTranslated}
use Rattle.cc_command.proofs.Replies.{fault_has_status, fault_untranslated}
use Rattle.cc_command.proofs.top.texts_of.Goals as goal

pub returns-in_err-text-clause-fault : goal.returns-in_err-text-clause-fault
returns-in_err-text-clause-fault g c =
    step_fails c.from_residual.result c.in_err-text.field-0.0 _ HasStatus c.from_residual.ensures.1 c.in_err-text.ensures.fault
    (fault_has_status _ _ _ _ _)

pub returns-in_err-text-clause-untranslated : goal.returns-in_err-text-clause-untranslated
returns-in_err-text-clause-untranslated g c =
    step_fails c.from_residual.result c.in_err-text.field-0.0 _ IsTranslated c.from_residual.ensures.1 c.in_err-text.ensures.fault
    (fault_untranslated _ _ _ _ _)
