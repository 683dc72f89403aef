use Rattle.cmd_answer.specs.Delivery.{HasStatus}
use Rattle.cmd_answer.proofs.Replies.{replied_is}
use Rattle.cc_command.specs.Translated.{IsTranslated}
use Rattle.cc_command.proofs.top.reply_to.Goals as goal

pub returns-in-Some-clause-status : goal.returns-in-Some-clause-status
returns-in-Some-clause-status g c =
    replied_is c.asked_reply.result c.replied.result HasStatus c.replied.ensures c.asked_reply.ensures.status

pub returns-in-Some-clause-translated : goal.returns-in-Some-clause-translated
returns-in-Some-clause-translated g c =
    replied_is c.asked_reply.result c.replied.result IsTranslated c.replied.ensures c.asked_reply.ensures.translated
