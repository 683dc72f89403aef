use Rattle.mx_command.proofs.Premises.{reaches_is}
use Rattle.mx_command.proofs.accepting.is_linkable.Goals as goal

pub returns-in-Ok : goal.returns-in-Ok
returns-in-Ok c = λ _. let sites = reaches_is _ _ c.in-Ok.ensures.linked in (c.in-Ok.ensures.faultless, sites.0, sites.1, sites.2)
