use Rattle.std.proofs.Common.{rules}
use Rattle.lab_certify.proofs.verifying.verify_laid.Goals as goal

pub returns-in-Ok-clause-verified : goal.returns-in-Ok-clause-verified
returns-in-Ok-clause-verified c = c.verify_on.ensures.verified c.args.text.now
    (record { digits_are = search rules; laid = c.requires.laid; kept = c.requires.kept })

pub returns-in-Ok-clause-refused : goal.returns-in-Ok-clause-refused
returns-in-Ok-clause-refused c = c.verify_on.ensures.refused c.args.text.now
    (record { digits_are = search rules; laid = c.requires.laid; kept = c.requires.kept })
