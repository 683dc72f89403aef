use Rattle.std.specs.Prelude.{slice_index}
use Rattle.lab_words.specs.Naming.{aim_of}
use Rattle.lab_words.proofs.Firsts.{aims_in}
use Rattle.lab_words.proofs.names.PlaceNames.new.Goals as goal

pub returns-clause-aims : goal.returns-clause-aims
returns-clause-aims c index =
    aims_in (aim_of (slice_index c.args.links.now)) c.in_ok-names-2.field-0.items c.statements.result.now c.args.source.now.statements index
    c.in_ok-names-2.ensures c.statements.ensures.value
