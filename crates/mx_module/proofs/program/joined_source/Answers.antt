use Rattle.std.proofs.Common.{sym, ◌∙◌, subst}
use Rattle.mx_source.specs.Names.{named_labels}
use Rattle.mx_module.specs.LinkFaults.{fault_in_modules}
use Rattle.mx_module.specs.Joined.{AreApart}
use Rattle.mx_module.proofs.Chained.{many}
use Rattle.mx_module.proofs.Renamed.{program_apart}
use Rattle.mx_module.proofs.Sounded.{program_sound}
use Rattle.mx_module.proofs.Wholes.{sound_lists, joins_lists}
use Rattle.mx_module.proofs.program.joined_source.Goals as goal

pub fault_in_modules-requires : goal.fault_in_modules-requires
fault_in_modules-requires c = many c.args.modules.now c.requires

pub names_of-requires-clause-few : goal.names_of-requires-clause-few
names_of-requires-clause-few c = many c.args.modules.now c.requires

pub names_of-requires-clause-apart : goal.names_of-requires-clause-apart
names_of-requires-clause-apart c = program_apart c.args.modules.now c.requires (sym c.fault_in_modules.ensures ∙ c.in_default.is)

pub listed_source-requires : goal.listed_source-requires
listed_source-requires c = λ apart.
    sound_lists c.args.modules.now c.in_ok-listing.listing (named_labels c.in_ok-named.named.entries) c.in_ok-listing.ensures.read c.in_ok-named.ensures
    (program_sound c.args.modules.now c.requires c.in_ok-listing.ensures.read.faultless (subst AreApart c.in_ok-named.ensures apart))

pub returns-clause-source : goal.returns-clause-source
returns-clause-source c =
    joins_lists c.args.modules.now c.in_ok-listing.listing (named_labels c.in_ok-named.named.entries) c.listed_source.result c.in_ok-listing.ensures.read
    c.in_ok-named.ensures (sym c.fault_in_modules.ensures ∙ c.in_default.is)
    (program_apart c.args.modules.now c.requires (sym c.fault_in_modules.ensures ∙ c.in_default.is)) c.listed_source.ensures
