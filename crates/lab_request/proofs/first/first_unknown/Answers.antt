use Rattle.std.proofs.Common.{◌∙◌, ap, map, sym, string_bytes}
use Rattle.lab_request.specs.Fields.{first_unknown}
use Rattle.lab_request.proofs.Views.{keys_of_members}
use Rattle.lab_request.proofs.first.first_unknown.Goals as goal

pub loop-key-init : goal.loop-key-init
loop-key-init c =
    ap (first_unknown c.args.fields.now) (keys_of_members c.args.members.now.entries
    ∙ ap (map string_bytes) (sym c.keys-key-items.ensures.rest ∙ sym c.into_iter-key-iterator.ensures.into_iter_gives))
