use Rattle.mx_image.proofs.Answered.{image_spells, image_back}
use Rattle.mx_image.proofs.version_1.read_image.Goals as goal

pub returns-clause-spelled : goal.returns-clause-spelled
returns-clause-spelled c = image_spells c.args.bytes.now c.image_of.result (λ k. (c.type_inv.bytes k).fits) c.image_of.ensures

pub returns-clause-read_back : goal.returns-clause-read_back
returns-clause-read_back c = image_back c.args.bytes.now c.image_of.result c.image_of.ensures
