use Rattle.mx_image.proofs.Answered.{file_spells, file_fits, file_back, plain_back}
use Rattle.mx_image.proofs.version_2.read_file.Goals as goal

pub returns-clause-links : goal.returns-clause-links
returns-clause-links c = file_fits c.args.bytes.now c.file_of.result c.file_of.ensures

pub returns-clause-spelled : goal.returns-clause-spelled
returns-clause-spelled c = file_spells c.args.bytes.now c.file_of.result (λ k. (c.type_inv.bytes k).fits) c.file_of.ensures

pub returns-clause-read_back : goal.returns-clause-read_back
returns-clause-read_back c = file_back c.args.bytes.now c.file_of.result c.file_of.ensures

pub returns-clause-plain_read_back : goal.returns-clause-plain_read_back
returns-clause-plain_read_back c = plain_back c.args.bytes.now c.file_of.result c.file_of.ensures
