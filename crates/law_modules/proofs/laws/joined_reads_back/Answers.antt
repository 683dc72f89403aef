use Rattle.law_modules.proofs.Printable.{joined_reads}
use Rattle.law_modules.proofs.Meant.{same_means}
use Rattle.law_modules.proofs.laws.joined_reads_back.Goals as goal

pub returns-clause-reads_back : goal.returns-clause-reads_back
returns-clause-reads_back c = joined_reads

pub returns-clause-means : goal.returns-clause-means
returns-clause-means c = same_means
