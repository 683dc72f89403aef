use Rattle.lab_sources.proofs.Faulty.{faulty}
use Rattle.lab_sources.proofs.stimulus_files.parse_requests.Goals as goal

pub returns-in-Err-clause-refused : goal.returns-in-Err-clause-refused
returns-in-Err-clause-refused c =
    faulty c.args.name.now c.args.bytes.now c.in-Err.error c.cycles_failure.result c.in-Err.ensures.err c.cycles_failure.ensures
