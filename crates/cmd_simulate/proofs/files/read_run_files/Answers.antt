use Rattle.std.proofs.Common.{◌≡◌, ℕ, List, subst}
use Rattle.mx_io.specs.Shelves.{Told, Counts}
use Rattle.cmd_answer.specs.Protocol.{Protocol, Performed}
use Rattle.cmd_answer.proofs.Replies.{step_fails}
use Rattle.cmd_options.specs.Options.{seen_files}
use Rattle.cmd_simulate.specs.Machines.{input_protocol}
use Rattle.cmd_simulate.proofs.Readings.{FilesRefused, RequestsRefused, InputRefused}
use Rattle.cmd_simulate.proofs.files.read_run_files.Goals as goal

pub returns-in_err-requests-clause-refused : goal.returns-in_err-requests-clause-refused
returns-in_err-requests-clause-refused g c =
    let told : Told = g.S.Shelf.told c.args.shelf.now in
    let before : Counts = g.S.Shelf.counts c.args.shelf.now in
    let between : Counts = g.S.Shelf.counts c.read_requests.new.shelf in
    let files = seen_files c.args.files.now in
    step_fails c.from_residual.result c.in_err-requests.field-0.0 (RequestsRefused told files.interrupts before between)
    (FilesRefused told files before between) c.from_residual.ensures.1 c.in_err-requests.ensures.refused
    (λ answer refused next. refused (λ requests. input_protocol files.input (λ bytes. next requests bytes)))

pub returns-in_err-input-clause-refused : goal.returns-in_err-input-clause-refused
returns-in_err-input-clause-refused g c =
    let told : Told = g.S.Shelf.told c.args.shelf.now in
    let before : Counts = g.S.Shelf.counts c.args.shelf.now in
    let told_between : Told = g.S.Shelf.told c.read_requests.new.shelf in
    let between : Counts = g.S.Shelf.counts c.read_requests.new.shelf in
    let last : Counts = g.S.Shelf.counts c.read_input.new.shelf in
    let files = seen_files c.args.files.now in
    let requests = c.in_ok-requests.requests in
    let same : told_between ≡ told = c.in_ok-requests.ensures.told_stays in
    step_fails c.from_residual-in_err-input.result c.in_err-input.field-0.0 (InputRefused told_between files.input between last)
    (FilesRefused told files before last) c.from_residual-in_err-input.ensures.1 c.in_err-input.ensures.refused
    (λ answer refused next. c.in_ok-requests.ensures.given (λ requests. input_protocol files.input (λ bytes. next requests bytes)) last answer
    (subst (λ t. Performed t (input_protocol files.input (λ bytes. next requests bytes)) between last answer) same (refused (λ bytes. next requests bytes))))

pub returns-clause-given : goal.returns-clause-given
returns-clause-given g c = λ next after answer performed.
    let told : Told = g.S.Shelf.told c.args.shelf.now in
    let told_between : Told = g.S.Shelf.told c.read_requests.new.shelf in
    let between : Counts = g.S.Shelf.counts c.read_requests.new.shelf in
    let last : Counts = g.S.Shelf.counts c.read_input.new.shelf in
    let files = seen_files c.args.files.now in
    let requests = c.in_ok-requests.requests in
    let same : told_between ≡ told = c.in_ok-requests.ensures.told_stays in
    let rest : List ℕ → Protocol = λ bytes. next requests bytes in
    c.in_ok-requests.ensures.given (λ requests. input_protocol files.input (λ bytes. next requests bytes)) after answer
    (subst (λ t. Performed t (rest c.in_ok-input.input.items) last after answer → Performed t (input_protocol files.input rest) between after answer) same
    (c.in_ok-input.ensures.given rest after answer) performed)
