use Rattle.std.proofs.Common.{◌≡◌, ℕ, List, Option, Result, Err, option_map, refl, inl, inr, subst, sym, ap, ◌∙◌}
use Rattle.std.specs.Borrow.{Bor}
use Rattle.mx_board.specs.declared.EventError.{EventError}
use Rattle.mx_board.specs.RequestFile.{requests_of}
use Rattle.cmd_answer.specs.declared.FileKind.TheVariants.{Interrupts}
use Rattle.cmd_answer.specs.declared.Status.TheVariants.{BadEvents}
use Rattle.cmd_answer.specs.Answer.{prints}
use Rattle.mx_io.specs.Shelves.{Told, Counts}
use Rattle.cmd_answer.specs.Protocol.{IsFault, Performed}
use Rattle.cmd_answer.proofs.Replies.{step_fails}
use Rattle.cmd_simulate.specs.Machines.{event_line, by_requests, requests_protocol}
use Rattle.cmd_simulate.proofs.Readings.{RequestsRefused}
use Rattle.cmd_simulate.proofs.files.read_requests.Goals as goal

pub returns-in_err-bytes-clause-refused : goal.returns-in_err-bytes-clause-refused
returns-in_err-bytes-clause-refused g c =
    let told : Told = g.S.Shelf.told c.args.shelf.now in
    let before : Counts = g.S.Shelf.counts c.args.shelf.now in
    let between : Counts = g.S.Shelf.counts c.read_file.new.shelf in
    step_fails c.from_residual.result c.in_err-bytes.field-0.0 (IsFault told Interrupts c.in-Some.name.now before between)
    (RequestsRefused told (option_map (λ s. s.now) c.args.name) before between) c.from_residual.ensures.1 c.in_err-bytes.ensures.fault
    (λ answer fault next. subst
    (λ (n : Option (Bor (List ℕ))). Performed told (requests_protocol (option_map (λ s. s.now) n) next) before between answer) (sym c.in-Some.is)
    (between, c.in_err-bytes.ensures.read, inl (refl, fault)))

pub returns-in_err-requests-clause-refused : goal.returns-in_err-requests-clause-refused
returns-in_err-requests-clause-refused g c =
    let told : Told = g.S.Shelf.told c.args.shelf.now in
    let before : Counts = g.S.Shelf.counts c.args.shelf.now in
    let between : Counts = g.S.Shelf.counts c.read_file.new.shelf in
    let bytes : List ℕ = c.in_ok-bytes.bytes.items in
    step_fails c.from_residual-in_err-requests.result c.in_err-requests.field-0.0
    (λ answer. (fault : EventError) × (requests_of c.as_slice.result.now ≡ Err fault) × (answer ≡ prints BadEvents (event_line fault)))
    (RequestsRefused told (option_map (λ s. s.now) c.args.name) before between)
    c.from_residual-in_err-requests.ensures.1 c.in_err-requests.ensures.refused
    (λ answer wrong next. subst
    (λ (n : Option (Bor (List ℕ))). Performed told (requests_protocol (option_map (λ s. s.now) n) next) before between answer) (sym c.in-Some.is) (
      between,
      c.in_ok-bytes.ensures.read,
      inr (
        bytes,
        c.in_ok-bytes.ensures.given,
        subst
            (λ (r : Result (List ℕ) EventError). Performed told (by_requests r next) between between answer)
            (sym (sym (ap requests_of c.as_slice.ensures.value) ∙ wrong.1)) (refl, wrong.2),
      ),
    ))
