-- The interrupt file is read first, and spells the requests; then the input is.
use Rattle.std.proofs.Common.{◌≡◌, ℕ, List, Ok, inl, inr, subst}
use Rattle.std.specs.Prelude.{option_map}
use Rattle.mx_io.specs.Shelves.{Told, Counts}
use Rattle.mx_board.specs.RequestFile.{requests_of}
use Rattle.lab_failure.specs.declared.failure.LabFile.TheVariants.{Input}
use Rattle.lab_failure.specs.declared.failure.LabFailure.{LabFailure}
use Rattle.lab_sources.specs.Stimuli.{IsReadIf, IsFaultyFile, IsNoStimulus}
use Rattle.lab_sources.proofs.Failures.{fails}
use Rattle.lab_sources.proofs.Faulty.{named}
use Rattle.lab_sources.proofs.stimulus_files.read_stimulus.Goals as goal

pub returns-clause-given : goal.returns-clause-given
returns-clause-given g c =
    let between : Counts = g.S.Shelf.counts c.read_if.new.shelf in
    let after : Counts = g.S.Shelf.counts c.read_if-2.new.shelf in
    record {
      between = between;
      read = c.in_ok-cycles.ensures.read;
      spelled = subst (λ (b : List ℕ). requests_of b ≡ Ok c.in_ok-requests.requests) c.as_slice.ensures.value c.in_ok-requests.ensures.spelled;
      input_read = subst (λ (t : Told). IsReadIf t Input (option_map (λ s. s.now) c.args.names.input) c.in_ok-input.input.items between after)
          c.in_ok-cycles.ensures.told_stays c.in_ok-input.ensures.read;
    }

pub returns-in_err-cycles-clause-refused : goal.returns-in_err-cycles-clause-refused
returns-in_err-cycles-clause-refused g c =
    let told : Told = g.S.Shelf.told c.args.shelf.now in
    let before : Counts = g.S.Shelf.counts c.args.shelf.now in
    let after : Counts = g.S.Shelf.counts c.read_if.new.shelf in
    let names = c.args.names in
    let refused : LabFailure → Type 0 = IsNoStimulus told (option_map (λ s. s.now) names.interrupts) (option_map (λ s. s.now) names.input) before after in
    fails c.from_residual.result c.in_err-cycles.field-0.0 refused c.from_residual.ensures.1 (inl c.in_err-cycles.ensures.unread)

pub returns-in_err-requests-clause-refused : goal.returns-in_err-requests-clause-refused
returns-in_err-requests-clause-refused g c =
    let told : Told = g.S.Shelf.told c.args.shelf.now in
    let before : Counts = g.S.Shelf.counts c.args.shelf.now in
    let after : Counts = g.S.Shelf.counts c.read_if.new.shelf in
    let names = c.args.names in
    let refused : LabFailure → Type 0 = IsNoStimulus told (option_map (λ s. s.now) names.interrupts) (option_map (λ s. s.now) names.input) before after in
    let failure = c.in_err-requests.field-0.0 in
    let name = c.unwrap_or.result in
    fails c.from_residual-in_err-requests.result failure refused c.from_residual-in_err-requests.ensures.1 (inr (inl (
      c.in_ok-cycles.cycles.items,
      name.now,
      named (λ s. s.now) names.interrupts _ name c.unwrap_or.ensures,
      c.in_ok-cycles.ensures.read,
      subst (λ (b : List ℕ). IsFaultyFile name.now b failure) c.as_slice.ensures.value c.in_err-requests.ensures.refused,
    )))

pub returns-in_err-input-clause-refused : goal.returns-in_err-input-clause-refused
returns-in_err-input-clause-refused g c =
    let told : Told = g.S.Shelf.told c.args.shelf.now in
    let before : Counts = g.S.Shelf.counts c.args.shelf.now in
    let after : Counts = g.S.Shelf.counts c.read_if-2.new.shelf in
    let names = c.args.names in
    let refused : LabFailure → Type 0 = IsNoStimulus told (option_map (λ s. s.now) names.interrupts) (option_map (λ s. s.now) names.input) before after in
    fails c.from_residual-in_err-input.result c.in_err-input.field-0.0 refused c.from_residual-in_err-input.ensures.1 (inr (inr (
      c.in_ok-cycles.cycles.items,
      c.in_ok-requests.requests,
      g.S.Shelf.counts c.read_if.new.shelf,
      c.in_ok-cycles.ensures.read,
      subst (λ (b : List ℕ). requests_of b ≡ Ok c.in_ok-requests.requests) c.as_slice.ensures.value c.in_ok-requests.ensures.spelled,
      c.in_err-input.ensures.unread,
    )))
