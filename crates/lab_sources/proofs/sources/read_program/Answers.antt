-- The bytes that were read are the text of the program.
use Rattle.std.proofs.Common.{ℕ, List, inl, inr, sym, ap, subst}
use Rattle.mx_io.specs.Shelves.{Told, Counts}
use Rattle.lab_failure.specs.Files.{IsReadAs}
use Rattle.lab_failure.specs.declared.failure.LabFailure.{LabFailure}
use Rattle.lab_failure.specs.declared.failure.LabFile.TheVariants as file
use Rattle.lab_sources.specs.Sources.{Spells, IsNoProgram}
use Rattle.lab_sources.proofs.Failures.{fails}
use Rattle.lab_sources.proofs.sources.read_program.Goals as goal

pub returns-clause-read : goal.returns-clause-read
returns-clause-read g c =
    let told : Told = g.S.Shelf.told c.args.shelf.now in
    let before : Counts = g.S.Shelf.counts c.args.shelf.now in
    let after : Counts = g.S.Shelf.counts c.read_lab_file.new.shelf in
    let p = c.in_ok-program.program in
    let same = sym (ap (λ v. v.items) c.in_ok-program.ensures.text.0) in
    record {
      read = subst (λ (t : List ℕ). IsReadAs told file.Source c.args.name.now t before after) same c.in_ok-text.ensures.read;
      spells = subst (λ (t : List ℕ). Spells t p.source) same c.in_ok-program.ensures.text.1;
    }

pub returns-in_err-text-clause-refused : goal.returns-in_err-text-clause-refused
returns-in_err-text-clause-refused g c =
    let told : Told = g.S.Shelf.told c.args.shelf.now in
    let before : Counts = g.S.Shelf.counts c.args.shelf.now in
    let after : Counts = g.S.Shelf.counts c.read_lab_file.new.shelf in
    let refused : LabFailure → Type 0 = IsNoProgram told c.args.name.now before after in
    fails c.from_residual.result c.in_err-text.field-0.0 refused c.from_residual.ensures.1 (inl c.in_err-text.ensures.unread)

pub returns-in_err-program-clause-refused : goal.returns-in_err-program-clause-refused
returns-in_err-program-clause-refused g c =
    let told : Told = g.S.Shelf.told c.args.shelf.now in
    let before : Counts = g.S.Shelf.counts c.args.shelf.now in
    let after : Counts = g.S.Shelf.counts c.read_lab_file.new.shelf in
    let refused : LabFailure → Type 0 = IsNoProgram told c.args.name.now before after in
    fails c.from_residual-in_err-program.result c.in_err-program.field-0.0 refused c.from_residual-in_err-program.ensures.1
    (inr (c.in_ok-text.text.items, c.in_ok-text.ensures.read, c.in_err-program.ensures.refused))
