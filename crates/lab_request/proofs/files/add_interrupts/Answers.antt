use Rattle.std.proofs.Common.{◌≡◌, ◌∙◌, List, ℕ, Option, Some, ap, map, sym, subst}
use Rattle.std.specs.Prelude.{OnOk}
use Rattle.std.specs.List.{flat_map}
use Rattle.mx_io.specs.MemoryShelf.{held_in}
use Rattle.serde_json.specs.View.{view}
use Rattle.lab_request.specs.Requests.{cycle_line, interrupts_file, interrupts_in, with_file}
use Rattle.lab_request.proofs.Views.{lines_in}
use Rattle.lab_request.proofs.files.add_interrupts.Goals as goal

pub returns-clause-held : goal.returns-clause-held
returns-clause-held c =
    let same : Some c.as_slice-2.result.now ≡ interrupts_in (view c.args.value.now) =
    ap (λ (x : List ℕ). Some x) (c.as_slice-2.ensures.value ∙ c.in-Ok.ensures ∙ ap (λ vs. flat_map cycle_line (map view vs)) c.as_slice.ensures.value)
    ∙ sym (lines_in c.in-Some.items.now.items _ c.in-Some.ensures) in
    subst (λ (o : Option (List ℕ)). OnOk c.add.result
    ((n : List ℕ) → held_in c.add.new.self n ≡ with_file interrupts_file o (held_in c.args.files.now) n))
    same c.add.ensures.ok
