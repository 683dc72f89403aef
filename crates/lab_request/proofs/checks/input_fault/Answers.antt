use Rattle.std.proofs.Common.{◌∙◌, ap, map, sym}
use Rattle.serde_json.specs.View.{view}
use Rattle.serde_json.proofs.Views.{view-Array}
use Rattle.lab_request.specs.Fields.{list_fault, input_fault}
use Rattle.lab_request.proofs.Views.{listed_items}
use Rattle.lab_request.proofs.checks.input_fault.Goals as goal

pub returns-in-Array : goal.returns-in-Array
returns-in-Array c =
    c.list_fault.ensures ∙ ap (λ vs. list_fault (map view vs)) c.as_slice.ensures.value
    ∙ ap list_fault (sym (listed_items (map view c.in-Array.items.items)))
    ∙ ap input_fault (sym (view-Array c.in-Array.items)) ∙ ap (λ v. input_fault (view v)) (sym c.in-Array.is)
