use Rattle.std.proofs.Common.{◌≡◌, ◌∙◌, List, ℕ, IfOk, ap, map, sym, subst}
use Rattle.serde_json.specs.View.{view}
use Rattle.serde_json.proofs.Views.{view-Array}
use Rattle.lab_request.specs.Requests.{byte_in, bytes_in}
use Rattle.lab_request.proofs.Views.{listed_items}
use Rattle.lab_request.proofs.files.bytes_in.Goals as goal

pub returns-in-Array : goal.returns-in-Array
returns-in-Array c =
    let same : map byte_in (map view c.as_slice.result.now) ≡ bytes_in (view c.args.value.now) =
    ap (λ vs. map byte_in (map view vs)) c.as_slice.ensures.value ∙ ap (map byte_in) (sym (listed_items (map view c.in-Array.items.items)))
    ∙ ap bytes_in (sym (view-Array c.in-Array.items)) ∙ ap (λ v. bytes_in (view v)) (sym c.in-Array.is) in
    subst (λ (xs : List ℕ). IfOk c.bytes_of.result (λ v. v.items ≡ xs)) same c.bytes_of.ensures
