use Rattle.std.proofs.Common.{◌∙◌, Bool, sym, ap}
use Rattle.std.specs.List.{list_all}
use Rattle.std.proofs.lemmas.List.{at_drop_all}
use Rattle.std.proofs.lemmas.List.Folds.{list_all-map}
use Rattle.serde_json.specs.View.{view}
use Rattle.serde_json.specs.declared.value.Value.{Value}
use Rattle.lab_request.specs.Fields.{is_within}
use Rattle.lab_request.proofs.Steps.{all_broken}
use Rattle.lab_request.proofs.values.are_bytes.Goals as goal

pub returns-then-not-is_within : goal.returns-then-not-is_within
returns-then-not-is_within c =
    let p : Value → Bool = λ v. is_within 0 255 (view v) in
    sym (list_all-map (is_within 0 255) view c.args.items.now ∙ c.loop-item.invariant
    ∙ all_broken p c.args.items.now c.loop-item.item-index c.item-item.result c.loop-item-test.true
    (ap p (sym c.item-item.is) ∙ sym c.is_within.ensures ∙ c.if-not-is_within.true))

pub returns : goal.returns
returns c =
    let p : Value → Bool = λ v. is_within 0 255 (view v) in
    sym (list_all-map (is_within 0 255) view c.args.items.now ∙ c.loop-item.invariant
    ∙ at_drop_all (list_all p) c.args.items.now c.loop-item.item-index c.loop-item-test.false)
