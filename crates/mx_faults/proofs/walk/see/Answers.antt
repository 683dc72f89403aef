use Rattle.std.proofs.Common.{◌≡◌, IfSome, map, length, ap, sym, ◌∙◌, subst}
use Rattle.mx_lines.specs.Shapes.{word}
use Rattle.mx_asm.specs.Positions.{behind, statement_words, label_here, define_front}
use Rattle.mx_asm.specs.Faults.{place_fault}
use Rattle.mx_faults.specs.Showing.{span_by}
use Rattle.mx_faults.specs.Walking.{kind_by}
use Rattle.mx_faults.proofs.Settled.{settled_by}
use Rattle.mx_faults.proofs.Tokens.{is_again}
use Rattle.mx_faults.proofs.walk.see.Goals as goal

pub place_fault-placed-requires : goal.place_fault-placed-requires
place_fault-placed-requires c =
    let p = c.args.position.now in
    c.after-next.ensures.position
    ∙ ap (behind p) (c.statement_words.ensures ∙ ap (λ ws. statement_words (map word ws)) (c.deref-2.ensures.value ∙ sym c.deref-3.ensures.value))

pub returns-clause-fault : goal.returns-clause-fault
returns-clause-fault c =
    let line = c.args.line.now in
    let p = c.args.position.now in
    let labels = c.args.labels.now in
    let low = c.args.bounds.now.data_start in
    let end = c.args.bounds.now.end in
    let earlier = c.args.earlier.now in
    let kept = ap (map word) c.deref.ensures.value ∙ c.in_ok-words.ensures in
    let kept' = ap (map word) c.deref-3.ensures.value ∙ c.in_ok-words.ensures in
    let again = is_again earlier _ (label_here p) _ _ c.in_ok-repeated.repeated c.in_ok-repeated.ensures.repeated c.label.ensures.label kept in
    let placed = c.place_fault-placed.ensures.fault ∙ ap (place_fault end p (length line)) kept' in
    settled_by labels low end p earlier line c.settled-fault.result c.in_ok-alone.alone c.place_fault-placed.result c.is_some.result c.settled-fault.ensures
    c.in_ok-alone.ensures (c.is_some.ensures ∙ again.1) placed

pub shown-requires : goal.shown-requires
shown-requires c = ap (map word) c.deref-4.ensures.value ∙ c.in_ok-words.ensures

pub returns-clause-span : goal.returns-clause-span
returns-clause-span c =
    let line = c.args.line.now in
    let labels = c.args.labels.now in
    let kept = ap (map word) c.deref.ensures.value ∙ c.in_ok-words.ensures in
    let again = is_again c.args.earlier.now _
    (label_here c.args.position.now) _ _ c.in_ok-repeated.repeated c.in_ok-repeated.ensures.repeated c.label.ensures.label kept in
    subst (λ r. IfSome c.settled-fault.result (λ f. c.in_ok-span.span ≡ span_by r (kind_by labels) line f)) again.0 c.in_ok-span.ensures

pub returns-clause-next : goal.returns-clause-next
returns-clause-next c =
    let p = c.args.position.now in
    c.after-next.ensures.position
    ∙ ap (behind p) (c.statement_words.ensures ∙ ap statement_words (ap (map word) c.deref-2.ensures.value ∙ c.in_ok-words.ensures))

pub returns-clause-earlier : goal.returns-clause-earlier
returns-clause-earlier c =
    let p = c.args.position.now in
    let earlier = c.args.earlier.now in
    let kept = ap (map word) c.deref.ensures.value ∙ c.in_ok-words.ensures in
    c.in_ok-repeated.ensures.labels ∙ ap (λ l. define_front earlier l (map word c.deref.result.now)) c.label.ensures.label
    ∙ ap (define_front earlier (label_here p)) kept
