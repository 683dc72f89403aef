use Rattle.std.proofs.Common.{Some, None, length, refl, sym, ap, ◌∙◌, arith}
use Rattle.std.specs.Str.{bytes_eq}
use Rattle.lab_runs.specs.Sessions.{statement_at}
use Rattle.lab_runs.proofs.Labels.{named_here, named_later, none_named, found_is}
use Rattle.lab_runs.proofs.debugging.statement_named.Goals as goal

pub loop-i-init : goal.loop-i-init
loop-i-init c = refl

pub returns-then-eq-clause-statement : goal.returns-then-eq-clause-statement
returns-then-eq-clause-statement c =
    let wanted = c.as_bytes-wanted.result.now in
    c.statement_at.ensures
    ∙ (λ k. statement_at (length (c.statements-count.ensures.value k)) c.in-Some.label.now)
    ∙ found_is c.args.source.now c.args.name.now (Some c.in-Some.label.now) c.labels-labels.ensures.value c.as_bytes-wanted.ensures.value
    (c.loop-i.invariant ∙ named_here c.labels-labels.result.now.entries wanted c.loop-i.i c.in-Some.found.now c.in-Some.label.now c.in-Some.ensures.entry
    (ap (bytes_eq wanted) (sym c.bytes.ensures) ∙ sym c.eq.ensures ∙ c.if-eq.true))

pub loop-i-preserved : goal.loop-i-preserved
loop-i-preserved c =
    let wanted = c.as_bytes-wanted.result.now in
    c.loop-i.invariant
    ∙ named_later c.labels-labels.result.now.entries wanted c.loop-i.i c.in-Some.found.now c.in-Some.label.now c.in-Some.ensures.entry
    (ap (bytes_eq wanted) (sym c.bytes.ensures) ∙ sym c.eq.ensures ∙ c.if-eq.false)

pub returns-clause-statement : goal.returns-clause-statement
returns-clause-statement c =
    found_is c.args.source.now c.args.name.now None c.labels-labels.ensures.value c.as_bytes-wanted.ensures.value
    (c.loop-i.invariant ∙ none_named c.labels-labels.result.now.entries c.as_bytes-wanted.result.now c.loop-i.i
    (let last = c.len-i-end.ensures.len in let past = c.loop-i-test.false in omega (arith, last, past)))
