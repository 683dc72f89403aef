use Rattle.std.proofs.Common.{◌≡◌, ◌+◌, ◌++◌, [], drop, ap, sym, ◌∙◌, append_assoc, append-nil, arith}
use Rattle.cmd_debug.specs.Texts.{stops_text}
use Rattle.cmd_debug.proofs.Lines.{next_stop, no_stop}
use Rattle.cmd_debug.proofs.texts.push_stops.Goals as goal

pub loop-index-preserved : goal.loop-index-preserved
loop-index-preserved c =
    let i = c.loop-index.index in
    let stops = c.args.stops.now in
    let watch = c.args.watch in
    let text = c.loop-index.text.items in
    let rest = stops_text watch (i + 1 + 1) (drop (i + 1) stops) in
    ap (λ t. t ++ rest) c.in_ok-push_stop.ensures
    ∙ append_assoc text _ rest
    ∙ ap (λ r. text ++ r) (sym (next_stop watch i stops _ c.loop-index-test.true))
    ∙ c.loop-index.invariant

pub returns : goal.returns
returns c =
    let text = c.loop-index.text.items in
    let none : stops_text c.args.watch (c.loop-index.index + 1) (drop c.loop-index.index c.args.stops.now) ≡ [] =
    no_stop c.args.watch (c.loop-index.index + 1) c.loop-index.index c.args.stops.now (omega arith) in
    sym (append-nil text) ∙ ap (λ r. text ++ r) (sym none) ∙ c.loop-index.invariant
