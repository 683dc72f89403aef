use Rattle.std.proofs.Common.{◌≡◌, ◌+◌, ◌++◌, [], ◌∷◌, length, drop, subst, sym, ap, ◌∙◌, length-append, arith}
use Rattle.cmd_line.specs.Command.{texts}
use Rattle.cmd_answer.specs.Protocol.{Performed}
use Rattle.cmd_answer.proofs.Replies.{step_fails}
use Rattle.mx_command.specs.Protocols.{modules_protocol}
use Rattle.mx_command.proofs.Modules.{Continues, next_is_read, next_fails}
use Rattle.mx_command.proofs.join.read_modules.Goals as goal

pub loop-name-preserved : goal.loop-name-preserved
loop-name-preserved g c =
    let v = c.loop-name.invariant in
    let found = c.loop-name.joiner in
    let text = c.in_ok-text.text.items in
    let more : c.add.new.self ≡ found ++ text ∷ [] = c.in_ok-add.ensures.added ∙ ap (λ t. found ++ t ∷ []) c.as_slice.ensures.value in
    let goes = next_is_read _ _ c.args.names.now c.loop-name.name-index _ found _ _ _ _ c.loop-name-test.true v.behind v.stays v.goes text
    c.in_ok-text.ensures.given in
    let number = v.number in
    let behind = v.behind in
    let count = ap length more ∙ length-append found (text ∷ []) in
    record {
      number = omega (arith, number);
      behind = omega (arith, behind, count);
      goes = subst (λ f. Continues (g.S.Shelf.told c.args.shelf.now) (texts c.args.names.now) (texts (drop (c.loop-name.name-index + 1) c.args.names.now)) f
          (g.S.Shelf.counts c.args.shelf.now) (g.S.Shelf.counts c.read_named.new.shelf)) (sym more) goes;
      stays = c.in_ok-text.ensures.told_stays ∙ v.stays;
      writes = c.in_ok-text.ensures.writes_stay ∙ v.writes;
    }

pub returns-in_err-text-clause-refused : goal.returns-in_err-text-clause-refused
returns-in_err-text-clause-refused g c =
    let v = c.loop-name.invariant in
    step_fails c.from_residual.result c.in_err-text.field-0.0 _
    (Performed (g.S.Shelf.told c.args.shelf.now) (modules_protocol (texts c.args.names.now) []) (g.S.Shelf.counts c.args.shelf.now)
    (g.S.Shelf.counts c.read_named.new.shelf)) c.from_residual.ensures.1 c.in_err-text.ensures.refused
    (next_fails _ _ c.args.names.now c.loop-name.name-index _ c.loop-name.joiner _ _ _ _ c.loop-name-test.true v.behind v.stays v.goes)
