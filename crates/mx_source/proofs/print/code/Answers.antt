use Rattle.std.proofs.Common.{◌≡◌, ◌+◌, ◌<◌, [], ◌∷◌, ◌++◌, length, drop, Some, refl, sym, ap, ◌∙◌, arith}
use Rattle.std.specs.List.{slice_get}
use Rattle.std.proofs.lemmas.Option.{slice_get_read}
use Rattle.std.proofs.lemmas.Result.{on_ok_weaker}
use Rattle.mx_source.specs.Labels.{names_index}
use Rattle.mx_source.specs.Printed.{label_lines, statement_text, code_text}
use Rattle.mx_source.proofs.Printing.{code_step, code_end}
use Rattle.mx_source.proofs.print.code.Goals as goal

pub loop-i-preserved : goal.loop-i-preserved
loop-i-preserved c = λ labels groups.
    let i = c.loop-i.i in
    let statements = c.args.statements.now in
    let places = c.args.places.now in
    let s = c.index-statements-i.result in
    let g = c.index-places-i.result in
    let here : slice_get statements i ≡ Some s = slice_get_read statements (length statements) i s refl c.loop-i-test.true c.index-statements-i.is in
    let short : i < length places = omega (arith, c.requires.places, c.loop-i-test.true) in
    let place : slice_get places i ≡ Some g = slice_get_read places (length places) i g refl short c.index-places-i.is in
    let lines : c.lines.result.now ≡ label_lines (names_index i) labels = c.lines.ensures ∙ (groups i g place).lines in
    let put : c.put.new.self ≡ c.loop-i.text ++ label_lines (names_index i) labels = c.in_ok-put.ensures ∙ ap (λ t. c.loop-i.text ++ t) lines in
    let stated : c.statement.new.text ≡ (c.loop-i.text ++ label_lines (names_index i) labels) ++ statement_text labels s =
    c.in_ok-statement.ensures labels groups ∙ ap (λ t. t ++ statement_text labels s) put in
    let all : c.put-in-loop-i.new.self ≡ ((c.loop-i.text ++ label_lines (names_index i) labels) ++ statement_text labels s) ++ 10 ∷ [] =
    c.in_ok-put-2.ensures ∙ ap (λ t. t ++ 10 ∷ []) stated in
    ap (λ t. t ++ code_text labels (i + 1) (drop (i + 1) statements)) all
    ∙ (code_step labels statements i s c.loop-i.text here ∙ c.loop-i.invariant labels groups)

pub returns : goal.returns
returns c = on_ok_weaker c.put-2.result (λ h labels groups.
    let n = length c.args.statements.now in
    let places = c.args.places.now in
    let g = c.index-places-statements.result in
    let short : n < length places = omega (arith, c.requires.places) in
    let place = slice_get_read places (length places) n g refl short c.index-places-statements.is in
    let same : c.loop-i.i ≡ n = omega (arith, c.loop-i-test.false, c.loop-i.auto.i-end) in
    h ∙ (ap (λ t. c.loop-i.text ++ t) (c.lines-2.ensures ∙ ((groups n g place).lines ∙ sym (code_end labels c.args.statements.now c.loop-i.i same)))
    ∙ c.loop-i.invariant labels groups)) c.put-2.ensures
