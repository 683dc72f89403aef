use Rattle.std.proofs.Common.{◌≡◌, ◌+◌, ◌<◌, [], ◌∷◌, ◌++◌, length, drop, codes, Some, refl, sym, ap, ◌∙◌, arith}
use Rattle.std.specs.List.{slice_get}
use Rattle.std.proofs.lemmas.Option.{slice_get_read, slice_get-get_or}
use Rattle.std.proofs.lemmas.Result.{on_ok_weaker}
use Rattle.std.proofs.Math.ListN.{get_or}
use Rattle.mx_source.specs.declared.statement.Value.TheVariants.{Int}
use Rattle.mx_source.specs.Labels.{names_address}
use Rattle.mx_source.specs.Printed.{label_lines, spelled, value_text, words_text}
use Rattle.mx_source.proofs.Printing.{words_step, words_end}
use Rattle.mx_source.proofs.print.user_data.Goals as goal

pub loop-i-preserved : goal.loop-i-preserved
loop-i-preserved c = λ labels named groups.
    let i = c.loop-i.i in
    let words = c.args.words.now in
    let at = c.args.at.now in
    let v = get_or words i (Int 0) in
    let g = c.index-at-i.result in
    let here : slice_get words i ≡ Some v = slice_get-get_or words i (Int 0) c.loop-i-test.true in
    let short : i < length at = omega (arith, c.requires.groups, c.loop-i-test.true) in
    let place : slice_get at i ≡ Some g = slice_get_read at (length at) i g refl short c.index-at-i.is in
    let lines : c.lines.result.now ≡ label_lines (names_address (256 + i)) labels = c.lines.ensures ∙ (groups i g place).lines in
    let put : c.put.new.self ≡ c.loop-i.text ++ label_lines (names_address (256 + i)) labels = c.in_ok-put.ensures ∙ ap (λ t. c.loop-i.text ++ t) lines in
    let word = spelled (codes ".word") (value_text labels v ∷ []) in
    let stated : c.value.new.text ≡ (c.loop-i.text ++ label_lines (names_address (256 + i)) labels) ++ word =
    c.in_ok-value.ensures labels named ∙ ap (λ t. t ++ word) put in
    let all : c.put-in-loop-i.new.self ≡ ((c.loop-i.text ++ label_lines (names_address (256 + i)) labels) ++ word) ++ 10 ∷ [] =
    c.in_ok-put-2.ensures ∙ ap (λ t. t ++ 10 ∷ []) stated in
    ap (λ t. t ++ words_text labels (256 + (i + 1)) (drop (i + 1) words)) all
    ∙ (words_step labels words i v c.loop-i.text here ∙ c.loop-i.invariant labels named groups)

pub returns : goal.returns
returns c = on_ok_weaker c.put-2.result (λ h labels named groups.
    let n = length c.args.words.now in
    let at = c.args.at.now in
    let g = c.index-at-words.result in
    let short : n < length at = omega (arith, c.requires.groups) in
    let place = slice_get_read at (length at) n g refl short c.index-at-words.is in
    let same : c.loop-i.i ≡ n = omega (arith, c.loop-i-test.false, c.loop-i.auto.i-end) in
    h ∙ (ap (λ t. c.loop-i.text ++ t) (c.lines-2.ensures ∙ ((groups n g place).lines ∙ sym (words_end labels c.args.words.now c.loop-i.i same)))
    ∙ c.loop-i.invariant labels named groups)) c.put-2.ensures
