use Rattle.std.proofs.Common.{◌≡◌, true, cond, length, take, ap, sym, ◌∙◌, arith}
use Rattle.std.specs.Prelude.{min}
use Rattle.std.proofs.lemmas.List.{take-replicate}
use Rattle.mx_asm.specs.Positions.{line_words}
use Rattle.mx_module.specs.Links.{is_bare_link, blanks}
use Rattle.mx_module.proofs.plain.plain_line.Goals as goal

pub returns-then-is_bare_link : goal.returns-then-is_bare_link
returns-then-is_bare_link c =
    let line = c.args.line.now in
    let bare : is_bare_link (line_words line) ≡ true = ap is_bare_link (sym c.requires.words) ∙ sym c.is_bare_link.ensures ∙ c.if-is_bare_link.true in
    ap (λ n. take n c.args.blanks.now) c.min.ensures ∙ ap (take (min (length line) 256)) c.requires.blank
    ∙ take-replicate (min (length line) 256) 256 32 (omega arith)
    ∙ sym (ap (λ b. cond b (blanks (length line)) line) bare)
