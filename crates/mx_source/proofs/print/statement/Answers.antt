use Rattle.std.proofs.Common.{[], ◌∷◌, ◌++◌, sym, ap, ◌∙◌, codes}
use Rattle.mx_source.specs.Printed.{register, spelled, statement_text, condition_text}
use Rattle.mx_source.specs.Operands.{operand_text}
use Rattle.std.proofs.lemmas.Result.{on_ok_weaker}
use Rattle.mx_source.proofs.print.statement.Goals as goal

pub returns-in-LaCode : goal.returns-in-LaCode
returns-in-LaCode c = on_ok_weaker c.two.result (λ h labels groups. h
    ∙ (ap (λ t. c.args.text.now ++ spelled (codes "la") (t ∷ register c.in-LaCode.dest ∷ [])) (c.name.ensures labels groups)
    ∙ ap (λ s. c.args.text.now ++ statement_text labels s) (sym c.in-LaCode.is))) c.two.ensures

pub returns-in-Branch : goal.returns-in-Branch
returns-in-Branch c = on_ok_weaker c.three.result (λ h labels groups. h
    ∙ (ap (λ m. c.args.text.now ++ spelled m (register c.in-Branch.a ∷ register c.in-Branch.b ∷ operand_text c.name-in-Branch.result ∷ [])) c.mnemonic.ensures
    ∙ (ap (λ t. c.args.text.now ++ spelled (condition_text c.in-Branch.cond) (register c.in-Branch.a ∷ register c.in-Branch.b ∷ t ∷ []))
    (c.name-in-Branch.ensures labels groups)
    ∙ ap (λ s. c.args.text.now ++ statement_text labels s) (sym c.in-Branch.is)))) c.three.ensures

pub returns-in-Call : goal.returns-in-Call
returns-in-Call c = on_ok_weaker c.two-in-Call.result (λ h labels groups. h
    ∙ (ap (λ t. c.args.text.now ++ spelled (codes "call") (t ∷ register c.in-Call.dest ∷ [])) (c.name-in-Call.ensures labels groups)
    ∙ ap (λ s. c.args.text.now ++ statement_text labels s) (sym c.in-Call.is))) c.two-in-Call.ensures
