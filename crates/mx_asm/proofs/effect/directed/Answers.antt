use Rattle.std.proofs.Common.{◌≡◌, sym, subst}
use Rattle.std.proofs.lemmas.Result.{IfOk-weaker}
use Rattle.mx_asm.specs.Directives.{Data}
use Rattle.mx_asm.specs.Effects.{effect, EffectFits}
use Rattle.mx_asm.proofs.effect.directed.Goals as goal

pub returns-in_ok-word_values-in-Some-Word-clause-fits : goal.returns-in_ok-word_values-in-Some-Word-clause-fits
returns-in_ok-word_values-in-Some-Word-clause-fits c = λ count h.
    let fit = c.in_ok-word_values-in-Some-Word.ensures.fits count h in
    IfOk-weaker c.in_data.result (λ e. effect e ≡ Data c.in_ok-word_values-in-Some-Word.field-0.items) (λ e. EffectFits c.args.labels.now count (effect e))
    (λ e q. subst (EffectFits c.args.labels.now count) (sym q) fit) c.in_data.ensures.values
