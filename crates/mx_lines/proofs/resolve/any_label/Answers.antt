use Rattle.std.proofs.Common.{IfOk, sym, ap, ◌∙◌, subst}
use Rattle.std.specs.Prelude.{ok_or}
use Rattle.mx_lines.specs.declared.fault.Fault.TheVariants.{UndefinedLabel}
use Rattle.mx_lines.specs.Fitting.{NamedFits}
use Rattle.mx_lines.proofs.Fits.{any_fits}
use Rattle.mx_lines.proofs.resolve.any_label.Goals as goal

pub returns-clause-fits : goal.returns-clause-fits
returns-clause-fits c = λ count fits.
    subst (λ r. IfOk r (NamedFits c.args.labels.now count)) (sym (c.ok_or.ensures.value ∙ ap (λ o. ok_or o UndefinedLabel) c.find.ensures.value))
    (any_fits c.args.labels.now c.args.name.now count UndefinedLabel fits)
