use Rattle.std.proofs.Common.{◌≡◌, ◌+◌, map, drop, sym, ◌∙◌, subst, arith}
use Rattle.std.proofs.lemmas.List.Elements.{All-push, All-same}
use Rattle.mx_source.specs.Labels.{IsPlace}
use Rattle.mx_source.specs.Statements.{ValueFits}
use Rattle.mx_asm.specs.Directives.{values_of}
use Rattle.mx_lines.specs.Shapes.{word}
use Rattle.mx_asm.proofs.Fronts.{prepend, values_step}
use Rattle.mx_asm.proofs.effect.values_of.Goals as goal

pub loop-word-preserved : goal.loop-word-preserved
loop-word-preserved c = record {
  read =
      subst (λ vs. prepend vs (values_of c.args.labels.now (map word (drop (c.loop-word.word-index + 1) c.args.words.now))) ≡ values_of c.args.labels.now
      (map word c.args.words.now))
      (sym c.in_ok-push.ensures.items)
      (sym (values_step c.args.labels.now c.args.words.now c.loop-word.word-index _ c.loop-word.values.items c.in_ok-value.value (omega arith)
      (sym c.in_ok-value.ensures.value))
      ∙ c.loop-word.invariant.read);
  fits = λ count h.
      All-same (ValueFits (IsPlace c.args.labels.now count)) _ _ c.in_ok-push.ensures.items
      (All-push (ValueFits (IsPlace c.args.labels.now count)) c.loop-word.values.items c.in_ok-value.value (c.loop-word.invariant.fits count h)
      (c.in_ok-value.ensures.fits count h));
}
