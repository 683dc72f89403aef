use Rattle.std.proofs.Common.{sym, ap, ◌∙◌}
use Rattle.std.specs.Prelude.{option_map}
use Rattle.std.proofs.lemmas.Result.{on_ok_weaker}
use Rattle.cc_emit.specs.Routines.{rows_seen}
use Rattle.cc_emit.proofs.Adding.{adds_rows, adds_shifts}
use Rattle.cc_emit.proofs.routines.put_routine.Goals as goal

pub returns-in-Some-clause-lines : goal.returns-in-Some-clause-lines
returns-in-Some-clause-lines c =
    on_ok_weaker c.put_rows.result (λ h. adds_rows c.args.out.now.lines.items c.put_rows.new.out.lines.items c.in-Some.rows.now c.args.which
    (ap (λ o. option_map (λ rows. rows_seen rows.now) o) (sym c.in-Some.is) ∙ c.rows_of.ensures) h) c.put_rows.ensures.lines

pub returns-in-None-clause-lines : goal.returns-in-None-clause-lines
returns-in-None-clause-lines c =
    on_ok_weaker c.put_shift.result (λ h. adds_shifts c.args.out.now.lines.items c.put_shift.new.out.lines.items c.args.which
    (ap (λ o. option_map (λ rows. rows_seen rows.now) o) (sym c.in-None.is) ∙ c.rows_of.ensures) h) c.put_shift.ensures.lines
