-- The source and the lines are those of the named files.
use Rattle.std.proofs.Common.{List, subst}
use Rattle.mx_io.specs.Shelves.{Told, Counts}
use Rattle.mx_plans.specs.declared.PlanLine.{PlanLine}
use Rattle.mx_plans.specs.Files.{lines_said}
use Rattle.cmd_answer.specs.Replies.{reply_answer}
use Rattle.lab_sources.specs.PlanFiles.{ArePlansOf}
use Rattle.lab_sources.specs.Building.{IsBuilt}
use Rattle.lab_sources.proofs.building.build_reply.Goals as goal

pub returns : goal.returns
returns g c =
    let source = c.in_ok-source.source in
    let options = c.args.options.now in
    let lines = c.in_ok-lines.lines.items in
    let between : Counts = g.S.Shelf.counts c.read_source.new.shelf in
    let after : Counts = g.S.Shelf.counts c.plans_of.new.shelf in
    record {
      text = c.in_ok-source.ensures.read.0;
      source = source;
      lines = lines_said lines;
      between = between;
      read = c.in_ok-source.ensures.read.1;
      planned = subst (λ (t : Told). ArePlansOf t options.plans.now source between after (lines_said lines))
          c.in_ok-source.ensures.told_stays c.in_ok-lines.ensures.read;
      built = subst (λ (l : List PlanLine). IsBuilt source (lines_said l) options.image.now c.args.notes.now.items c.built_reply.new.notes.items
          (reply_answer c.in_ok-reply.reply)) c.as_slice.ensures.value c.in_ok-reply.ensures.built;
    }
