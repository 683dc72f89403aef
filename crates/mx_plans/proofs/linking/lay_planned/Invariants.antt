use Rattle.mx_plans.specs.Files.{marks_of_lines}
use Rattle.mx_plans.specs.Says.{number_below, line_at}
use Rattle.mx_plans.proofs.linking.lay_planned.Given as goal

abbrev pub ghosts-lay_by : goal.ghosts-lay_by
ghosts-lay_by a = record { marks = λ block. line_at (marks_of_lines a.lines.now) (number_below a.firsts.now block.first) }
