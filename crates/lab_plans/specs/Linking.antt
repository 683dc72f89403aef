-- A source that is linked by what the lines of a file propose and choose, and what is told of it.
use Rattle.std.specs.Prelude.{List}
use Rattle.mx_source.specs.SourceValue.{SourceValue}
use Rattle.mx_link.specs.Linked.{IsLinked}
use Rattle.mx_isa.specs.Board.{board}
use Rattle.mx_plans.specs.Files.{LineSaid, marks_of}
use Rattle.mx_plans.specs.Says.{IsProposed}
use Rattle.mx_plans.specs.Copies.{as_planned}
use Rattle.lab_plans.specs.declared.linking.LinkedTold.{LinkedTold}
use Rattle.lab_plans.specs.Verdicts.{AreTold}

-- what `link` gives for a proposer that proposes what the lines say, with the copies that they choose, and a line for each proposal that is
-- not valid and for each choice that a rule forbids
pub record IsLinkedTold (source : SourceValue) (lines : List LineSaid) (l : LinkedTold) : Type 0 where
  pub is : IsLinked (IsProposed source (marks_of lines)) (as_planned lines) source board l.linked
  pub told : AreTold source is.sites l.linked.proposals.items lines l.rejections.items
