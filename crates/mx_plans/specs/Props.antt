-- An equation between the words of two lines has one proof at most.
use Rattle.std.specs.Prelude.{List}
use Rattle.std.specs.Coded.{coded_list}
use base.Stored.{Coded-set}
use Rattle.mx_plans.specs.contracts.mark.Mark as mark
use Rattle.mx_plans.specs.declared.mark.Mark.{Mark}

pub marks_set : IsSet (List Mark)
marks_set = Coded-set (coded_list mark.the_row.coded)
