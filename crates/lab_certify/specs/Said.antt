-- What the line of a block says, as it is read.
use Rattle.lab_certify.specs.declared.reading.BlockLine.{BlockLine}
use Rattle.lab_certify.specs.Texts.{BlockSaid}

abbrev pub said_of : BlockLine → BlockSaid
said_of l = record { head = l.head; marks = l.plan.marks.items }
