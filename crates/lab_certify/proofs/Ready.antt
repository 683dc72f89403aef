-- A source that is laid out on the board has blocks, each with a plan and an address.
use Rattle.mx_isa.specs.Board.{board}
use Rattle.mx_source.specs.SourceValue.{SourceValue}
use Rattle.mx_layout.specs.declared.Layout.{Layout}
use Rattle.mx_link.specs.Laid.{IsLaidAt}
use Rattle.mx_plans.specs.Ready.{IsReady}
use Rattle.mx_plans.proofs.Ready as on

pub ready : (source : SourceValue) (l : Layout) → IsLaidAt source board l → IsReady l
ready source l laid = on.ready source board l laid
