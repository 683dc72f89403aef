use Rattle.std.proofs.Common.{ap, ◌∙◌}
use Rattle.mx_isa.specs.Board.{board}
use Rattle.mx_layout.specs.Overlong.{overlong}
use Rattle.mx_layout.proofs.Sited.{blocks_in-sites}
use Rattle.mx_link.specs.Parts.{sites_of}
use Rattle.lab_certify.proofs.Ready.{ready}
use Rattle.lab_certify.proofs.Listed.{greedy_plans}
use Rattle.lab_certify.proofs.printing.certify.Goals as goal

pub certificate_text-requires : goal.certificate_text-requires
certificate_text-requires c = ready c.args.source.now c.in_ok-layout.layout c.in_ok-layout.ensures.laid

pub returns-clause-certified : goal.returns-clause-certified
returns-clause-certified c =
    let l = c.in_ok-layout.layout in
    let laid = c.in_ok-layout.ensures.laid in record {
      sites = sites_of l;
      layout = laid.layout;
      reach =
          ap (overlong c.args.source.now board) (blocks_in-sites l.blocks.items l.plans.items l.starts.items laid.plans laid.starts)
          ∙ laid.fits;
      plans = greedy_plans l.rejected (sites_of l) l.proposals.items c.in_ok-layout.ensures.kept;
      is = c.in_ok-text.ensures;
    }
