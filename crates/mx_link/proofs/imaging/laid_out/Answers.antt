use Rattle.mx_link.proofs.imaging.laid_out.Goals as goal

pub returns-clause-laid : goal.returns-clause-laid
returns-clause-laid g c =
    let laid = c.in_ok-layout.ensures in record {
      plans = laid.plans;
      starts = laid.starts;
      layout = laid.layout;
      links_count = laid.links_count;
      links = laid.links;
      short = laid.short;
      fits = laid.fits;
      reach = laid.reach;
      room = c.requires;
    }
