-- A source that is laid out at a place is laid out.
use Rattle.mx_isa.specs.declared.Place.{Place}
use Rattle.mx_source.specs.SourceValue.{SourceValue}
use Rattle.mx_layout.specs.declared.Layout.{Layout}
use Rattle.mx_link.specs.Parts.{IsLaidOut}
use Rattle.mx_link.specs.Laid.{IsLaidAt}

pub laid_out_at : (source : SourceValue) (place : Place) (l : Layout) → IsLaidAt source place l → IsLaidOut source l
laid_out_at source place l h = record {
  place = place;
  plans = h.plans;
  starts = h.starts;
  layout = h.layout;
  links_count = h.links_count;
  links = h.links;
  short = h.short;
  reach = h.reach;
  room = h.room;
}
