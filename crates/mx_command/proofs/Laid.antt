-- What follows a linked source, by the layout that a function of sources gives.
use Rattle.std.proofs.Common.{◌≡◌, sym, ap, ◌∙◌}
use Rattle.std.specs.Prelude.{is_some}
use Rattle.mx_source.specs.SourceValue.{SourceValue}
use Rattle.mx_link.specs.declared.Linked.{Linked}
use Rattle.mx_link.specs.Origins.{from_target}
use Rattle.mx_link.specs.Linked.{IsLinked}
use Rattle.mx_reorg.specs.Greedy.{IsGreedy}
use Rattle.mx_image.specs.Contents.{Contents}
use Rattle.cmd_options.specs.declared.Limits.{Limits}
use Rattle.cmd_options.specs.Options.{Files}
use Rattle.cmd_simulate.specs.Machines.{machine_protocol}
use Rattle.mx_isa.specs.Board.{board}
use Rattle.law_schedule.specs.Schedule.{IsScheduler}
use Rattle.law_schedule.proofs.Kept.{linked_sites, none_rejected}
use Rattle.cmd_list.specs.Listing.{listing_text, linked_parts, layout_listing}
use Rattle.cmd_list.proofs.Listed.{listing-linked}
use Rattle.cmd_source.specs.Protocols.{Layouts}
use Rattle.mx_command.specs.Protocols.{run_protocol, linked_contents}

module _ (layout_of : Layouts) (is : IsScheduler layout_of) (source : SourceValue) (l : Linked) (k : IsLinked IsGreedy from_target source board l) where
  pub run_linked :
      (files : Files) (limits : Limits) → machine_protocol files limits l.image.code.items l.image.user_data.items (is_some source.input)
      ≡ run_protocol files limits source (layout_of source)
  run_linked files limits =
      (λ i. machine_protocol files limits (k.code i) (k.user_data i) (is_some source.input))
      ∙ ap (run_protocol files limits source) (sym (linked_sites layout_of is from_target source l k))

  pub contents_linked :
      ◌≡◌ {A = Contents} (record {
        code = l.image.code.items;
        user_data = l.image.user_data.items;
        input = is_some source.input;
        links = l.links.items;
      }) (linked_contents source (layout_of source))
  contents_linked =
      (λ i. record { code = k.code i; user_data = k.user_data i; input = is_some source.input; links = k.links i })
      ∙ ap (linked_contents source) (sym (linked_sites layout_of is from_target source l k))

  pub listing_linked : listing_text source (linked_parts l) ≡ layout_listing source board (layout_of source)
  listing_linked =
      listing-linked IsGreedy source board l k (none_rejected from_target source board l k)
      ∙ ap (layout_listing source board) (sym (linked_sites layout_of is from_target source l k))
