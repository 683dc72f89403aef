use Rattle.std.proofs.Common.{◌∙◌, length, ap, arith}
use Rattle.mx_tasks.specs.Images.{shared_code, shared_data}
use Rattle.mx_tasks.proofs.Sizes.{few_words}
use Rattle.mx_tasks.proofs.sharing.share.Goals as goal

pub image_of-requires-clause-first_code : goal.image_of-requires-clause-first_code
image_of-requires-clause-first_code g c =
    let linked = c.in-Ok.ensures.linked in
    let words = few_words c.args.first.now _ linked.sites linked.layout in
    let few = c.requires.first_few in
    omega (arith, words, few, ap length linked.code)

pub image_of-requires-clause-second_code : goal.image_of-requires-clause-second_code
image_of-requires-clause-second_code g c =
    let linked = c.in-Ok-link.ensures.linked in
    let words = few_words c.args.second.now _ linked.sites linked.layout in
    let few = c.requires.second_few in
    omega (arith, words, few, ap length linked.code)

-- of a place its code address alone counts
pub returns-clause-shared : goal.returns-clause-shared
returns-clause-shared g c =
    let first = c.in-Ok.ensures.linked in
    let second = c.in-Ok-link.ensures.linked in
    record {
      at_lower = record {
        sites = first.sites;
        layout = record { blocks = first.layout.blocks; stand = first.layout.stand; plans = first.layout.plans };
        rejected = _;
        kept = first.kept;
        reach = first.reach;
      };
      at_upper = record {
        sites = second.sites;
        layout = record { blocks = second.layout.blocks; stand = second.layout.stand; plans = second.layout.plans };
        rejected = _;
        kept = second.kept;
        reach = second.reach;
      };
      first_links = first.links;
      second_links = second.links;
      code = c.in-Ok-image_of.ensures.code ∙ (λ k. shared_code (first.code k) (second.code k));
      user_data = c.in-Ok-image_of.ensures.user_data ∙ (λ k. shared_data (first.user_data k) (second.user_data k));
    }
