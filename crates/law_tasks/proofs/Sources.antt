-- Two sources that were linked into one image.
use Rattle.std.proofs.Common.{◌≡◌, ℕ, ◌+◌, ◌≤◌, List, length, None, refl, sym, subst, arith}
use Rattle.std.proofs.lemmas.List.{length-map}
use Rattle.mx_isa.specs.declared.Place.{Place}
use Rattle.mx_source.specs.SourceValue.{SourceValue}
use Rattle.mx_blocks.specs.declared.Block.{Block}
use Rattle.mx_blocks.specs.declared.Plan.{Plan}
use Rattle.mx_squash.specs.Copies.{Site}
use Rattle.mx_link.specs.Words.{value_word}
use Rattle.mx_link.specs.Linked.{link_map}
use Rattle.law_link.specs.Runs.{Linking, IsLaid}
use Rattle.law_link.proofs.Lawful.{from_target_lawful}
use Rattle.mx_tasks.specs.Sharing.{shared}
use Rattle.mx_tasks.specs.Places.{lower, upper}
use Rattle.mx_tasks.specs.declared.sharing.Shared.{Shared}
use Rattle.mx_tasks.specs.Shared.{IsPlaced, IsShared}
use Rattle.mx_tasks.proofs.Sizes.{few_words}
use Rattle.law_tasks.specs.Meant.{AreShared, MeanTheirSources, shared_program}
use Rattle.law_tasks.specs.Sources.{linked_at, IsUnstuckAt, IsSharing, program_in}
use Rattle.law_tasks.proofs.Meant.{means}

-- two sources without input that are laid out at the two places, where the first has few statements and few data words
pub record AreLaid (first second : SourceValue) (lower_sites upper_sites : List Site) : Type 0 where
  pub first_laid : IsLaid first lower lower_sites
  pub second_laid : IsLaid second upper upper_sites
  pub first_input : first.input ≡ None
  pub second_input : second.input ≡ None
  pub few : length first.statements ≤ 10000
  pub few_data : length first.user_data ≤ 32512

module _ (first second : SourceValue) (lower_sites upper_sites : List Site) where
  abbrev pub one : Linking
  one = linked_at lower first lower_sites

  abbrev pub two : Linking
  two = linked_at upper second upper_sites

  pub are_shared : AreLaid first second lower_sites upper_sites → AreShared one two
  are_shared l = record {
    first_links = record { laid = l.first_laid; filled = from_target_lawful };
    second_links = record { laid = l.second_laid; filled = from_target_lawful };
    first_place = refl;
    second_place = refl;
    first_input = l.first_input;
    second_input = l.second_input;
    code_fits = (let w = few_words first lower lower_sites l.first_laid.layout in let n = l.few in omega (arith, w, n));
    data_fits = (let e = length-map first.user_data (value_word (link_map lower lower_sites)) in let n = l.few_data in omega (arith, e, n));
  }

-- what is placed is laid out, where there is room for three words a statement
placed_laid : (Proposes : Block → Plan → Type 0) (source : SourceValue) (place : Place) (proposals : List Plan) (p : IsPlaced Proposes source place proposals)
    → IsSharing source → place.code ≤ 34096 → IsLaid source place p.sites
placed_laid Proposes source place proposals p s short = record {
  well_formed = s.is_source;
  registers = s.registers;
  room = (let n = s.few in omega (arith, n, short));
  layout = p.layout;
  reach = p.reach;
}

module _ (Proposes : Block → Plan → Type 0) (first second : SourceValue) (s : Shared)
    (is : IsShared Proposes first second s) (requests : List ℕ) (budget : ℕ) where
  laid : IsSharing first → IsSharing second → length first.user_data ≤ 32512 → AreLaid first second is.at_lower.sites is.at_upper.sites
  laid f g few_data = record {
    first_laid = placed_laid Proposes first lower s.first_proposals.items is.at_lower f (omega arith);
    second_laid = placed_laid Proposes second upper s.second_proposals.items is.at_upper g (omega arith);
    first_input = f.no_input;
    second_input = g.no_input;
    few = f.few;
    few_data = few_data;
  }

  abbrev l : Linking
  l = one first second is.at_lower.sites is.at_upper.sites

  abbrev l' : Linking
  l' = two first second is.at_lower.sites is.at_upper.sites

  same : shared_program l l' ≡ program_in s
  same = λ k. shared (sym is.code k) (sym is.user_data k)

  pub sources_mean : IsSharing first → IsSharing second → length first.user_data ≤ 32512 → IsUnstuckAt lower first (budget + 64)
      → IsUnstuckAt upper second (budget + 64)
      → MeanTheirSources (program_in s) l l' requests budget
  sources_mean f g few_data safe safe' =
      subst (λ q. MeanTheirSources q l l' requests budget) same
      (means l l' requests budget (are_shared first second is.at_lower.sites is.at_upper.sites (laid f g few_data)) safe safe')
