-- A result of linking is linked code of its source.
use Rattle.std.proofs.Common.{◌≡◌, ℕ, zero, suc, ◌+◌, ◌<◌, List, length, map, Some, refl, ap, ◌∙◌, arith}
use Rattle.std.specs.Prelude.{slice_get, slice_index_or}
use Rattle.std.specs.Option.{option_map}
use Rattle.std.proofs.lemmas.List.{length-map}
use Rattle.std.proofs.lemmas.Option.{slice_get-map}
use Rattle.mx_isa.specs.declared.inst.Inst.{Inst}
use Rattle.mx_code.specs.Codes.{word_of_row}
use Rattle.mx_code.specs.Decoding.{inst_of}
use Rattle.mx_delay.specs.Delay.{code_from, data_from}
use Rattle.mx_blocks.specs.declared.block.Block.{Block}
use Rattle.mx_blocks.specs.declared.block.Plan.{Plan}
use Rattle.mx_layout.specs.Layout.{link_of}
use Rattle.mx_link.specs.declared.linked.Linked.{Linked}
use Rattle.mx_link.specs.Linked.{map_from, link_map}
use Rattle.law_link.specs.Runs.{Linking, IsLinking}
use Rattle.law_link.specs.Results.{ResultsAreLinked, linking_of, insts_in, IsWord}
use Rattle.law_link.proofs.Imaged.{AllSpelled, piece, piece_spelled, pieces_spelled, spelled_at, code_there}
use Rattle.law_link.proofs.Layouts.{registers, facts, goes}
use Rattle.law_link.proofs.Shown.{known_of}

-- a list of links has the link of each index
pub link_at : (link : ℕ → ℕ) (i n j d : ℕ) → j < n → slice_index_or (map_from link i n) j d ≡ link (i + j)
link_at link i zero j d less = absurd (omega (arith, less))
link_at link i (suc n) zero d less = ap link (let e : i ≡ i + 0 = omega arith in e)
link_at link i (suc n) (suc j) d less = link_at link (suc i) n j d (omega (arith, less)) ∙ ap link (let e : suc i + j ≡ i + suc j = omega arith in e)

module _ (l : Linking) (is : IsLinking l) where
  spelled_all : AllSpelled (insts_in l)
  spelled_all =
      let known = known_of l is in
      let link = link_of l.place.code l.sites in
      pieces_spelled (piece l.source link l.filling l.sites) l.sites (λ k d low.
      let s = slice_index_or l.sites k d in
      let f = facts known k d low in
      piece_spelled l.source (registers known) link is.laid.well_formed l.filling l.sites s f.block f.valid (goes known s f))

  module _ (r : Linked) (words : r.image.code.items ≡ map word_of_row (insts_in l)) where
    word_there : (n : ℕ) (inst : Inst) → slice_get (insts_in l) n ≡ Some inst → IsWord l.place r n inst
    word_there n inst e =
        let s = spelled_at (insts_in l) n inst spelled_all e in
        record {
          word = word_of_row inst;
          there = ap (λ (x : List ℕ). slice_get x n) words ∙ slice_get-map word_of_row (insts_in l) n ∙ ap (option_map word_of_row) e;
          codes = record { fits = s.fits; registers = s.registers; word_is = refl };
          stands = ap (λ (x : List ℕ). code_from inst_of l.place.code x (l.place.code + n)) words ∙ code_there l.place.code (insts_in l) n inst s e;
        }

pub results : (Proposes : Block → Plan → Type 0) → ResultsAreLinked Proposes
results Proposes filling source place bytes r well_formed have_registers room filled k =
    let l = linking_of filling source place k.sites bytes in
    let is : IsLinking l = record {
      laid = record { well_formed = well_formed; registers = have_registers; room = room; layout = k.layout; reach = k.reach };
      filled = filled;
    } in record {
      linking = is;
      words = k.code;
      code = ap (code_from inst_of place.code) k.code;
      user_data = ap (data_from place.user_data) k.user_data;
      links = λ i low. ap (λ (x : List ℕ). slice_index_or x i 0) k.links
          ∙ link_at (link_map place k.sites) 0 (suc (length source.statements)) i 0 (omega arith)
          ∙ ap (link_map place k.sites) (let e : 0 + i ≡ i = omega arith in e);
      count = ap length k.code ∙ length-map (insts_in l) word_of_row;
      insts = word_there l is r k.code;
    }
