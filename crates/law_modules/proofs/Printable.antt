-- The source that texts join as is printable.
use Rattle.std.proofs.Common.{◌≡◌, ℕ, ◌+◌, ◌≤◌, List, length, None, refl, arith}
use Rattle.std.specs.Prelude.{All}
use Rattle.mx_source.specs.declared.Label.{Label}
use Rattle.mx_source.specs.declared.Label.TheVariants as label
use Rattle.mx_asm.specs.Positions.{start}
use Rattle.mx_asm.specs.Texts.{values_in}
use Rattle.mx_asm.specs.Printable.{IsWithin, IsPrintable}
use Rattle.mx_module.specs.Modules.{ModuleValue, modules_of}
use Rattle.mx_module.specs.ModuleView.{IsProgram}
use Rattle.mx_module.specs.LinkFaults.{fault_in_modules}
use Rattle.mx_module.specs.Joined.{fault_in_lines, effects_in, labels_in, program, program_fault, joined, join_fault}
use Rattle.mx_module.proofs.Chained.{program_chained}
use Rattle.mx_module.proofs.Exported.{refusal_none}
use Rattle.mx_module.proofs.Renamed.{program_apart}
use Rattle.mx_module.proofs.Sounded.{program_sound}
use Rattle.law_modules.specs.JoinedTexts.{JoinedReadsBack}
use Rattle.law_modules.proofs.Named.{texts_named}
use Rattle.law_modules.proofs.Bounded.{IsUpTo, modules_up, texts_near}
use Rattle.law_modules.proofs.Worded.{modules_words}
use Rattle.law_modules.proofs.Registered.{modules_registers}
use Rattle.mx_asm.proofs.PrintedTexts.{printed_reads}

within_label : (count : ℕ) (l : Label) → IsUpTo (256 + count) l → IsWithin count l
within_label count (label.Code i) h = tt
within_label count (label.Data a) h = h

module _ (texts : List (List ℕ)) (few : length texts ≤ 16) (short : All (λ text. length text ≤ 4194304) texts) where
  abbrev ms : List ModuleValue
  ms = modules_of texts

  is_program : IsProgram ms
  is_program = record { texts = texts; same = refl; few = few; short = short }

  printable : program_fault ms ≡ None → All (λ (p : List ℕ × Label). length p.0 ≤ 200) (labels_in 0 ms) → IsPrintable (program ms)
  printable clear brief =
      let two = refusal_none (fault_in_modules ms 0 ms) (fault_in_lines ms 0 ms) clear in
      let chained = program_chained texts ms refl in
      let named = texts_named texts (start 256) 0 (omega (arith, few)) in
      let up = modules_up ms ms 0 chained two.1 in
      let near = texts_near texts (start 256) (omega arith) in
      record {
        source = program_sound ms is_program two.1 (program_apart ms is_program two.0);
        registers = modules_registers ms ms 0;
        words = modules_words ms ms 0 near near;
        names = λ k d lt. let n = named k d lt in record { spelled = n.spelled; undotted = n.undotted; short = brief k d lt };
        within = λ k d lt. within_label (length (values_in (effects_in ms 0 ms))) _ (up k d lt);
      }

pub joined_reads : JoinedReadsBack
unfolding joined join_fault
joined_reads texts h = printed_reads (joined texts) (printable texts h.few h.short h.faultless h.names)
