-- What is told of plans that break a rule of valid plans: a line each, and then one for each choice of copies that a rule forbids.
use Rattle.std.specs.Prelude.{◌≡◌, ℕ, suc, List, [], ◌∷◌, ◌++◌, codes, slice_index, Option, Some, None}
use Rattle.mx_source.specs.SourceValue.{SourceValue}
use Rattle.mx_blocks.specs.declared.Block.{Block}
use Rattle.mx_blocks.specs.declared.Plan.{Plan}
use Rattle.mx_plans.specs.declared.Rule.{Rule}
use Rattle.mx_plans.specs.declared.Rule.TheVariants.{Once, Terminator, Tail, Order, Delay, LastLoad, Room}
use Rattle.mx_plans.specs.Rules.{IsVerdict}
use Rattle.mx_plans.specs.Files.{LineSaid}
use Rattle.mx_squash.specs.Copies.{Site}
use Rattle.mx_layout.specs.Layout.{blocks_in}
use Rattle.mx_plans.specs.Copies.{copy_verdicts}
use Rattle.lab_plans.specs.Rejections.{rejected_line}
use Rattle.lab_plans.specs.Copies.{copy_lines}

-- the first rule that each plan of a block breaks, if it breaks one
abbrev pub AreVerdicts : List Block → List Plan → List (Option Rule) → Type 0
AreVerdicts [] [] [] = Unit {0}
AreVerdicts (block ∷ blocks) (plan ∷ plans) (verdict ∷ verdicts) = IsVerdict block plan verdict × AreVerdicts blocks plans verdicts
AreVerdicts _ _ _ = ⊥

-- the name of a rule, and what it asks for
abbrev pub rule_text : Rule → List ℕ
rule_text Once = codes "Once: each instruction occurs exactly once"
rule_text Terminator = codes "Terminator: the last instruction is /"
rule_text Tail = codes "Tail: two items follow the / of a transfer, none that of a halt"
rule_text Order = codes "Order: dependent instructions stay in source order"
rule_text Delay = codes "Delay: no load is directly followed by a reader of its register"
rule_text LastLoad = codes "LastLoad: the last item is no load"
rule_text Room = codes "Room: at most as many items come before the / as in the padded plan"

-- the line of a plan that is rejected
abbrev pub rejection_line : ℕ → ℕ → Rule → List ℕ
rejection_line number at rule = rejected_line number at (rule_text rule)

abbrev pub verdict_line : ℕ → ℕ → Option Rule → List ℕ
verdict_line number at None = []
verdict_line number at (Some rule) = rejection_line number at rule

-- the lines of the plans of these blocks, the first of which is of this number; statement i of the source stands on the line of index i
abbrev pub verdict_lines : List ℕ → ℕ → List Block → List (Option Rule) → List ℕ
verdict_lines lines number (block ∷ blocks) (verdict ∷ verdicts) =
    verdict_line number (slice_index lines block.first) verdict ++ verdict_lines lines (suc number) blocks verdicts
verdict_lines lines number _ _ = []

-- this is told of what is proposed for the sites of a source, and of the copies that the lines of a file choose for them
pub record AreTold (source : SourceValue) (sites : List Site) (plans : List Plan) (lines : List LineSaid) (text : List ℕ) : Type 0 where
  pub verdicts : List (Option Rule)
  pub judged : AreVerdicts (blocks_in sites) plans verdicts
  pub text_is : text ≡ verdict_lines source.lines 1 (blocks_in sites) verdicts
      ++ copy_lines source.lines 1 (blocks_in sites) (copy_verdicts sites sites lines)
