-- `join` of modules without faults, and what it promises.
use Rattle.std.specs.Prelude.{◌≡◌, ◌++◌, ℕ, ◌+◌, ◌≤◌, List, [], ◌∷◌, length, All, Option, Some, None}
use Rattle.mx_isa.specs.declared.board.TheConstants.{DATA_BASE}
use Rattle.mx_isa.specs.declared.Place.{Place}
use Rattle.mx_source.specs.declared.Label.{Label}
use Rattle.mx_source.specs.Printed.{printed}
use Rattle.mx_source.specs.Meaning.{meaning}
use Rattle.cmd_answer.specs.declared.FileKind.TheVariants.{Module}
use Rattle.cmd_answer.specs.declared.Status.{Status}
use Rattle.cmd_answer.specs.declared.Status.TheVariants.{Done}
use Rattle.mx_asm.specs.Texts.{source_of}
use Rattle.mx_asm.specs.Printable.{ReadsBack}
use Rattle.mx_module.specs.Joined.{joined, join_fault}
use Rattle.cmd_table.specs.Commands.{Command, Join}
use Rattle.mx_command.specs.Accepted.{Held, Holds}

-- each name holds its text, the first of them as the module of this number
abbrev pub HoldModules : Held → ℕ → List (List ℕ) → List (List ℕ) → Type 0
HoldModules held number [] [] = Unit {0}
HoldModules held number (name ∷ names) (text ∷ texts) = Holds held (Module number) name text × HoldModules held (number + 1) names texts
HoldModules held number _ _ = ⊥

-- `join` is asked for, of texts without faults
pub record AcceptedModules (asked : Option Command) (held : Held) : Type 0 where
  pub names : List (List ℕ)
  pub asks : asked ≡ Some (Join names)
  pub texts : List (List ℕ)
  pub are_texts : HoldModules held 1 names texts
  pub faultless : join_fault texts ≡ None

module _ (asked : Option Command) (held : Held) (a : AcceptedModules asked held) where
  -- where the labels of the program have names of at most 200 bytes
  abbrev pub WhereShort : Type 0 → Type 0
  WhereShort promise = All (λ (p : List ℕ × Label). length p.0 ≤ 200) (joined a.texts).labels → promise

  pub record JoinHeadline (result : Status) (before after : List ℕ) : Type 0 where
    -- it prints the canonical text of the source that the texts join as
    pub status : result ≡ Done
    pub output : after ≡ before ++ (printed (joined a.texts))
    -- that text has no fault, and reads as the same program
    pub reads_back : WhereShort (ReadsBack (joined a.texts))
    -- so it means what the modules mean together, at any place, with any input and after any number of steps
    pub means : WhereShort ((place : Place) (bytes : List ℕ) (n : ℕ)
        → meaning (source_of DATA_BASE (printed (joined a.texts))) place bytes n ≡ meaning (joined a.texts) place bytes n)
