-- What each source that was read has, beyond what each source keeps to.
use Rattle.std.specs.Prelude.{◌≡◌, ℕ, ◌≤◌, false, true, List, length, All}
use Rattle.mx_source.specs.declared.statement.Label.{Label}
use Rattle.mx_source.specs.SourceValue.{SourceValue}
use Rattle.mx_asm.specs.Directives.{is_dotted}
use Rattle.mx_asm.specs.Printable.{is_name, NamesRegisters, IsWord}

-- registers are 0 to 31, data words below 2 ^ 32, and labels have names of the language, which are no directives
pub record IsSayable (s : SourceValue) : Type 0 where
  pub registers : All NamesRegisters s.statements
  pub words : All IsWord s.user_data
  pub names : All (λ (p : List ℕ × Label). (is_name p.0 ≡ true) × (is_dotted p.0 ≡ false)) s.labels

-- no label has a name of more than 200 bytes
abbrev pub HasShortNames : SourceValue → Type 0
HasShortNames s = All (λ (p : List ℕ × Label). length p.0 ≤ 200) s.labels
