-- The same program means the same.
use Rattle.std.proofs.Common.{◌≡◌, ℕ, List, [], Option, Some, None, refl, ap, ◌∙◌}
use Rattle.std.specs.Prelude.{is_some}
use Rattle.mx_source.specs.declared.Statement.{Statement}
use Rattle.mx_source.specs.declared.Value.{Value}
use Rattle.mx_source.specs.Meaning.{Run, given, start, run_for}
use Rattle.law_modules.specs.JoinedTexts.{SameMeaning}

given_same : (a b : Option ℕ) (bytes : List ℕ) → is_some a ≡ is_some b → given a bytes ≡ given b bytes
given_same None None bytes e = refl
given_same (Some i) (Some j) bytes e = refl
given_same None (Some j) bytes e = absurd (cc)
given_same (Some i) None bytes e = absurd (cc)

pub same_means : SameMeaning
same_means s t same place bytes n =
    let run : List Statement → List Value → Option (List ℕ) → Run = λ statements words input.
    run_for (record { statements = statements; place = place; input = input }) n
    (record { state = start (record s { user_data = words }) place; console = [] }) in
    ap (λ x. run x t.user_data (given t.input bytes)) same.statements
    ∙ ap (λ x. run s.statements x (given t.input bytes)) same.user_data
    ∙ ap (run s.statements s.user_data) (given_same t.input s.input bytes same.input)
