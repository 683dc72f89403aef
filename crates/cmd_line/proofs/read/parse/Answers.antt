use Rattle.std.proofs.Common.{◌≡◌, true, ◌∙◌, ap, sym, subst, map, string_bytes, List, inl, inr}
use denote.Enum.Bare.{sameb}
use Rattle.clap.specs.contracts.error.kind.ErrorKind.{the_type}
use Rattle.clap.specs.declared.error.kind.ErrorKind.TheVariants.{OutOfMemory}
use Rattle.clap.specs.Words.{Text, app_of, fault_of, matches_of, is_simple, is_simple_and_free, kind_of, IsAmong, Kinds}
use Rattle.cmd_line.specs.Command.{command_for, texts}
use Rattle.cmd_line.proofs.Simple.{simple, simple_and_free}
use Rattle.cmd_line.proofs.read.parse.Goals as goal

pub returns-in-Ok-try_get_matches_from : goal.returns-in-Ok-try_get_matches_from
returns-in-Ok-try_get_matches_from c =
    let words : List Text = map string_bytes c.args.words.now in
    let options : List Text = texts c.args.options.now in
    let app_is : app_of c.in-Ok.command ≡ command_for options = c.in-Ok.ensures in
    let rows = (c.in-Ok-try_get_matches_from.ensures.matches (ap is_simple app_is ∙ simple options)).0 in (
      ap (λ a. fault_of a words) (sym app_is) ∙ c.in-Ok-try_get_matches_from.ensures.kinds (ap is_simple_and_free app_is ∙ simple_and_free options),
      rows ∙ ap (λ a. matches_of a words) app_is,
    )

pub returns : goal.returns
returns c =
    let words : List Text = map string_bytes c.args.words.now in
    let options : List Text = texts c.args.options.now in
    let app_is : app_of c.in-Ok.command ≡ command_for options = c.in-Ok.ensures in
    λ none. elim (c.in-Err.ensures.kinds (ap is_simple_and_free app_is ∙ simple_and_free options)) [
      | inl memory ↦
          let same : c.eq.result ≡ true = c.eq.ensures ∙ ap (λ k. sameb the_type k OutOfMemory) (c.kind.ensures ∙ memory) in
          absurd (cc)
      | inr among ↦ subst (λ (kinds : Kinds). IsAmong (kind_of c.in-Err.error) kinds) (ap (λ a. fault_of a words) app_is ∙ none) among
    ]
