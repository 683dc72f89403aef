use Rattle.std.proofs.Common.{◌≡◌, ◌+◌, ◌<◌, ◌∙◌, ap, sym, map, take, [], ◌∷◌, List, ℕ, get_or, length, rules}
use Rattle.std.specs.Borrow.{Bor}
use Rattle.std.proofs.lemmas.List.{map_more, map-append}
use Rattle.clap.specs.Words.{rule_of, Text, with_rule}
use Rattle.clap.specs.Simple.{on_top}
use Rattle.cmd_line.specs.Command.{command_for, bare_command, names_rule, option_rule, texts}
use Rattle.cmd_line.proofs.read.command_of.Goals as goal

-- one option more
more_options : (options : List (Bor Text)) (i : ℕ) (d : Bor Text) → i < length options
    → with_rule (command_for (texts (take i options))) (option_rule (get_or options i d).now) ≡ command_for (texts (take (i + 1) options))
more_options options i d h =
    ap (λ rules. on_top (λ s. record s { rules = names_rule ∷ rules }) bare_command)
    (sym (ap (map option_rule) (map_more (λ (s : Bor Text). s.now) options i d h)
    ∙ map-append option_rule (texts (take i options)) ((get_or options i d).now ∷ [])))

pub loop-option-preserved : goal.loop-option-preserved
loop-option-preserved c =
    c.in_ok-command-2.ensures.shape c.option_arg.ensures.local
    ∙ ap (λ a. with_rule a (rule_of c.option_arg.result)) c.loop-option.invariant
    ∙ ap (λ r. with_rule (command_for (texts (take c.loop-option.option-index c.args.options.now))) r) c.option_arg.ensures.rule
    ∙ more_options c.args.options.now c.loop-option.option-index _ (search rules)
