-- The command with these options is one of which `clap` says how a parse fails and what it finds.
use Rattle.std.proofs.Common.{◌≡◌, ℕ, List, [], ◌∷◌, Bool, true, false, refl, ap, ◌∙◌, map, fold, cond, arith}
use Rattle.std.specs.Prelude.{◌+◌, ◌&&◌, not, count_by, is_some}
use Rattle.std.specs.List.{list_all, list_any}
use Rattle.clap.specs.Words.{App, Text, Rule, is_simple, is_simple_and_free}
use Rattle.clap.specs.Simple.{is_ready, is_ready_leaf, is_buildable, is_in_order}
use Rattle.clap.specs.Faults.{is_free_app}
use Rattle.clap.specs.Walk.{is_early_multiple}
use Rattle.cmd_line.specs.Command.{command_for, option_rule}
use Rattle.cmd_line.proofs.Rules.{shape_of, rules_of, option_built, built_is}

simple_rules : (options : List Text) → list_all (λ a. a.is_simple) (map option_rule options) ≡ true
simple_rules [] = refl
simple_rules (o ∷ rest) = simple_rules rest

simple_built : (options : List Text) → list_all (λ a. a.is_simple) (map option_built options) ≡ true
simple_built [] = refl
simple_built (o ∷ rest) = simple_built rest

free_built : (options : List Text) → list_all (λ a. a.is_free) (map option_built options) ≡ true
free_built [] = refl
free_built (o ∷ rest) = free_built rest

no_index : (n : ℕ) (options : List Text) → fold (λ k (a : Rule). k + cond (is_some a.index) 1 0) n (map option_built options) ≡ n
no_index n [] = refl
no_index n (o ∷ rest) =
    let same : n + 0 ≡ n = omega arith in
    no_index (n + 0) rest ∙ same

none_early : (n : ℕ) (options : List Text) → list_any (is_early_multiple n) (map option_built options) ≡ false
none_early n [] = refl
none_early n (o ∷ rest) = none_early n rest

one_index : (options : List Text) → count_by (λ a. is_some a.index) (rules_of options) ≡ 1
one_index options = no_index 1 options

in_order : (options : List Text) → is_in_order (rules_of options) ≡ true
in_order options = ap (λ n. not (list_any (is_early_multiple n) (rules_of options))) (one_index options) ∙ ap (λ b. not b) (none_early 1 options)

ready_app : (options : List Text) → is_ready (shape_of (rules_of options)) ≡ true
ready_app options = rw (simple_built options) (in_order options)

buildable : (options : List Text) → is_buildable (command_for options) ≡ true
buildable options = rw (simple_rules options) refl

abbrev rest_of : List Text → App → Bool
rest_of options a = is_buildable (command_for options) && (is_ready a.top && list_all is_ready_leaf a.subs)

pub simple : (options : List Text) → is_simple (command_for options) ≡ true
simple options = ap (rest_of options) (built_is options) ∙ ap (λ b. b && (is_ready (shape_of (rules_of options)) && true)) (buildable options)
    ∙ ap (λ b. true && (b && true)) (ready_app options)

free_app : (options : List Text) → is_free_app (record { top = shape_of (rules_of options); subs = [] }) ≡ true
free_app options = rw (free_built options) refl

pub simple_and_free : (options : List Text) → is_simple_and_free (command_for options) ≡ true
simple_and_free options = ap (λ a. is_simple (command_for options) && is_free_app a) (built_is options)
    ∙ ap (λ b. b && is_free_app (record { top = shape_of (rules_of options); subs = [] })) (simple options)
    ∙ free_app options
