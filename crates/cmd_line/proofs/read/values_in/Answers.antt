use Rattle.std.proofs.Common.{◌≡◌, ◌+◌, ◌<◌, ◌∙◌, ap, sym, map, take, [], ◌∷◌, ◌++◌, List, ℕ, get_or, length, rules, arith}
use Rattle.std.specs.Prelude.{Option, option_map}
use Rattle.std.specs.Borrow.{Bor}
use Rattle.std.proofs.lemmas.List.{map_more, map-append}
use Rattle.clap.specs.Words.{Text, first_of, rows_of, found_of}
use Rattle.clap.proofs.WalkLemmas.{first_value-rows}
use Rattle.cmd_line.specs.Command.{texts}
use Rattle.cmd_line.proofs.read.values_in.Goals as goal

abbrev value_texts : List (Option (Bor Text)) → List (Option Text)
value_texts = map (option_map (λ s. s.now))

-- one value more
more_values : (f : Text → Option Text) (options : List (Bor Text)) (values : List (Option (Bor Text))) (value : Option (Bor Text)) (i : ℕ) (d : Bor Text)
    → i < length options
    → value_texts values ≡ map f (texts (take i options)) → option_map (λ s. s.now) value ≡ f (get_or options i d).now
    → value_texts (values ++ value ∷ []) ≡ map f (texts (take (i + 1) options))
more_values f options values value i d h before next =
    map-append (option_map (λ (s : Bor Text). s.now)) values (value ∷ [])
    ∙ ap (λ vs. vs ++ option_map (λ s. s.now) value ∷ []) before
    ∙ ap (λ v. map f (texts (take i options)) ++ v ∷ []) next
    ∙ sym (ap (map f) (map_more (λ (s : Bor Text). s.now) options i d h) ∙ map-append f (texts (take i options)) ((get_or options i d).now ∷ []))

pub loop-option-preserved : goal.loop-option-preserved
loop-option-preserved c =
    record {
      count = omega (arith, c.in-Ok.ensures.len);
      values = ap value_texts c.in-Ok.ensures.items
          ∙ more_values (λ o. first_of o (rows_of (found_of c.args.matches.now)))
          c.args.options.now c.loop-option.values.items c.get_str.result c.loop-option.option-index _ (search rules)
          c.loop-option.invariant.values (c.get_str.ensures ∙ first_value-rows (found_of c.args.matches.now) _);
    }
