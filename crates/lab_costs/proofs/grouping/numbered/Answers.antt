use Rattle.std.proofs.Common.{rules, ◌≡◌, ◌<◌, ◌∙◌, sym, length, arith, ℕ, ◌+◌}
use Rattle.std.proofs.lemmas.Map.Entries.{All-lookup}
use Rattle.indexmap.proofs.CallerLemmas.{insert_entry-new}
use Rattle.lab_costs.proofs.Numbers.{numbers_more, found_below}
use Rattle.lab_costs.proofs.grouping.numbered.Goals as goal

pub returns-in-Some-get-clause-below : goal.returns-in-Some-get-clause-below
returns-in-Some-get-clause-below c = λ some all.
    found_below (length c.args.groups.now.items) c.in-Some-get.number.now _ (c.in-Some-get.ensures.value)
    (All-lookup (λ (n : ℕ). n < length c.args.groups.now.items) _ c.args.numbers.now.entries all)

pub returns-clause-numbers : goal.returns-clause-numbers
returns-clause-numbers c = λ all.
    let items : c.push.new.self.items ≡ _ = c.in_ok-push.ensures.items in
    let grown : length c.args.groups.now.items + 1 ≡ length c.push.new.self.items = search rules in
    let number : c.last_number-number.result < length c.push.new.self.items = search rules in
    numbers_more c.args.numbers.now.entries c.insert.new.self.entries (c.in-Some.position.file, c.in-Some.position.line) c.last_number-number.result
    (length c.args.groups.now.items) (length c.push.new.self.items)
    (c.in_ok-insert.ensures.entries ∙ insert_entry-new _ c.args.numbers.now _ _ (sym c.in_default-get.ensures.value)) all (omega (arith, grown)) number
