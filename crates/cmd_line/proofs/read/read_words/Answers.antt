use Rattle.std.proofs.Common.{◌≡◌, ◌∙◌, ap, sym, subst, map, string_bytes, List, ℕ, length, true, false, None, Some, rules, Vec, vec_len, Global}
use Rattle.std.specs.Prelude.{Bool, Option}
use Rattle.std.specs.Borrow.{Bor}
use Rattle.std.proofs.lemmas.List.{length-map}
use Rattle.clap.specs.Words.{Text, rows_of, found_of}
use Rattle.clap.specs.declared.parser.matches.ArgMatches.{ArgMatches}
use Rattle.cmd_line.specs.Command.{texts, IsParse}
use Rattle.cmd_line.specs.Reading.{reading, is_between}
use Rattle.cmd_line.proofs.Whole.{agrees, texts_are}
use Rattle.cmd_line.proofs.Asked.{apart, refuses, miscounts, answers}
use Rattle.cmd_line.proofs.read.read_words.Goals as goal

length_is : (names : Vec (Bor Text) Global) → vec_len names ≡ length names.items
length_is names = search rules

-- the test of the count says whether the names are as many as they may be
counted : (fewest most n : ℕ) (names : Vec (Bor Text) Global) (takes answer : Bool) → n ≡ vec_len names → takes ≡ is_between fewest most n → takes ≡ answer
    → is_between fewest most (length (texts names.items)) ≡ answer
counted fewest most n names takes answer counts is said =
    ap (is_between fewest most) (length-map names.items (λ (s : Bor Text). s.now) ∙ sym (length_is names) ∙ sym counts) ∙ sym is ∙ said

parse_at : (options words : List Text) (r s : Option ArgMatches) → r ≡ s → IsParse options words r → IsParse options words s
parse_at options words r s e p = subst (IsParse options words) e p

pub returns-in_default-clause-asked : goal.returns-in_default-clause-asked
returns-in_default-clause-asked c =
    let options : List Text = texts c.args.shape.now.options.now in
    let words : List Text = map string_bytes c.args.words.now in
    refuses options words c.args.shape.now.fewest c.args.shape.now.most (reading options words)
    (agrees options words (apart options c.requires) (texts_are c.args.words.now))
    (parse_at options words c.in-Ok.found None c.in_default.is c.in-Ok.ensures)

pub returns-then-not-takes-clause-asked : goal.returns-then-not-takes-clause-asked
returns-then-not-takes-clause-asked c =
    let options : List Text = texts c.args.shape.now.options.now in
    let words : List Text = map string_bytes c.args.words.now in
    let parsed : IsParse options words (Some c.in-Some.matches) = parse_at options words c.in-Ok.found (Some c.in-Some.matches) c.in-Some.is c.in-Ok.ensures in
    miscounts options words c.args.shape.now.fewest c.args.shape.now.most (rows_of (found_of c.in-Some.matches)) (texts c.in_ok-names.names.items)
    (reading options words)
    (agrees options words (apart options c.requires) (texts_are c.args.words.now)) (record {
      passes = parsed.0;
      rows_are = parsed.1;
      names_are =
          c.in_ok-names.ensures;
    })
    (counted c.args.shape.now.fewest c.args.shape.now.most c.len.result c.in_ok-names.names c.takes.result false c.len.ensures c.takes.ensures (search rules))

pub returns-clause-asked : goal.returns-clause-asked
returns-clause-asked c =
    let options : List Text = texts c.args.shape.now.options.now in
    let words : List Text = map string_bytes c.args.words.now in
    let parsed : IsParse options words (Some c.in-Some.matches) = parse_at options words c.in-Ok.found (Some c.in-Some.matches) c.in-Some.is c.in-Ok.ensures in
    answers options words c.args.shape.now.fewest c.args.shape.now.most (rows_of (found_of c.in-Some.matches)) (texts c.in_ok-names.names.items) _
    (reading options words) (apart options c.requires)
    (agrees options words (apart options c.requires) (texts_are c.args.words.now)) (record {
      passes = parsed.0;
      rows_are = parsed.1;
      names_are =
          c.in_ok-names.ensures;
    })
    c.in_ok-values.ensures.values
    (counted c.args.shape.now.fewest c.args.shape.now.most c.len.result c.in_ok-names.names c.takes.result true c.len.ensures c.takes.ensures
    (search rules))
