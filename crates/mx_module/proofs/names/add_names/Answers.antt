use Rattle.std.proofs.Common.{◌≡◌, ℕ, List, ◌++◌, ◌∷◌, [], map, take, Some, sym, ap, ◌∙◌, subst, append_assoc}
use Rattle.std.specs.List.{slice_get}
use Rattle.std.specs.Option.{option_map}
use Rattle.std.proofs.lemmas.List.{map-append}
use Rattle.std.proofs.lemmas.Option.{slice_get-map}
use Rattle.mx_source.specs.declared.Label.{Label}
use Rattle.mx_source.specs.Names.{name_bytes, named_labels}
use Rattle.mx_source.proofs.Grouped.{take-one_more}
use Rattle.mx_lines.specs.Operands.{label_named}
use Rattle.mx_module.specs.Joined.{AreApart, renamed, program_name}
use Rattle.mx_module.proofs.Apart.{absent_among}
use Rattle.mx_module.proofs.names.add_names.Goals as goal

pub add_name-requires-clause-absent : goal.add_name-requires-clause-absent
add_name-requires-clause-absent c =
    let old = named_labels c.args.named.now.entries in
    let es = named_labels c.named-labels.result.now.entries in
    let R = renamed c.args.own.now c.args.place in
    let e : List ℕ × Label = (name_bytes c.in-Some.name.now, c.in-Some.label.now) in
    let there : slice_get es c.loop-i.i ≡ Some e = slice_get-map (λ p. (name_bytes p.0, p.1)) c.named-labels.result.now.entries c.loop-i.i
    ∙ ap (option_map (λ p. (name_bytes p.0, p.1))) (sym c.in-Some.ensures.entry) in
    let apart = subst (λ ls. AreApart (old ++ map R ls)) (sym c.loop-i.invariant.own) c.requires.apart in
    ap (λ n. label_named (named_labels c.loop-i.named.entries) (program_name c.args.own.now c.args.place n)) c.bytes.ensures
    ∙ ap (λ ls. label_named ls (R e).0) c.loop-i.invariant.named
    ∙ absent_among R old es c.loop-i.i e apart there

pub loop-i-preserved : goal.loop-i-preserved
loop-i-preserved c =
    let old = named_labels c.args.named.now.entries in
    let es = named_labels c.named-labels.result.now.entries in
    let R = renamed c.args.own.now c.args.place in
    let i = c.loop-i.i in
    let e : List ℕ × Label = (name_bytes c.in-Some.name.now, c.in-Some.label.now) in
    let there : slice_get es c.loop-i.i ≡ Some e = slice_get-map (λ p. (name_bytes p.0, p.1)) c.named-labels.result.now.entries c.loop-i.i
    ∙ ap (option_map (λ p. (name_bytes p.0, p.1))) (sym c.in-Some.ensures.entry) in
    record {
      own = c.loop-i.invariant.own;
      named =
          c.in_ok-add_name.ensures
          ∙ ap (λ n. named_labels c.loop-i.named.entries ++ R (n, c.in-Some.label.now) ∷ []) c.bytes.ensures
          ∙ ap (λ ls. ls ++ R e ∷ []) c.loop-i.invariant.named
          ∙ append_assoc old (map R (take i es)) (R e ∷ [])
          ∙ ap (λ ls. old ++ ls) (sym (map-append R (take i es) (e ∷ [])))
          ∙ ap (λ ls. old ++ map R ls) (sym (take-one_more es i e there));
    }
