use Rattle.std.proofs.Common.{◌≡◌, ◌++◌, codes, ℤ, to_z, of_z, w64, sym, ap, ◌∙◌, append_assoc}
use Rattle.std.specs.Fmt.{decimal, signed_decimal}
use Rattle.std.proofs.lemmas.Int.{to_z-of_z}
use Rattle.cmd_source.proofs.sources.displacement_text.Goals as goal

pub returns : goal.returns
returns c =
    let whole : to_z w64 (of_z w64 c.args.displacement) ≡ c.args.displacement = to_z-of_z w64 c.args.displacement c.ranges.displacement in
    c.in_ok-text.ensures.ok
    ∙ ap (λ (z : ℤ). (codes "line " ++ decimal c.args.line) ++ (codes ": displacement " ++ signed_decimal z)) whole
    ∙ sym (append_assoc (codes "line " ++ decimal c.args.line) (codes ": displacement ") (signed_decimal c.args.displacement))
