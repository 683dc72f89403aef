use Rattle.std.proofs.Common.{◌≢◌, eqb, Some, None, sym, ap, ◌∙◌}
use Rattle.std.specs.Prelude.{slice_index}
use Rattle.std.proofs.lemmas.Bool.{cond-false, ne_eqb}
use Rattle.mx_icache.proofs.Bits.{is_set-some}
use Rattle.mx_icache.proofs.line_set.Set.hit_of.Goals as goal

pub returns-then-is_set-clause-found : goal.returns-then-is_set-clause-found
returns-then-is_set-clause-found c =
    let mask = slice_index c.args.self.now.masks c.loop-way.way in
    let some : mask ≢ 0 = is_set-some mask c.args.word (sym c.is_set.ensures ∙ c.if-is_set.true) in
    cond-false (eqb mask 0) None (Some (slice_index c.args.self.now.tags c.loop-way.way)) (ne_eqb mask 0 some)
    ∙ ap Some c.if-self-way.true
