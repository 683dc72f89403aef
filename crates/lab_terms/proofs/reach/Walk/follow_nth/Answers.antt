use Rattle.std.proofs.Common.{◌<◌, refl, sym, subst, length}
use Rattle.std.proofs.lemmas.Option.{slice_get_read}
use Rattle.lab_terms.proofs.Walks.{walk_on, nth_within}
use Rattle.lab_terms.proofs.reach.Walk.follow_nth.Goals as goal

pub statement_at-statement-requires : goal.statement_at-statement-requires
statement_at-statement-requires c =
    subst (λ i. i < length c.args.source.now.statements) (sym c.nth-index.ensures)
    (nth_within c.args.source.now c.args.self.now.seen.items c.args.self.now.order.items c.args.at c.requires.walk c.requires.more)

pub returns : goal.returns
returns c =
    let source = c.args.source.now in
    let index = c.nth-index.result in
    let within = subst (λ i. i < length source.statements) (sym c.nth-index.ensures)
    (nth_within source c.args.self.now.seen.items c.args.self.now.order.items c.args.at c.requires.walk c.requires.more) in
    walk_on source c.args.self.now.seen.items c.args.self.now.order.items c.args.at c.requires.walk
    c.follow.new.self.seen.items c.follow.new.self.order.items index c.statement_at-statement.result
    c.statement_at-statement.ensures.few c.requires.more (sym c.nth-index.ensures)
    (slice_get_read source.statements (length source.statements) index _ refl within c.statement_at-statement.ensures.statement)
    c.in_ok-follow.ensures.come c.in_ok-follow.ensures.followed
