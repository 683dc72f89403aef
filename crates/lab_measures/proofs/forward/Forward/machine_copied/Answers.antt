use Rattle.std.proofs.Common.{sym, ◌∙◌, subst}
use Rattle.mx_icache.specs.LineSets.{CacheHolds}
use Rattle.mx_turn.specs.Counted.{Counted}
use Rattle.lab_measures.specs.Terms.{StandsFor}
use Rattle.lab_measures.proofs.forward.Forward.machine_copied.Goals as goal

pub returns-clause-stands : goal.returns-clause-stands
returns-clause-stands c = λ p h stands.
    let copy = c.in_ok-copy.copy in
    let copied = c.in_ok-copy.ensures p h stands in
    subst (λ (counts : Counted). StandsFor CacheHolds (record copy { counts = counts }) p h) (copied.counts ∙ sym stands.counts) copied
