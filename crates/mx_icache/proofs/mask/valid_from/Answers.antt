use Rattle.std.proofs.Common.{◌≡◌, ◌<◌, ◌≤◌, ◌+◌, ◌/◌, ◌^◌, ap, sym, ◌∙◌, subst}
use Rattle.std.specs.Int.{trailing_ones, w32}
use Rattle.mx_icache.proofs.Bits.{ones_within, ones_set}
use Rattle.mx_icache.proofs.mask.valid_from.Goals as goal
use Rattle.mx_icache.proofs.mask.valid_from.Goals.{After-trailing_ones}

counted : (c : After-trailing_ones) → c.trailing_ones.result ≡ trailing_ones w32 (c.args.mask / 2 ^ c.args.word)
counted c = c.trailing_ones.ensures ∙ ap (λ m. trailing_ones w32 (m / 2 ^ c.args.word)) c.from.ensures

pub returns-clause-within : goal.returns-clause-within
returns-clause-within c = subst (λ n. c.args.word + n ≤ 16) (sym (counted c)) (ones_within c.args.mask c.args.word c.ranges.mask.fits c.requires)

pub returns-clause-valid : goal.returns-clause-valid
returns-clause-valid c = λ j lt. ones_set c.args.mask c.args.word c.ranges.mask.fits j (subst (λ n. j < n) (counted c) lt)
