use Rattle.std.proofs.Common.{◌≤◌, ◌-◌, arith}
use Rattle.mx_lane.proofs.Windows.{has_kept, less}
use Rattle.mx_lane.proofs.window.Window.has.Goals as goal

pub returns-clause-keeps : goal.returns-clause-keeps
returns-clause-keeps g c = λ e past h.
    let low : c.args.self.now.low ≤ c.args.address = omega (arith, c.if-address-self.false) in
    has_kept g.C.FetchCache.holds c.args.self.now c.args._cache.now c.requires.known c.args.address low
    (less (c.args.address - c.args.self.now.low) c.args.self.now.words e) past h
