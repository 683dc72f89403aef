use Rattle.std.proofs.Common.{◌≡◌, ◌*◌, ◌/◌}
use Rattle.lab_cache.proofs.Going.{going_in, first_is, bit_is}
use Rattle.lab_cache.proofs.alike.Caches.enter.Goals as goal

pub returns : goal.returns
returns c = λ gs brings before h.
    let line : c.line_of-line.result ≡ c.args.address / c.args.self.now.line = c.line_of-line.ensures h.alike.some in
    let first : c.saturating_mul-first.result ≡ c.line_of-line.result * c.args.self.now.line =
    first_is c.args.address c.args.self.now.line c.line_of-line.result c.saturating_mul-first.result line c.ranges.address.fits
    c.saturating_mul-first.ensures in
    going_in c.args.self.now gs brings before c.args.address
    (record { line = c.line_of-line.result; first = c.saturating_mul-first.result; groups = c.bit_at-groups.result }) h line first
    (bit_is c.args.self.now.bits.items c.args.address c.args.self.now.line brings c.line_of-line.result c.saturating_mul-first.result c.saturating_sub.result
    c.bit_at-groups.result h.alike.some h.bits line first c.saturating_sub.ensures c.bit_at-groups.ensures)
