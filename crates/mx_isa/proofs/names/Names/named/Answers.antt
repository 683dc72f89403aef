use Rattle.std.specs.Prelude.{◌==◌, ◌&&◌, not}
use Rattle.mx_isa.proofs.NameBits.{both_named}
use Rattle.mx_isa.proofs.names.Names.named.Goals as goal

pub returns : goal.returns
returns c = λ n.
    cc (
      c.of.ensures n,
      c.of-2.ensures n,
      c.with.ensures n,
      c.md.ensures n,
      c.with-2.ensures n,
      both_named (not (n == 0)) (n == c.args.a) (n == c.args.b)
          (c.args.md && n == 32),
    )
