-- A word's instruction computes.
use Rattle.std.proofs.Common.{◌≡◌, Some, refl}
use Rattle.std.specs.Prelude.{pos, negsuc, true, false}
use Rattle.mx_isa.specs.declared.inst.Cond.TheVariants.{Ne, Eq}
use Rattle.mx_isa.specs.declared.inst.Special.TheVariants.{Pc2}
use Rattle.mx_isa.specs.declared.inst.Inst.TheVariants.{Branch, MoveFrom, Jpcrs}
use Rattle.mx_code.specs.Decoding.{inst_of}

branches : inst_of 0x08450000 ≡ Some (Branch 1 2 Ne true (pos 0))
branches = refl

goes_back : inst_of 0x0000fffc ≡ Some (Branch 0 0 Eq false (negsuc 3))
goes_back = refl

moves : inst_of 0x50002002 ≡ Some (MoveFrom 2 Pc2)
moves = refl

returns : inst_of 0xd8000000 ≡ Some Jpcrs
returns = refl
