-- Moves from the special words.
use Rattle.std.proofs.Common.{◌≡◌, ℕ, Bool, true, false, cond, refl}
use Rattle.std.specs.Prelude.{slice_index}
use Rattle.mx_isa.specs.declared.inst.Special.{Special}
use Rattle.mx_isa.specs.declared.inst.Special.TheVariants.{Md, Pc1, Pc2, Pc3}
use Rattle.mx_isa.specs.declared.inst.Inst.TheVariants.{MoveFrom}
use Rattle.mx_isa.specs.Words.{write}
use Rattle.mx_isa.specs.Effect.{Change}
use Rattle.mx_isa.specs.Views.{is_md}
use Rattle.mx_pcchain.specs.Chain.{special}
use Rattle.mx_board.specs.Contents.{Contents}
use Rattle.mx_turn.specs.declared.registers.Registers.{Registers}
use Rattle.mx_turn.specs.Commits.{change_of}

pub moves_from : (user : Bool) (r : Registers) (d : ℕ) (s : Special) (at : ℕ) (b : Contents)
    → cond (is_md s) (write (slice_index r.file) d r.md) (cond user (slice_index r.file) (write (slice_index r.file) d (special r.chain s)))
    ≡ (let x : Change = change_of user r (MoveFrom d s) at b in write (slice_index r.file) x.dest x.value)
moves_from true r d Md at b = refl
moves_from true r d Pc1 at b = refl
moves_from true r d Pc2 at b = refl
moves_from true r d Pc3 at b = refl
moves_from false r d Md at b = refl
moves_from false r d Pc1 at b = refl
moves_from false r d Pc2 at b = refl
moves_from false r d Pc3 at b = refl
