-- User code at the place of the board reaches what the board answers in user mode.
use Rattle.std.proofs.Common.{◌≡◌, ℕ, true, Option, List, refl}
use Rattle.mx_isa.specs.declared.Place.{Place}
use Rattle.mx_isa.specs.UserBus.{user_bus}
use Rattle.mx_board.specs.Data.{board}

-- in user mode a board is the user's bus of a place with its numbers
pub board-user : (p : Place) (input : Option (List ℕ)) → p.user_data ≡ 256 → p.end ≡ 65536 → p.console ≡ 255 → p.input ≡ 254
    → user_bus p input ≡ board true input
board-user p input e f g h = rw (e, f, g, h) refl
