use Rattle.std.proofs.Common.{ℕ, ◌≡◌, List, [], ◌∷◌, length, refl, arith}
use Rattle.std.proofs.lemmas.Bool.Decides.{nat_tests}
use Rattle.acc_clauses.specs.Contents.{Room}
use Rattle.acc_clauses.specs.Acts.{HasRoomFor}
use Rattle.acc_clauses.proofs.devices.DeviceData.reserve_parts.Goals as goal

-- there is always room for no birth
no_births : (lens : List ℕ) (room : Room) → length lens ≡ 0 → HasRoomFor lens room
no_births [] room none = record { rest = room.births; births_are = refl; ranges = omega arith }
no_births (x ∷ xs) room none = absurd (omega arith)

pub returns-then-pointers-eq0-clause-room : goal.returns-then-pointers-eq0-clause-room
returns-then-pointers-eq0-clause-room c = no_births c.args.lens.now _ (grind (arith, nat_tests, c.if-is_empty.ensures))
