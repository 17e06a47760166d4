-- Hands out a room of a place as a part of the memory.
use native.Mathlib.Omega.{arith}
use Rattle.cache.proofs.places.LayoutLaws.{place_room, place_room_units}
use Rattle.cache.proofs.places.room.Goals as goal

pub returns : goal.returns
returns c =
    let a = c.args in
    (place_room a.cache.now a.i (omega arith) a.j (omega arith), place_room_units a.cache.now a.i (omega arith) a.j (omega arith))
