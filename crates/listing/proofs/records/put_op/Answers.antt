use Rattle.std.proofs.Common.{◌++◌, codes, decimal}
use Rattle.listing.proofs.Putting.{then_puts, room_next, room_first}
use Rattle.listing.proofs.records.put_op.Goals as goal

pub put_field-at-requires : goal.put_field-at-requires
put_field-at-requires g c = room_first (codes "w " ++ decimal c.in-Write.index) _ (rw c.in-Write.is at c.requires)

pub put_text-at-requires-in-Write : goal.put_text-at-requires-in-Write
put_text-at-requires-in-Write g c = room_first (codes " ") _ (room_next c.put_field-at.ensures (rw c.in-Write.is at c.requires))

pub returns-in-Push : goal.returns-in-Push
returns-in-Push g c =
    let room = room_next c.put_text-at.ensures (rw c.in-Push.is at c.requires) in
    rw c.in-Push.is (then_puts c.put_text-at.ensures (c.write.ensures.room room))

pub returns-in-Write : goal.returns-in-Write
returns-in-Write g c =
    let room = room_next c.put_text-at-in-Write.ensures (room_next c.put_field-at.ensures (rw c.in-Write.is at c.requires)) in
    rw c.in-Write.is (then_puts c.put_field-at.ensures (then_puts c.put_text-at-in-Write.ensures (c.write-in-Write.ensures.room room)))
