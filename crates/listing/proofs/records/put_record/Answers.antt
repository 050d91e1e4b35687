use Rattle.std.proofs.Common.{◌++◌, codes, decimal}
use Rattle.listing.proofs.Putting.{then_puts, room_next, room_first}
use Rattle.listing.proofs.records.put_record.Goals as goal

pub put_field-at-requires : goal.put_field-at-requires
put_field-at-requires g c = room_first (codes "begin " ++ decimal c.in-Begin.number) _ (rw c.in-Begin.is at c.requires)

pub put_field-at-requires-in-Begin : goal.put_field-at-requires-in-Begin
put_field-at-requires-in-Begin g c = room_first (codes " " ++ decimal c.in-Begin.thread) _ (room_next c.put_field-at.ensures (rw c.in-Begin.is at c.requires))

pub put_text-at-requires : goal.put_text-at-requires
put_text-at-requires g c =
    room_first (codes " ") _ (room_next c.put_field-at-in-Begin.ensures (room_next c.put_field-at.ensures (rw c.in-Begin.is at c.requires)))

pub put_op-requires : goal.put_op-requires
put_op-requires g c =
    room_next c.put_text-at.ensures (room_next c.put_field-at-in-Begin.ensures (room_next c.put_field-at.ensures (rw c.in-Begin.is at c.requires)))

pub returns-in-Begin : goal.returns-in-Begin
returns-in-Begin g c =
    rw c.in-Begin.is
    (then_puts c.put_field-at.ensures (then_puts c.put_field-at-in-Begin.ensures (then_puts c.put_text-at.ensures c.put_op.ensures)))

pub put_field-at-requires-in-End : goal.put_field-at-requires-in-End
put_field-at-requires-in-End g c = room_first (codes "end " ++ decimal c.in-End.number) _ (rw c.in-End.is at c.requires)

pub put_text-at-requires-in-End : goal.put_text-at-requires-in-End
put_text-at-requires-in-End g c = room_first (codes " ") _ (room_next c.put_field-at-in-End.ensures (rw c.in-End.is at c.requires))

pub put_answer-requires : goal.put_answer-requires
put_answer-requires g c = room_next c.put_text-at-in-End.ensures (room_next c.put_field-at-in-End.ensures (rw c.in-End.is at c.requires))

pub returns-in-End : goal.returns-in-End
returns-in-End g c = rw c.in-End.is (then_puts c.put_field-at-in-End.ensures (then_puts c.put_text-at-in-End.ensures c.put_answer.ensures))
