use Rattle.listing.specs.Listings.{record_text}
use Rattle.listing.proofs.Putting.{then_puts, room_next, room_first}
use Rattle.listing.proofs.records.put_line.Goals as goal

pub put_record-end-requires : goal.put_record-end-requires
put_record-end-requires g c = room_first (record_text g.T.WriteItem.text c.args.entry.now) _ c.requires

pub put_text-requires : goal.put_text-requires
put_text-requires g c = room_next c.put_record-end.ensures c.requires

pub returns : goal.returns
returns g c = then_puts c.put_record-end.ensures c.put_text.ensures
