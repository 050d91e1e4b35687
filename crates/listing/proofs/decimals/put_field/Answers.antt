use Rattle.listing.proofs.Putting.{then_puts, room_next, room_first}
use Rattle.listing.proofs.decimals.put_field.Goals as goal

pub put_text-digits-requires : goal.put_text-digits-requires
put_text-digits-requires c = room_first c.args.text.now _ c.requires

pub put_number-requires : goal.put_number-requires
put_number-requires c = room_next c.put_text-digits.ensures c.requires

pub returns : goal.returns
returns c = then_puts c.put_text-digits.ensures c.put_number.ensures
