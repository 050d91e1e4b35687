use Rattle.std.proofs.Common.{◌≡◌, codes, ap, arith, w64, to_z, of_z}
use Rattle.std.proofs.lemmas.Int.{ints}
use Rattle.std.specs.Fmt.{signed_decimal}
use Rattle.listing.proofs.Putting.{then_puts, puts_is, room_is, room_next, room_first}
use Rattle.listing.proofs.write_item.put_next.Goals as goal

pub put_text-digits-requires : goal.put_text-digits-requires
put_text-digits-requires c = room_first (codes ",") _ c.requires

pub put_integer-requires : goal.put_integer-requires
put_integer-requires c =
    let same : c.args.n ≡ to_z w64 (of_z w64 c.args.n) = omega (arith, ints) in
    room_is (ap signed_decimal same) (room_next c.put_text-digits.ensures c.requires)

pub returns : goal.returns
returns c =
    let same : to_z w64 (of_z w64 c.args.n) ≡ c.args.n = omega (arith, ints) in
    then_puts c.put_text-digits.ensures (puts_is (ap signed_decimal same) c.put_integer.ensures)
