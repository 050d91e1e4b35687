use Rattle.std.proofs.Common.{length, ap, ◌∙◌, arith}
use Rattle.std.specs.Fmt.{signed_decimal}
use Rattle.listing.proofs.Lengths.{point_length}
use Rattle.listing.proofs.Casts.{cast_is}
use Rattle.listing.proofs.write_item.PointWriteItem.text_len.Goals as goal

pub returns : goal.returns
returns c =
    let x = ap (λ n. length (signed_decimal n)) (cast_is c.x.result c.x.type_inv ∙ c.x.ensures) in
    let y = ap (λ n. length (signed_decimal n)) (cast_is c.y.result c.y.type_inv ∙ c.y.ensures) in
    let z = ap (λ n. length (signed_decimal n)) (cast_is c.z.result c.z.type_inv ∙ c.z.ensures) in
    record { value = omega (arith, point_length c.args.self.now, x, y, z); small = omega arith }
