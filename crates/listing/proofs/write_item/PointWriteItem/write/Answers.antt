use Rattle.std.proofs.Common.{◌++◌, codes, sym, ap, ◌∙◌, arith}
use Rattle.std.specs.Fmt.{signed_decimal}
use Rattle.listing.specs.Puts.{Room}
use Rattle.listing.specs.Texts.{point_text}
use Rattle.listing.proofs.Casts.{cast_is}
use Rattle.listing.proofs.Putting.{then_puts, puts_is, room_is, room_next, room_first}
use Rattle.listing.proofs.write_item.PointWriteItem.write.Goals as goal

pub put_integer-at-requires : goal.put_integer-at-requires
put_integer-at-requires c =
    let p = c.args.self.now in
    let x = cast_is c.x.result c.x.type_inv ∙ c.x.ensures in
    let all : Room (point_text p) c.args.at c.args.output.now = record { fits = omega (arith, c.text_len.ensures.value) } in
    room_is (ap signed_decimal (sym x)) (room_first (signed_decimal p.x) _ all)

pub put_next-at-requires : goal.put_next-at-requires
put_next-at-requires c =
    let p = c.args.self.now in
    let x = cast_is c.x.result c.x.type_inv ∙ c.x.ensures in
    let y = cast_is c.y.result c.y.type_inv ∙ c.y.ensures in
    let all : Room (point_text p) c.args.at c.args.output.now = record { fits = omega (arith, c.text_len.ensures.value) } in
    let rest = room_next (puts_is (ap signed_decimal x) c.put_integer-at.ensures) all in
    room_is (ap (λ n. codes "," ++ signed_decimal n) (sym y)) (room_first (codes "," ++ signed_decimal p.y) _ rest)

pub put_next-requires : goal.put_next-requires
put_next-requires c =
    let p = c.args.self.now in
    let x = cast_is c.x.result c.x.type_inv ∙ c.x.ensures in
    let y = cast_is c.y.result c.y.type_inv ∙ c.y.ensures in
    let z = cast_is c.z.result c.z.type_inv ∙ c.z.ensures in
    let all : Room (point_text p) c.args.at c.args.output.now = record { fits = omega (arith, c.text_len.ensures.value) } in
    let rest = room_next (puts_is (ap signed_decimal x) c.put_integer-at.ensures) all in
    room_is (ap (λ n. codes "," ++ signed_decimal n) (sym z)) (room_next (puts_is (ap (λ n. codes "," ++ signed_decimal n) y) c.put_next-at.ensures) rest)

pub returns : goal.returns
returns c =
    let x = cast_is c.x.result c.x.type_inv ∙ c.x.ensures in
    let y = cast_is c.y.result c.y.type_inv ∙ c.y.ensures in
    let z = cast_is c.z.result c.z.type_inv ∙ c.z.ensures in
    let one = puts_is (ap signed_decimal x) c.put_integer-at.ensures in
    let two = puts_is (ap (λ n. codes "," ++ signed_decimal n) y) c.put_next-at.ensures in
    let three = puts_is (ap (λ n. codes "," ++ signed_decimal n) z) c.put_next.ensures in
    record { room = λ _. then_puts one (then_puts two three); none = λ h. absurd (omega (arith, c.text_len.ensures.value)) }
