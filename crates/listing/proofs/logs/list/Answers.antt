use Rattle.std.proofs.Common.{◌+◌, ◌++◌, length, take, drop, ap, ◌∙◌, zero-add, arith}
use Rattle.std.proofs.lemmas.List.{take_all}
use Rattle.std.proofs.lemmas.Grind.{common_steps}
use Rattle.listing.specs.Listings.{line_of, listing}
use Rattle.listing.specs.Puts.{Room}
use Rattle.listing.proofs.Joining.{listing_more, length_part}
use Rattle.listing.proofs.Putting.{then_puts, puts_is, room_next}
use Rattle.listing.proofs.logs.list.Goals as goal

pub put_line-at-requires : goal.put_line-at-requires
put_line-at-requires g c =
    let text = g.T.WriteItem.text in
    let log = c.args.log.now in
    let i = c.loop-entry.entry-index in
    let more = ap length (listing_more text log i c.entry-item.result c.loop-entry-test.true c.entry-item.is) in
    let part = length_part text (i + 1) log in
    let room : Room (listing text (take i log) ++ line_of text c.entry-item.result) 0 c.args.output.now = record { fits = grind (arith, common_steps, more, part) } in
    room_next c.loop-entry.invariant room

pub loop-entry-preserved : goal.loop-entry-preserved
loop-entry-preserved g c =
    puts_is (listing_more g.T.WriteItem.text c.args.log.now c.loop-entry.entry-index c.entry-item.result c.loop-entry-test.true c.entry-item.is)
    (then_puts c.loop-entry.invariant c.put_line-at.ensures)

pub returns : goal.returns
returns g c =
    let all = ap (listing g.T.WriteItem.text) (take_all c.loop-entry.entry-index c.args.log.now c.loop-entry-test.false) in
    let done = puts_is all c.loop-entry.invariant in
    let text = listing g.T.WriteItem.text c.args.log.now in
    (omega (arith, done.within), done.bytes ∙ ap (λ n. text ++ drop n c.args.output.now) (zero-add (length text)), done.place ∙ zero-add (length text))
