use Rattle.std.proofs.Common.{arith}
use Rattle.listing.proofs.Joining.{length_more, line_fits}
use Rattle.listing.proofs.logs.room_left.Goals as goal

pub returns-in_err-left : goal.returns-in_err-left
returns-in_err-left g c =
    let fits = line_fits g.T.WriteItem.text c.args.log.now c.loop-entry.entry-index c.entry-item.result c.loop-entry-test.true c.entry-item.is in
    rw c.from_residual.ensures (omega (arith, fits, c.line_len.ensures, c.in_err-left.ensures))

pub loop-entry-preserved : goal.loop-entry-preserved
loop-entry-preserved g c =
    let more = length_more g.T.WriteItem.text c.args.log.now c.loop-entry.entry-index c.entry-item.result c.loop-entry-test.true c.entry-item.is in
    omega (arith, more, c.line_len.ensures, c.in_ok-left.ensures)
