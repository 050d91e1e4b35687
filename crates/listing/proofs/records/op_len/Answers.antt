use Rattle.std.proofs.Common.{arith}
use Rattle.listing.proofs.Lengths.{write_length}
use Rattle.listing.proofs.records.op_len.Goals as goal

pub returns-in-Write : goal.returns-in-Write
returns-in-Write g c = record {
  value = rw c.in-Write.is (omega (arith, write_length g.T.WriteItem.text c.in-Write.index c.in-Write.item));
  small = omega arith;
}
