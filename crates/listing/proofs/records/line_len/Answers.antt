use Rattle.std.proofs.Common.{arith}
use Rattle.listing.proofs.Lengths.{begin_length, effect_length, end_length}
use Rattle.listing.proofs.records.line_len.Goals as goal

pub returns-in-Begin : goal.returns-in-Begin
returns-in-Begin g c = rw c.in-Begin.is (omega (arith, begin_length g.T.WriteItem.text c.in-Begin.number c.in-Begin.thread c.in-Begin.op))

pub returns-in-Effect : goal.returns-in-Effect
returns-in-Effect g c = rw c.in-Effect.is (omega (arith, effect_length g.T.WriteItem.text c.in-Effect.number))

pub returns-in-End : goal.returns-in-End
returns-in-End g c = rw c.in-End.is (omega (arith, end_length g.T.WriteItem.text c.in-End.number c.in-End.answer))
