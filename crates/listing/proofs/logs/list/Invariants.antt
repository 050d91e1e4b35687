use Rattle.std.proofs.Common.{take}
use Rattle.listing.specs.Listings.{listing}
use Rattle.listing.specs.Puts.{Puts}
use Rattle.listing.proofs.logs.list.Given as goal

abbrev pub invariant-loop-entry : goal.invariant-loop-entry
invariant-loop-entry g l = Puts (listing g.T.WriteItem.text (take l.entry-index l.log)) 0 l.initial.output l.output l.at
