use Rattle.std.proofs.Common.{◌≡◌, ◌+◌, length, take}
use Rattle.listing.specs.Listings.{listing}
use Rattle.listing.proofs.logs.room_left.Given as goal

abbrev pub invariant-loop-entry : goal.invariant-loop-entry
invariant-loop-entry g l = length (listing g.T.WriteItem.text (take l.entry-index l.log)) + l.left ≡ l.room
