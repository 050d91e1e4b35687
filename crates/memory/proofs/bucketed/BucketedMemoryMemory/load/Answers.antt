use Rattle.std.proofs.Common.{refl, arith}
use Rattle.memory.proofs.Rows.{all, long, in_six, loads_there}
use Rattle.memory.proofs.bucketed.BucketedMemoryMemory.load.Goals as goal

pub returns-then-at-ge-LEN : goal.returns-then-at-ge-LEN
returns-then-at-ge-LEN c = (omega (arith, all _ c.args.self.now.ok), refl)

pub index-requires : goal.index-requires
index-requires c =
    let ok = c.args.self.now.ok in
    omega (arith, long _ ok, in_six _ ok _ _ _ c.place-bucket.ensures.placed c.if-at-ge-LEN.false)

pub returns : goal.returns
returns c =
    let ok = c.args.self.now.ok in
    let placed = c.place-bucket.ensures.placed in
    loads_there _ ok _ _ _ placed _ (in_six _ ok _ _ _ placed c.if-at-ge-LEN.false) _ c.index.ensures c.load.ensures
