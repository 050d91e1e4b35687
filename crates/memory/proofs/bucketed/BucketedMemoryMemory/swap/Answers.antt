use Rattle.std.proofs.Common.{refl, ap, ◌∙◌, arith}
use Rattle.memory.specs.declared.bucket.Bucket.{Bucket}
use Rattle.memory.proofs.Rows.{all, long, in_six, size_there, swaps_there}
use Rattle.memory.proofs.bucketed.BucketedMemoryMemory.swap.Goals as goal

pub returns-then-at-ge-LEN : goal.returns-then-at-ge-LEN
returns-then-at-ge-LEN c = record { swaps = (omega (arith, all _ c.args.self.now.ok), refl, refl); opens = refl }

pub index_mut-requires : goal.index_mut-requires
index_mut-requires c =
    let ok = c.args.self.now.ok in
    omega (arith, long _ ok, in_six _ ok _ _ _ c.place-bucket.ensures.placed c.if-at-ge-LEN.false)

pub swap-requires : goal.swap-requires
swap-requires c =
    let ok = c.args.self.now.ok in
    let placed = c.place-bucket.ensures.placed in
    let size = ap (λ (b : Bucket). b.size) c.index_mut.ensures.value ∙ size_there _ ok _ _ _ placed _ (in_six _ ok _ _ _ placed c.if-at-ge-LEN.false) in
    omega (arith, size, placed.inside)

pub returns-clause-swaps : goal.returns-clause-swaps
returns-clause-swaps c =
    let ok = c.args.self.now.ok in
    let placed = c.place-bucket.ensures.placed in
    swaps_there _ ok _ _ _ placed _ (in_six _ ok _ _ _ placed c.if-at-ge-LEN.false) _ _ _ _ c.index_mut.ensures.value c.swap.ensures.swaps
