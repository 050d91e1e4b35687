use Rattle.std.proofs.Common.{refl, arith}
use Rattle.memory.proofs.Placing.{bounds, placed}
use Rattle.memory.proofs.places.place.Goals as goal

pub overflow_mul-result : goal.overflow_mul-result
overflow_mul-result c = let k = bounds c.args.at (omega arith) in simp k.fits (record { fits = omega (arith, k.low) })

pub overflow_sub-result-2 : goal.overflow_sub-result-2
overflow_sub-result-2 c = let k = bounds c.args.at (omega arith) in simp k.fits (omega (arith, k.low))

pub returns : goal.returns
returns c =
    let k = bounds c.args.at (omega arith) in
    record { bucket = refl; placed = simp k.fits (placed c.args.at (omega arith)) }
