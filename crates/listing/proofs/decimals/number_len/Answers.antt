use Rattle.std.proofs.Common.{◌^◌, ◌<◌, length, ap, arith}
use Rattle.std.proofs.lemmas.Fmt.{decimal_digit, length-decimal-le}
use Rattle.listing.proofs.Putting.{length_step}
use Rattle.listing.proofs.decimals.number_len.Goals as goal

pub overflow_add-count : goal.overflow_add-count
overflow_add-count c =
    let few = length-decimal-le 20 c.args.n (omega arith) (omega arith) (omega arith) in
    omega arith

pub loop-left-preserved : goal.loop-left-preserved
loop-left-preserved c =
    let left = c.loop-left.left in
    let fits : left < 2 ^ 64 = omega arith in
    (omega (arith, length_step left c.loop-left-test.true fits), omega arith)

pub returns : goal.returns
returns c =
    let one = ap length (decimal_digit c.loop-left.left c.loop-left-test.false) in
    record { value = omega (arith, one); small = omega (arith, one, length-decimal-le 20 c.args.n (omega arith) (omega arith) (omega arith)) }
