use Rattle.std.proofs.Common.{◌^◌, ◌<◌, length, sym, ap, arith}
use Rattle.std.proofs.lemmas.Fmt.{decimal_digit, decimal_step}
use Rattle.listing.proofs.Putting.{then_puts, puts_is, puts_byte, length_step}
use Rattle.listing.proofs.decimals.+put_number.Goals as goal

pub bounds-output-at : goal.bounds-output-at
bounds-output-at t c = omega (arith, ap length (decimal_digit c.args.n c.if-n-lt10.true))

pub returns-then-n-lt10 : goal.returns-then-n-lt10
returns-then-n-lt10 t c =
    let one = decimal_digit c.args.n c.if-n-lt10.true in
    puts_is (sym one) (puts_byte _ c.args.at c.args.output.now (omega (arith, ap length one)))

pub put_number-last-requires : goal.put_number-last-requires
put_number-last-requires t c = omega (arith, length_step c.args.n c.if-n-lt10.false (omega arith))

pub bounds-output-last : goal.bounds-output-last
bounds-output-last t c =
    let more = length_step c.args.n c.if-n-lt10.false (omega arith) in
    omega (arith, more, c.put_number-last.ensures.place)

pub returns : goal.returns
returns t c =
    let n = c.args.n in
    let fits : n < 2 ^ 64 = omega arith in
    let more = length_step n c.if-n-lt10.false fits in
    let last = c.put_number-last.result in
    let here : last < length c.put_number-last.new.output = omega (arith, more, c.put_number-last.ensures.place) in
    puts_is (sym (decimal_step n c.if-n-lt10.false fits)) (then_puts c.put_number-last.ensures (puts_byte _ last c.put_number-last.new.output here))
