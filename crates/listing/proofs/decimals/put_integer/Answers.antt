use Rattle.std.proofs.Common.{◌≡◌, ◌∷◌, pos, nat_abs, ◌<ℤ◌, decimal, ap, ◌∙◌, arith}
use Rattle.std.proofs.lemmas.Int.{ints}
use Rattle.listing.proofs.Putting.{then_puts, puts_is, below_zero}
use Rattle.listing.proofs.decimals.put_integer.Goals as goal

pub returns : goal.returns
returns c =
    let n = c.args.n in
    let low : n <ℤ pos 0 = omega (arith, ints) in
    let e : c.unsigned_abs.result ≡ nat_abs n = omega (arith, ints) in
    puts_is (ap (λ d. 45 ∷ decimal d) e ∙ below_zero n low) (then_puts c.put_text-digits.ensures c.put_number-2.ensures)
