use Rattle.std.proofs.Common.{sym, ◌∙◌, arith}
use Rattle.vector.proofs.Preparing.{zeros_from, not_zeros}
use Rattle.vector.proofs.scan.all_zero.Goals as goal

pub returns-in_default : goal.returns-in_default
returns-in_default g c = sym (not_zeros _ c.loop-at.at (λ z. c.in_default.field-0-test.1 (c.in_default.ensures.1 ∙ z)))

pub returns : goal.returns
returns g c = sym (zeros_from _ (λ k l. c.loop-at.invariant k (omega (arith, c.len-at-end.ensures))))
