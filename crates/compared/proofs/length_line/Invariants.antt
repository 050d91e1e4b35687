use Rattle.std.proofs.Common.{◌≡◌, drop}
use Rattle.script.specs.Fields.{after}
use Rattle.compared.proofs.length_line.Given as goal

abbrev pub invariant-loop-i : goal.invariant-loop-i
invariant-loop-i l = after 10 (drop l.i l.bundle) ≡ after 10 l.bundle
