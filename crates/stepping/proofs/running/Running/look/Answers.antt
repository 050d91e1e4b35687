-- A look is a link of the history that leaves the bench as it is.
use Rattle.std.proofs.Common.{rules}
use Rattle.stepping.proofs.History.{goes_on}
use Rattle.stepping.proofs.running.Running.look.Goals as goal

pub returns-then-not-contains-clause-history : goal.returns-then-not-contains-clause-history
returns-then-not-contains-clause-history g c = goes_on _ _ _ _ _ (search rules)

pub returns-clause-history : goal.returns-clause-history
returns-clause-history g c = goes_on _ _ _ _ _ (search rules)
