-- Refused or granted, the container's set-up makes one link of the history.
use Rattle.std.proofs.Common.{rules}
use Rattle.stepping.proofs.History.{goes_on}
use Rattle.stepping.proofs.running.Running.set_up.Goals as goal

pub returns-in_err-set_up-clause-history : goal.returns-in_err-set_up-clause-history
returns-in_err-set_up-clause-history g c = goes_on _ _ _ _ _ (search rules)

pub returns-clause-history : goal.returns-clause-history
returns-clause-history g c = goes_on _ _ _ _ _ (search rules)
