-- Refused or granted, the container's step and its records make one link of the history.
use Rattle.std.proofs.Common.{rules}
use Rattle.std.proofs.lemmas.Result.{err_from_is_err_and}
use Rattle.stepping.proofs.History.{goes_on, kept_log}
use Rattle.stepping.proofs.running.Running.step.Goals as goal

pub returns-in_err-step-clause-history : goal.returns-in_err-step-clause-history
returns-in_err-step-clause-history g c =
    let p = err_from_is_err_and c.from_residual.result c.from_residual.ensures.1 in
    rw (p.1, p.2) (goes_on _ _ _ _ _ (record { turned = search rules; threads_same = search rules; logs = search (rules, kept_log) }))

pub returns-clause-history : goal.returns-clause-history
returns-clause-history g c = goes_on _ _ _ _ _ (search rules)
