use Rattle.script_laws.proofs.Runs.{runs_are_answered}
use Rattle.script_laws.proofs.logs_of_runs_are_answered.Goals as goal

pub returns : goal.returns
returns c = record { numbers = runs_are_answered; points = runs_are_answered }
