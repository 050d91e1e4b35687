use Rattle.linearization.proofs.Linear.{linearizes}
use Rattle.linearization.proofs.steps_alone.Goals as goal

pub returns-clause-theorem : goal.returns-clause-theorem
returns-clause-theorem c = linearizes
