use Rattle.lock_vector.specs.Keeps.{keeps_step}
use Rattle.lock_vector.proofs.LockVectorContainer.step.Goals as goal

pub returns-clause-means : goal.returns-clause-means
returns-clause-means g c = (keeps_step _ _ _ _ _ _ c.advance.ensures c.args.self.now.sound).1
