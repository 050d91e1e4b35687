use Rattle.lock_vector.specs.Keeps.{keeps_begin}
use Rattle.lock_vector.proofs.LockVectorContainer.begin.Goals as goal

pub returns-clause-means : goal.returns-clause-means
returns-clause-means g c = (keeps_begin _ _ _ _ _ _ _ c.admit.ensures c.args.self.now.sound).1
