use Rattle.lock_vector.specs.Keeps.{keeps_set_up}
use Rattle.lock_vector.proofs.LockVectorContainer.set_up.Goals as goal

pub returns-clause-means : goal.returns-clause-means
returns-clause-means g c = (keeps_set_up _ _ c.args.capacity c.args.threads _ _ _ c.prepare.ensures c.args.self.now.sound).1
