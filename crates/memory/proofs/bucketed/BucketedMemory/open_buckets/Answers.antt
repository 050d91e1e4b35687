use Rattle.memory.proofs.Rows.{shut_there}
use Rattle.memory.proofs.bucketed.BucketedMemory.open_buckets.Goals as goal

pub returns-clause-shut : goal.returns-clause-shut
returns-clause-shut c = shut_there _ c.args.self.now.ok
