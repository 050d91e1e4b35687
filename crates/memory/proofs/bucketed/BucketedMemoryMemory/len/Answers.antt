use Rattle.std.proofs.Common.{sym}
use Rattle.memory.proofs.Rows.{all}
use Rattle.memory.proofs.bucketed.BucketedMemoryMemory.len.Goals as goal

pub returns : goal.returns
returns c = sym (all _ c.args.self.now.ok)
