use Rattle.std.proofs.Common.{◌≡◌, rules}
use Rattle.memory.specs.Buckets.{six, all_shut}
use Rattle.memory.specs.Shown.{sizes, opened}
use Rattle.memory.proofs.Rows.{all_zero}
use Rattle.memory.proofs.bucketed.BucketedMemory.new.Goals as goal

pub returns : goal.returns
returns c =
    let items = c.in_ok-buckets.buckets.items in
    let sized : sizes items ≡ six = search rules in
    let shut : opened items ≡ all_shut = search rules in
    (all_zero items sized shut, shut)
