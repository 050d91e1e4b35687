-- The words of a bucketed memory, and which of its buckets are open.
use Rattle.std.specs.Prelude.{ℕ, Bool, List, vec_items}
use Rattle.memory.specs.Shown.{joined, opened}
use Rattle.memory.specs.declared.bucketed.BucketedMemory.{BucketedMemory}

abbrev pub bucketed_words : BucketedMemory → List ℕ
bucketed_words m = joined (vec_items m.buckets)

abbrev pub open_flags : BucketedMemory → List Bool
open_flags m = opened (vec_items m.buckets)
