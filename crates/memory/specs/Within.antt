-- What a swap does to one bucket.
use Rattle.std.specs.Prelude.{◌≡◌, ℕ, true, ◌≢◌, slice_index, slice_set}
use Rattle.memory.specs.declared.Swapped.{Swapped}
use Rattle.memory.specs.declared.Swapped.TheVariants.{Yes, No}
use Rattle.memory.specs.declared.bucket.Bucket.{Bucket}
use Rattle.memory.specs.Shown.{shown, is_open}

-- yes opens the bucket; no leaves all as it was
abbrev pub SwapsWithin : Bucket → ℕ → ℕ → ℕ → Swapped → Bucket → Type 0
SwapsWithin b at old new Yes after = (slice_index (shown b) at ≡ old) × (shown after ≡ slice_set (shown b) at new) × (is_open after ≡ true)
SwapsWithin b at old new No after = (slice_index (shown b) at ≢ old) × (after ≡ b)
