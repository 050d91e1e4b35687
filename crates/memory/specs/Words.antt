-- What a memory answers, and what its words are afterwards.
use Rattle.std.specs.Prelude.{◌≡◌, ℕ, ◌<◌, ◌≤◌, ◌≢◌, List, length, Ok, Err, Result, slice_index, slice_set}
use Rattle.refusal.specs.declared.Refusal.{Refusal}
use Rattle.refusal.specs.declared.Refusal.TheVariants.{NoSuchLocation}
use Rattle.memory.specs.declared.Swapped.{Swapped}
use Rattle.memory.specs.declared.Swapped.TheVariants.{Yes, No}

-- a load answers the word at a location below the length, and refuses any other location
abbrev pub Loads : List ℕ → ℕ → Result ℕ Refusal → Type 0
Loads words at (Ok word) = (at < length words) × (word ≡ slice_index words at)
Loads words at (Err f) = (length words ≤ at) × (f ≡ NoSuchLocation)

-- yes: the old word stood there, and the new one stands there now; no: another stood there, and nothing is altered
abbrev pub Swaps : List ℕ → ℕ → ℕ → ℕ → Result Swapped Refusal → List ℕ → Type 0
Swaps words at old new (Ok Yes) after = (at < length words) × (slice_index words at ≡ old) × (after ≡ slice_set words at new)
Swaps words at old new (Ok No) after = (at < length words) × (slice_index words at ≢ old) × (after ≡ words)
Swaps words at old new (Err f) after = (length words ≤ at) × (f ≡ NoSuchLocation) × (after ≡ words)
