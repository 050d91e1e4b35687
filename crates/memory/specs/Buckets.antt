-- Where the buckets of a bucketed memory lie, and which of them are open.
use Rattle.std.specs.Prelude.{◌≡◌, ℕ, ◌+◌, ◌-◌, ◌*◌, ◌/◌, ◌^◌, ◌<◌, Bool, true, false, List, [], ◌∷◌, length, count_by, Ok, Err, Result, slice_index, slice_index_or, slice_set}
use Rattle.std.specs.Int.Count.{count_leading_zeros}
use Rattle.refusal.specs.declared.Refusal.{Refusal}
use Rattle.memory.specs.declared.Swapped.{Swapped}
use Rattle.memory.specs.declared.Swapped.TheVariants.{Yes, No}

-- bucket b starts here, and holds so many words
abbrev pub start : ℕ → ℕ
start b = 8 * (2 ^ b - 1)

abbrev pub size_of : ℕ → ℕ
size_of b = 8 * 2 ^ b

-- the location is the offset-th of bucket b, from 0
pub record Placed (at b offset : ℕ) : Type 0 where
  pub lies : start b + offset ≡ at
  pub inside : offset < size_of b

-- the bucket of a location, by the leading zeros of location / 8 + 1 in 64 bits
abbrev pub bucket_of : ℕ → ℕ
bucket_of at = 63 - count_leading_zeros 64 (at / 8 + 1)

-- the sizes of the six buckets, the smallest first
abbrev pub six : List ℕ
six = 8 ∷ 16 ∷ 32 ∷ 64 ∷ 128 ∷ 256 ∷ []

-- of six buckets, all are shut
abbrev pub all_shut : List Bool
all_shut = false ∷ false ∷ false ∷ false ∷ false ∷ false ∷ []

-- a swap that answers yes opens the bucket of its location; nothing else opens one, and none is ever shut
abbrev pub Opens : List Bool → ℕ → Result Swapped Refusal → List Bool → Type 0
Opens flags at (Ok Yes) after = after ≡ slice_set flags (bucket_of at) true
Opens flags at (Ok No) after = after ≡ flags
Opens flags at (Err f) after = after ≡ flags

-- every word of a bucket that is not open is 0
abbrev pub ShutAreZero : List Bool → List ℕ → Type 0
ShutAreZero flags words = (at : ℕ) → at < length words → slice_index_or flags (bucket_of at) false ≡ false → slice_index words at ≡ 0

-- how many buckets are open
abbrev pub count_open : List Bool → ℕ
count_open flags = count_by (λ is_open. is_open) flags
