-- The words that a row of buckets shows, and which buckets are open.
use Rattle.std.specs.Prelude.{ℕ, ◌-◌, Bool, List, [], ◌∷◌, ◌++◌, map, length, replicate, vec_items, vec_len, nat_lt}
use Rattle.memory.specs.declared.bucket.Bucket.{Bucket}

-- the words that a bucket holds, and zeros up to its size
abbrev pub padded : ℕ → List ℕ → List ℕ
padded size words = words ++ replicate (size - length words) 0

abbrev pub shown : Bucket → List ℕ
shown b = padded b.size (vec_items b.cells)

-- buckets lie one after the other
abbrev pub joined : List Bucket → List ℕ
joined [] = []
joined (b ∷ bs) = shown b ++ joined bs

abbrev pub sizes : List Bucket → List ℕ
sizes bs = map (λ b. b.size) bs

-- a bucket is open where it holds words
abbrev pub is_open : Bucket → Bool
is_open b = nat_lt 0 (vec_len b.cells)

abbrev pub opened : List Bucket → List Bool
opened bs = map is_open bs
