-- Where the words of a row of buckets stand.
use Rattle.std.proofs.Common.{◌≡◌, ℕ, zero, suc, ◌+◌, ◌<◌, ◌≤◌, false, List, [], ◌∷◌, Ok, length, get_or, set, replicate, vec_items, vec_len, refl, ap, le_of_suc-le-suc, arith, ◌^◌, pow_mono, ltb-false, lt_of_not-le}
use Rattle.std.proofs.lemmas.Grind.{common_steps}
use Rattle.std.proofs.lemmas.List.{set-append_left, set-append_right, replicate-append-replicate}
use Rattle.memory.proofs.Placing.{placed}
use Rattle.memory.specs.declared.Swapped.{Swapped}
use Rattle.memory.specs.declared.Swapped.TheVariants.{Yes, No}
use Rattle.memory.specs.declared.bucket.Bucket.{Bucket}
use Rattle.memory.specs.Buckets.{six, start, size_of, bucket_of, Placed, all_shut, ShutAreZero}
use Rattle.memory.specs.Shown.{shown, joined, sizes, is_open, opened}
use Rattle.memory.specs.Within.{SwapsWithin}
use Rattle.memory.specs.Words.{Loads, Swaps}

-- the sum of the first k of the numbers
abbrev before : List ℕ → ℕ → ℕ
before [] k = 0
before (n ∷ ns) zero = 0
before (n ∷ ns) (suc k) = n + before ns k

shown_length : (b : Bucket) → length (shown b) ≡ b.size
shown_length b = grind (arith, common_steps)

joined_length : (bs : List Bucket) → length (joined bs) ≡ before (sizes bs) (length bs)
joined_length [] = refl
joined_length (b ∷ bs) = grind (arith, common_steps, shown_length, joined_length bs)

joined_get : (bs : List Bucket) (k off : ℕ) (d : Bucket) → k < length bs → off < (get_or bs k d).size → get_or (joined bs) (before (sizes bs) k + off) 0 ≡ get_or (shown (get_or bs k d)) off 0
joined_get [] k off d h o = grind (arith, common_steps)
joined_get (b ∷ bs) zero off d h o = grind (arith, common_steps, shown_length)
joined_get (b ∷ bs) (suc k) off d h o = grind (arith, common_steps, shown_length, joined_get bs k off d (le_of_suc-le-suc h) o)

joined_set : (bs : List Bucket) (k off v : ℕ) (d n : Bucket) → k < length bs → off < (get_or bs k d).size → shown n ≡ set (shown (get_or bs k d)) off v → joined (set bs k n) ≡ set (joined bs) (before (sizes bs) k + off) v
joined_set [] k off v d n h o e = grind (arith, common_steps)
joined_set (b ∷ bs) zero off v d n h o e =
    let there = set-append_left (shown b) (joined bs) off v (omega (arith, shown_length b)) in
    grind (arith, there, e)
joined_set (b ∷ bs) (suc k) off v d n h o e =
    let there = set-append_right (shown b) (joined bs) b.size (b.size + before (sizes bs) k + off) v (shown_length b) (omega arith) in
    grind (arith, there, joined_set bs k off v d n (le_of_suc-le-suc h) o e)

-- a bucket that is not open shows zeros
shut_shows : (b : Bucket) → is_open b ≡ false → shown b ≡ replicate b.size 0
shut_shows b e =
    let none : length (vec_items b.cells) ≡ 0 = omega (arith, b.cells.ok.0, ltb-false 0 (vec_len b.cells) e) in
    grind (arith, common_steps, none)

joined_shut : (bs : List Bucket) → opened bs ≡ replicate (length bs) false → joined bs ≡ replicate (before (sizes bs) (length bs)) 0
joined_shut [] e = refl
joined_shut (b ∷ bs) e = grind (arith, common_steps, shut_shows b, joined_shut bs, replicate-append-replicate {A = ℕ} b.size (before (sizes bs) (length bs)) 0)

flag_at : (bs : List Bucket) (k : ℕ) (d : Bucket) → k < length bs → get_or (opened bs) k false ≡ is_open (get_or bs k d)
flag_at bs k d h = grind (arith, common_steps)

-- the six sizes, one by one
six_starts : (k : ℕ) → k < 6 → (before six k ≡ start k) × (get_or six k 0 ≡ size_of k)
six_starts k h = grind (arith, common_steps)

-- a row of the six sizes
module _ (bs : List Bucket) (sized : sizes bs ≡ six) where
  pub long : length bs ≡ 6
  long = grind (arith, common_steps, ap length sized)

  pub all : length (joined bs) ≡ 504
  all = grind (arith, common_steps, joined_length bs, long)

  pub all_zero : opened bs ≡ all_shut → joined bs ≡ replicate 504 0
  all_zero e = grind (arith, common_steps, joined_shut bs, long)

  module _ (at b off : ℕ) (p : Placed at b off) where
    -- a location lies in the row exactly where its bucket is one of the six
    inside : b < 6 → at < length (joined bs)
    inside h =
        let start_fits = six_starts b h in
        let last : 2 ^ b ≤ 2 ^ 5 = pow_mono (le_of_suc-le-suc h) in
        omega (arith, last, all)

    pub beyond : 6 ≤ b → length (joined bs) ≤ at
    beyond h =
        let low : 2 ^ 6 ≤ 2 ^ b = pow_mono h in
        omega (arith, low, all)

    pub in_six : at < 504 → b < 6
    in_six h = lt_of_not-le (λ (m : 6 ≤ b). omega (arith, beyond m, all))

    module _ (d : Bucket) (h : b < 6) where
      pub size_there : (get_or bs b d).size ≡ size_of b
      size_there = grind (arith, common_steps, long, six_starts b h)

      get_there : get_or (joined bs) at 0 ≡ get_or (shown (get_or bs b d)) off 0
      get_there = grind (arith, common_steps, joined_get bs b off d, size_there, long, six_starts b h)

      -- the bucket's word is the row's
      pub loads_there : (word : ℕ) → d ≡ get_or bs b d → word ≡ get_or (shown d) off 0 → Loads (joined bs) at (Ok word)
      loads_there word e w = (inside h, grind (arith, get_there, ap shown e, w))

      set_there : (v : ℕ) (n : Bucket) → shown n ≡ set (shown (get_or bs b d)) off v → joined (set bs b n) ≡ set (joined bs) at v
      set_there v n e = grind (arith, common_steps, joined_set bs b off v d n, size_there, long, six_starts b h)

      -- a swap in the bucket is a swap in the row
      pub swaps_there : (old new : ℕ) (n : Bucket) (r : Swapped) → d ≡ get_or bs b d → SwapsWithin d off old new r n → Swaps (joined bs) at old new (Ok r) (joined (set bs b n))
      swaps_there old new n Yes e w =
          let shows = ap shown e in
          (inside h, grind (arith, get_there, shows, w.0), set_there new n (grind (arith, shows, w.1)))
      swaps_there old new n No e w =
          let shows = ap shown e in
          (inside h, (λ k. w.0 (grind (arith, get_there, shows, k))), grind (arith, common_steps, w.1, e))

-- the words of a bucket that is not open are 0
pub shut_there : (bs : List Bucket) → sizes bs ≡ six → ShutAreZero (opened bs) (joined bs)
shut_there [] sized at below e = absurd (omega arith)
shut_there (d ∷ bs) sized at below e =
    let row = d ∷ bs in
    let b : ℕ = bucket_of at in
    let p = placed at (omega (arith, all row sized)) in
    let six_th : b < 6 = in_six row sized at b _ p (omega (arith, all row sized)) in
    grind (arith, common_steps, get_there row sized at b _ p d six_th, shut_shows (get_or row b d), flag_at row b d, long row sized)
