-- What a container means, and what holds of every container between two calls.
use Rattle.std.specs.Prelude.{◌≡◌, ℕ, ◌<◌, ◌≤◌, Bool, true, false, ◌≢◌, List, [], ◌∷◌, slice_index_or}
use Rattle.vector.specs.declared.Op.{Op}
use Rattle.vector.specs.declared.Answer.{Answer}

-- a thread has no operation; it has one, with its number, that waits for its effect; or one that was served, with the answer kept
pub data Row : Type 0 where
  idle : Row
  waiting : Op ℕ → ℕ → Row
  served : Op ℕ → ℕ → Answer ℕ → Row

-- a plain vector of values, a row for each thread, and how many numbers were given
pub record Meaning : Type 0 where
  pub capacity : ℕ
  pub items : List ℕ
  pub rows : List Row
  pub given : ℕ

-- what is fixed when a container is made: its bound of steps, the numbers it gives, and the words it needs for a capacity
pub record Make : Type 0 where
  pub bound : ℕ
  pub numbers : ℕ
  pub needs : ℕ → ℕ

-- what a container shows: its meaning, the steps left, its make and the words of its memory
pub record Shown : Type 0 where
  pub meaning : Meaning
  pub left : ℕ
  pub make : Make
  pub words : List ℕ

-- before set-up: an empty vector of capacity 0, and no threads
abbrev pub unset : Meaning
unset = record { capacity = 0; items = []; rows = []; given = 0 }

-- the row of a thread; threads are counted from 1, and who is no thread is idle
abbrev pub row_of : List Row → ℕ → Row
row_of rows t = slice_index_or (idle ∷ rows) t idle

abbrev pub is_open : Row → Bool
is_open idle = false
is_open (waiting op n) = true
is_open (served op n a) = true

-- thread t has an open operation, and no other thread has one
abbrev pub Alone : List Row → ℕ → Type 0
Alone rows t = (is_open (row_of rows t) ≡ true) × ((u : ℕ) → u ≢ t → row_of rows u ≡ idle)

-- before set-up nothing is there; while a thread is alone, some steps are left, and no more than the bound; there are 1 to 400 numbers
pub record Lawful (s : Shown) : Type 0 where
  pub before : s.meaning.capacity ≡ 0 → s.meaning ≡ unset
  pub left_alone : (t : ℕ) → Alone s.meaning.rows t → (0 < s.left) × (s.left ≤ s.make.bound)
  pub some_numbers : 1 ≤ s.make.numbers
  pub few_numbers : s.make.numbers ≤ 400
