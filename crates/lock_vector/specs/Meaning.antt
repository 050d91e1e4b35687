-- What the threads and the words mean, and the invariant: what holds of them between any two calls.
use Rattle.std.specs.Prelude.{◌≡◌, ℕ, suc, ◌<◌, ◌≤◌, min, Bool, true, false, ◌≢◌, ◌⊎◌, List, map, length, get_or, take, drop, Some, None, sum_by, Option, slice_index}
use Rattle.vector.specs.declared.Op.{Op}
use Rattle.vector.specs.declared.Op.TheVariants.{Push, Pop, Read, Write, Size}
use Rattle.vector.specs.declared.Answer.{Answer}
use Rattle.vector.specs.declared.Answer.TheVariants.{Position, Value}
use Rattle.vector.specs.declared.threads.Task.{Task}
use Rattle.vector.specs.declared.threads.Threads.{Threads}
use Rattle.vector.specs.Meaning.{Row, Shown, idle, waiting, served}
use Rattle.vector.specs.Plain.{Small}
use Rattle.vector.specs.Threads.{task_of, rows_of}
use Rattle.lock_vector.specs.declared.stages.Loading.TheVariants.{K2, K3}
use Rattle.lock_vector.specs.declared.stages.Swapping.TheVariants.{K1, K4, K5, K6}
use Rattle.lock_vector.specs.declared.stages.Stage.{Stage}
use Rattle.lock_vector.specs.declared.stages.Stage.TheVariants.{Load, Swap}
use Rattle.lock_vector.specs.Stages.{cell, plain, value_of}
use Rattle.lock_vector.specs.Calls.{needed}

-- THE MEANING. The values of all cells
abbrev pub values : List ℕ → List ℕ
values words = map value_of (drop 401 words)

-- the plain vector: the values of as many cells as the length says
abbrev pub items : ℕ → List ℕ → List ℕ
items capacity words = take (min (slice_index words 1) capacity) (values words)

-- an operation was served where only the lock is left to free
abbrev pub meant_at : Stage → Op ℕ → ℕ → Row
meant_at (Load l) op n = waiting op n
meant_at (Swap K1) op n = waiting op n
meant_at (Swap (K4 i seen a)) op n = waiting op n
meant_at (Swap (K5 from to answer)) op n = waiting op n
meant_at (Swap (K6 answer)) op n = served op n answer

-- what a row means
abbrev pub meant : Option (Task Stage) → Row
meant None = idle
meant (Some o) = meant_at o.stage o.op o.number

-- the steps that a stage has left once the lock is its own
abbrev pub rank_at : Stage → ℕ
rank_at (Swap K1) = 6
rank_at (Load K2) = 5
rank_at (Load (K3 i)) = 4
rank_at (Swap (K4 i seen a)) = 3
rank_at (Swap (K5 from to answer)) = 2
rank_at (Swap (K6 answer)) = 1

-- a thread with nothing open has none left
abbrev pub rank : Option (Task Stage) → ℕ
rank None = 0
rank (Some o) = rank_at o.stage

-- what a vector under a lock shows: bound 48, since eight rows have at most six steps each, and 400 numbers
abbrev pub shown : Threads Stage → List ℕ → Shown
shown T words = record {
  meaning = record { capacity = T.capacity; items = items T.capacity words; rows = map meant (rows_of T); given = T.given };
  left = sum_by rank (rows_of T);
  make = record { bound = 48; numbers = 400; needs = needed };
  words = words;
}

-- THE INVARIANT. A stage is inside from K2 on: its operation has the lock
abbrev pub inside_at : Stage → Bool
inside_at (Load l) = true
inside_at (Swap K1) = false
inside_at (Swap (K4 i seen a)) = true
inside_at (Swap (K5 from to answer)) = true
inside_at (Swap (K6 answer)) = true

-- a thread with nothing open is not inside
abbrev pub inside : Option (Task Stage) → Bool
inside None = false
inside (Some o) = inside_at o.stage

-- K3 goes for the cell at i while the length is n: for a push the first free one, for a pop the last value's
abbrev pub Aims : ℕ → ℕ → ℕ → Op ℕ → Type 0
Aims capacity n i (Push a) = (i ≡ n) × (n < capacity)
Aims capacity n i Pop = suc i ≡ n
Aims capacity n i (Read j) = (i ≡ j) × (j < n)
Aims capacity n i (Write j a) = (i ≡ j) × (j < n)
Aims capacity n i Size = ⊥

-- K4 puts v into the cell at i: the operation's own value, where K3 went
abbrev pub Puts : ℕ → ℕ → ℕ → ℕ → Op ℕ → Type 0
Puts capacity n i v (Push a) = (i ≡ n) × (n < capacity) × (v ≡ a)
Puts capacity n i v Pop = ⊥
Puts capacity n i v (Read j) = ⊥
Puts capacity n i v (Write j a) = (i ≡ j) × (j < n) × (v ≡ a)
Puts capacity n i v Size = ⊥

-- K5 changes the length n by one: for a push the value is in its cell, for a pop the answer is what the last cell holds
abbrev pub Resizes : ℕ → List ℕ → ℕ → ℕ → Answer ℕ → Op ℕ → Type 0
Resizes capacity words n to answer (Push a) = (to ≡ suc n) × (n < capacity) × (answer ≡ Position n) × (slice_index words (cell n) ≡ plain a)
Resizes capacity words n to answer Pop = (suc to ≡ n) × (answer ≡ Value (value_of (slice_index words (cell to))))
Resizes capacity words n to answer (Read j) = ⊥
Resizes capacity words n to answer (Write j a) = ⊥
Resizes capacity words n to answer Size = ⊥

-- what the operation inside remembers still stands
abbrev pub Seen : ℕ → List ℕ → Stage → Op ℕ → Type 0
Seen capacity words (Load K2) op = Unit {0}
Seen capacity words (Load (K3 i)) op = Aims capacity (slice_index words 1) i op
Seen capacity words (Swap K1) op = ⊥
Seen capacity words (Swap (K4 i seen v)) op = (slice_index words (cell i) ≡ seen) × Puts capacity (slice_index words 1) i v op
Seen capacity words (Swap (K5 from to answer)) op = (slice_index words 1 ≡ from) × Resizes capacity words (slice_index words 1) to answer op
Seen capacity words (Swap (K6 answer)) op = Unit {0}

-- a row has the lock: the lock's word is its number
abbrev pub Inside : ℕ → List ℕ → Option (Task Stage) → Type 0
Inside capacity words None = ⊥
Inside capacity words (Some o) = (slice_index words 0 ≡ o.number) × Seen capacity words o.stage o.op

-- the lock is free and no thread is inside; or one thread has it, and no other is inside
pub data Lock (capacity threads : ℕ) (words : List ℕ) (rows : List (Option (Task Stage))) : Type 0 where
  free : get_or words 0 0 ≡ 0 → ((u : ℕ) → inside (task_of rows u) ≡ false) → Lock capacity threads words rows
  held : (u : ℕ) → u ≤ threads → Inside capacity words (task_of rows u) → ((v : ℕ) → v ≢ u → inside (task_of rows v) ≡ false) → Lock capacity threads words rows

-- the memory has room, the length is within the capacity, and the cells below it are plain
pub record WordsFit (capacity : ℕ) (words : List ℕ) : Type 0 where
  pub room : needed capacity ≤ length words
  pub within : get_or words 1 0 ≤ capacity
  pub plains : (i : ℕ) → i < slice_index words 1 → slice_index words (cell i) ≡ plain (value_of (slice_index words (cell i)))

-- an open operation has a number that was given, and its value fits
abbrev pub Known : ℕ → Option (Task Stage) → Type 0
Known given None = Unit {0}
Known given (Some o) = (1 ≤ o.number) × (o.number ≤ given) × Small o.op

-- a vector that is set up
pub record Running (T : Threads Stage) (words : List ℕ) : Type 0 where
  pub some : 1 ≤ T.capacity
  pub few : T.count ≤ 8
  pub eight : length T.rows ≡ 8
  pub fit : WordsFit T.capacity words
  pub known : (u : ℕ) → Known T.given (task_of T.rows u)
  pub lock : Lock T.capacity T.count words T.rows

-- a vector before set-up: of its rows, which set-up makes idle, and of its words nothing is asked
pub record Bare (T : Threads Stage) : Type 0 where
  pub none : T.count ≡ 0
  pub bare : T.capacity ≡ 0
  pub ungiven : T.given ≡ 0
  pub eight : length T.rows ≡ 8

-- it holds together
abbrev pub Sound : Threads Stage → List ℕ → Type 0
Sound T words = Bare T ⊎ Running T words
