-- The threads of a container, as it keeps them.
use Rattle.std.specs.Prelude.{ℕ, ◌-◌, List, ◌∷◌, take, replicate, Some, None, Option, slice_index_or, slice_set}
use Rattle.vector.specs.declared.threads.Task.{Task}
use Rattle.vector.specs.declared.threads.Threads.{Threads}

module _ {S : Type 0} where
  -- so many idle threads, and no number given
  abbrev pub idle_threads : ℕ → ℕ → Threads S
  idle_threads capacity count = record { capacity = capacity; count = count; rows = replicate 8 None; given = 0 }

  -- what thread t has open; threads are counted from 1, and who is no thread has nothing open
  abbrev pub task_of : List (Option (Task S)) → ℕ → Option (Task S)
  task_of rows t = slice_index_or (None ∷ rows) t None

  -- thread t has another task open, or none
  abbrev pub with_row : Threads S → ℕ → Option (Task S) → Threads S
  with_row T t row = record { capacity = T.capacity; count = T.count; rows = slice_set T.rows (t - 1) row; given = T.given }

  -- thread t begins a task with the next number
  abbrev pub begun_by : Threads S → ℕ → Task S → Threads S
  begun_by T t task = record { capacity = T.capacity; count = T.count; rows = slice_set T.rows (t - 1) (Some task); given = task.number }

  -- the rows of the threads that there are
  abbrev pub rows_of : Threads S → List (Option (Task S))
  rows_of T = take T.count T.rows
