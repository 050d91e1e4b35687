-- What the table and the words show, and when they hold together.
use Rattle.std.specs.Prelude.{◌≡◌, ℕ, ◌≤◌, ◌⊎◌, List}
use Rattle.vector.specs.Meaning.{Shown, unset}
use Rattle.vector.specs.Threads.{task_of, rows_of}
use Rattle.descriptor_vector.specs.declared.table.Table.{Table}
use Rattle.descriptor_vector.specs.Calls.{needed}
use Rattle.linearization.specs.Invariant.{Invariant}
use Rattle.linearization.specs.Left.{left}
use Rattle.linearization.specs.Meaning.{meaning}
use Rattle.descriptor_steps.specs.Shared.{Shared}
use Rattle.descriptor_vector.specs.View.{view, Coded, RowFits}

-- The machine's memory.
abbrev pub memory_of : Table → List ℕ → Shared
memory_of T words = view words T.plans T.threads.capacity

abbrev pub shown : Table → List ℕ → Shown
shown T words = record {
  meaning = meaning (memory_of T words) (rows_of T.threads) T.threads.given;
  left = left (memory_of T words) (rows_of T.threads);
  make = record { bound = 48; numbers = 400; needs = needed };
  words = words;
}

-- After set-up: the words stand for cells and statuses, all that the threads remember is in range, no more than 400 numbers were
-- given, and the machine's invariant holds.
pub record Running (T : Table) (words : List ℕ) : Type 0 where
  pub coded : Coded words T.plans T.threads.capacity
  pub in_range : (t : ℕ) → RowFits T.threads.capacity (task_of (rows_of T.threads) t)
  pub numbers : T.threads.given ≤ 400
  pub invariant : Invariant (memory_of T words) (rows_of T.threads) T.threads.given

-- Not yet set up, or running.
abbrev pub Sound : Table → List ℕ → Type 0
Sound T words = ((shown T words).meaning ≡ unset) ⊎ Running T words
