-- The theorem: the step table is a plain vector, each of whose operations takes effect at one step.
use Rattle.std.specs.Prelude.{◌≡◌, ℕ, suc, ◌<◌, ◌≤◌, true, List, map, length, replicate}
use Rattle.vector.specs.declared.Op.{Op}
use Rattle.vector.specs.Plain.{index_fits}
use Rattle.vector.specs.Meaning.{Alone}
use Rattle.vector.specs.Calls.{set_up, begun, Moves}
use Rattle.vector.specs.Threads.{task_of}
use Rattle.descriptor_steps.specs.Shared.{Shared, fresh}
use Rattle.descriptor_steps.specs.Machine.{act, told, rows_begun, rows_stepped}
use Rattle.linearization.specs.Names.{Stage, Row, idle, open_at}
use Rattle.linearization.specs.Meaning.{meant, meaning}
use Rattle.linearization.specs.Left.{left}
use Rattle.linearization.specs.Invariant.{Invariant}

-- Of a fresh memory and idle threads the invariant holds, and they mean a vector newly set up.
abbrev pub Starts : Type 0
Starts =
    (capacity threads : ℕ) → Invariant (fresh capacity) (replicate threads idle) 0 × (meaning (fresh capacity) (replicate threads idle) 0 ≡ set_up capacity threads)

-- Where an idle thread begins an operation, the invariant is kept, and the thread waits with it.
abbrev pub BeginsSo : Type 0
BeginsSo =
    (s : Shared) (rows : List Row) (given t : ℕ) (op : Op ℕ)
    → Invariant s rows given → 1 ≤ t → t ≤ length rows → task_of rows t ≡ idle → index_fits s.cap op ≡ true
    → Invariant s (rows_begun rows given t op) (suc given) × (meaning s (rows_begun rows given t op) (suc given) ≡ begun (meaning s rows given) t op)

-- Where an open thread steps, the invariant is kept; at most one waiting operation takes effect, as the plain vector takes it, and
-- the thread may end with the answer kept; and while it is alone, its steps left fall.
abbrev pub StepsSo : Type 0
StepsSo =
    (s : Shared) (rows : List Row) (given t n : ℕ) (op : Op ℕ) (g : Stage)
    → Invariant s rows given → task_of rows t ≡ open_at n op g
    → Invariant (act s n op g).sh (rows_stepped rows t n op (act s n op g)) given
    × Moves (meaning s rows given) t (told n (act s n op g)) (meaning (act s n op g).sh (rows_stepped rows t n op (act s n op g)) given)
    × (Alone (map (meant s) rows) t → left (act s n op g).sh (rows_stepped rows t n op (act s n op g)) < left s rows)

-- While a thread is alone, it has a step left, and no more than the bound.
abbrev pub EndsWithin : ℕ → Type 0
EndsWithin bound =
    (s : Shared) (rows : List Row) (given t : ℕ) → Invariant s rows given → Alone (map (meant s) rows) t → (0 < left s rows) × (left s rows ≤ bound)

-- The bound is 48.
abbrev pub EndsInTime : Type 0
EndsInTime = EndsWithin 48

-- The whole of it.
pub record Linearizes (bound : ℕ) : Type 0 where
  pub starts : Starts
  pub begins : BeginsSo
  pub steps : StepsSo
  pub in_time : EndsWithin bound
