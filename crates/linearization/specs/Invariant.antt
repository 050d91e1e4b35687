-- What holds between any two steps: of the shared memory, of each thread, and of the numbers given.
use Rattle.std.specs.Prelude.{◌≡◌, ℕ, ◌<◌, ◌≤◌, Bool, true, false, ◌≢◌, ◌⊎◌, List, Some, None, is_some}
use Rattle.vector.specs.declared.Op.{Op}
use Rattle.vector.specs.Threads.{task_of}
use Rattle.descriptor_steps.specs.Shared.{Cell, empty, plain, frozen, pending, done, Shared, is_pending, is_final, is_push, is_pop, position, emptied_by}
use Rattle.linearization.specs.Names.{Stage, Row, open_at}
use Rattle.linearization.specs.Meaning.{size_now}
use Rattle.linearization.specs.Knowledge.{unput, early, late, Puts, WasPut, is_done, Final, Thread}

abbrev pub is_empty : Cell → Bool
is_empty (empty k) = true
is_empty (plain a) = false
is_empty (frozen a k j) = false

-- The facts of the shared memory, with the words frozen so far.
pub record Facts (s : Shared) (put : Puts) : Type 0 where
  -- number 0 is no operation
  pub zero_unplanned : s.plan 0 ≡ None
  -- the current number is that of an installed operation, or 0
  pub current_planned : s.plan s.cur ≡ None → s.cur ≡ 0
  -- an installed operation that is not the current one is final
  pub others_final : (k : ℕ) → k ≢ s.cur → is_some (s.plan k) ≡ true → Final s k
  -- a number that is not installed is pending
  pub unplanned_pending : (k : ℕ) → s.plan k ≡ None → s.status k ≡ pending
  -- a push is never done: from pending it becomes final
  pub push_undone : (k : ℕ) → is_push (s.plan k) ≡ true → is_done (s.status k) ≡ false
  -- no cell below the size is empty
  pub below_size : (i : ℕ) → i < size_now s → is_empty (s.cell i) ≡ false
  -- every other cell is empty, but for the cell of a current pop that is done
  pub above_size : (i : ℕ) → size_now s ≤ i → (is_empty (s.cell i) ≡ true) ⊎ ((i ≡ position (s.plan s.cur)) × (is_done (s.status s.cur) ≡ true))
  -- a cell is empty by 0, or by a pop at its position that is done or final
  pub empty_by : (i k : ℕ) → s.cell i ≡ empty k → (k ≡ 0) ⊎ ((is_pop (s.plan k) ≡ true) × (position (s.plan k) ≡ i) × (is_pending (s.status k) ≡ false))
  -- a cell is frozen by a pop at its position, and its word was put
  pub frozen_by : (i a c j : ℕ) → s.cell i ≡ frozen a c j → (is_pop (s.plan c) ≡ true) × (position (s.plan c) ≡ i) × WasPut put c j a
  -- a word is put early for a pop alone
  pub early_pop : (a c j : ℕ) → put c j ≡ early a → is_pop (s.plan c) ≡ true
  -- and stands as long as the pop is pending
  pub early_pending : (a c j : ℕ) → put c j ≡ early a → s.status c ≡ pending → s.cell (position (s.plan c)) ≡ frozen a c j
  -- when the pop is done, it is done with that word's value, and the word stands or the cell is empty by the pop
  pub early_done : (a b c j : ℕ) → put c j ≡ early a → s.status c ≡ done b → (b ≡ a) × ((s.cell (position (s.plan c)) ≡ frozen a c j) ⊎ (s.cell (position (s.plan c)) ≡ empty c))
  -- when the pop is final, the word stands nowhere, and is not put again
  pub early_final : (a b c j i : ℕ) → put c j ≡ early a → Final s c → s.cell i ≢ frozen b c j
  -- a word is put late for a final pop alone
  pub late_final : (a c j : ℕ) → put c j ≡ late a → (is_pop (s.plan c) ≡ true) × Final s c
  -- who is done with a value has put a word with it early
  pub done_early : (a c : ℕ) → s.status c ≡ done a → (j : ℕ) × (put c j ≡ early a)
  -- the cell of a current pending push, if it is empty, is empty by whom its plan says
  pub push_expects : (k : ℕ) → is_push (s.plan s.cur) ≡ true → s.status s.cur ≡ pending → s.cell (position (s.plan s.cur)) ≡ empty k → k ≡ emptied_by (s.plan s.cur)
  -- and that is 0, or final
  pub push_emptied : (c : ℕ) → is_push (s.plan c) ≡ true → (emptied_by (s.plan c) ≡ 0) ⊎ Final s (emptied_by (s.plan c))
  -- once a push is final, its cell is never again as it found it
  pub push_filled : (c : ℕ) → is_push (s.plan c) ≡ true → Final s c → s.cell (position (s.plan c)) ≢ empty (emptied_by (s.plan c))
  -- plans are for positions within the capacity
  pub plan_within : (k : ℕ) → is_some (s.plan k) ≡ true → position (s.plan k) < s.cap

-- A row is idle, or its thread knows what its stage says, and its number was given.
abbrev pub RowHolds : Shared → Puts → ℕ → Row → Type 0
RowHolds s put given None = Unit {0}
RowHolds s put given (Some w) = Thread s put w.number w.op w.stage × (w.number ≤ given)

-- The whole invariant, over the rows of the threads and how many numbers were given.
pub record Invariant (s : Shared) (rows : List Row) (given : ℕ) : Type 0 where
  -- which words were ever put: known to the proof alone
  pub put : Puts
  pub facts : Facts s put
  pub each_row : (t : ℕ) → RowHolds s put given (task_of rows t)
  -- different threads have different numbers
  pub apart : (t u n : ℕ) (op op' : Op ℕ) (g g' : Stage) → task_of rows t ≡ open_at n op g → task_of rows u ≡ open_at n op' g' → t ≡ u
  -- an installed operation that is not final is still open
  pub owned : (k : ℕ) → is_some (s.plan k) ≡ true → is_final (s.status k) ≡ false → (t : ℕ) × (op : Op ℕ) × (g : Stage) × (task_of rows t ≡ open_at k op g)
  -- a number not yet given is not installed, and no word was put through it
  pub plan_later : (k : ℕ) → given < k → s.plan k ≡ None
  pub put_later : (c j : ℕ) → given < j → put c j ≡ unput
