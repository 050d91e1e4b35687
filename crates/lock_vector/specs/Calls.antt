-- What each call does to the threads and to the words of the memory, whatever these are: it is refused just as its table of
-- refusals says, and alters nothing then; else here are the threads, the answer and every word after it.
use Rattle.std.specs.Prelude.{◌≡◌, ℕ, suc, ◌+◌, ◌<◌, ◌≤◌, Bool, cond, not, List, [], ◌∷◌, length, is_some, Some, None, Ok, Err, Option, Result, ◌==◌, nat_le, slice_index, slice_set}
use Rattle.refusal.specs.declared.Refusal.{Refusal}
use Rattle.refusal.specs.declared.Refusal.TheVariants.{NoSuchLocation}
use Rattle.memory.specs.declared.Swapped.{Swapped}
use Rattle.memory.specs.declared.Swapped.TheVariants.{Yes, No}
use Rattle.vector.specs.declared.Op.{Op}
use Rattle.vector.specs.declared.Stepped.{Stepped}
use Rattle.vector.specs.declared.threads.Task.{Task}
use Rattle.vector.specs.declared.threads.Threads.{Threads}
use Rattle.vector.specs.Refusals.{outside, Judged, set_up_rows, begin_rows}
use Rattle.vector.specs.Calls.{all_zero}
use Rattle.vector.specs.Plain.{Small}
use Rattle.vector.specs.Threads.{idle_threads, task_of, with_row, begun_by}
use Rattle.lock_vector.specs.declared.stages.Swapping.{Swapping}
use Rattle.lock_vector.specs.declared.stages.Swapping.TheVariants.{K1}
use Rattle.lock_vector.specs.declared.stages.Stage.{Stage}
use Rattle.lock_vector.specs.declared.stages.Stage.TheVariants.{Load, Swap}
use Rattle.lock_vector.specs.declared.stages.Moved.{Moved}
use Rattle.lock_vector.specs.Stages.{load_at, swap_at, swap_old, swap_new, loaded, swapped}

-- ONE STAGE. The location that it accesses
abbrev pub location : Stage → ℕ
location (Load l) = load_at l
location (Swap s) = swap_at s

-- a swap is answered yes just where its old word stands
abbrev pub answered : List ℕ → ℕ → Swapping → Swapped
answered words number s = cond (slice_index words (swap_at s) == swap_old number s) Yes No

-- the words after it: only a swap that is answered yes alters one
abbrev pub stored : List ℕ → ℕ → Stage → List ℕ
stored words number (Load l) = words
stored words number (Swap s) =
    cond (slice_index words (swap_at s) == swap_old number s) (slice_set words (swap_at s) (swap_new number s)) words

-- what it leads to, by the step table
abbrev pub moved : ℕ → List ℕ → Task Stage → Stage → Moved
moved capacity words o (Load l) = loaded capacity o l (slice_index words (load_at l))
moved capacity words o (Swap s) = swapped o s (answered words o.number s)

-- it is refused where the memory has no such location, and alters nothing then
abbrev pub Acts : ℕ → List ℕ → Task Stage → Result Moved Refusal → List ℕ → Type 0
Acts capacity words o (Ok m) words' =
    (location o.stage < length words) × (m ≡ moved capacity words o o.stage) × (words' ≡ stored words o.number o.stage)
Acts capacity words o (Err f) words' = (length words ≤ location o.stage) × (f ≡ NoSuchLocation) × (words' ≡ words)

-- SET-UP. 401 words and one for each value are needed
abbrev pub needed : ℕ → ℕ
needed capacity = 401 + capacity

-- set-up alters no word: all are 0, so that the lock is free and the length 0
abbrev pub Prepares : {X : Type 0} → Threads Stage → List ℕ → ℕ → ℕ → Result X Refusal → Threads Stage → List ℕ → Type 0
Prepares T words capacity threads r T' words' =
    Judged (set_up_rows T.capacity capacity threads (length words) (needed capacity) (all_zero words)) r ((T' ≡ T) × (words' ≡ words))
    (λ _. (T' ≡ idle_threads capacity threads) × (words' ≡ words))

-- BEGIN. An operation at the first stage
abbrev pub first_stage : ℕ → Op ℕ → Task Stage
first_stage number op = record { number = number; op = op; stage = Swap K1 }

-- the thread is at K1 with the next number
abbrev pub admitted : Threads Stage → ℕ → Op ℕ → Threads Stage
admitted T t op = begun_by T t (first_stage (suc T.given) op)

-- the refusals of a begin, with 400 numbers to give
abbrev pub admit_rows : Threads Stage → ℕ → Op ℕ → List (Bool × ℕ)
admit_rows T t op = begin_rows T.count t (is_some (task_of T.rows t)) 400 T.given T.capacity op

-- begin alters no word
abbrev pub Admits : Threads Stage → List ℕ → ℕ → Op ℕ → Result ℕ Refusal → Threads Stage → List ℕ → Type 0
Admits T words t op r T' words' =
    Judged (admit_rows T t op) r ((T' ≡ T) × (words' ≡ words))
    (λ n. (n ≡ suc T.given) × (T' ≡ admitted T t op) × (words' ≡ words) × Small op)

-- STEP. The location of a thread's stage; one with nothing open never comes so far, here and in the next two
abbrev pub location_of : Option (Task Stage) → ℕ
location_of None = 0
location_of (Some o) = location o.stage

-- what the stage of a row leads to
abbrev pub moved_row : ℕ → List ℕ → Option (Task Stage) → Moved
moved_row capacity words None = record { row = None; stepped = record { effect = None; end = None } }
moved_row capacity words (Some o) = moved capacity words o o.stage

-- the words after the stage of a row
abbrev pub stored_row : List ℕ → Option (Task Stage) → List ℕ
stored_row words None = words
stored_row words (Some o) = stored words o.number o.stage

-- the refusals of a step; the last is the memory's own, which a sound vector never meets
abbrev pub advance_rows : Threads Stage → List ℕ → ℕ → List (Bool × ℕ)
advance_rows T words t =
    (outside 1 T.count t, 20)
    ∷ (not (is_some (task_of T.rows t)), 25)
    ∷ (nat_le (length words) (location_of (task_of T.rows t)), 30)
    ∷ []

-- the row of the thread moves by its stage, and no other row does
abbrev pub Advances : Threads Stage → List ℕ → ℕ → Result (Stepped ℕ) Refusal → Threads Stage → List ℕ → Type 0
Advances T words t r T' words' =
    Judged (advance_rows T words t) r ((T' ≡ T) × (words' ≡ words))
    (λ s. (T' ≡ with_row T t (moved_row T.capacity words (task_of T.rows t)).row)
    × (s ≡ (moved_row T.capacity words (task_of T.rows t)).stepped)
    × (words' ≡ stored_row words (task_of T.rows t)))
