-- What each call does to the table and to the words of the memory, whatever these are: it is refused just as its table of refusals
-- says, and alters nothing then; else here are the table, the answer and every word after it.
use Rattle.std.specs.Prelude.{◌≡◌, ℕ, suc, ◌+◌, Bool, List, [], ◌∷◌, ◌++◌, length, Some, None, is_some, Result, nat_le}
use Rattle.refusal.specs.declared.Refusal.{Refusal}
use Rattle.vector.specs.declared.Op.{Op}
use Rattle.vector.specs.declared.Stepped.{Stepped}
use Rattle.vector.specs.Calls.{all_zero}
use Rattle.vector.specs.Plain.{Small}
use Rattle.vector.specs.Refusals.{Judged, set_up_rows, begin_rows, step_rows}
use Rattle.vector.specs.Threads.{idle_threads, task_of, with_row, begun_by}
use Rattle.descriptor_words.specs.Accesses.{location, found, words_after}
use Rattle.descriptor_words.specs.declared.access.Found.{Found}
use Rattle.descriptor_steps.specs.declared.stage.Moved.{Moved}
use Rattle.descriptor_vector.specs.declared.table.Table.{Table}
use Rattle.descriptor_steps.specs.Machine.{Row, first, row_after}
use Rattle.descriptor_steps.specs.Steps.{no_plans, plan_of, access, seen, took, leads, plans_after, tells}
use Rattle.linearization.specs.Names.{Stage}

-- SET-UP. 401 words and one for each value are needed.
abbrev pub needed : ℕ → ℕ
needed capacity = 401 + capacity

-- Every field is written: the threads are idle, no number has a plan, and none was given.
abbrev pub prepared : ℕ → ℕ → Table
prepared capacity threads =
    record { threads = idle_threads capacity threads; plans = no_plans }

-- Set-up alters no word: all are 0.
abbrev pub Prepares : {X : Type 0} → Table → List ℕ → ℕ → ℕ → Result X Refusal → Table → List ℕ → Type 0
Prepares T words capacity threads r T' words' =
    Judged (set_up_rows T.threads.capacity capacity threads (length words) (needed capacity) (all_zero words)) r
    ((T' ≡ T) × (words' ≡ words)) (λ _. (T' ≡ prepared capacity threads) × (words' ≡ words))

-- BEGIN. The thread is at the first stage of its operation, with the next number.
abbrev pub admitted : Table → ℕ → Op ℕ → Table
admitted T t op =
    record { threads = begun_by T.threads t (record { number = suc T.threads.given; op = op; stage = first op }); plans = T.plans }

-- There are 400 numbers to give.
abbrev pub admit_rows : Table → ℕ → Op ℕ → List (Bool × ℕ)
admit_rows T t op = begin_rows T.threads.count t (is_some (task_of T.threads.rows t)) 400 T.threads.given T.threads.capacity op

-- Begin alters no word.
abbrev pub Admits : Table → List ℕ → ℕ → Op ℕ → Result ℕ Refusal → Table → List ℕ → Type 0
Admits T words t op r T' words' =
    Judged (admit_rows T t op) r ((T' ≡ T) × (words' ≡ words))
    (λ n. (n ≡ suc T.threads.given) × (T' ≡ admitted T t op) × (words' ≡ words) × Small op)

-- STEP. What the one access of a stage finds, and where that leads.
abbrev pub finds : Table → List ℕ → ℕ → Stage → Found
finds T words n g = found words (access (plan_of T.plans) n g)

abbrev pub moves : Table → List ℕ → ℕ → Op ℕ → Stage → Moved
moves T words n op g = leads (seen T.plans T.threads.capacity (finds T words n g)) (took (finds T words n g)) n op g

-- The table after a step of thread t: its own row, and the plan that it installs.
abbrev pub settled : Table → ℕ → ℕ → Op ℕ → Moved → Table
settled T t n op m = record { threads = with_row T.threads t (row_after n op m.next); plans = plans_after T.plans n m.plan }

-- The last row is the memory's own refusal: a sound vector never meets it. An idle row never comes so far.
abbrev pub location_of : Table → Row → ℕ
location_of T None = 0
location_of T (Some w) = location (access (plan_of T.plans) w.number w.stage)

abbrev pub advance_rows : Table → List ℕ → ℕ → List (Bool × ℕ)
advance_rows T words t =
    step_rows T.threads.count t (is_some (task_of T.threads.rows t)) ++ (nat_le (length words) (location_of T (task_of T.threads.rows t)), 30) ∷ []

-- A granted step of a row: every word after it, the table, and what it tells.
abbrev pub Granted : Table → List ℕ → ℕ → Row → Stepped ℕ → Table → List ℕ → Type 0
Granted T words t None x T' words' = ⊥
Granted T words t (Some w) x T' words' =
    (words' ≡ words_after words (access (plan_of T.plans) w.number w.stage))
    × (T' ≡ settled T t w.number w.op (moves T words w.number w.op w.stage))
    × (x ≡ tells w.number (moves T words w.number w.op w.stage))

abbrev pub Advances : Table → List ℕ → ℕ → Result (Stepped ℕ) Refusal → Table → List ℕ → Type 0
Advances T words t r T' words' =
    Judged (advance_rows T words t) r ((T' ≡ T) × (words' ≡ words)) (λ x. Granted T words t (task_of T.threads.rows t) x T' words')
