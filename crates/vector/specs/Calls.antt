-- What the calls of a container do to what it means.
use Rattle.std.specs.Prelude.{◌≡◌, ℕ, suc, ◌-◌, ◌<◌, Bool, true, ◌&&◌, List, [], ◌∷◌, length, replicate, Some, None, Option, Result, ◌==◌, slice_set}
use Rattle.refusal.specs.declared.Refusal.{Refusal}
use Rattle.vector.specs.Plain.{answer, after}
use Rattle.vector.specs.Meaning.{idle, waiting, served, Meaning, Shown, row_of, is_open, Alone}
use Rattle.vector.specs.Refusals.{Judged, set_up_rows, begin_rows, step_rows}
use Rattle.vector.specs.declared.Op.{Op}
use Rattle.vector.specs.declared.Ended.{Ended}
use Rattle.vector.specs.declared.Stepped.{Stepped}

-- The refusals, over what a container shows.
abbrev pub all_zero : List ℕ → Bool
all_zero [] = true
all_zero (w ∷ ws) = w == 0 && all_zero ws

abbrev pub set_up_refused : Shown → ℕ → ℕ → List (Bool × ℕ)
set_up_refused s capacity threads =
    set_up_rows s.meaning.capacity capacity threads (length s.words) (s.make.needs capacity) (all_zero s.words)

abbrev pub begin_refused : {V : Type 0} → Shown → ℕ → Op V → List (Bool × ℕ)
begin_refused s t op =
    begin_rows (length s.meaning.rows) t (is_open (row_of s.meaning.rows t)) s.make.numbers s.meaning.given s.meaning.capacity op

abbrev pub step_refused : Shown → ℕ → List (Bool × ℕ)
step_refused s t = step_rows (length s.meaning.rows) t (is_open (row_of s.meaning.rows t))

-- Set-up: an empty plain vector of the named capacity, and the named threads idle.
abbrev pub set_up : ℕ → ℕ → Meaning
set_up capacity threads = record { capacity = capacity; items = []; rows = replicate threads idle; given = 0 }

abbrev pub SetsUp : {X : Type 0} → Shown → ℕ → ℕ → Result X Refusal → Shown → Type 0
SetsUp s capacity threads r s' =
    Judged (set_up_refused s capacity threads) r (s' ≡ s) (λ _. (s'.meaning ≡ set_up capacity threads) × (s'.make ≡ s.make))

-- Begin: the thread waits with its operation and the next number.
abbrev pub begun : Meaning → ℕ → Op ℕ → Meaning
begun m t op = record {
  capacity = m.capacity;
  items = m.items;
  rows = slice_set m.rows (t - 1) (waiting op (suc m.given));
  given = suc m.given;
}

abbrev pub Begins : Shown → ℕ → Op ℕ → Result ℕ Refusal → Shown → Type 0
Begins s t op r s' =
    Judged (begin_refused s t op) r (s' ≡ s)
    (λ n. (n ≡ suc s.meaning.given) × (s'.meaning ≡ begun s.meaning t op) × (s'.make ≡ s.make))

-- An effect: the plain vector takes the waiting operation of some thread, and its answer is kept.
abbrev pub taken : Meaning → ℕ → Op ℕ → ℕ → Meaning
taken m t op n = record {
  capacity = m.capacity;
  items = after m.capacity m.items op;
  rows = slice_set m.rows (t - 1) (served op n (answer m.capacity m.items op));
  given = m.given;
}

abbrev pub Takes : Meaning → Option ℕ → Meaning → Type 0
Takes m None m' = m' ≡ m
Takes m (Some n) m' = (t : ℕ) × (op : Op ℕ) × (row_of m.rows t ≡ waiting op n) × (m' ≡ taken m t op n)

-- An end: the thread was served, is handed the answer kept, and is idle.
abbrev pub over : Meaning → ℕ → Meaning
over m t = record { capacity = m.capacity; items = m.items; rows = slice_set m.rows (t - 1) idle; given = m.given }

abbrev pub Ends : Meaning → ℕ → Option (Ended ℕ) → Meaning → Type 0
Ends m t None m' = m' ≡ m
Ends m t (Some e) m' = (op : Op ℕ) × (row_of m.rows t ≡ served op e.number e.answer) × (m' ≡ over m t)

-- Step: at most one waiting operation takes effect, and then the stepping thread, if it is served, may end.
abbrev pub Moves : Meaning → ℕ → Stepped ℕ → Meaning → Type 0
Moves m t r m' = (between : Meaning) × Takes m r.effect between × Ends between t r.end m'

-- While only one thread is not idle, the steps left fall at each of its steps.
abbrev pub Steps : Shown → ℕ → Result (Stepped ℕ) Refusal → Shown → Type 0
Steps s t r s' =
    Judged (step_refused s t) r (s' ≡ s)
    (λ x. Moves s.meaning t x s'.meaning × (s'.make ≡ s.make) × (Alone s.meaning.rows t → s'.left < s.left))
