-- The tables of refusals. A row is a test and a number: where several tests hold, the upper row wins.
use Rattle.std.specs.Prelude.{◌≡◌, ℕ, Bool, true, false, not, ◌&&◌, List, [], ◌∷◌, Some, None, Ok, Err, Option, Result, nat_le, nat_lt}
use Rattle.refusal.specs.declared.Refusal.{Refusal}
use Rattle.refusal.specs.Numbers.{number_of_refusal}
use Rattle.vector.specs.Plain.{index_fits}
use Rattle.vector.specs.declared.Op.{Op}

abbrev pub first_row : List (Bool × ℕ) → Option ℕ
first_row [] = None
first_row ((true, n) ∷ rows) = Some n
first_row ((false, n) ∷ rows) = first_row rows

-- a call is refused just as the table says, and then Same; else Granted, of what it gave
abbrev pub Judged : {X : Type 0} → List (Bool × ℕ) → Result X Refusal → Type 0 → (X → Type 0) → Type 0
Judged rows (Ok x) Same Granted = (first_row rows ≡ None) × Granted x
Judged rows (Err f) Same Granted = (first_row rows ≡ Some (number_of_refusal f)) × Same

-- the verdict alone
abbrev pub Judges : {X : Type 0} → List (Bool × ℕ) → Result X Refusal → Type 0
Judges rows (Ok x) = first_row rows ≡ None
Judges rows (Err f) = first_row rows ≡ Some (number_of_refusal f)

abbrev pub outside : ℕ → ℕ → ℕ → Bool
outside low high n = not (nat_le low n && nat_le n high)

-- over the capacity that there is, the count of words, the words needed, and whether all words are 0
abbrev pub set_up_rows : ℕ → ℕ → ℕ → ℕ → ℕ → Bool → List (Bool × ℕ)
set_up_rows set capacity threads words needed zeros =
    (nat_lt 0 set, 15)
    ∷ (outside 1 64 capacity, 10)
    ∷ (outside 1 8 threads, 11)
    ∷ (nat_lt words needed, 12)
    ∷ (not zeros, 13)
    ∷ []

-- over the number of threads, and whether thread t has an open operation
abbrev pub begin_rows : {V : Type 0} → ℕ → ℕ → Bool → ℕ → ℕ → ℕ → Op V → List (Bool × ℕ)
begin_rows threads t busy numbers given capacity op =
    (outside 1 threads t, 20)
    ∷ (busy, 21)
    ∷ (nat_le numbers given, 22)
    ∷ (not (index_fits capacity op), 23)
    ∷ []

abbrev pub step_rows : ℕ → ℕ → Bool → List (Bool × ℕ)
step_rows threads t busy = (outside 1 threads t, 20) ∷ (not busy, 25) ∷ []
