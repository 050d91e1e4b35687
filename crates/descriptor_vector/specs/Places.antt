-- The rows of threads, counted from 1: whether they are open in the meaning, and in range.
use Rattle.std.specs.Prelude.{◌≡◌, ℕ, ◌-◌, ◌≤◌, Bool, true, false, cond, List, length, Some, None, is_some, slice_set, refl}
use Rattle.std.proofs.Common.{sym, subst, inl, inr}
use Rattle.vector.specs.Meaning.{is_open, waiting, served}
use Rattle.vector.specs.Threads.{task_of}
use Rattle.descriptor_steps.specs.Shared.{Shared}
use Rattle.linearization.specs.Meaning.{meant, took_effect, answer_of}
use Rattle.linearization.specs.Names.{Row}
use Rattle.linearization.proofs.Threads.{at_row}
use Rattle.descriptor_vector.specs.View.{RowFits}

pub open_meant : (s : Shared) (row : Row) → is_open (meant s row) ≡ is_some row
open_meant s None = refl
open_meant s (Some w) = go (took_effect s w.number)
  where
    go : (b : Bool) → is_open (cond b (served w.op w.number (answer_of (s.plan w.number) (s.status w.number))) (waiting w.op w.number)) ≡ true
    go true = refl
    go false = refl

-- rows in range stay so where one is set to a row in range
pub rows_fit : (capacity : ℕ) (rows : List Row) (t : ℕ) (row : Row) → 1 ≤ t → t ≤ length rows → ((u : ℕ) → RowFits capacity (task_of rows u)) → RowFits capacity row
    → (u : ℕ) → RowFits capacity (task_of (slice_set rows (t - 1) row) u)
rows_fit capacity rows t row low high all f u =
    elim (at_row rows t row low high u) [ inl e ↦ subst (RowFits capacity) (sym e.1) f | inr e ↦ subst (RowFits capacity) (sym e.1) (all u) ]
