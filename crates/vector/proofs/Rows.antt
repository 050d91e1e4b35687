-- Rows of threads, counted from 1, and the table of refusals.
use Rattle.std.proofs.Common.{◌≡◌, ℕ, zero, suc, ◌-◌, ◌<◌, ◌≤◌, Bool, true, false, ◌≢◌, List, [], ◌∷◌, length, set, replicate, None, sym, refl, subst, inl, inr, arith}
use Rattle.std.proofs.lemmas.Bool.{cases_eq}
use Rattle.std.proofs.lemmas.List.{get_or-set_same, get_or-set_other}
use Rattle.vector.specs.Meaning.{Row, idle, row_of, is_open}
use Rattle.vector.specs.Refusals.{first_row}

-- a row that is open is that of a thread
pub open_within : (rows : List Row) (t : ℕ) → is_open (row_of rows t) ≡ true → (1 ≤ t) × (t ≤ length rows)
open_within rows zero o = let z : ◌≡◌ {A = ℕ} 0 1 = cc in absurd (omega arith)
open_within [] (suc i) o = let z : ◌≡◌ {A = ℕ} 0 1 = cc in absurd (omega arith)
open_within (r ∷ rows) (suc zero) o = (omega arith, omega arith)
open_within (r ∷ rows) (suc (suc i)) o = let h = open_within rows (suc i) o in (omega arith, omega arith)

pub row_set_same : (rows : List Row) (t : ℕ) (r : Row) → 1 ≤ t → t ≤ length rows → row_of (set rows (t - 1) r) t ≡ r
row_set_same rows zero r low high = absurd (omega arith)
row_set_same rows (suc i) r low high =
    let e : suc i - 1 ≡ i = omega arith in
    let l : i < length rows = omega arith in
    rw e (get_or-set_same rows i r idle l)

pub row_set_other : (rows : List Row) (t u : ℕ) (r : Row) → 1 ≤ t → u ≢ t → row_of (set rows (t - 1) r) u ≡ row_of rows u
row_set_other rows t zero r low apart = refl
row_set_other rows t (suc j) r low apart =
    let ne : j ≢ t - 1 = λ e. apart (omega (arith, e)) in
    get_or-set_other rows (t - 1) j r idle ne

pub row_replicate : (n t : ℕ) → row_of (replicate n idle) t ≡ idle
row_replicate n zero = refl
row_replicate zero (suc i) = refl
row_replicate (suc n) (suc zero) = refl
row_replicate (suc n) (suc (suc i)) = row_replicate n (suc i)

-- the table lets a call through only where every test fails
pub passes : (b : Bool) (n : ℕ) (rows : List (Bool × ℕ)) → first_row ((b, n) ∷ rows) ≡ None → (b ≡ false) × (first_row rows ≡ None)
passes true n rows e = let z : ◌≡◌ {A = ℕ} 0 1 = cc in absurd (omega arith)
passes false n rows e = (refl, e)

-- what holds of thread t at its new row, and of the other threads at theirs, holds of all
pub at_threads : (P : ℕ → Row → Type 0) (rows : List Row) (t : ℕ) (r : Row) → 1 ≤ t → t ≤ length rows → P t r → ((u : ℕ) → u ≢ t → P u (row_of rows u)) → (u : ℕ) → P u (row_of (set rows (t - 1) r) u)
at_threads P rows t r low high here there u =
    elim (cases_eq u t) [
      | inl e ↦ subst (λ (x : ℕ). P x (row_of (set rows (t - 1) r) x)) (sym e) (subst (P t) (sym (row_set_same rows t r low high)) here)
      | inr apart ↦ subst (P u) (sym (row_set_other rows t u r low apart)) (there u apart)
    ]
