-- The rows of the threads, counted from 1, as a list: one row set, and what the rows mean.
use Rattle.std.proofs.Common.{◌≡◌, ℕ, zero, suc, ◌-◌, ◌<◌, ◌≤◌, ◌≢◌, ◌⊎◌, List, [], ◌∷◌, map, length, get_or, set, Some, None, sym, refl, ap, ◌∙◌, subst, inl, inr, arith}
use Rattle.std.proofs.lemmas.List.{length-set, get_or-set_same, get_or-set_other}
use Rattle.std.proofs.lemmas.Bool.{cases_eq}
use Rattle.vector.specs.Meaning.{row_of, Row as Meant, idle as no_operation}
use Rattle.vector.specs.declared.Op.{Op}
use Rattle.vector.specs.Threads.{task_of}
use Rattle.vector.proofs.Tasks.{row_means}
use Rattle.linearization.specs.Meaning.{meant}
use Rattle.descriptor_steps.specs.Shared.{Shared}
use Rattle.linearization.specs.Names.{Stage, Row, idle, open_at}
use Rattle.linearization.proofs.Tests.{no_way}

module _ {A : Type 0} (d : A) where
  at_place : (xs : List A) (t : ℕ) (x : A) → 1 ≤ t → t ≤ length xs → (u : ℕ) → ((u ≡ t) × (get_or (d ∷ set xs (t - 1) x) u d ≡ x)) ⊎ ((u ≢ t) × (get_or (d ∷ set xs (t - 1) x) u d ≡ get_or (d ∷ xs) u d))
  at_place xs zero x low high u = absurd (omega arith)
  at_place xs (suc i) x low high zero = inr ((λ e. absurd (omega (arith, e))), refl)
  at_place xs (suc i) x low high (suc u) =
      let e : suc i - 1 ≡ i = omega arith in
      elim (cases_eq u i) [
        | inl q ↦ let l : i < length xs = omega arith in inl (ap suc q, rw (e, q) (get_or-set_same xs i x d l))
        | inr q ↦ inr ((λ h. q (omega (arith, h))), rw e (get_or-set_other xs i u x d q))
      ]

  -- lists as long, with the same at each place, are the same
  same_places : (xs ys : List A) → length xs ≡ length ys → ((i : ℕ) → get_or xs i d ≡ get_or ys i d) → xs ≡ ys
  same_places [] [] l h = refl
  same_places [] (y ∷ ys) l h = absurd (omega arith)
  same_places (x ∷ xs) [] l h = absurd (omega arith)
  same_places (x ∷ xs) (y ∷ ys) l h =
      let a : x ≡ y = h 0 in
      let b = same_places xs ys (omega arith) (λ i. h (suc i)) in
      cc

  -- the list with one place set is the one that agrees with it there and elsewhere
  pub is_set : (xs ys : List A) (t : ℕ) (x : A) → 1 ≤ t → t ≤ length xs → length ys ≡ length xs → get_or (d ∷ ys) t d ≡ x → ((u : ℕ) → u ≢ t → get_or (d ∷ ys) u d ≡ get_or (d ∷ xs) u d) → ys ≡ set xs (t - 1) x
  is_set xs ys t x low high l here there =
      same_places ys (set xs (t - 1) x) (l ∙ sym (length-set xs (t - 1) x)) (λ i. elim (at_place xs t x low high (suc i)) [ inl e ↦ subst (λ (v : ℕ). get_or (d ∷ ys) v d ≡ x) (sym e.0) here ∙ sym e.1 | inr e ↦ there (suc i) e.0 ∙ sym e.1 ])

-- rows as many, with the same of each thread, are the same
pub same_rows : (xs ys : List Meant) → length xs ≡ length ys → ((t : ℕ) → row_of xs t ≡ row_of ys t) → xs ≡ ys
same_rows xs ys l h = same_places no_operation xs ys l (λ i. h (suc i))

-- a row set is seen by its own thread alone
pub at_row : (rows : List Row) (t : ℕ) (r : Row) → 1 ≤ t → t ≤ length rows → (u : ℕ) → ((u ≡ t) × (task_of (set rows (t - 1) r) u ≡ r)) ⊎ ((u ≢ t) × (task_of (set rows (t - 1) r) u ≡ task_of rows u))
at_row = at_place idle

-- the number of what is open
abbrev pub number_in : Row → ℕ
number_in None = 0
number_in (Some w) = w.number

-- who has an open row is a thread
pub open_thread : (rows : List Row) (t n : ℕ) (op : Op ℕ) (g : Stage) → task_of rows t ≡ open_at n op g → (1 ≤ t) × (t ≤ length rows)
open_thread rows zero n op g h = no_way (cc)
open_thread [] (suc t) n op g h = no_way (cc)
open_thread (r ∷ rows) (suc zero) n op g h = (omega arith, omega arith)
open_thread (r ∷ rows) (suc (suc t)) n op g h = let z = open_thread rows (suc t) n op g h in (omega arith, omega arith)

-- a thread's row means what its place in the meaning says
pub row_meant : (s : Shared) (rows : List Row) (t : ℕ) → row_of (map (meant s) rows) t ≡ meant s (task_of rows t)
row_meant s = row_means (meant s) refl
