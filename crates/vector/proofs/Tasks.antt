-- The rows of threads: as a container keeps them, and what they mean; and what holds where a call is granted.
use Rattle.std.proofs.Common.{◌≡◌, ◌∙◌, ℕ, zero, suc, ◌-◌, ◌<◌, ◌≤◌, Bool, true, false, not, ltb, ◌≢◌, List, [], ◌∷◌, map, length, take, set, replicate, sum_by, None, Option, is_some, slice_index_or, sym, refl, ap, subst, inl, inr, arith}
use Rattle.std.proofs.Math.ListN.{get_or-eq_default}
use Rattle.std.proofs.Math.Seq.{take-set-lt}
use Rattle.std.proofs.lemmas.Bool.{cases_eq, cases_Bool, not-false, ltb-false}
use Rattle.std.proofs.lemmas.List.{length-map, length-take-le, get_or-take, get_or-set_same, get_or-set_other, map-set, set-get_or}
use Rattle.std.proofs.lemmas.List.Sums.{sum_by-set, get_or-le-sum_by}
use Rattle.vector.specs.Meaning.{Row, Meaning, idle, row_of, is_open}
use Rattle.vector.specs.Refusals.{first_row, outside, set_up_rows, begin_rows, step_rows}
use Rattle.vector.specs.Threads.{task_of}
use Rattle.vector.specs.declared.Op.{Op}
use Rattle.vector.specs.declared.threads.Task.{Task}
use Rattle.vector.proofs.Preparing.{from_outside}
use Rattle.vector.proofs.Rows.{open_within, passes}

-- threads go from 1, places from 0
pub row_of_place : (rows : List Row) (t : ℕ) → 1 ≤ t → row_of rows t ≡ slice_index_or rows (t - 1) idle
row_of_place rows zero l = absurd (omega arith)
row_of_place rows (suc i) l = let e : suc i - 1 ≡ i = omega arith in rw e

-- a row set to what it is
pub row_kept : (rows : List Row) (t : ℕ) (row : Row) → 1 ≤ t → row_of rows t ≡ row → set rows (t - 1) row ≡ rows
row_kept rows t row low e =
    let h : row ≡ slice_index_or rows (t - 1) idle = sym e ∙ row_of_place rows t low in
    rw h (set-get_or rows (t - 1) idle)

pub same_meaning : {c c' g g' : ℕ} {xs xs' : List ℕ} {rows rows' : List Row} → c ≡ c' → xs ≡ xs' → rows ≡ rows' → g ≡ g'
    → ◌≡◌ {A = Meaning} (record { capacity = c; items = xs; rows = rows; given = g }) (record { capacity = c'; items = xs'; rows = rows'; given = g' })
same_meaning p q r s = cc

-- What holds where a call is granted; a table may go on after these rows.
pub set_up_granted : (set capacity count words needed : ℕ) (zeros : Bool) → first_row (set_up_rows set capacity count words needed zeros) ≡ None
    → (set ≡ 0) × (1 ≤ capacity) × (capacity ≤ 64) × (1 ≤ count) × (count ≤ 8) × (needed ≤ words) × (zeros ≡ true)
set_up_granted set capacity count words needed zeros e =
    let new = passes (ltb 0 set) 15 _ e in
    let a = passes (outside 1 64 capacity) 10 _ new.1 in
    let b = passes (outside 1 8 count) 11 _ a.1 in
    let c = passes (ltb words needed) 12 _ b.1 in
    let d = passes (not zeros) 13 [] c.1 in
    let k = from_outside 1 64 capacity a.0 in
    let n = from_outside 1 8 count b.0 in
    let z = ltb-false 0 set new.0 in
    (omega arith, k.0, k.1, n.0, n.1, ltb-false words needed c.0, not-false zeros d.0)

pub begin_granted : (count t : ℕ) (busy : Bool) (rest : List (Bool × ℕ)) → first_row ((outside 1 count t, 20) ∷ (busy, 21) ∷ rest) ≡ None → (1 ≤ t) × (t ≤ count) × (busy ≡ false)
begin_granted count t busy rest e =
    let a = passes (outside 1 count t) 20 _ e in
    let b = from_outside 1 count t a.0 in
    (b.0, b.1, (passes busy 21 rest a.1).0)

pub step_granted : (count t : ℕ) (busy : Bool) (rest : List (Bool × ℕ)) → first_row ((outside 1 count t, 20) ∷ (not busy, 25) ∷ rest) ≡ None → (1 ≤ t) × (t ≤ count) × (busy ≡ true)
step_granted count t busy rest e =
    let a = passes (outside 1 count t) 20 _ e in
    let b = from_outside 1 count t a.0 in
    (b.0, b.1, not-false busy (passes (not busy) 25 rest a.1).0)

module _ {S : Type 0} where
  pub task_of_place : (rows : List (Option (Task S))) (t : ℕ) → 1 ≤ t → task_of rows t ≡ slice_index_or rows (t - 1) None
  task_of_place rows zero l = absurd (omega arith)
  task_of_place rows (suc i) l = let e : suc i - 1 ≡ i = omega arith in rw e

  pub no_task : (rows : List (Option (Task S))) (t : ℕ) → (0 < t → t ≤ length rows → ⊥) → task_of rows t ≡ None
  no_task rows zero none = refl
  no_task rows (suc i) none = let past : length rows ≤ i = omega (arith, none) in get_or-eq_default _ _ past

  pub same_task : (n : ℕ) (rows : List (Option (Task S))) (t : ℕ) → t ≤ n → task_of (take n rows) t ≡ task_of rows t
  same_task n rows zero h = refl
  same_task n rows (suc i) h = get_or-take n rows i None h

  -- what rows mean, each by itself; nothing open means idle
  module _ (meant : Option (Task S) → Row) (nothing : meant None ≡ idle) where
    place_means : (rows : List (Option (Task S))) (i : ℕ) → slice_index_or (map meant rows) i idle ≡ meant (slice_index_or rows i None)
    place_means [] i = sym nothing
    place_means (o ∷ rows) zero = refl
    place_means (o ∷ rows) (suc i) = place_means rows i

    pub row_means : (rows : List (Option (Task S))) (t : ℕ) → row_of (map meant rows) t ≡ meant (task_of rows t)
    row_means rows zero = sym nothing
    row_means rows (suc i) = place_means rows i

    -- with nothing open all are idle
    pub all_idle : (n : ℕ) → map meant (replicate n None) ≡ replicate n idle
    all_idle zero = refl
    all_idle (suc n) = rw (nothing, all_idle n)

    -- the first n rows, where there are as many
    module _ (n : ℕ) (rows : List (Option (Task S))) (few : n ≤ length rows) where
      pub count : length (map meant (take n rows)) ≡ n
      count = length-map (take n rows) meant ∙ length-take-le n rows few

      pub means : (t : ℕ) → t ≤ n → row_of (map meant (take n rows)) t ≡ meant (task_of rows t)
      means t high = row_means (take n rows) t ∙ ap meant (same_task n rows t high)

      pub rows_after : (t : ℕ) (row : Option (Task S)) → 1 ≤ t → t ≤ n → map meant (take n (set rows (t - 1) row)) ≡ set (map meant (take n rows)) (t - 1) (meant row)
      rows_after t row low high =
          let l : t - 1 < n = omega arith in
          ap (map meant) (take-set-lt n rows (t - 1) row l) ∙ map-set meant (take n rows) (t - 1) row

      -- where something open is what is open in the meaning
      pub opens : ((o : Option (Task S)) → is_open (meant o) ≡ is_some o) → (t : ℕ) → t ≤ n → is_open (row_of (map meant (take n rows)) t) ≡ is_some (task_of rows t)
      opens same t high = ap is_open (means t high) ∙ same (task_of rows t)

      -- there a call is refused by what is kept just where it is by the meaning
      module _ (same : (o : Option (Task S)) → is_open (meant o) ≡ is_some o) where
        pub begin_same : {V : Type 0} (t numbers given capacity : ℕ) (op : Op V)
            → first_row (begin_rows n t (is_some (task_of rows t)) numbers given capacity op) ≡ first_row (begin_rows (length (map meant (take n rows))) t (is_open (row_of (map meant (take n rows)) t)) numbers given capacity op)
        begin_same t numbers given capacity op = rw count (elim (cases_Bool (outside 1 n t)) [
          | inl e ↦ rw e
          | inr e ↦ rw (opens same t (from_outside 1 n t e).1)
        ])

        pub step_same : (t : ℕ) → first_row (step_rows n t (is_some (task_of rows t))) ≡ first_row (step_rows (length (map meant (take n rows))) t (is_open (row_of (map meant (take n rows)) t)))
        step_same t = rw count (elim (cases_Bool (outside 1 n t)) [
          | inl e ↦ rw e
          | inr e ↦ rw (opens same t (from_outside 1 n t e).1)
        ])

  -- no thread has anything open
  pub none_open : (n t : ℕ) → task_of {S = S} (replicate n None) t ≡ None
  none_open n zero = refl
  none_open zero (suc i) = refl
  none_open (suc n) (suc zero) = refl
  none_open (suc n) (suc (suc i)) = none_open n (suc i)

  -- thread t has another row, and the others have theirs
  pub task_set_same : (rows : List (Option (Task S))) (t : ℕ) (row : Option (Task S)) → 1 ≤ t → t ≤ length rows → task_of (set rows (t - 1) row) t ≡ row
  task_set_same rows t row low high = task_of_place _ t low ∙ get_or-set_same rows (t - 1) row None (omega arith)

  pub task_set_other : (rows : List (Option (Task S))) (t u : ℕ) (row : Option (Task S)) → 1 ≤ t → u ≢ t → task_of (set rows (t - 1) row) u ≡ task_of rows u
  task_set_other rows t zero row low apart = refl
  task_set_other rows t (suc j) row low apart = get_or-set_other rows (t - 1) j row None (λ e. apart (omega (arith, e)))

  -- what holds of thread t with its new row, and of the other threads with theirs, holds of all
  pub at_tasks : (P : ℕ → Option (Task S) → Type 0) (rows : List (Option (Task S))) (t : ℕ) (row : Option (Task S)) → 1 ≤ t → t ≤ length rows
      → P t row → ((u : ℕ) → u ≢ t → P u (task_of rows u)) → (u : ℕ) → P u (task_of (set rows (t - 1) row) u)
  at_tasks P rows t row low high here there u = elim (cases_eq u t) [
    | inl e ↦ rw e (subst (P t) (sym (task_set_same rows t row low high)) here)
    | inr apart ↦ subst (P u) (sym (task_set_other rows t u row low apart)) (there u apart)
  ]

  -- the steps left of the first n rows, each row having its own
  module _ (left : Option (Task S) → ℕ) (n : ℕ) (rows : List (Option (Task S))) (few : n ≤ length rows) (t : ℕ) (low : 1 ≤ t) (high : t ≤ n) where
    own : slice_index_or (take n rows) (t - 1) None ≡ task_of rows t
    own = sym (task_of_place (take n rows) t low) ∙ same_task n rows t high

    place : t - 1 < length (take n rows)
    place = let e = length-take-le n rows few in omega arith

    pub left_open : left (task_of rows t) ≤ sum_by left (take n rows)
    left_open = subst (λ o. left o ≤ sum_by left (take n rows)) own (get_or-le-sum_by left (take n rows) (t - 1) None place)

    pub left_after : (row : Option (Task S)) → left row < left (task_of rows t) → sum_by left (take n (set rows (t - 1) row)) < sum_by left (take n rows)
    left_after row less =
        let l : t - 1 < n = omega arith in
        let s = sum_by-set left (take n rows) (t - 1) row None place in
        let e = ap left own in
        let h = ap (sum_by left) (take-set-lt n rows (t - 1) row l) in
        omega arith

  -- some are left while something is open in the meaning
  pub left_some : (meant : Option (Task S) → Row) → meant None ≡ idle → ((o : Option (Task S)) → is_open (meant o) ≡ is_some o)
      → (left : Option (Task S) → ℕ) → ((o : Option (Task S)) → is_some o ≡ true → 0 < left o)
      → (n : ℕ) (rows : List (Option (Task S))) → n ≤ length rows → (t : ℕ) → is_open (row_of (map meant (take n rows)) t) ≡ true → 0 < sum_by left (take n rows)
  left_some meant nothing same left some n rows few t e =
      let b = open_within (map meant (take n rows)) t e in
      let l = count meant nothing n rows few in
      let high : t ≤ n = omega arith in
      let k = some (task_of rows t) (sym (opens meant nothing n rows few same t high) ∙ e) in
      let h = left_open left n rows few t b.0 high in
      omega arith
