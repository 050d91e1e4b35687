-- What the calls do to what the container shows.
use Rattle.std.specs.Prelude.{◌≡◌, ℕ, suc, ◌-◌, ◌<◌, ◌≤◌, true, cond, List, [], map, length, take, is_some, Some, None, Ok, Err, Option, Result, slice_set, refl}
use Rattle.std.proofs.Common.{sym, ap, ◌∙◌, arith}
use Rattle.std.proofs.lemmas.List.{length-take-le, take-replicate, set-set}
use Rattle.std.proofs.lemmas.List.Sums.{count_by-le-length}
use Rattle.refusal.specs.declared.Refusal.{Refusal}
use Rattle.vector.specs.Plain.{answer, after}
use Rattle.vector.specs.Meaning.{Row, idle, waiting, served, Meaning, Lawful, is_open}
use Rattle.vector.specs.Refusals.{Judged, first_row, set_up_rows, begin_rows, step_rows}
use Rattle.vector.specs.Calls.{SetsUp, Begins, Steps, taken}
use Rattle.vector.specs.Threads.{idle_threads, task_of, with_row, begun_by, rows_of}
use Rattle.vector.specs.declared.Op.{Op}
use Rattle.vector.specs.declared.threads.Threads.{Threads}
use Rattle.vector.proofs.Rows.{row_set_same}
use Rattle.vector.proofs.Tasks.{same_meaning, set_up_granted, begin_granted, step_granted, all_idle, count, means, rows_after, begin_same, step_same, left_after, left_some}
use Rattle.direct.specs.Shows.{Own, row, shown, whole}

open_row : (o : Option Own) → is_open (row o) ≡ is_some o
open_row None = refl
open_row (Some w) = refl

-- the step of a thread that has an operation
abbrev one_if : Option Own → ℕ
one_if o = cond (is_some o) 1 0

some_one : (o : Option Own) → is_some o ≡ true → 0 < one_if o
some_one o e = rw e (omega arith)

module _ (T : Threads (Unit {0})) (xs : List ℕ) (few : T.count ≤ 8) (eight : length T.rows ≡ 8) where
  abbrev m : Meaning
  m = (shown T xs).meaning

  long : T.count ≤ length T.rows
  long = omega arith

  few_left : (shown T xs).left ≤ 8
  few_left = let a = count_by-le-length is_some (rows_of T) in let b = length-take-le T.count T.rows long in omega arith

  -- a set-up finds no values there
  pub sets_up : {X : Type 0} (k n : ℕ) (r : Result X Refusal) (T' : Threads (Unit {0})) → (T.capacity ≡ 0 → xs ≡ [])
      → Judged (set_up_rows T.capacity k n 0 0 true) r (T' ≡ T) (λ _. T' ≡ idle_threads k n) → SetsUp (shown T xs) k n r (shown T' xs)
  sets_up k n (Err f) T' bare h = (h.0, rw h.1)
  sets_up k n (Ok x) T' bare h =
      let g = set_up_granted T.capacity k n 0 0 true h.0 in
      let rows = ap (map row) (take-replicate n 8 None g.4) ∙ all_idle row refl n in
      rw h.1 (h.0, (same_meaning refl (bare g.0) rows refl, refl))

  pub begins : (t : ℕ) (op : Op ℕ) (n : ℕ) → first_row (begin_rows T.count t (is_some (task_of T.rows t)) 400 T.given T.capacity op) ≡ None
      → n ≡ suc T.given → Begins (shown T xs) t op (Ok n) (shown (begun_by T t (record { number = n; op = op; stage = tt })) xs)
  begins t op n e next =
      let g = begin_granted T.count t (is_some (task_of T.rows t)) _ e in
      let w : Own = record { number = n; op = op; stage = tt } in (
        sym (begin_same row refl T.count T.rows long open_row t 400 T.given T.capacity op) ∙ e,
        (
          next,
          same_meaning refl refl
              (rows_after row refl T.count T.rows long t (Some w) g.0 g.1 ∙ ap (λ i. slice_set m.rows (t - 1) (waiting op i)) next)
              next,
          refl,
        ),
      )

  pub steps : (t : ℕ) (w : Own) → first_row (step_rows T.count t (is_some (task_of T.rows t))) ≡ None → task_of T.rows t ≡ Some w
      → Steps (shown T xs) t (Ok (whole w.number (answer T.capacity xs w.op))) (shown (with_row T t None) (after T.capacity xs w.op))
  steps t w e here =
      let g = step_granted T.count t (is_some (task_of T.rows t)) [] e in
      let low = g.0 in
      let high = g.1 in
      let l = count row refl T.count T.rows long in
      let now : Row = served w.op w.number (answer T.capacity xs w.op) in
      let one = ap one_if here in (
        sym (step_same row refl T.count T.rows long open_row t) ∙ e,
        (
          (
            taken m t w.op w.number,
            (t, w.op, means row refl T.count T.rows long t high ∙ ap row here, refl),
            (
              w.op,
              row_set_same m.rows t now low (omega arith),
              same_meaning refl refl
                  (rows_after row refl T.count T.rows long t None low high ∙ sym (set-set m.rows (t - 1) now idle))
                  refl,
            ),
          ),
          refl,
          λ _. left_after one_if T.count T.rows long t low high None (omega arith),
        ),
      )

  -- before set-up nothing is there
  pub lawful : (T.capacity ≡ 0 → (T.count ≡ 0) × (xs ≡ []) × (T.given ≡ 0)) → Lawful (shown T xs)
  lawful bare = record {
    before = λ z. let b = bare z in same_meaning z b.1 (ap (λ n. map row (take n T.rows)) b.0) b.2;
    left_alone = λ t alone. (left_some row refl open_row one_if some_one T.count T.rows long t alone.0, few_left);
    some_numbers = omega arith;
    few_numbers = omega arith;
  }
