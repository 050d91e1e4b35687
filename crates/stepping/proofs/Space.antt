-- The log has room for every record of a run: an operation has three records, and each is still to come or in the log.
use Rattle.std.proofs.Common.{◌≡◌, ℕ, zero, suc, ◌+◌, ◌-◌, ◌*◌, ◌<◌, ◌≤◌, List, length, set, replicate, Some, None, Ok, sum_by, Option, refl, ap, ◌∙◌, arith}
use Rattle.std.proofs.lemmas.List.{length-append}
use Rattle.std.proofs.lemmas.List.Sums.{sum_by-set, sum_by-cons}
use Rattle.vector.specs.Meaning.{Row, idle, waiting, served, Meaning, Shown, unset, row_of, is_open}
use Rattle.vector.specs.Plain.{answer}
use Rattle.vector.specs.Calls.{Takes, Ends, SetsUp, Begins, Steps}
use Rattle.vector.specs.declared.Op.{Op}
use Rattle.vector.specs.declared.Ended.{Ended}
use Rattle.vector.specs.declared.Stepped.{Stepped}
use Rattle.vector.proofs.Rows.{open_within}
use Rattle.stepping.specs.Log.{effect_record, end_record, step_records}
use Rattle.stepping.specs.Bench.{typed, typed_end}
use Rattle.stepping.proofs.Passes.{set_up_passes, begin_passes, closed_idle, moves_same}

-- the records to come of a row's operation
abbrev owed : Row → ℕ
owed idle = 0
owed (waiting op n) = 2
owed (served op n a) = 1

-- the records to come of the operations not yet begun and of the open ones
abbrev pub to_come : Shown → ℕ
to_come s = 3 * (s.make.numbers - s.meaning.given) + sum_by owed s.meaning.rows

owed_set : (rows : List Row) (t : ℕ) (r : Row) → 1 ≤ t → t ≤ length rows → sum_by owed (set rows (t - 1) r) + owed (row_of rows t) ≡ sum_by owed rows + owed r
owed_set rows zero r low high = absurd (omega arith)
owed_set rows (suc i) r low high =
    let e : suc i - 1 ≡ i = omega arith in
    let l : i < length rows = omega arith in
    rw e (sum_by-set owed rows i r idle l)

owed_idle : (n : ℕ) → sum_by owed (replicate n idle) ≡ 0
owed_idle zero = refl
owed_idle (suc n) = sum_by-cons owed idle (replicate n idle) ∙ omega (arith, owed_idle n)

takes_owed : (T : Type 0) (m b : Meaning) (e : Option ℕ) → Takes m e b → length (effect_record {T = T} e) + sum_by owed b.rows ≡ sum_by owed m.rows
takes_owed T m b None same = omega (arith, ap (λ x. sum_by owed x.rows) same)
takes_owed T m b (Some n) (t, op, row, same) =
    let in' = open_within m.rows t (ap is_open row) in
    omega (arith, ap (λ x. sum_by owed x.rows) same, owed_set m.rows t (served op n (answer m.capacity m.items op)) in'.0 in'.1, ap owed row)

ends_owed : {T : Type 0} (item : ℕ → T) (m b : Meaning) (t : ℕ) (e : Option (Ended ℕ)) → Ends m t e b → length (end_record (typed_end item e)) + sum_by owed b.rows ≡ sum_by owed m.rows
ends_owed item m b t None same = omega (arith, ap (λ x. sum_by owed x.rows) same)
ends_owed item m b t (Some e) (op, row, same) =
    let in' = open_within m.rows t (ap is_open row) in
    omega (arith, ap (λ x. sum_by owed x.rows) same, owed_set m.rows t idle in'.0 in'.1, ap owed row)

-- at the making
pub new_owes : (s : Shown) → s.meaning ≡ unset → to_come s ≡ 3 * s.make.numbers
new_owes s new = omega (arith, ap (λ m. m.given) new, ap (λ m. sum_by owed m.rows) new)

-- what each granted call records, it owes no longer
module _ (s s' : Shown) where
  pub set_up_owes : {X : Type 0} (c n : ℕ) (x : X) → (s.meaning.capacity ≡ 0 → s.meaning ≡ unset) → SetsUp s c n (Ok x) s' → to_come s' ≡ to_come s
  set_up_owes c n x before (pass, (means, make)) =
      let was = before (set_up_passes s c n pass).0 in
      let a : sum_by owed s'.meaning.rows ≡ 0 = ap (λ m. sum_by owed m.rows) means ∙ owed_idle n in
      omega (arith, a, ap (λ m. m.given) means, ap (λ m. m.numbers) make, ap (λ m. m.given) was, ap (λ m. sum_by owed m.rows) was)

  pub begin_owes : (t : ℕ) (op : Op ℕ) (n : ℕ) → Begins s t op (Ok n) s' → 1 + to_come s' ≡ to_come s
  begin_owes t op n (pass, (number, means, make)) =
      let p = begin_passes s t op pass in
      let a = ap (λ m. sum_by owed m.rows) means in
      let b = owed_set s.meaning.rows t (waiting op (suc s.meaning.given)) p.0 p.1 in
      let d = ap owed (closed_idle (row_of s.meaning.rows t) p.2) in
      omega (arith, a, b, d, ap (λ m. m.given) means, ap (λ m. m.numbers) make, p.3)

  pub step_owes : {T : Type 0} (item : ℕ → T) (t : ℕ) (y : Stepped ℕ) → Steps s t (Ok y) s' → length (step_records (Ok (typed item y))) + to_come s' ≡ to_come s
  step_owes {T} item t y (pass, ((mid, takes, ends'), make, falls)) =
      let q = moves_same s.meaning s'.meaning t y (mid, takes, ends') in
      omega (
        arith,
        length-append (effect_record {T = T} y.effect) (end_record (typed_end item y.end)),
        takes_owed T s.meaning mid y.effect takes,
        ends_owed item mid s'.meaning t y.end ends',
        q.2,
        ap (λ m. m.numbers) make,
      )
