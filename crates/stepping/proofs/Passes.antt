-- What the tables let through, and what a step leaves as it was.
use Rattle.std.proofs.Common.{◌≡◌, ℕ, ◌-◌, ◌<◌, ◌≤◌, true, false, not, ◌&&◌, ltb, leb, length, Some, None, Option, refl, ap, ◌∙◌, arith}
use Rattle.std.proofs.lemmas.List.{length-set}
use Rattle.std.proofs.lemmas.Bool.{not-false, and_parts, leb-true, leb-false, ltb-false}
use Rattle.vector.specs.Meaning.{Row, idle, waiting, served, Meaning, Shown, row_of, is_open}
use Rattle.vector.specs.Refusals.{first_row, outside}
use Rattle.vector.specs.Calls.{set_up_refused, begin_refused, step_refused, Takes, Ends, Moves}
use Rattle.vector.specs.declared.Op.{Op}
use Rattle.vector.specs.declared.Ended.{Ended}
use Rattle.vector.specs.declared.Stepped.{Stepped}
use Rattle.vector.proofs.Rows.{passes}

within : (low high n : ℕ) → outside low high n ≡ false → (low ≤ n) × (n ≤ high)
within low high n e =
    let p = and_parts (leb low n) (leb n high) (not-false (leb low n && leb n high) e) in
    (leb-true low n p.0, leb-true n high p.1)

module _ (s : Shown) where
  pub set_up_passes : (c n : ℕ) → first_row (set_up_refused s c n) ≡ None → (s.meaning.capacity ≡ 0) × (1 ≤ c)
  set_up_passes c n e =
      let p = passes (ltb 0 s.meaning.capacity) 15 _ e in
      let q = passes (outside 1 64 c) 10 _ p.1 in
      let h = ltb-false 0 s.meaning.capacity p.0 in
      (omega (arith, h), (within 1 64 c q.0).0)

  pub begin_passes : {V : Type 0} (t : ℕ) (op : Op V) → first_row (begin_refused s t op) ≡ None
      → (1 ≤ t) × (t ≤ length s.meaning.rows) × (is_open (row_of s.meaning.rows t) ≡ false) × (s.meaning.given < s.make.numbers)
  begin_passes t op e =
      let p = passes (outside 1 (length s.meaning.rows) t) 20 _ e in
      let q = passes (is_open (row_of s.meaning.rows t)) 21 _ p.1 in
      let r = passes (leb s.make.numbers s.meaning.given) 22 _ q.1 in
      let w = within 1 (length s.meaning.rows) t p.0 in
      (w.0, w.1, q.0, leb-false s.make.numbers s.meaning.given r.0)

  pub step_passes : (t : ℕ) → first_row (step_refused s t) ≡ None
      → (1 ≤ t) × (t ≤ length s.meaning.rows) × (is_open (row_of s.meaning.rows t) ≡ true)
  step_passes t e =
      let p = passes (outside 1 (length s.meaning.rows) t) 20 _ e in
      let q = passes (not (is_open (row_of s.meaning.rows t))) 25 _ p.1 in
      let w = within 1 (length s.meaning.rows) t p.0 in
      (w.0, w.1, not-false (is_open (row_of s.meaning.rows t)) q.0)

pub closed_idle : (r : Row) → is_open r ≡ false → r ≡ idle
closed_idle idle e = refl
closed_idle (waiting op n) e = let z : ◌≡◌ {A = ℕ} 0 1 = cc in absurd (omega arith)
closed_idle (served op n a) e = let z : ◌≡◌ {A = ℕ} 0 1 = cc in absurd (omega arith)

-- A step keeps the capacity, the count of rows and the numbers given.
abbrev Same : Meaning → Meaning → Type 0
Same m b = (b.capacity ≡ m.capacity) × (length b.rows ≡ length m.rows) × (b.given ≡ m.given)

takes_same : (m b : Meaning) (e : Option ℕ) → Takes m e b → Same m b
takes_same m b None same = (ap (λ x. x.capacity) same, ap (λ x. length x.rows) same, ap (λ x. x.given) same)
takes_same m b (Some n) (t, op, row, same) = (ap (λ x. x.capacity) same, ap (λ x. length x.rows) same ∙ length-set m.rows (t - 1) _, ap (λ x. x.given) same)

ends_same : (m b : Meaning) (t : ℕ) (e : Option (Ended ℕ)) → Ends m t e b → Same m b
ends_same m b t None same = (ap (λ x. x.capacity) same, ap (λ x. length x.rows) same, ap (λ x. x.given) same)
ends_same m b t (Some e) (op, row, same) = (ap (λ x. x.capacity) same, ap (λ x. length x.rows) same ∙ length-set m.rows (t - 1) _, ap (λ x. x.given) same)

pub moves_same : (m b : Meaning) (t : ℕ) (y : Stepped ℕ) → Moves m t y b → Same m b
moves_same m b t y (mid, takes, ends') =
    let p = takes_same m mid y.effect takes in
    let q = ends_same mid b t y.end ends' in
    (q.0 ∙ p.0, q.1 ∙ p.1, q.2 ∙ p.2)
