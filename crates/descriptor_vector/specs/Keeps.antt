-- Every call keeps a sound vector sound, and does to its meaning what a container does: from the tables of the calls, the view of
-- the words and the theorem on the step table.
use Rattle.std.specs.Prelude.{◌≡◌, ℕ, zero, suc, ◌-◌, ◌<◌, ◌≤◌, true, false, not, List, [], ◌∷◌, map, length, take, replicate, Some, None, is_some, Ok, Err, Result, nat_le, nat_lt, slice_set, refl}
use Rattle.std.proofs.Common.{sym, ap, ◌∙◌, subst, inl, inr, arith}
use Rattle.std.proofs.Math.Seq.{take-set-lt}
use Rattle.std.proofs.lemmas.List.{take-replicate, length-take-le}
use Rattle.std.proofs.lemmas.Bool.{cases_Bool, not-false, ltb-true, ltb-false, leb-false, lt-leb, and_from, le-leb}
use Rattle.refusal.specs.declared.Refusal.{Refusal}
use Rattle.vector.specs.declared.Op.{Op}
use Rattle.vector.specs.declared.Op.TheVariants.{Push, Pop, Read, Write, Size}
use Rattle.vector.specs.declared.Stepped.{Stepped}
use Rattle.vector.specs.Plain.{index_fits, Small}
use Rattle.vector.specs.Meaning.{Lawful, Meaning, Row as Meant, Alone, row_of, is_open}
use Rattle.vector.specs.Threads.{idle_threads, task_of, rows_of}
use Rattle.vector.specs.Refusals.{first_row, outside, set_up_rows}
use Rattle.vector.specs.Calls.{all_zero, begin_refused, step_refused, SetsUp, Begins, Steps, Moves, begun, set_up}
use Rattle.vector.proofs.Rows.{passes}
use Rattle.vector.proofs.Tasks.{same_task, count, opens, none_open}
use Rattle.descriptor_words.specs.Words.{numbered}
use Rattle.descriptor_words.specs.Accesses.{words_after}
use Rattle.descriptor_vector.specs.declared.table.Table.{Table}
use Rattle.descriptor_steps.specs.declared.stage.Moved.{Moved}
use Rattle.descriptor_steps.specs.Shared.{Shared, fresh}
use Rattle.descriptor_steps.specs.Machine.{first, row_after, ended, told, act, Res, rows_begun, rows_stepped}
use Rattle.linearization.specs.Meaning.{meant, meaning}
use Rattle.linearization.specs.Left.{left}
use Rattle.linearization.specs.Invariant.{Invariant}
use Rattle.descriptor_steps.specs.Steps.{plan_of, access, plans_after, tells}
use Rattle.linearization.specs.Names.{Row, idle, open_at, Next, goto, end}
use Rattle.descriptor_vector.specs.Calls.{needed, prepared, admitted, admit_rows, moves, settled, location_of, advance_rows, Granted, Prepares, Admits, Advances}
use Rattle.descriptor_vector.specs.View.{StageFits, NextFits, OpFits, RowFits}
use Rattle.descriptor_vector.specs.Sound.{memory_of, shown, Running, Sound}
use Rattle.linearization.proofs.Tests.{no_way, none_there}
use Rattle.linearization.proofs.Linear.{starts, begins_so, steps_so, ends_in_time}
use Rattle.vector.proofs.Preparing.{zeros_at, from_outside}
use Rattle.descriptor_vector.specs.Fresh.{fresh_view, fresh_coded}
use Rattle.descriptor_vector.specs.Fits.{act_fits}
use Rattle.descriptor_vector.specs.Places.{open_meant, rows_fit}
use Rattle.descriptor_vector.specs.Stages.{Does, does, there}

-- what holds of the table and the words that a call leaves
left_with : (P : Table → List ℕ → Type 0) (T T' : Table) (W W' : List ℕ) → T' ≡ T → W' ≡ W → P T W → P T' W'
left_with P T T' W W' p q h = subst (λ (t : Table). P t W') (sym p) (subst (P T) (sym q) h)

-- what alters nothing means what it meant
still : (T T' : Table) (W W' : List ℕ) → Sound T W → T' ≡ T → W' ≡ W → Sound T' W' × (shown T' W' ≡ shown T W)
still T T' W W' sound p q = left_with (λ t w. Sound t w × (shown t w ≡ shown T W)) T T' W W' p q (sound, refl)

-- SET-UP
granted_set_up : (T : Table) (W : List ℕ) (k n : ℕ) → first_row (set_up_rows T.threads.capacity k n (length W) (needed k) (all_zero W)) ≡ None
    → Running (prepared k n) W × ((shown (prepared k n) W).meaning ≡ set_up k n)
granted_set_up T W k n e =
    let p1 = passes (nat_lt 0 T.threads.capacity) 15 _ e in
    let p2 = passes (outside 1 64 k) 10 _ p1.1 in
    let p3 = passes (outside 1 8 n) 11 _ p2.1 in
    let p4 = passes (nat_lt (length W) (needed k)) 12 _ p3.1 in
    let p5 = passes (not (all_zero W)) 13 [] p4.1 in
    let zeros : (at : ℕ) → _ = λ at. zeros_at W at (not-false (all_zero W) p5.0) in
    let some_cell : 0 < k = (from_outside 1 64 k p2.0).0 in
    let same : memory_of (prepared k n) W ≡ fresh k = fresh_view W k zeros in
    let rows : rows_of (idle_threads k n) ≡ replicate n idle = take-replicate n 8 idle (from_outside 1 8 n p3.0).1 in (
      record {
        coded = fresh_coded W k zeros some_cell (ltb-false (length W) (needed k) p4.0);
        in_range = λ t. rw rows (subst (RowFits k) (sym (none_open n t)) tt);
        numbers = omega arith;
        invariant = subst (λ (s : Shared). Invariant s (rows_of (idle_threads k n)) 0) (sym same) (subst (λ (r : List Row). Invariant (fresh k) r 0) (sym rows) (starts k n).0);
      },
      (λ i. meaning (same i) (rows i) 0) ∙ (starts k n).1,
    )

pub keeps_set_up : {X : Type 0} (T : Table) (W : List ℕ) (k n : ℕ) (r : Result X Refusal) (T' : Table) (W' : List ℕ)
    → Prepares T W k n r T' W' → Sound T W → Sound T' W' × SetsUp (shown T W) k n r (shown T' W')
keeps_set_up T W k n (Err f) T' W' h sound = let s = still T T' W W' sound h.1.0 h.1.1 in (s.0, (h.0, s.1))
keeps_set_up {X} T W k n (Ok x) T' W' h sound =
    let g = granted_set_up T W k n h.0 in
    left_with (λ t w. Sound t w × SetsUp {X = X} (shown T W) k n (Ok x) (shown t w)) (prepared k n) T' W W' h.1.0 h.1.1 (inr g.0, (h.0, (g.1, refl)))

-- THE TABLES OF REFUSALS, over the code's table and over what it shows.
module _ (T : Table) (W : List ℕ) (few : T.threads.count ≤ 8) (eight : length T.threads.rows ≡ 8) where
  within : T.threads.count ≤ length T.threads.rows
  within = omega arith

  abbrev meant_here : Row → Meant
  meant_here = meant (memory_of T W)

  shown_count : length (map meant_here (rows_of T.threads)) ≡ T.threads.count
  shown_count = count meant_here refl T.threads.count T.threads.rows within

  shown_open : (t : ℕ) → t ≤ T.threads.count → is_open (row_of (map meant_here (rows_of T.threads)) t) ≡ is_some (task_of T.threads.rows t)
  shown_open = opens meant_here refl T.threads.count T.threads.rows within (open_meant (memory_of T W))

  begin_same : (t : ℕ) (op : Op ℕ) → first_row (admit_rows T t op) ≡ first_row (begin_refused (shown T W) t op)
  begin_same t op = let c = shown_count in rw c (elim (cases_Bool (outside 1 T.threads.count t)) [
    | inl e ↦ rw e
    | inr e ↦ let o = shown_open t (from_outside 1 T.threads.count t e).1 in rw o
  ])

  -- where there are threads, it is running
  running : Sound T W → (t : ℕ) → 1 ≤ t → t ≤ T.threads.count → Running T W
  running (inl e) t low high =
      let c = shown_count in
      let z = ap (λ (m : Meaning). length m.rows) e in
      absurd (omega (arith, c, z))
  running (inr run) t low high = run

  -- the location that a thread's stage asks for is there
  located : Running T W → (t : ℕ) → t ≤ T.threads.count → (row : Row) → task_of T.threads.rows t ≡ row → is_some row ≡ true → location_of T row < length W
  located run t high None e b = no_way (sym b)
  located run t high (Some w) e b =
      let f : RowFits T.threads.capacity (Some w) = subst (RowFits T.threads.capacity) (same_task T.threads.count T.threads.rows t high ∙ e) (run.in_range t) in
      there T W w.number w.op run.coded f.0 w.stage f.2

  step_same : Sound T W → (t : ℕ) → first_row (advance_rows T W t) ≡ first_row (step_refused (shown T W) t)
  step_same sound t = let c = shown_count in rw c (elim (cases_Bool (outside 1 T.threads.count t)) [
    | inl e ↦ rw e
    | inr e ↦
        let p = from_outside 1 T.threads.count t e in
        let o = shown_open t p.1 in
        rw (o, e) (go p.0 p.1 (task_of T.threads.rows t) refl)
  ])
    where
      go : 1 ≤ t → t ≤ T.threads.count → (row : Row) → task_of T.threads.rows t ≡ row
          → first_row ((not (is_some row), 25) ∷ (nat_le (length W) (location_of T row), 30) ∷ []) ≡ first_row ((not (is_some row), 25) ∷ [])
      go low high None at = refl
      go low high (Some w) at =
          let l = located (running sound t low high) t high (Some w) at refl in
          rw (lt-leb (length W) (location_of T (Some w)) l)

-- BEGIN
op_fits : (capacity : ℕ) (op : Op ℕ) → Small op → index_fits capacity op ≡ true → OpFits capacity op
op_fits capacity (Push x) small e = small
op_fits capacity Pop small e = tt
op_fits capacity (Read i) small e = ltb-true i capacity e
op_fits capacity (Write i x) small e = (ltb-true i capacity e, small)
op_fits capacity Size small e = tt

first_fits : (capacity : ℕ) (op : Op ℕ) → OpFits capacity op → StageFits capacity (first op)
first_fits capacity (Push x) f = tt
first_fits capacity Pop f = tt
first_fits capacity (Read i) f = f
first_fits capacity (Write i x) f = f
first_fits capacity Size f = tt

module _ (T : Table) (W : List ℕ) (few : T.threads.count ≤ 8) (eight : length T.threads.rows ≡ 8) where
  granted_begin : (t : ℕ) (op : Op ℕ) → Sound T W → Small op → first_row (admit_rows T t op) ≡ None
      → Running (admitted T t op) W × ((shown (admitted T t op) W).meaning ≡ begun (shown T W).meaning t op)
  granted_begin t op sound small e =
      let p1 = passes (outside 1 T.threads.count t) 20 _ e in
      let p2 = passes (is_some (task_of T.threads.rows t)) 21 _ p1.1 in
      let p3 = passes (nat_le 400 T.threads.given) 22 _ p2.1 in
      let p4 = passes (not (index_fits T.threads.capacity op)) 23 [] p3.1 in
      let b = from_outside 1 T.threads.count t p1.0 in
      let low : 1 ≤ t = b.0 in
      let high : t ≤ T.threads.count = b.1 in
      let run = running T W few eight sound t low high in
      let enough : T.threads.count ≤ length T.threads.rows = within T W few eight in
      let many : t ≤ length (rows_of T.threads) = (let l = length-take-le T.threads.count T.threads.rows enough in omega arith) in
      let given : T.threads.given < 400 = leb-false 400 T.threads.given p3.0 in
      let fits = op_fits T.threads.capacity op small (not-false (index_fits T.threads.capacity op) p4.0) in
      let numbered_next : numbered (suc T.threads.given) ≡ true = and_from (nat_le 1 (suc T.threads.given)) (nat_le (suc T.threads.given) 400) (le-leb 1 (suc T.threads.given) (omega arith)) (le-leb (suc T.threads.given) 400 given) in
      let at_rest : task_of (rows_of T.threads) t ≡ idle = same_task T.threads.count T.threads.rows t high ∙ none_there (task_of T.threads.rows t) p2.0 in
      let row : Row = open_at (suc T.threads.given) op (first op) in
      let rows : rows_of (admitted T t op).threads ≡ rows_begun (rows_of T.threads) T.threads.given t op = take-set-lt T.threads.count T.threads.rows (t - 1) row (omega arith) in
      let so = begins_so (memory_of T W) (rows_of T.threads) T.threads.given t op run.invariant low many at_rest (not-false (index_fits T.threads.capacity op) p4.0) in (
        record {
          coded = run.coded;
          in_range = λ u. subst (λ (r : List Row). RowFits T.threads.capacity (task_of r u)) (sym rows)
              (rows_fit T.threads.capacity (rows_of T.threads) t row low many run.in_range (numbered_next, fits, first_fits T.threads.capacity op fits) u);
          numbers = given;
          invariant = subst (λ (r : List Row). Invariant (memory_of T W) r (suc T.threads.given)) (sym rows) so.0;
        },
        ap (λ (r : List Row). meaning (memory_of T W) r (suc T.threads.given)) rows ∙ so.1,
      )

  pub keeps_begin : (t : ℕ) (op : Op ℕ) (r : Result ℕ Refusal) (T' : Table) (W' : List ℕ)
      → Admits T W t op r T' W' → Sound T W → Sound T' W' × Begins (shown T W) t op r (shown T' W')
  keeps_begin t op (Err f) T' W' h sound =
      let s = still T T' W W' sound h.1.0 h.1.1 in
      (s.0, (sym (begin_same T W few eight t op) ∙ h.0, s.1))
  keeps_begin t op (Ok n) T' W' h sound =
      let g = granted_begin t op sound h.1.3 h.0 in
      left_with (λ t' w. Sound t' w × Begins (shown T W) t op (Ok n) (shown t' w)) (admitted T t op) T' W W' h.1.1 h.1.2
      (inr g.0, (sym (begin_same T W few eight t op) ∙ h.0, (h.1.0, g.1, refl)))

-- STEP
row_after_fits : (capacity n : ℕ) (op : Op ℕ) (x : Next) → numbered n ≡ true → OpFits capacity op → NextFits capacity x → RowFits capacity (row_after n op x)
row_after_fits capacity n op (goto g) number fits f = (number, fits, f)
row_after_fits capacity n op (end a) number fits f = tt

-- what a granted step leaves, and what it did
abbrev SteppedSo : Table → List ℕ → ℕ → Stepped ℕ → Table → List ℕ → Type 0
SteppedSo T W t x T' W' =
    Running T' W' × Moves (shown T W).meaning t x (shown T' W').meaning × (Alone (shown T W).meaning.rows t → (shown T' W').left < (shown T W).left) × ((shown T' W').make ≡ (shown T W).make)

module _ (T : Table) (W : List ℕ) (few : T.threads.count ≤ 8) (eight : length T.threads.rows ≡ 8) where
  granted_step : (t : ℕ) (x : Stepped ℕ) (T' : Table) (W' : List ℕ) → Running T W → 1 ≤ t → t ≤ T.threads.count
      → (row : Row) → task_of T.threads.rows t ≡ row → Granted T W t row x T' W' → SteppedSo T W t x T' W'
  granted_step t x T' W' run low high None at h = absurd h
  granted_step t x T' W' run low high (Some w) at h =
      let enough : T.threads.count ≤ length T.threads.rows = within T W few eight in
      let many : t ≤ length (rows_of T.threads) = (let l = length-take-le T.threads.count T.threads.rows enough in omega arith) in
      let here : task_of (rows_of T.threads) t ≡ open_at n op g = same_task T.threads.count T.threads.rows t high ∙ at in
      let f : RowFits T.threads.capacity (open_at n op g) = subst (RowFits T.threads.capacity) here (run.in_range t) in
      let r : Res = act (memory_of T W) n op g in
      let m : Moved = moves T W n op g in
      let d : Does (words_after W (access (plan_of T.plans) n g)) (plans_after T.plans n m.plan) T.threads.capacity r m = does T W n op run.coded f.0 g f.2 in
      let rows : rows_of (settled T t n op m).threads ≡ rows_stepped (rows_of T.threads) t n op r =
      ap (λ (z : Next). take T.threads.count (slice_set T.threads.rows (t - 1) (row_after n op z))) d.next ∙ take-set-lt T.threads.count T.threads.rows (t - 1) (row_after n op r.nx) (omega arith) in
      let says : tells n m ≡ told n r = (λ i. record { effect = d.served i; end = ended n (d.next i) }) in
      let so = steps_so (memory_of T W) (rows_of T.threads) T.threads.given t n op g run.invariant here in
      let next = row_after_fits T.threads.capacity n op r.nx f.0 f.1 (act_fits W T.plans T.threads.capacity run.coded n op g f.0 f.1 f.2) in
      subst (λ (y : Stepped ℕ). SteppedSo T W t y T' W') (sym (h.2 ∙ says))
      (left_with (SteppedSo T W t (told n r)) (settled T t n op m) T' (words_after W (access (plan_of T.plans) n g)) W' h.1 h.0 (
        record {
          coded = d.coded;
          in_range = λ u. subst (λ (z : List Row). RowFits T.threads.capacity (task_of z u)) (sym rows)
              (rows_fit T.threads.capacity (rows_of T.threads) t (row_after n op r.nx) low many run.in_range next u);
          numbers = run.numbers;
          invariant = subst (λ (s : Shared). Invariant s (rows_of (settled T t n op m).threads) T.threads.given) (sym d.memory)
              (subst (λ (z : List Row). Invariant r.sh z T.threads.given) (sym rows) so.0);
        },
        subst (λ (z : Meaning). Moves (shown T W).meaning t (told n r) z) (sym (λ i. meaning (d.memory i) (rows i) T.threads.given)) so.1,
        (λ alone. subst (λ z. z < left (memory_of T W) (rows_of T.threads)) (sym (λ i. left (d.memory i) (rows i))) (so.2 alone)),
        refl,
      ))
    where
      open w use {number as n, op, stage as g}

  pub keeps_step : (t : ℕ) (r : Result (Stepped ℕ) Refusal) (T' : Table) (W' : List ℕ)
      → Advances T W t r T' W' → Sound T W → Sound T' W' × Steps (shown T W) t r (shown T' W')
  keeps_step t (Err f) T' W' h sound =
      let s = still T T' W W' sound h.1.0 h.1.1 in
      (s.0, (sym (step_same T W few eight sound t) ∙ h.0, s.1))
  keeps_step t (Ok x) T' W' h sound =
      let p = passes (outside 1 T.threads.count t) 20 _ h.0 in
      let b = from_outside 1 T.threads.count t p.0 in
      let g = granted_step t x T' W' (running T W few eight sound t b.0 b.1) b.0 b.1 (task_of T.threads.rows t) refl h.1 in
      (inr g.0, (sym (step_same T W few eight sound t) ∙ h.0, (g.1, g.3, g.2)))

-- THE LAWS
-- where there are no threads, nobody has an open operation
pub nobody : (t : ℕ) → is_open (row_of [] t) ≡ false
nobody zero = refl
nobody (suc t) = refl

pub lawful : (T : Table) (W : List ℕ) → Sound T W → Lawful (shown T W)
lawful T W sound = record {
  before = elim sound [ inl e ↦ (λ _. e) | inr run ↦ (λ z. let o = run.coded.some_cell in absurd (omega arith)) ];
  left_alone = elim sound [
    | inl e ↦ (λ t alone. no_way (sym alone.0 ∙ ap (λ (m : Meaning). is_open (row_of m.rows t)) e ∙ nobody t))
    | inr run ↦ (λ t alone. ends_in_time (memory_of T W) (rows_of T.threads) T.threads.given t run.invariant alone)
  ];
  some_numbers = omega arith;
  few_numbers = omega arith;
}
