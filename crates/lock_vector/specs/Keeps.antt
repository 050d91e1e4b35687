-- Every call keeps a sound vector sound, and does to its meaning what a container does: from the tables of the calls alone.
use Rattle.std.specs.Prelude.{◌≡◌, ℕ, suc, ◌-◌, ◌≤◌, min, true, false, not, ◌≢◌, List, [], ◌∷◌, map, length, take, is_some, Some, None, Ok, Err, Option, Result, nat_le, slice_index, slice_set, refl}
use Rattle.std.proofs.Common.{sym, ap, subst, ◌∙◌, inl, inr, arith}
use Rattle.std.proofs.lemmas.List.{length-set, take-replicate, length-take-le}
use Rattle.std.proofs.lemmas.Bool.{cases_Bool, lt-leb}
use Rattle.refusal.specs.declared.Refusal.{Refusal}
use Rattle.vector.specs.declared.Op.{Op}
use Rattle.vector.specs.declared.Stepped.{Stepped}
use Rattle.vector.specs.declared.threads.Task.{Task}
use Rattle.vector.specs.declared.threads.Threads.{Threads}
use Rattle.vector.specs.Meaning.{Row, Lawful}
use Rattle.vector.specs.Refusals.{first_row, outside, set_up_rows}
use Rattle.vector.specs.Plain.{Small}
use Rattle.vector.specs.Calls.{all_zero, begin_refused, step_refused, SetsUp, Begins, Steps, begun, set_up}
use Rattle.vector.specs.Threads.{idle_threads, task_of, with_row, rows_of}
use Rattle.vector.proofs.Preparing.{zeros_at, from_outside}
use Rattle.vector.proofs.Tasks.{same_meaning, set_up_granted, begin_granted, step_granted, all_idle, rows_after, begin_same, step_same, none_open, task_set_other, at_tasks, left_some}
use Rattle.lock_vector.specs.declared.stages.Stage.{Stage}
use Rattle.lock_vector.specs.Calls.{needed, first_stage, admitted, admit_rows, advance_rows, Prepares, Admits, Advances, moved_row, stored_row, location, location_of}
use Rattle.lock_vector.specs.Meaning.{values, items, meant, rank, shown, inside, Inside, Lock, free, held, Known, Running, Sound}
use Rattle.lock_vector.specs.Places.{open_meant, rank_open, ranks_small}
use Rattle.lock_vector.specs.Turns.{no_way, Good}
use Rattle.lock_vector.specs.Stepping.{good, located, inside_open}

module _ (T : Threads Stage) (W : List ℕ) (sound : Sound T W) where
  small : (T.count ≤ 8) × (length T.rows ≡ 8)
  small = elim sound [ inl e ↦ (omega (arith, e.none), e.eight) | inr run ↦ (run.few, run.eight) ]

  few : T.count ≤ length T.rows
  few = let a = small in omega arith

  -- where there are threads, it is running
  running : (t : ℕ) → 1 ≤ t → t ≤ T.count → Running T W
  running t low high = elim sound [ inl e ↦ let z : T.count ≡ 0 = e.none in absurd (omega arith) | inr run ↦ run ]

  pub lawful : Lawful (shown T W)
  lawful = record {
    before = elim sound [
      | inl b ↦ (λ z. let m : min (slice_index W 1) 0 ≡ 0 = omega arith in rw (b.bare, b.ungiven, b.none, m) refl)
      | inr run ↦ (λ z. let o = run.some in absurd (omega arith))
    ];
    left_alone = λ t alone. (
      left_some meant refl open_meant rank rank_open T.count T.rows few t alone.0,
      (let a = ranks_small (rows_of T) in let b = length-take-le T.count T.rows few in let d = small in omega arith),
    );
    some_numbers = omega arith;
    few_numbers = omega arith;
  }

  begin_refused_same : (t : ℕ) (op : Op ℕ) → first_row (admit_rows T t op) ≡ first_row (begin_refused (shown T W) t op)
  begin_refused_same t op = begin_same meant refl T.count T.rows few open_meant t 400 T.given T.capacity op

  -- the memory has every location that a thread comes to
  step_refused_same : (t : ℕ) → first_row (advance_rows T W t) ≡ first_row (step_refused (shown T W) t)
  step_refused_same t =
      elim (cases_Bool (outside 1 T.count t)) [
        | inl e ↦ rw e
        | inr e ↦ let p = from_outside 1 T.count t e in rw e (go p.0 p.1 (task_of T.rows t) refl)
      ]
      ∙ step_same meant refl T.count T.rows few open_meant t
    where
      go : 1 ≤ t → t ≤ T.count → (row : Option (Task Stage)) → task_of T.rows t ≡ row
          → first_row ((not (is_some row), 25) ∷ (nat_le (length W) (location_of row), 30) ∷ []) ≡ first_row ((not (is_some row), 25) ∷ [])
      go low high None at = refl
      go low high (Some o) at =
          let l = located T W t o.number o.op o.stage (record { running = running t low high; low = low; high = high; at = at }) in
          rw (lt-leb (length W) (location o.stage) l)

-- The calls. What alters nothing means what it meant.
still : (T T' : Threads Stage) (W W' : List ℕ) → Sound T W → T' ≡ T → W' ≡ W → Sound T' W' × (shown T' W' ≡ shown T W)
still T T' W W' sound p q = rw (p, q) (sound, refl)

granted_set_up : (T : Threads Stage) (W : List ℕ) (k n : ℕ) → first_row (set_up_rows T.capacity k n (length W) (needed k) (all_zero W)) ≡ None → Running (idle_threads k n) W × ((shown (idle_threads k n) W).meaning ≡ set_up k n)
granted_set_up T W k n e =
    let g = set_up_granted T.capacity k n (length W) (needed k) (all_zero W) e in
    let lock = zeros_at W 0 g.6 in
    let len = zeros_at W 1 g.6 in
    let none : min (slice_index W 1) k ≡ 0 = omega arith in (
      record {
        some = g.1;
        few = g.4;
        eight = refl;
        fit = record { room = g.5; within = omega arith; plains = λ i l. absurd (omega arith) };
        known = λ u. subst (Known 0) (sym (none_open 8 u)) tt;
        lock = free lock (λ u. ap inside (none_open 8 u));
      },
      same_meaning refl (ap (λ m. take m (values W)) none) (ap (map meant) (take-replicate n 8 None g.4) ∙ all_idle meant refl n) refl,
    )

pub keeps_set_up : {X : Type 0} (T : Threads Stage) (W : List ℕ) (k n : ℕ) (r : Result X Refusal) (T' : Threads Stage) (W' : List ℕ)
    → Prepares T W k n r T' W' → Sound T W → Sound T' W' × SetsUp (shown T W) k n r (shown T' W')
keeps_set_up T W k n (Err f) T' W' h sound = let s = still T T' W W' sound h.1.0 h.1.1 in (s.0, (h.0, s.1))
keeps_set_up T W k n (Ok x) T' W' h sound =
    let g = granted_set_up T W k n h.0 in
    rw (h.1.0, h.1.1) (inr g.0, (h.0, (g.1, refl)))

abbrev new_row : Threads Stage → Op ℕ → Option (Task Stage)
new_row T op = Some (first_stage (suc T.given) op)

granted_begin : (T : Threads Stage) (W : List ℕ) (t : ℕ) (op : Op ℕ) → Sound T W → Small op → first_row (admit_rows T t op) ≡ None
    → Running (admitted T t op) W × ((shown (admitted T t op) W).meaning ≡ begun (shown T W).meaning t op)
granted_begin T W t op sound small_op e =
    let g = begin_granted T.count t (is_some (task_of T.rows t)) _ e in
    go g.0 g.1 g.2 (running T W sound t g.0 g.1)
  where
    outside_lock : (row : Option (Task Stage)) → is_some row ≡ false → inside row ≡ false
    outside_lock None h = refl
    outside_lock (Some o) h = no_way h

    older : (row : Option (Task Stage)) → Known T.given row → Known (suc T.given) row
    older None k = tt
    older (Some o) k = let l = k.1 in (k.0, omega arith, k.2)

    go : 1 ≤ t → t ≤ T.count → is_some (task_of T.rows t) ≡ false → Running T W → Running (admitted T t op) W × ((shown (admitted T t op) W).meaning ≡ begun (shown T W).meaning t op)
    go low high idle run =
        let few : T.count ≤ length T.rows = (let a = run.few in let d = run.eight in omega arith) in
        let long : t ≤ length T.rows = omega arith in (
          record {
            some = run.some;
            few = run.few;
            eight = length-set T.rows (t - 1) (new_row T op) ∙ run.eight;
            fit = run.fit;
            known = at_tasks (λ _. Known (suc T.given)) T.rows t (new_row T op) low long (omega arith, omega arith, small_op) (λ u _. older (task_of T.rows u) (run.known u));
            lock = locked long run.lock;
          },
          ap (λ (rows : List Row). record { capacity = T.capacity; items = items T.capacity W; rows = rows; given = suc T.given })
              (rows_after meant refl T.count T.rows few t (new_row T op) low high),
        )
      where
        locked : t ≤ length T.rows → Lock T.capacity T.count W T.rows → Lock T.capacity T.count W (slice_set T.rows (t - 1) (new_row T op))
        locked long (free z out) = free z (at_tasks (λ _ r. inside r ≡ false) T.rows t (new_row T op) low long refl (λ u _. out u))
        locked long (held u l x out) =
            let b = inside_open T.capacity T.given W (task_of T.rows u) x (run.known u) in
            let ne : u ≢ t = λ q. no_way (sym b.1 ∙ ap (λ v. inside (task_of T.rows v)) q ∙ outside_lock (task_of T.rows t) idle) in
            held u l (subst (Inside T.capacity W) (sym (task_set_other T.rows t u (new_row T op) low ne)) x)
            (at_tasks (λ v r. v ≢ u → inside r ≡ false) T.rows t (new_row T op) low long (λ _. refl) (λ v _. out v))

pub keeps_begin : (T : Threads Stage) (W : List ℕ) (t : ℕ) (op : Op ℕ) (r : Result ℕ Refusal) (T' : Threads Stage) (W' : List ℕ)
    → Admits T W t op r T' W' → Sound T W → Sound T' W' × Begins (shown T W) t op r (shown T' W')
keeps_begin T W t op (Err f) T' W' h sound = let s = still T T' W W' sound h.1.0 h.1.1 in (s.0, (sym (begin_refused_same T W sound t op) ∙ h.0, s.1))
keeps_begin T W t op (Ok n) T' W' h sound =
    let g = granted_begin T W t op sound h.1.3 h.0 in
    rw (h.1.1, h.1.2) (inr g.0, (sym (begin_refused_same T W sound t op) ∙ h.0, (h.1.0, g.1, refl)))

granted_step : (T : Threads Stage) (W : List ℕ) (t : ℕ) → Running T W → 1 ≤ t → t ≤ T.count → (row : Option (Task Stage)) → task_of T.rows t ≡ row → is_some row ≡ true
    → Good T W t (moved_row T.capacity W row).stepped (with_row T t (moved_row T.capacity W row).row) (stored_row W row)
granted_step T W t run low high None at b = no_way (sym b)
granted_step T W t run low high (Some o) at b =
    good T W t o.number o.op o.stage (record { running = run; low = low; high = high; at = at })

pub keeps_step : (T : Threads Stage) (W : List ℕ) (t : ℕ) (r : Result (Stepped ℕ) Refusal) (T' : Threads Stage) (W' : List ℕ)
    → Advances T W t r T' W' → Sound T W → Sound T' W' × Steps (shown T W) t r (shown T' W')
keeps_step T W t (Err f) T' W' h sound = let s = still T T' W W' sound h.1.0 h.1.1 in (s.0, (sym (step_refused_same T W sound t) ∙ h.0, s.1))
keeps_step T W t (Ok s) T' W' h sound =
    let b = step_granted T.count t (is_some (task_of T.rows t)) _ h.0 in
    let g = granted_step T W t (running T W sound t b.0 b.1) b.0 b.1 (task_of T.rows t) refl b.2 in
    rw (h.1.0, h.1.1, h.1.2) (inr g.runs, (sym (step_refused_same T W sound t) ∙ h.0, (g.moves, refl, g.falls)))
