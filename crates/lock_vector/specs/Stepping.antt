-- Each stage of a turn in its place: it keeps a running vector running, and is a step of its meaning.
use Rattle.std.specs.Prelude.{◌≡◌, ℕ, suc, ◌+◌, ◌-◌, ◌^◌, ◌<◌, ◌≤◌, true, ◌≢◌, List, length, get_or, set, Some, None, Option, ◌==◌, nat_lt, slice_index, slice_set, refl}
use Rattle.std.proofs.Common.{sym, ap, subst, ◌∙◌, arith}
use Rattle.std.proofs.lemmas.List.{set-get_or, get_or-set_same, get_or-set_other}
use Rattle.std.proofs.lemmas.Bool.{cond_both, ltb-true, ltb-false, eqb-true, eqb-false, eq-eqb, ne_eqb}
use Rattle.vector.specs.declared.Op.{Op}
use Rattle.vector.specs.declared.Op.TheVariants.{Push, Pop, Read, Write, Size}
use Rattle.vector.specs.declared.Answer.{Answer}
use Rattle.vector.specs.declared.Answer.TheVariants.{Position, Value, Full, Empty, Out, Done, Length}
use Rattle.vector.specs.declared.threads.Task.{Task}
use Rattle.vector.specs.declared.threads.Threads.{Threads}
use Rattle.vector.specs.Plain.{answer}
use Rattle.vector.specs.Meaning.{is_open}
use Rattle.vector.specs.Threads.{task_of}
use Rattle.vector.proofs.Tasks.{task_of_place, means}
use Rattle.lock_vector.specs.declared.stages.Loading.TheVariants.{K2, K3}
use Rattle.lock_vector.specs.declared.stages.Swapping.TheVariants.{K1, K4, K5, K6}
use Rattle.lock_vector.specs.declared.stages.Stage.{Stage}
use Rattle.lock_vector.specs.declared.stages.Stage.TheVariants.{Load, Swap}
use Rattle.lock_vector.specs.declared.stages.Moved.{Moved}
use Rattle.lock_vector.specs.Stages.{cell, plain, value_of, chosen}
use Rattle.lock_vector.specs.Calls.{moved, stored, location}
use Rattle.lock_vector.specs.Meaning.{items, meant, shown, inside, inside_at, Seen, Inside, Lock, free, held, WordsFit, Known}
use Rattle.lock_vector.specs.Items.{as_is, items_len, push_full, pop_empty, read_out, write_out, read_in, write_in, push_in, pop_in, items_low, items_past}
use Rattle.lock_vector.specs.Fits.{in_room, fit_lock, fit_past, fit_write, fit_grow, fit_shrink}
use Rattle.lock_vector.specs.Places.{open_meant}
use Rattle.lock_vector.specs.Turns.{no_way, task, Turn, Leads, known, mine, on, takes, ends}

-- who is inside has a number, and the lock is not free
pub inside_open : (capacity given : ℕ) (W : List ℕ) (row : Option (Task Stage)) → Inside capacity W row → Known given row → (1 ≤ slice_index W 0) × (inside row ≡ true) × (is_open (meant row) ≡ true)
inside_open capacity given W None h k = absurd h
inside_open capacity given W (Some o) h k =
    let e = h.0 in
    let l = k.0 in
    (omega arith, go o.stage h.1, open_meant (Some o))
  where
    go : (s : Stage) → Seen capacity W s o.op → inside_at s ≡ true
    go (Load l) x = refl
    go (Swap K1) x = absurd x
    go (Swap (K4 i w v)) x = refl
    go (Swap (K5 m m' a)) x = refl
    go (Swap (K6 a)) x = refl

-- a cell is neither the lock nor the length
apart : (i : ℕ) → 0 ≢ cell i
apart i e = omega arith

apart_1 : (i : ℕ) → 1 ≢ cell i
apart_1 i e = omega arith

module _ (T : Threads Stage) (W : List ℕ) (t number : ℕ) where
  abbrev n : ℕ
  n = slice_index W 1

  abbrev c : ℕ
  c = T.capacity

  abbrev At : Op ℕ → Stage → Type 0
  At op s = Turn T W t number op s

  abbrev Goal : Op ℕ → Stage → Type 0
  Goal op s = Leads T W t (moved c W (task number op s) s) (stored W number s)

  k1 : (op : Op ℕ) → At op (Swap K1) → Goal op (Swap K1)
  k1 op turn = go turn.running.lock
    where
      fit : WordsFit c W
      fit = turn.running.fit

      go : Lock c T.count W T.rows → Goal op (Swap K1)
      go (free z out) =
          rw (eq-eqb (slice_index W 0) 0 z)
          (on turn (Load K2) (slice_set W 0 number) refl refl (omega arith) (items_low c W fit 0 number (omega arith) (omega arith)) (fit_lock c W fit number)
          (get_or-set_same W 0 number 0 (in_room c W fit 0 (omega arith)), tt) (λ u _. out u))
      go (held u l h out) =
          let run = turn.running in
          let at = turn.at in
          let b = inside_open c T.given W (task_of T.rows u) h (run.known u) in
          let same : set T.rows (t - 1) (Some (task number op (Swap K1))) ≡ T.rows = ap (set T.rows (t - 1)) (sym at ∙ task_of_place T.rows t turn.low) ∙ set-get_or T.rows (t - 1) None in
          let other : u ≢ t = λ e. no_way (sym b.1 ∙ ap (λ v. inside (task_of T.rows v)) e ∙ ap inside at) in
          let few : T.count ≤ length T.rows = omega (arith, run.few, run.eight) in
          let m = means meant refl T.count T.rows few u l in
          rw (ne_eqb (slice_index W 0) 0 (λ z. omega arith), same)
          (record {
            runs = run;
            moves = ((shown T W).meaning, refl, refl);
            falls = λ alone. no_way (sym b.2 ∙ ap is_open (sym m ∙ alone.1 u other));
          })

  abbrev P : Moved → Type 0
  P m = Leads T W t m W

  k2 : (op : Op ℕ) → At op (Load K2) → Goal op (Load K2)
  k2 op turn = subst (λ k. P (chosen c (task number op (Load K2)) k op)) (sym (as_is c W turn.running.fit)) (go op turn turn.running.fit)
    where
      go : (op : Op ℕ) → At op (Load K2) → WordsFit c W → P (chosen c (task number op (Load K2)) n op)
      go (Push a) turn fit =
          let q = mine turn refl in
          cond_both (nat_lt n c) _ _ P
          (λ e. on turn (Load (K3 n)) W refl refl (omega arith) refl fit (q.0, (refl, ltb-true n c e)) q.2)
          (λ e. let x = push_full c W fit a (ltb-false n c e) in takes turn Full W refl (omega arith) (sym x.0) (sym x.1) fit q.0 q.2)
      go Pop turn fit =
          let q = mine turn refl in
          cond_both (n == 0) _ _ P
          (λ e. let x = pop_empty c W fit (eqb-true n 0 e) in takes turn Empty W refl (omega arith) (sym x.0) (sym x.1) fit q.0 q.2)
          (λ e. let x = eqb-false n 0 e in on turn (Load (K3 (n - 1))) W refl refl (omega arith) refl fit (q.0, omega arith) q.2)
      go (Read i) turn fit =
          let q = mine turn refl in
          cond_both (nat_lt i n) _ _ P
          (λ e. on turn (Load (K3 i)) W refl refl (omega arith) refl fit (q.0, (refl, ltb-true i n e)) q.2)
          (λ e. takes turn Out W refl (omega arith) (sym (read_out c W fit i (ltb-false i n e))) refl fit q.0 q.2)
      go (Write i a) turn fit =
          let q = mine turn refl in
          cond_both (nat_lt i n) _ _ P
          (λ e. on turn (Load (K3 i)) W refl refl (omega arith) refl fit (q.0, (refl, ltb-true i n e)) q.2)
          (λ e. let x = write_out c W fit i a (ltb-false i n e) in takes turn Out W refl (omega arith) (sym x.0) (sym x.1) fit q.0 q.2)
      go Size turn fit =
          let q = mine turn refl in
          takes turn (Length n) W refl (omega arith) (ap Length (sym (items_len c W fit))) refl fit q.0 q.2

  k3 : (op : Op ℕ) (i : ℕ) → At op (Load (K3 i)) → Goal op (Load (K3 i))
  k3 (Push a) i turn =
      let q = mine turn refl in
      on turn (Swap (K4 i (slice_index W (cell i)) a)) W refl refl (omega arith) refl turn.running.fit (q.0, (refl, (q.1.0, q.1.1, refl))) q.2
  k3 Pop i turn =
      let q = mine turn refl in
      let e = q.1 in
      on turn (Swap (K5 (i + 1) i (Value (value_of (slice_index W (cell i)))))) W refl refl (omega arith) refl turn.running.fit (q.0, (omega arith, (e, refl))) q.2
  k3 (Read j) i turn =
      let q = mine turn refl in
      let fit = turn.running.fit in
      let x : Value (value_of (slice_index W (cell i))) ≡ answer c (items c W) (Read j) = ap (λ k. Value (value_of (slice_index W (cell k)))) q.1.0 ∙ sym (read_in c W fit j q.1.1) in
      takes turn (Value (value_of (slice_index W (cell i)))) W refl (omega arith) x refl fit q.0 q.2
  k3 (Write j a) i turn =
      let q = mine turn refl in
      on turn (Swap (K4 i (slice_index W (cell i)) a)) W refl refl (omega arith) refl turn.running.fit (q.0, (refl, (q.1.0, q.1.1, refl))) q.2
  k3 Size i turn = absurd (mine turn refl).1

  k4 : (op : Op ℕ) (i seen v : ℕ) → At op (Swap (K4 i seen v)) → Goal op (Swap (K4 i seen v))
  k4 (Push a) i seen v turn =
      let q = mine turn refl in
      let fit = turn.running.fit in
      let e = q.1.1.0 in
      let l = q.1.1.1 in
      let W' : List ℕ = set W (cell i) (plain v) in
      let lock : get_or W' 0 0 ≡ get_or W 0 0 = get_or-set_other W (cell i) 0 (plain v) 0 (apart i) in
      let len : get_or W' 1 0 ≡ i = get_or-set_other W (cell i) 1 (plain v) 0 (apart_1 i) ∙ sym e in
      let word : get_or W' (cell i) 0 ≡ plain a = get_or-set_same W (cell i) (plain v) 0 (in_room c W fit (cell i) (omega arith)) ∙ ap plain q.1.1.2 in
      rw (eq-eqb (slice_index W (cell i)) seen q.1.0)
      (on turn (Swap (K5 i (i + 1) (Position i))) W' refl refl (omega arith) (items_past c W fit i (plain v) (omega arith)) (fit_past c W fit i (plain v) (omega arith))
      (lock ∙ q.0, (len, rw len (omega arith, omega arith, refl, word))) q.2)
  k4 Pop i seen v turn = absurd (mine turn refl).1.1
  k4 (Read j) i seen v turn = absurd (mine turn refl).1.1
  k4 (Write j a) i seen v turn =
      let q = mine turn refl in
      let fit = turn.running.fit in
      let l = q.1.1.1 in
      let w = fit.within in
      let same : set W (cell i) (plain v) ≡ set W (cell j) (plain a) = ap (λ k. set W (cell k) (plain v)) q.1.1.0 ∙ ap (λ x. set W (cell j) (plain x)) q.1.1.2 in
      let small : a < 2 ^ 32 = (known turn).2 in
      let x = write_in c W fit j a l small in
      let lock : get_or (slice_set W (cell j) (plain a)) 0 0 ≡ get_or W 0 0 = get_or-set_other W (cell j) 0 (plain a) 0 (apart j) in
      rw (eq-eqb (slice_index W (cell i)) seen q.1.0, same)
      (takes turn Done (slice_set W (cell j) (plain a)) refl (omega arith) (sym x.0) x.1 (fit_write c W fit j a (omega arith) small) (lock ∙ q.0) q.2)
  k4 Size i seen v turn = absurd (mine turn refl).1.1

  k5 : (op : Op ℕ) (m to : ℕ) (b : Answer ℕ) → At op (Swap (K5 m to b)) → Goal op (Swap (K5 m to b))
  k5 (Push a) m to b turn =
      let q = mine turn refl in
      let fit = turn.running.fit in
      let x = q.1.1 in
      let small : a < 2 ^ 32 = (known turn).2 in
      let y = push_in c W fit a x.1 small x.3 in
      let lock : get_or (slice_set W 1 (suc n)) 0 0 ≡ get_or W 0 0 = get_or-set_other W 1 0 (suc n) 0 (omega arith) in
      rw (eq-eqb (slice_index W 1) m q.1.0, x.0)
      (takes turn b (slice_set W 1 (suc n)) refl (omega arith) (x.2 ∙ sym y.0) y.1 (fit_grow c W fit a x.1 small x.3) (lock ∙ q.0) q.2)
  k5 Pop m to b turn =
      let q = mine turn refl in
      let fit = turn.running.fit in
      let x = q.1.1 in
      let y = pop_in c W fit to x.0 in
      let lock : get_or (slice_set W 1 to) 0 0 ≡ get_or W 0 0 = get_or-set_other W 1 0 to 0 (omega arith) in
      rw (eq-eqb (slice_index W 1) m q.1.0)
      (takes turn b (slice_set W 1 to) refl (omega arith) (x.1 ∙ sym y.0) y.1 (fit_shrink c W fit to x.0) (lock ∙ q.0) q.2)
  k5 (Read j) m to b turn = absurd (mine turn refl).1.1
  k5 (Write j a) m to b turn = absurd (mine turn refl).1.1
  k5 Size m to b turn = absurd (mine turn refl).1.1

  k6 : (op : Op ℕ) (b : Answer ℕ) → At op (Swap (K6 b)) → Goal op (Swap (K6 b))
  k6 op b turn =
      let q = mine turn refl in
      let fit = turn.running.fit in
      rw (eq-eqb (slice_index W 0) number q.0)
      (ends turn b (slice_set W 0 0) refl (omega arith) (items_low c W fit 0 0 (omega arith) (omega arith)) (fit_lock c W fit 0) (get_or-set_same W 0 0 0 (in_room c W fit 0 (omega arith))) q.2)

  pub good : (op : Op ℕ) (s : Stage) → At op s → Goal op s
  good op (Load K2) turn = k2 op turn
  good op (Load (K3 i)) turn = k3 op i turn
  good op (Swap K1) turn = k1 op turn
  good op (Swap (K4 i seen v)) turn = k4 op i seen v turn
  good op (Swap (K5 m to b)) turn = k5 op m to b turn
  good op (Swap (K6 b)) turn = k6 op b turn

  -- every stage finds its location in the memory
  near : (op : Op ℕ) (i : ℕ) → At op (Load (K3 i)) → i < c
  near (Push a) i turn = let x = (mine turn refl).1 in let y = x.0 in let z = x.1 in omega arith
  near Pop i turn = let x = (mine turn refl).1 in let w = turn.running.fit.within in omega arith
  near (Read j) i turn = let x = (mine turn refl).1 in let y = x.0 in let z = x.1 in let w = turn.running.fit.within in omega arith
  near (Write j a) i turn = let x = (mine turn refl).1 in let y = x.0 in let z = x.1 in let w = turn.running.fit.within in omega arith
  near Size i turn = absurd (mine turn refl).1

  near_4 : (op : Op ℕ) (i seen v : ℕ) → At op (Swap (K4 i seen v)) → i < c
  near_4 (Push a) i seen v turn = let x = (mine turn refl).1.1 in let y = x.0 in let z = x.1 in omega arith
  near_4 Pop i seen v turn = absurd (mine turn refl).1.1
  near_4 (Read j) i seen v turn = absurd (mine turn refl).1.1
  near_4 (Write j a) i seen v turn = let x = (mine turn refl).1.1 in let y = x.0 in let z = x.1 in let w = turn.running.fit.within in omega arith
  near_4 Size i seen v turn = absurd (mine turn refl).1.1

  pub located : (op : Op ℕ) (s : Stage) → At op s → location s < length W
  located op (Load K2) turn = in_room c W turn.running.fit 1 (omega arith)
  located op (Load (K3 i)) turn = let l = near op i turn in in_room c W turn.running.fit (cell i) (omega arith)
  located op (Swap K1) turn = in_room c W turn.running.fit 0 (omega arith)
  located op (Swap (K4 i seen v)) turn = let l = near_4 op i seen v turn in in_room c W turn.running.fit (cell i) (omega arith)
  located op (Swap (K5 m to b)) turn = in_room c W turn.running.fit 1 (omega arith)
  located op (Swap (K6 b)) turn = in_room c W turn.running.fit 0 (omega arith)
