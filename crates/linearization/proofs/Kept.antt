-- Every step keeps the invariant: the memory's facts by its kind of change, the stepping thread's knowledge by its outcome, and
-- every other thread's by what the change follows.
use Rattle.std.proofs.Common.{◌≡◌, ℕ, ◌-◌, ◌≤◌, true, false, ◌≢◌, ◌⊎◌, List, set, sym, refl, ap, ◌∙◌, inl, inr, arith, Some, None, is_some}
use Rattle.std.proofs.lemmas.Bool.{cases_eq, cases_Bool}
use Rattle.vector.specs.declared.Op.{Op}
use Rattle.vector.specs.Threads.{task_of}
use Rattle.linearization.specs.Invariant.{RowHolds, Invariant}
use Rattle.linearization.specs.Knowledge.{Puts, Final, Thread}
use Rattle.descriptor_steps.specs.Machine.{Res, act, row_after}
use Rattle.descriptor_steps.specs.Shared.{Shared, is_final}
use Rattle.linearization.specs.Names.{Stage, Next, goto, end, Row, idle, open_at}
use Rattle.linearization.proofs.EveryStep.{outcome}
use Rattle.linearization.proofs.Outcomes.{Changed, Outcome, moves, helps, ends, ends_now}
use Rattle.linearization.proofs.Stable.{plan_other, final_stays, thread_kept}
use Rattle.linearization.proofs.Tests.{no_way}
use Rattle.linearization.proofs.Threads.{number_in, at_row, open_thread}

-- where a step leaves its thread: at a stage, or ended, and then its number is not installed or final
abbrev pub NextHolds : Shared → Puts → ℕ → Op ℕ → Next → Type 0
NextHolds s put n op (goto x) = Thread s put n op x
NextHolds s put n op (end a) = (s.plan n ≡ None) ⊎ Final s n

module _ {s : Shared} {rows : List Row} {given : ℕ} (i : Invariant s rows given) (t n : ℕ) (op : Op ℕ) (x : Stage) (is_row : task_of rows t ≡ open_at n op x) where
  pub row_thread : Thread s i.put n op x × (n ≤ given)
  row_thread = let z = i.each_row t in rw is_row at z

  -- another open thread has another number
  pub other_number : (v k : ℕ) (o : Op ℕ) (y : Stage) → v ≢ t → task_of rows v ≡ open_at k o y → k ≢ n
  other_number v k o y ne h e = ne (i.apart v t n o op y x (cc) is_row)

  -- after the step the rows are as before, but for the thread's own
  at_next : (r : Row) (v : ℕ) → ((v ≡ t) × (task_of (set rows (t - 1) r) v ≡ r)) ⊎ ((v ≢ t) × (task_of (set rows (t - 1) r) v ≡ task_of rows v))
  at_next r = let w = open_thread rows t n op x is_row in at_row rows t r w.0 w.1

  module _ (s' : Shared) (put' : Puts) (ch : Changed n s i.put s' put') where
    own_row : (r : Next) → NextHolds s' put' n op r → RowHolds s' put' given (row_after n op r)
    own_row (goto y) h = (h, row_thread.1)
    own_row (end a) h = tt

    other_row : (v : ℕ) → v ≢ t → (r : Row) → task_of rows v ≡ r → RowHolds s' put' given r
    other_row v ne None e = tt
    other_row v ne (Some w) e =
        let z : RowHolds s i.put given (Some w) = rw e at (i.each_row v) in
        (thread_kept ch.follows i.facts row_thread.0.number w.op (other_number v w.number w.op w.stage ne e) w.stage z.0, z.1)

    apart_after : (r : Next) (v u k : ℕ) (o o' : Op ℕ) (y y' : Stage) → task_of (set rows (t - 1) (row_after n op r)) v ≡ open_at k o y → task_of (set rows (t - 1) (row_after n op r)) u ≡ open_at k o' y' → v ≡ u
    apart_after (end a) v u k o o' y y' h h' =
        elim (at_next idle v) [
          | inl e ↦ no_way (cc)
          | inr e ↦ elim (at_next idle u) [ inl d ↦ no_way (cc) | inr d ↦ i.apart v u k o o' y y' (cc) (cc) ]
        ]
    apart_after (goto z) v u k o o' y y' h h' =
        elim (at_next (open_at n op z) v) [
          | inl e ↦ elim (at_next (open_at n op z) u) [
            | inl d ↦ cc
            | inr d ↦ let q : k ≡ n = ap number_in (sym h ∙ e.1) in absurd (other_number u k o' y' d.0 (cc) q)
          ]
          | inr e ↦ elim (at_next (open_at n op z) u) [
            | inl d ↦ let q : k ≡ n = ap number_in (sym h' ∙ d.1) in absurd (other_number v k o y e.0 (cc) q)
            | inr d ↦ i.apart v u k o o' y y' (cc) (cc)
          ]
        ]

    own_after : (r : Next) → NextHolds s' put' n op r → is_some (s'.plan n) ≡ true → is_final (s'.status n) ≡ false → (u : ℕ) × (o : Op ℕ) × (y : Stage) × (task_of (set rows (t - 1) (row_after n op r)) u ≡ open_at n o y)
    own_after (goto y) h p f = (t, op, y, elim (at_next (open_at n op y) t) [ inl e ↦ e.1 | inr e ↦ absurd (e.0 refl) ])
    own_after (end a) h p f = elim h [ inl e ↦ no_way (cc) | inr e ↦ no_way (cc) ]

    was_open : (k : ℕ) → is_final (s'.status k) ≡ false → is_final (s.status k) ≡ false
    was_open k h = elim (cases_Bool (is_final (s.status k))) [ inl e ↦ let z = final_stays ch.follows k e in no_way (cc) | inr e ↦ e ]

    owned_after : (r : Next) → NextHolds s' put' n op r → (k : ℕ) → is_some (s'.plan k) ≡ true → is_final (s'.status k) ≡ false → (u : ℕ) × (o : Op ℕ) × (y : Stage) × (task_of (set rows (t - 1) (row_after n op r)) u ≡ open_at k o y)
    owned_after r h k p f =
        elim (cases_eq k n) [
          | inl e ↦ let z = own_after r h (cc) (cc) in (z.0, z.1, z.2, let q = z.3 in cc)
          | inr e ↦ let pk = plan_other ch.follows k e in
              let z = i.owned k (cc) (was_open k f) in
              let q = z.3 in
              (z.0, z.1, z.2, elim (at_next (row_after n op r) z.0) [ inl w ↦ absurd (e (same_number z.0 k z.1 z.2 w.0 q)) | inr w ↦ w.1 ∙ q ])
        ]
      where
        same_number : (u k : ℕ) (o : Op ℕ) (y : Stage) → u ≡ t → task_of rows u ≡ open_at k o y → k ≡ n
        same_number u k o y w q = ap number_in (sym q ∙ ap (task_of rows) w ∙ is_row)

    next_invariant : (r : Next) → NextHolds s' put' n op r → Invariant s' (set rows (t - 1) (row_after n op r)) given
    next_invariant r h =
        record {
          put = put';
          facts = ch.facts;
          each_row = λ v. elim (at_next (row_after n op r) v) [ inl e ↦ let q = e.1 in rw q (own_row r h) | inr e ↦ let q = e.1 in rw q (other_row v e.0 (task_of rows v) refl) ];
          apart = apart_after r;
          owned = owned_after r h;
          plan_later = λ k l. let b = row_thread.1 in let z = plan_other ch.follows k (λ e. absurd (omega (arith, e))) in z ∙ i.plan_later k l;
          put_later = λ c j l. let b = row_thread.1 in elim (ch.follows.puts c j) [ inl e ↦ e ∙ i.put_later c j l | inr e ↦ let q = e.0 in absurd (omega arith) ];
        }

  kept_by : (r : Res) → Outcome s i.put n op r → Invariant r.sh (set rows (t - 1) (row_after n op r.nx)) given
  kept_by r (moves {s'} {put'} {x = y} ch sa l) = next_invariant s' put' ch (goto y) l
  kept_by r (helps {s'} {put'} {x = y} a ch p f w v k tk l) = next_invariant s' put' ch (goto y) l
  kept_by r (ends {s'} {put'} {a} ch sa m f) = next_invariant s' put' ch (end a) (inr f)
  kept_by r (ends_now {s'} {put'} {a} ch k u u' tk) = next_invariant s' put' ch (end a) (inl u')

  pub step_kept : Invariant (act s n op x).sh (set rows (t - 1) (row_after n op (act s n op x).nx)) given
  step_kept = kept_by (act s n op x) (outcome i.facts n op x row_thread.0)
