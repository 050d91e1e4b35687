-- The invariant holds of a fresh memory with idle threads, and is kept where an idle thread begins an operation.
use Rattle.std.proofs.Common.{◌≡◌, ℕ, suc, ◌-◌, ◌≤◌, true, List, length, set, replicate, sym, refl, ap, ◌∙◌, inl, inr, arith, Some, None}
use Rattle.std.proofs.lemmas.Bool.{ltb-true}
use Rattle.vector.specs.Plain.{index_fits}
use Rattle.vector.specs.declared.Op.{Op}
use Rattle.vector.specs.declared.Op.TheVariants.{Push, Pop, Read, Write, Size}
use Rattle.vector.specs.Threads.{task_of}
use Rattle.linearization.specs.Invariant.{Facts, RowHolds, Invariant}
use Rattle.linearization.specs.Knowledge.{unput, Puts, Knows, Thread}
use Rattle.descriptor_steps.specs.Machine.{first}
use Rattle.descriptor_steps.specs.Shared.{Shared, fresh}
use Rattle.linearization.specs.Names.{Stage, Row, idle, open_at}
use Rattle.linearization.proofs.Tests.{no_way}
use Rattle.vector.proofs.Tasks.{none_open}
use Rattle.linearization.proofs.Threads.{number_in, at_row}

pub fresh_facts : (c : ℕ) → Facts (fresh c) (λ _ _. unput)
fresh_facts c =
    record {
      zero_unplanned = refl;
      current_planned = λ h. refl;
      others_final = λ k ne h. no_way (sym h);
      unplanned_pending = λ k h. refl;
      push_undone = λ k h. refl;
      below_size = λ i h. absurd (omega arith);
      above_size = λ i h. inl refl;
      empty_by = λ i k h. inl (cc);
      frozen_by = λ i a d j h. no_way (cc);
      early_pop = λ a d j h. no_way (cc);
      early_pending = λ a d j h u. no_way (cc);
      early_done = λ a b d j h u. no_way (cc);
      early_final = λ a b d j i h u w. no_way (cc);
      late_final = λ a d j h. no_way (cc);
      done_early = λ a d h. no_way (cc);
      push_expects = λ k h u w. no_way (sym h);
      push_emptied = λ d h. no_way (sym h);
      push_filled = λ d h u w. no_way (sym h);
      plan_within = λ k h. no_way (sym h);
    }

pub fresh_invariant : (c n : ℕ) → Invariant (fresh c) (replicate n idle) 0
fresh_invariant c n =
    record {
      put = λ _ _. unput;
      facts = fresh_facts c;
      each_row = λ t. let z : task_of (replicate n idle) t ≡ idle = none_open n t in rw z tt;
      apart = λ t u k op op' x x' h h'. let z : task_of (replicate n idle) t ≡ idle = none_open n t in no_way (cc);
      owned = λ k h f. no_way (sym h);
      plan_later = λ k l. refl;
      put_later = λ d j l. refl;
    }

first_knows : (s : Shared) (put : Puts) (n : ℕ) (op : Op ℕ) → s.plan n ≡ None → index_fits s.cap op ≡ true → Knows s put n op (first op)
first_knows s put n (Push x) u r = (u, refl)
first_knows s put n Pop u r = (u, refl)
first_knows s put n Size u r = (u, refl)
first_knows s put n (Read i) u r = (u, refl, ltb-true i s.cap r)
first_knows s put n (Write i x) u r = (u, refl, ltb-true i s.cap r)

module _ {s : Shared} {rows : List Row} {given : ℕ} (i : Invariant s rows given) (t : ℕ) (op : Op ℕ) (low : 1 ≤ t) (high : t ≤ length rows) (is_idle : task_of rows t ≡ idle) (fits : index_fits s.cap op ≡ true) where
  row_later : (v : ℕ) → (w : Row) → task_of rows v ≡ w → RowHolds s i.put (suc given) w
  row_later v None e = tt
  row_later v (Some w) e =
      let z : RowHolds s i.put given (Some w) = rw e at (i.each_row v) in
      (z.0, let q = z.1 in omega arith)

  abbrev new_row : Row
  new_row = open_at (suc given) op (first op)

  new_thread : Thread s i.put (suc given) op (first op)
  new_thread =
      record {
        number = λ e. absurd (omega (arith, e));
        past = λ c. inl (i.put_later c (suc given) (omega arith));
        here = first_knows s i.put (suc given) op (i.plan_later (suc given) (omega arith)) fits;
      }

  -- the new number is no open one
  was_given : (v n : ℕ) (o : Op ℕ) (x : Stage) → task_of rows v ≡ open_at n o x → n ≤ given
  was_given v n o x e = let z : RowHolds s i.put given (open_at n o x) = rw e at (i.each_row v) in z.1

  pub begin_invariant : Invariant s (set rows (t - 1) (open_at (suc given) op (first op))) (suc given)
  begin_invariant =
      record {
        put = i.put;
        facts = i.facts;
        each_row = λ v. elim (at_row rows t new_row low high v) [ inl e ↦ let q = e.1 in rw q (new_thread, omega arith) | inr e ↦ let q = e.1 in rw q (row_later v (task_of rows v) refl) ];
        apart = λ v u k o o' y y' h h'. elim (at_row rows t new_row low high v) [
          | inl e ↦ elim (at_row rows t new_row low high u) [
            | inl d ↦ cc
            | inr d ↦ let b = was_given u k o' y' (cc) in let q : k ≡ suc given = ap number_in (sym h ∙ e.1) in absurd (omega arith)
          ]
          | inr e ↦ elim (at_row rows t new_row low high u) [
            | inl d ↦ let b = was_given v k o y (cc) in let q : k ≡ suc given = ap number_in (sym h' ∙ d.1) in absurd (omega arith)
            | inr d ↦ i.apart v u k o o' y y' (cc) (cc)
          ]
        ];
        owned = λ k p f. let z = i.owned k p f in
            let q = z.3 in
            (z.0, z.1, z.2, elim (at_row rows t new_row low high z.0) [ inl e ↦ let w = e.0 in no_way (cc) | inr e ↦ e.1 ∙ q ]);
        plan_later = λ k l. i.plan_later k (omega arith);
        put_later = λ c j l. i.put_later c j (omega arith);
      }
