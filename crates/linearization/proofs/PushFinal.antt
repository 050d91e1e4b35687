-- H2 makes a push final. Its cell is filled, so the push has taken effect, and nothing else changes.
use Rattle.std.proofs.Common.{◌≡◌, ℕ, false, ◌≢◌, refl, inl, inr, arith, Some}
use Rattle.std.proofs.lemmas.Bool.{cases_Bool}
use Rattle.linearization.specs.Invariant.{Facts}
use Rattle.linearization.specs.Knowledge.{Puts, Final}
use Rattle.linearization.specs.Meaning.{size_now}
use Rattle.descriptor_steps.specs.Shared.{empty, pending, final, Shared, set_status, emptied_by, same_cell}
use Rattle.linearization.specs.Names.{pushing}
use Rattle.linearization.proofs.Consequences.{SameMeaning, is_current}
use Rattle.linearization.proofs.Follows.{Follows}
use Rattle.linearization.proofs.Tests.{no_way, upd_same, same_cell_true, at_upd}

module _ {s : Shared} {put : Puts} (g : Facts s put) (n c p x e : ℕ) (is_plan : s.plan c ≡ Some (pushing p x e)) (is_pend : s.status c ≡ pending) (is_full : s.cell p ≢ empty e) where
  abbrev pub after_push_final : Shared
  after_push_final = set_status s c (final 0)

  push_final_cur : c ≡ s.cur
  push_final_cur = is_current g c (cc) (cc)

  not_same : same_cell (s.cell p) (empty e) ≡ false
  not_same = elim (cases_Bool (same_cell (s.cell p) (empty e))) [ inl h ↦ absurd (is_full (same_cell_true (s.cell p) (empty e) h)) | inr h ↦ h ]

  push_final_size : size_now after_push_final ≡ size_now s
  push_final_size =
      let y = push_final_cur in
      let z = not_same in
      let w = upd_same s.status c (final 0) in
      cc

  final_kept : (k : ℕ) → Final s k → Final after_push_final k
  final_kept k h = elim (at_upd s.status c (final 0) k) [ inl y ↦ cc | inr y ↦ cc ]

  pub push_final_facts : Facts after_push_final put
  push_final_facts =
      let sz = push_final_size in
      let cu = push_final_cur in
      record {
        zero_unplanned = g.zero_unplanned;
        current_planned = g.current_planned;
        others_final = λ k ne h. final_kept k (g.others_final k ne h);
        unplanned_pending = λ k h. let y = g.unplanned_pending k h in elim (at_upd s.status c (final 0) k) [ inl z ↦ no_way (cc) | inr z ↦ cc ];
        push_undone = λ k h. let y = g.push_undone k h in elim (at_upd s.status c (final 0) k) [ inl z ↦ cc | inr z ↦ cc ];
        below_size = λ k h. g.below_size k (omega arith);
        above_size = λ k h. elim (g.above_size k (omega arith)) [ inl y ↦ inl y | inr y ↦ no_way (cc) ];
        empty_by = λ k d h. elim (g.empty_by k d h) [ inl y ↦ inl y | inr y ↦ inr (y.0, y.1, elim (at_upd s.status c (final 0) d) [ inl z ↦ cc | inr z ↦ cc ]) ];
        frozen_by = g.frozen_by;
        early_pop = g.early_pop;
        early_pending = λ a d j h u. elim (at_upd s.status c (final 0) d) [ inl z ↦ no_way (cc) | inr z ↦ g.early_pending a d j h (cc) ];
        early_done = λ a b d j h u. elim (at_upd s.status c (final 0) d) [ inl z ↦ no_way (cc) | inr z ↦ g.early_done a b d j h (cc) ];
        early_final = λ a b d j k h u y. elim (at_upd s.status c (final 0) d) [ inl z ↦ let q = g.early_pop a d j h in no_way (cc) | inr z ↦ g.early_final a b d j k h (cc) y ];
        late_final = λ a d j h. let y = g.late_final a d j h in (y.0, final_kept d y.1);
        done_early = λ a d h. elim (at_upd s.status c (final 0) d) [ inl z ↦ no_way (cc) | inr z ↦ g.done_early a d (cc) ];
        push_expects = λ k h u y. let z = upd_same s.status c (final 0) in no_way (cc);
        push_emptied = λ d h. elim (g.push_emptied d h) [ inl y ↦ inl y | inr y ↦ inr (final_kept (emptied_by (s.plan d)) y) ];
        push_filled = λ d h u y. elim (at_upd s.status c (final 0) d) [ inl z ↦ is_full (cc) | inr z ↦ g.push_filled d h (cc) y ];
        plan_within = g.plan_within;
      }

  pub push_final_follows : Follows n s put after_push_final put
  push_final_follows =
      record {
        caps = refl;
        plans = λ k. inl refl;
        puts = λ d i. inl refl;
        stats = λ k. elim (at_upd s.status c (final 0) k) [ inl z ↦ inr (inl (cc)) | inr z ↦ inl z.1 ];
        cleared = λ d h u y. y;
        filled = λ d h u y. u y;
        settled = λ d h q. (q, λ i b y. y);
      }

  pub push_final_same : SameMeaning s after_push_final
  push_final_same = (
    (λ k op. let y = not_same in elim (at_upd s.status c (final 0) k) [ inl z ↦ cc | inr z ↦ cc ]),
    let z = push_final_size in cc,
  )

  pub push_is_final : Final after_push_final c
  push_is_final = let z = upd_same s.status c (final 0) in cc
