-- G7 makes a pop final. It is done and its cell is empty by itself, so the size and the list stay.
use Rattle.std.proofs.Common.{◌≡◌, ℕ, refl, inl, inr, arith, Some}
use Rattle.linearization.specs.Invariant.{Facts}
use Rattle.linearization.specs.Knowledge.{Puts, Final}
use Rattle.linearization.specs.Meaning.{size_now}
use Rattle.descriptor_steps.specs.Shared.{empty, done, final, Shared, set_status, emptied_by}
use Rattle.linearization.specs.Names.{popping}
use Rattle.linearization.proofs.Consequences.{SameMeaning, is_current}
use Rattle.linearization.proofs.Follows.{Follows}
use Rattle.linearization.proofs.Tests.{no_way, upd_same, at_upd}

module _ {s : Shared} {put : Puts} (g : Facts s put) (n c p b : ℕ) (is_plan : s.plan c ≡ Some (popping p)) (is_dn : s.status c ≡ done b) (is_clear : s.cell p ≡ empty c) where
  abbrev pub after_pop_final : Shared
  after_pop_final = set_status s c (final b)

  pop_final_cur : c ≡ s.cur
  pop_final_cur = is_current g c (cc) (cc)

  pop_final_size : size_now after_pop_final ≡ size_now s
  pop_final_size =
      let y = pop_final_cur in
      let w = upd_same s.status c (final b) in
      cc

  final_kept : (k : ℕ) → Final s k → Final after_pop_final k
  final_kept k h = elim (at_upd s.status c (final b) k) [ inl y ↦ cc | inr y ↦ cc ]

  pub pop_final_facts : Facts after_pop_final put
  pop_final_facts =
      let sz = pop_final_size in
      let cu = pop_final_cur in
      record {
        zero_unplanned = g.zero_unplanned;
        current_planned = g.current_planned;
        others_final = λ k ne h. final_kept k (g.others_final k ne h);
        unplanned_pending = λ k h. let y = g.unplanned_pending k h in elim (at_upd s.status c (final b) k) [ inl z ↦ no_way (cc) | inr z ↦ cc ];
        push_undone = λ k h. let y = g.push_undone k h in elim (at_upd s.status c (final b) k) [ inl z ↦ cc | inr z ↦ cc ];
        below_size = λ k h. g.below_size k (omega arith);
        above_size = λ k h. elim (g.above_size k (omega arith)) [ inl y ↦ inl y | inr y ↦ inl (cc) ];
        empty_by = λ k d h. elim (g.empty_by k d h) [ inl y ↦ inl y | inr y ↦ inr (y.0, y.1, elim (at_upd s.status c (final b) d) [ inl z ↦ cc | inr z ↦ cc ]) ];
        frozen_by = g.frozen_by;
        early_pop = g.early_pop;
        early_pending = λ a d j h u. elim (at_upd s.status c (final b) d) [ inl z ↦ no_way (cc) | inr z ↦ g.early_pending a d j h (cc) ];
        early_done = λ a e d j h u. elim (at_upd s.status c (final b) d) [ inl z ↦ no_way (cc) | inr z ↦ g.early_done a e d j h (cc) ];
        early_final = λ a e d j k h u y. elim (at_upd s.status c (final b) d) [ inl z ↦ let q = g.frozen_by k e d j y in no_way (cc) | inr z ↦ g.early_final a e d j k h (cc) y ];
        late_final = λ a d j h. let y = g.late_final a d j h in (y.0, final_kept d y.1);
        done_early = λ a d h. elim (at_upd s.status c (final b) d) [ inl z ↦ no_way (cc) | inr z ↦ g.done_early a d (cc) ];
        push_expects = λ k h u y. no_way (cc);
        push_emptied = λ d h. elim (g.push_emptied d h) [ inl y ↦ inl y | inr y ↦ inr (final_kept (emptied_by (s.plan d)) y) ];
        push_filled = λ d h u y. elim (at_upd s.status c (final b) d) [ inl z ↦ no_way (cc) | inr z ↦ g.push_filled d h (cc) y ];
        plan_within = g.plan_within;
      }

  pub pop_final_follows : Follows n s put after_pop_final put
  pop_final_follows =
      record {
        caps = refl;
        plans = λ k. inl refl;
        puts = λ d i. inl refl;
        stats = λ k. elim (at_upd s.status c (final b) k) [ inl z ↦ inr (inr (cc, cc)) | inr z ↦ inl z.1 ];
        cleared = λ d h u y. y;
        filled = λ d h u y. u y;
        settled = λ d h q. (q, λ i e y. y);
      }

  pub pop_final_same : SameMeaning s after_pop_final
  pop_final_same = (
    (λ k op. elim (at_upd s.status c (final b) k) [ inl z ↦ cc | inr z ↦ cc ]),
    let z = pop_final_size in cc,
  )

  pub pop_is_final : Final after_pop_final c
  pop_is_final = let z = upd_same s.status c (final b) in cc
