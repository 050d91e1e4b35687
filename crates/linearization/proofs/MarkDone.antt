-- G4 marks a pop done. It was pending, so the word put for it still stands in its cell, and it takes effect with that value.
use Rattle.std.proofs.Common.{◌≡◌, ℕ, suc, ◌-◌, ◌≢◌, length, take, Some, refl, ap, ◌∙◌, inl, inr, arith}
use Rattle.std.proofs.lemmas.Bool.{cases_eq}
use Rattle.std.specs.List.{slice_get}
use Rattle.vector.proofs.Plainly.{after_pop_take, popped_nth}
use Rattle.vector.specs.Meaning.{waiting, served}
use Rattle.vector.specs.declared.Answer.TheVariants.{Value}
use Rattle.vector.specs.declared.Op.{Op}
use Rattle.vector.specs.declared.Op.TheVariants.{Pop}
use Rattle.linearization.specs.Invariant.{Facts}
use Rattle.linearization.specs.Knowledge.{early, Puts, Final}
use Rattle.linearization.specs.Meaning.{size_now, values, items, meant_of}
use Rattle.descriptor_steps.specs.Shared.{frozen, pending, done, Shared, set_status, emptied_by, value_in}
use Rattle.linearization.specs.Names.{popping}
use Rattle.linearization.proofs.Consequences.{Plainly, is_current}
use Rattle.linearization.proofs.Follows.{Follows}
use Rattle.linearization.proofs.Tests.{no_way, upd_same, upd_other, at_upd}
use Rattle.linearization.proofs.Values.{values_length, values_nth, values_take}

module _ {s : Shared} {put : Puts} (g : Facts s put) (n c p a j : ℕ) (is_plan : s.plan c ≡ Some (popping p)) (is_pend : s.status c ≡ pending) (put_it : put c j ≡ early a) where
  abbrev pub after_mark : Shared
  after_mark = set_status s c (done a)

  mark_cur : c ≡ s.cur
  mark_cur = is_current g c (cc) (cc)

  mark_cell : s.cell p ≡ frozen a c j
  mark_cell = let y = g.early_pending a c j put_it is_pend in cc

  mark_before : size_now s ≡ suc p
  mark_before = let y = mark_cur in cc

  mark_after : size_now after_mark ≡ p
  mark_after =
      let y = mark_cur in
      let w = upd_same s.status c (done a) in
      cc

  final_kept : (k : ℕ) → Final s k → Final after_mark k
  final_kept k h = elim (at_upd s.status c (done a) k) [ inl y ↦ no_way (cc) | inr y ↦ cc ]

  was_fin : (k : ℕ) → Final after_mark k → Final s k
  was_fin k h = elim (at_upd s.status c (done a) k) [ inl y ↦ no_way (cc) | inr y ↦ cc ]

  pub mark_facts : Facts after_mark put
  mark_facts =
      let sz = mark_before in
      let sz' = mark_after in
      let cu = mark_cur in
      let ce = mark_cell in
      record {
        zero_unplanned = g.zero_unplanned;
        current_planned = g.current_planned;
        others_final = λ k ne h. final_kept k (g.others_final k ne h);
        unplanned_pending = λ k h. let y = g.unplanned_pending k h in elim (at_upd s.status c (done a) k) [ inl z ↦ no_way (cc) | inr z ↦ cc ];
        push_undone = λ k h. let y = g.push_undone k h in elim (at_upd s.status c (done a) k) [ inl z ↦ no_way (cc) | inr z ↦ cc ];
        below_size = λ k h. g.below_size k (omega arith);
        above_size = λ k h. let w = upd_same s.status c (done a) in
            elim (cases_eq k p) [ inl y ↦ inr (cc, cc) | inr y ↦ elim (g.above_size k (omega arith)) [ inl z ↦ inl z | inr z ↦ no_way (cc) ] ];
        empty_by = λ k d h. elim (g.empty_by k d h) [ inl y ↦ inl y | inr y ↦ inr (y.0, y.1, elim (at_upd s.status c (done a) d) [ inl z ↦ cc | inr z ↦ cc ]) ];
        frozen_by = g.frozen_by;
        early_pop = g.early_pop;
        early_pending = λ b d i h u. elim (at_upd s.status c (done a) d) [ inl z ↦ no_way (cc) | inr z ↦ g.early_pending b d i h (cc) ];
        early_done = λ b e d i h u. elim (at_upd s.status c (done a) d) [ inl z ↦ let y = g.early_pending b d i h (cc) in (cc, inl y) | inr z ↦ g.early_done b e d i h (cc) ];
        early_final = λ b e d i k h u y. g.early_final b e d i k h (was_fin d u) y;
        late_final = λ b d i h. let y = g.late_final b d i h in (y.0, final_kept d y.1);
        done_early = λ b d h. elim (at_upd s.status c (done a) d) [ inl z ↦ (j, cc) | inr z ↦ g.done_early b d (cc) ];
        push_expects = λ k h u y. no_way (cc);
        push_emptied = λ d h. elim (g.push_emptied d h) [ inl y ↦ inl y | inr y ↦ inr (final_kept (emptied_by (s.plan d)) y) ];
        push_filled = λ d h u y. g.push_filled d h (was_fin d u) y;
        plan_within = g.plan_within;
      }

  pub mark_follows : Follows n s put after_mark put
  mark_follows =
      record {
        caps = refl;
        plans = λ k. inl refl;
        puts = λ d i. inl refl;
        stats = λ k. elim (at_upd s.status c (done a) k) [ inl z ↦ inr (inl (cc)) | inr z ↦ inl z.1 ];
        cleared = λ d h u y. y;
        filled = λ d h u y. u y;
        settled = λ d h q. (q, λ i e y. y);
      }

  pub mark_rows : (k : ℕ) (op : Op ℕ) → k ≢ c → meant_of after_mark k op ≡ meant_of s k op
  mark_rows k op ne = let z = upd_other s.status c (done a) k ne in cc

  pub mark_waits : (op : Op ℕ) → meant_of s c op ≡ waiting op c
  mark_waits op = cc

  pub mark_served : (op : Op ℕ) → meant_of after_mark c op ≡ served op c (Value a)
  mark_served op = let z = upd_same s.status c (done a) in cc

  pub mark_status : after_mark.status c ≡ done a
  mark_status = upd_same s.status c (done a)

  pub mark_takes : Plainly s Pop after_mark (Value a)
  mark_takes =
      let sz = mark_before in
      let sz' = mark_after in
      let ce = mark_cell in
      let l : length (items s) ≡ suc p = values_length s.cell (size_now s) ∙ sz in
      let d : length (items s) - 1 ≡ p = omega arith in
      let v : slice_get (items s) (length (items s) - 1) ≡ Some a = rw d (rw sz (values_nth s.cell (suc p) p (omega arith) ∙ ap Some (ap value_in ce))) in
      let t : take p (items s) ≡ values s.cell p = rw sz (values_take s.cell p) in
      let u = after_pop_take (items s) in
      (popped_nth (items s) a v, cc)
