-- H1 fills the cell of a push. A final push never again sees its cell as it found it, so the push is pending and current, and
-- takes effect now.
use Rattle.std.proofs.Common.{◌≡◌, ℕ, suc, ◌<◌, Bool, true, false, ◌≢◌, length, sym, refl, ap, inl, inr, arith, Some, None, Option, is_some}
use Rattle.std.proofs.lemmas.Bool.{cases_Bool, lt-ltb}
use Rattle.vector.specs.Meaning.{waiting, served}
use Rattle.vector.specs.declared.Answer.TheVariants.{Position}
use Rattle.vector.specs.declared.Op.{Op}
use Rattle.vector.specs.declared.Op.TheVariants.{Push}
use Rattle.linearization.specs.Invariant.{Facts}
use Rattle.linearization.specs.Knowledge.{Puts, is_done, Final}
use Rattle.linearization.specs.Meaning.{size_now, items, meant_of}
use Rattle.descriptor_steps.specs.Shared.{empty, plain, frozen, Status, pending, done, final, Shared, upd, set_cell, is_final, position, emptied_by, value_in}
use Rattle.linearization.specs.Names.{Plan, pushing, popping}
use Rattle.linearization.proofs.Consequences.{Plainly, pending_status, is_current}
use Rattle.linearization.proofs.Follows.{Follows}
use Rattle.linearization.proofs.Tests.{none_there, no_way, upd_same, upd_other, same_cell_refl, at_upd}
use Rattle.linearization.proofs.Values.{values_length, values_cong}

module _ {s : Shared} {put : Puts} (g : Facts s put) (n c p x e : ℕ) (is_plan : s.plan c ≡ Some (pushing p x e)) (is_e : s.cell p ≡ empty e) where
  abbrev pub after_fill : Shared
  after_fill = set_cell s p (plain x)

  fill_open : is_final (s.status c) ≡ false
  fill_open = elim (cases_Bool (is_final (s.status c))) [ inl h ↦ absurd (g.push_filled c (cc) h (cc)) | inr h ↦ h ]

  pub fill_pending : s.status c ≡ pending
  fill_pending = pending_status (s.status c) fill_open (g.push_undone c (cc))

  pub fill_cur : c ≡ s.cur
  fill_cur = is_current g c (cc) fill_open

  fill_before : size_now s ≡ p
  fill_before =
      let a = fill_pending in
      let b = fill_cur in
      let d = same_cell_refl (empty e) in
      cc

  fill_after : size_now after_fill ≡ suc p
  fill_after =
      let a = fill_pending in
      let b = fill_cur in
      let d = upd_same s.cell p (plain x) in
      cc

  kept_frozen : (k a d j : ℕ) → s.cell k ≡ frozen a d j → upd s.cell p (plain x) k ≡ frozen a d j
  kept_frozen k a d j h = elim (at_upd s.cell p (plain x) k) [ inl y ↦ no_way (cc) | inr y ↦ cc ]

  was_empty : (k d : ℕ) → upd s.cell p (plain x) k ≡ empty d → s.cell k ≡ empty d
  was_empty k d h = elim (at_upd s.cell p (plain x) k) [ inl y ↦ no_way (cc) | inr y ↦ cc ]

  was_frozen : (k a d j : ℕ) → upd s.cell p (plain x) k ≡ frozen a d j → s.cell k ≡ frozen a d j
  was_frozen k a d j h = elim (at_upd s.cell p (plain x) k) [ inl y ↦ no_way (cc) | inr y ↦ cc ]

  -- the current operation is a pending push, so no pop is done
  none_done : (d : ℕ) → is_done (s.status d) ≡ true → ◌≡◌ {A = Bool} true false
  none_done d h =
      let a = fill_pending in
      let b = fill_cur in
      elim (cases_Bool (is_some (s.plan d))) [
        | inl y ↦ let z = is_current g d y (open_done (s.status d) h) in cc
        | inr y ↦ let z = g.unplanned_pending d (none_there (s.plan d) y) in cc
      ]
    where
      open_done : (v : Status) → is_done v ≡ true → is_final v ≡ false
      open_done pending h = refl
      open_done (done b) h = refl
      open_done (final b) h = sym h

  pub fill_facts : Facts after_fill put
  fill_facts =
      let sz = fill_before in
      let sz' = fill_after in
      let pe = fill_pending in
      let cu = fill_cur in
      record {
        zero_unplanned = g.zero_unplanned;
        current_planned = g.current_planned;
        others_final = g.others_final;
        unplanned_pending = g.unplanned_pending;
        push_undone = g.push_undone;
        below_size = λ k h. elim (at_upd s.cell p (plain x) k) [ inl y ↦ cc | inr y ↦ let ne = y.0 in let z = g.below_size k (omega arith) in cc ];
        above_size = λ k h. let y = upd_other s.cell p (plain x) k (λ q. absurd (omega (arith, q))) in
            elim (g.above_size k (omega arith)) [ inl z ↦ inl (cc) | inr z ↦ no_way (cc) ];
        empty_by = λ k d h. g.empty_by k d (was_empty k d h);
        frozen_by = λ k a d j h. g.frozen_by k a d j (was_frozen k a d j h);
        early_pop = g.early_pop;
        early_pending = λ a d j h u. kept_frozen (position (s.plan d)) a d j (g.early_pending a d j h u);
        early_done = λ a b d j h u. no_way (none_done d (cc));
        early_final = λ a b d j k h u y. g.early_final a b d j k h u (was_frozen k b d j y);
        late_final = g.late_final;
        done_early = g.done_early;
        push_expects = λ k h u y. let z = upd_same s.cell p (plain x) in no_way (cc);
        push_emptied = g.push_emptied;
        push_filled = λ d h u y. g.push_filled d h u (was_empty (position (s.plan d)) (emptied_by (s.plan d)) y);
        plan_within = g.plan_within;
      }

  pub fill_follows : Follows n s put after_fill put
  fill_follows =
      record {
        caps = refl;
        plans = λ k. inl refl;
        puts = λ d j. inl refl;
        stats = λ k. inl refl;
        cleared = λ d h u y. no_way (none_done d u);
        filled = λ d h u y. u (was_empty (position (s.plan d)) (emptied_by (s.plan d)) y);
        settled = λ d h q. let pe = fill_pending in
            let cu = fill_cur in
            elim h [ inl y ↦ let z = g.zero_unplanned in no_way (cc) | inr y ↦ no_way (cc) ];
      }

  -- the other rows mean what they meant
  pub fill_rows : (k : ℕ) (op : Op ℕ) → k ≢ c → meant_of after_fill k op ≡ meant_of s k op
  fill_rows k op ne =
      elim (cases_Bool (is_some (s.plan k))) [
        | inl y ↦ fin_row (s.plan k) refl (s.status k) refl (g.others_final k (λ q. ne (let cu = fill_cur in cc)) y)
        | inr y ↦ none_row (s.plan k) refl y
      ]
    where
      none_row : (q : Option Plan) → s.plan k ≡ q → is_some (s.plan k) ≡ false → meant_of after_fill k op ≡ meant_of s k op
      none_row None h y = cc
      none_row (Some p) h y = no_way (cc)

      fin_row : (q : Option Plan) → s.plan k ≡ q → (v : Status) → s.status k ≡ v → Final s k → meant_of after_fill k op ≡ meant_of s k op
      fin_row q h pending u f = no_way (cc)
      fin_row q h (done b) u f = no_way (cc)
      fin_row None h (final b) u f = cc
      fin_row (Some (pushing a y d)) h (final b) u f = cc
      fin_row (Some (popping a)) h (final b) u f = cc

  pub fill_waits : (op : Op ℕ) → meant_of s c op ≡ waiting op c
  fill_waits op =
      let a = fill_pending in
      let d = same_cell_refl (empty e) in
      cc

  pub fill_served : (op : Op ℕ) → meant_of after_fill c op ≡ served op c (Position p)
  fill_served op =
      let a = fill_pending in
      let d = upd_same s.cell p (plain x) in
      cc

  pub fill_takes : Plainly s (Push x) after_fill (Position p)
  fill_takes =
      let sz = fill_before in
      let sz' = fill_after in
      let l = values_length s.cell (size_now s) in
      let k : position (s.plan c) < s.cap = g.plan_within c (cc) in
      let k' : position (s.plan c) ≡ p = cc in
      let h = lt-ltb (length (items s)) s.cap (omega arith) in
      let y = values_cong (upd s.cell p (plain x)) s.cell p (λ k l. ap value_in (upd_other s.cell p (plain x) k (λ q. absurd (omega (arith, q))))) in
      let z = upd_same s.cell p (plain x) in
      (cc, cc)
