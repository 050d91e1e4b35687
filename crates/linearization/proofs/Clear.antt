-- G6 empties the cell of a pop. The word seen was put early, and once the pop is final it stands nowhere; so the pop is done, and
-- the list, which ends below the cell, stays.
use Rattle.std.proofs.Common.{◌≡◌, ℕ, Bool, true, false, refl, ap, inl, inr, true≢false, arith, Some, None, Option}
use Rattle.std.proofs.lemmas.Bool.{cases_Bool}
use Rattle.vector.specs.declared.Op.{Op}
use Rattle.linearization.specs.Invariant.{Facts}
use Rattle.linearization.specs.Knowledge.{early, Puts}
use Rattle.linearization.specs.Meaning.{size_now, meant_of}
use Rattle.descriptor_steps.specs.Shared.{empty, frozen, Status, pending, done, final, Shared, upd, set_cell, is_pending, is_final, held, is_push, is_pop, position, emptied_by, value_in}
use Rattle.linearization.specs.Names.{Plan, pushing, popping}
use Rattle.linearization.proofs.Consequences.{SameMeaning, done_status, is_current}
use Rattle.linearization.proofs.Follows.{Follows}
use Rattle.linearization.proofs.Stable.{pop_planned}
use Rattle.linearization.proofs.Tests.{no_way, upd_same, upd_other, at_upd}
use Rattle.linearization.proofs.Values.{values_cong}

module _ {s : Shared} {put : Puts} (g : Facts s put) (n c a j p : ℕ) (is_plan : s.plan c ≡ Some (popping p)) (put_it : put c j ≡ early a) (not_pending : is_pending (s.status c) ≡ false) (is_w : s.cell p ≡ frozen a c j) where
  abbrev pub after_clear : Shared
  after_clear = set_cell s p (empty c)

  clear_open : is_final (s.status c) ≡ false
  clear_open = elim (cases_Bool (is_final (s.status c))) [ inl h ↦ absurd (g.early_final a a c j p put_it h is_w) | inr h ↦ h ]

  pub clear_done : s.status c ≡ done (held (s.status c))
  clear_done = done_status (s.status c) clear_open not_pending

  pub clear_cur : c ≡ s.cur
  clear_cur = is_current g c (cc) clear_open

  clear_before : size_now s ≡ p
  clear_before =
      let x = clear_done in
      let y = clear_cur in
      cc

  clear_after : size_now after_clear ≡ p
  clear_after =
      let x = clear_done in
      let y = clear_cur in
      cc

  was_frozen : (k b d i : ℕ) → upd s.cell p (empty c) k ≡ frozen b d i → s.cell k ≡ frozen b d i
  was_frozen k b d i h = elim (at_upd s.cell p (empty c) k) [ inl y ↦ no_way (cc) | inr y ↦ cc ]

  -- no push waits for what c leaves
  not_by : (d : ℕ) → is_push (s.plan d) ≡ true → emptied_by (s.plan d) ≡ c → ◌≡◌ {A = Bool} true false
  not_by d h e =
      let x = clear_open in
      let z = g.zero_unplanned in
      elim (g.push_emptied d h) [ inl y ↦ cc | inr y ↦ cc ]

  was_by : (d : ℕ) → is_push (s.plan d) ≡ true → upd s.cell p (empty c) (position (s.plan d)) ≡ empty (emptied_by (s.plan d)) → s.cell (position (s.plan d)) ≡ empty (emptied_by (s.plan d))
  was_by d h y = elim (at_upd s.cell p (empty c) (position (s.plan d))) [ inl z ↦ no_way (not_by d h (cc)) | inr z ↦ cc ]

  only_c : (d b : ℕ) → s.status d ≡ done b → is_pop (s.plan d) ≡ true → d ≡ c
  only_c d b h q = let x = is_current g d (pop_planned (s.plan d) q) (cc) in let y = clear_cur in cc

  pub clear_facts : Facts after_clear put
  clear_facts =
      let sz = clear_before in
      let sz' = clear_after in
      let dn = clear_done in
      let cu = clear_cur in
      record {
        zero_unplanned = g.zero_unplanned;
        current_planned = g.current_planned;
        others_final = g.others_final;
        unplanned_pending = g.unplanned_pending;
        push_undone = g.push_undone;
        below_size = λ k h. let y = upd_other s.cell p (empty c) k (λ q. absurd (omega (arith, q))) in
            let z = g.below_size k (omega arith) in
            cc;
        above_size = λ k h. elim (at_upd s.cell p (empty c) k) [ inl y ↦ inl (cc) | inr y ↦ let e = y.1 in rw e (g.above_size k (omega arith)) ];
        empty_by = λ k d h. elim (at_upd s.cell p (empty c) k) [ inl y ↦ inr (cc, cc, cc) | inr y ↦ g.empty_by k d (cc) ];
        frozen_by = λ k b d i h. g.frozen_by k b d i (was_frozen k b d i h);
        early_pop = g.early_pop;
        early_pending = λ b d i h u. let y = g.early_pending b d i h u in
            elim (at_upd s.cell p (empty c) (position (s.plan d))) [ inl z ↦ no_way (cc) | inr z ↦ cc ];
        early_done = λ b e d i h u. let y = g.early_done b e d i h u in
            let z = only_c d e u (g.early_pop b d i h) in
            let w = upd_same s.cell p (empty c) in
            (y.0, inr (cc));
        early_final = λ b e d i k h u y. g.early_final b e d i k h u (was_frozen k e d i y);
        late_final = g.late_final;
        done_early = g.done_early;
        push_expects = λ k h u y. no_way (cc);
        push_emptied = g.push_emptied;
        push_filled = λ d h u y. g.push_filled d h u (was_by d h y);
        plan_within = g.plan_within;
      }

  pub clear_follows : Follows n s put after_clear put
  clear_follows =
      let dn = clear_done in
      let cu = clear_cur in
      record {
        caps = refl;
        plans = λ k. inl refl;
        puts = λ d i. inl refl;
        stats = λ k. inl refl;
        cleared = λ d h u y. elim (at_upd s.cell p (empty c) (position (s.plan d))) [ inl z ↦ no_way (cc) | inr z ↦ cc ];
        filled = λ d h u y. u (was_by d h y);
        settled = λ d h q. let z = g.zero_unplanned in elim h [ inl y ↦ no_way (cc) | inr y ↦ no_way (cc) ];
      }

  pub clear_same : SameMeaning s after_clear
  clear_same =
      let sz = clear_before in
      let sz' = clear_after in (
        (λ k op. row k op (s.plan k) refl (s.status k) refl),
        let y = values_cong (upd s.cell p (empty c)) s.cell p (λ k l. ap value_in (upd_other s.cell p (empty c) k (λ q. absurd (omega (arith, q))))) in
            cc,
      )
    where
      row : (k : ℕ) (op : Op ℕ) → (q : Option Plan) → s.plan k ≡ q → (v : Status) → s.status k ≡ v → meant_of after_clear k op ≡ meant_of s k op
      row k op None h v u = cc
      row k op (Some (popping b)) h v u = cc
      row k op (Some (pushing b y d)) h (final e) u = cc
      row k op (Some (pushing b y d)) h pending u =
          let cu = clear_cur in
          let x = g.others_final k (λ z. true≢false (cc)) (cc) in
          no_way (cc)
      row k op (Some (pushing b y d)) h (done e) u = let x = g.push_undone k (cc) in no_way (cc)
