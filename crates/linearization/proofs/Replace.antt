-- A replaceable word gives way to another one that is not empty (G3 and W3): sizes, effects and empty cells stay as they are.
use Rattle.std.proofs.Common.{◌≡◌, ℕ, true, false, ◌⊎◌, refl, ◌∙◌, inl, inr, arith}
use Rattle.vector.specs.declared.Op.{Op}
use Rattle.linearization.specs.Invariant.{is_empty, Facts}
use Rattle.linearization.specs.Knowledge.{unput, early, late, Puts, WasPut, Final, Replaceable}
use Rattle.linearization.specs.Meaning.{took_effect, size_now, meant_of}
use Rattle.descriptor_steps.specs.Shared.{Cell, empty, frozen, pending, done, Shared, upd, set_cell, is_final, is_pop, position, emptied_by}
use Rattle.linearization.proofs.Consequences.{replaceable_full, replaceable_final, replaceable_low, effected_full}
use Rattle.linearization.proofs.Follows.{Follows}
use Rattle.linearization.proofs.Tests.{no_way, upd_same, upd_other, at_upd}

-- a word newly put: while its pop is pending, at the cell that is changed, or when its pop is final
abbrev pub NewPut : Shared → Puts → ℕ → Cell → ℕ → ℕ → Type 0
NewPut s put' i v c j =
    ((a : ℕ) × (put' c j ≡ early a) × (is_pop (s.plan c) ≡ true) × (s.status c ≡ pending) × (position (s.plan c) ≡ i) × (v ≡ frozen a c j)) ⊎ ((a : ℕ) × (put' c j ≡ late a) × (is_pop (s.plan c) ≡ true) × Final s c)

module _ {s : Shared} {put : Puts} (g : Facts s put) (n i : ℕ) (w v : Cell) (put' : Puts) (is_w : s.cell i ≡ w) (o : Replaceable s w) (v_full : is_empty v ≡ false) (grown : (c j : ℕ) → (put' c j ≡ put c j) ⊎ ((j ≡ n) × (put c j ≡ unput) × NewPut s put' i v c j)) (v_new : (b c j : ℕ) → v ≡ frozen b c j → (put c j ≡ unput) × (is_pop (s.plan c) ≡ true) × (position (s.plan c) ≡ i) × WasPut put' c j b) where
  w_full : is_empty (s.cell i) ≡ false
  w_full = let x = replaceable_full s w o in cc

  pub replace_effect : (k : ℕ) → took_effect (set_cell s i v) k ≡ took_effect s k
  replace_effect k =
      let x = w_full in
      elim (at_upd s.cell i v (position (s.plan k))) [ inl e ↦ let y = effected_full (s.plan k) (s.status k) v (s.cell i) v_full x in cc | inr e ↦ cc ]

  pub replace_size : size_now (set_cell s i v) ≡ size_now s
  replace_size = let x = replace_effect s.cur in cc

  -- what is kept of the cells
  kept_empty : (k e : ℕ) → s.cell k ≡ empty e → upd s.cell i v k ≡ s.cell k
  kept_empty k e h =
      let x = w_full in
      elim (at_upd s.cell i v k) [ inl y ↦ no_way (cc) | inr y ↦ y.1 ]

  was_empty : (k e : ℕ) → upd s.cell i v k ≡ empty e → s.cell k ≡ empty e
  was_empty k e h = elim (at_upd s.cell i v k) [ inl y ↦ no_way (cc) | inr y ↦ cc ]

  kept_frozen : (k a c j : ℕ) → is_final (s.status c) ≡ false → s.cell k ≡ frozen a c j → upd s.cell i v k ≡ frozen a c j
  kept_frozen k a c j nf h =
      elim (at_upd s.cell i v k) [ inl y ↦ let z = replaceable_final s w o a c j (cc) in no_way (cc) | inr y ↦ cc ]

  put_kept : (c j a : ℕ) → WasPut put c j a → WasPut put' c j a
  put_kept c j a h = elim (grown c j) [ inl e ↦ elim h [ inl x ↦ inl (cc) | inr x ↦ inr (cc) ] | inr e ↦ elim h [ inl x ↦ no_way (cc) | inr x ↦ no_way (cc) ] ]

  pub replace_facts : Facts (set_cell s i v) put'
  replace_facts =
      let same = replace_size in
      let i_low = replaceable_low g i w is_w o in
      record {
        zero_unplanned = g.zero_unplanned;
        current_planned = g.current_planned;
        others_final = g.others_final;
        unplanned_pending = g.unplanned_pending;
        push_undone = g.push_undone;
        below_size = λ k h. elim (at_upd s.cell i v k) [ inl e ↦ cc | inr e ↦ let x = g.below_size k (omega arith) in cc ];
        above_size = λ k h. let e = upd_other s.cell i v k (λ q. absurd (omega (arith, q))) in
            rw e (g.above_size k (omega arith));
        empty_by = λ k d h. g.empty_by k d (was_empty k d h);
        frozen_by = λ k a c j h. elim (at_upd s.cell i v k) [ inl e ↦ let x = v_new a c j (cc) in (x.1, cc, x.3) | inr e ↦ let x = g.frozen_by k a c j (cc) in (x.0, x.1, put_kept c j a x.2) ];
        early_pop = λ a c j h. elim (grown c j) [ inl e ↦ g.early_pop a c j (cc) | inr e ↦ elim e.2 [ inl x ↦ x.2 | inr x ↦ x.2 ] ];
        early_pending = λ a c j h u. elim (grown c j) [ inl e ↦ kept_frozen (position (s.plan c)) a c j (cc) (g.early_pending a c j (cc) u) | inr e ↦ elim e.2 [ inl x ↦ let y = upd_same s.cell i v in cc | inr x ↦ no_way (cc) ] ];
        early_done = λ a b c j h u. elim (grown c j) [ inl e ↦ still_done a b c j (cc) u | inr e ↦ elim e.2 [ inl x ↦ no_way (cc) | inr x ↦ no_way (cc) ] ];
        early_final = λ a b c j k h u y. elim (grown c j) [ inl e ↦ elim (at_upd s.cell i v k) [ inl z ↦ let x = v_new b c j (cc) in no_way (cc) | inr z ↦ g.early_final a b c j k (cc) u (cc) ] | inr e ↦ elim e.2 [ inl x ↦ no_way (cc) | inr x ↦ no_way (cc) ] ];
        late_final = λ a c j h. elim (grown c j) [ inl e ↦ g.late_final a c j (cc) | inr e ↦ elim e.2 [ inl x ↦ no_way (cc) | inr x ↦ (x.2, x.3) ] ];
        done_early = λ a c h. let x = g.done_early a c h in
            (x.0, elim (put_kept c x.0 a (inl x.1)) [ inl y ↦ y | inr y ↦ let z = x.1 in elim (grown c x.0) [ inl e ↦ no_way (cc) | inr e ↦ no_way (cc) ] ]);
        push_expects = λ k h u y. g.push_expects k h u (was_empty (position (s.plan s.cur)) k y);
        push_emptied = g.push_emptied;
        push_filled = λ c h u y. g.push_filled c h u (was_empty (position (s.plan c)) (emptied_by (s.plan c)) y);
        plan_within = g.plan_within;
      }
    where
      still_done : (a b c j : ℕ) → put c j ≡ early a → s.status c ≡ done b → (b ≡ a) × ((upd s.cell i v (position (s.plan c)) ≡ frozen a c j) ⊎ (upd s.cell i v (position (s.plan c)) ≡ empty c))
      still_done a b c j h u =
          let x = g.early_done a b c j h u in (
            x.0,
            elim x.1 [ inl y ↦ inl (kept_frozen (position (s.plan c)) a c j (cc) y) | inr y ↦ inr (kept_empty (position (s.plan c)) c y ∙ y) ],
          )

  pub replace_follows : Follows n s put (set_cell s i v) put'
  replace_follows =
      record {
        caps = refl;
        plans = λ k. inl refl;
        puts = λ c j. elim (grown c j) [ inl e ↦ inl e | inr e ↦ inr (e.0, e.1) ];
        stats = λ k. inl refl;
        cleared = λ c h u y. kept_empty (position (s.plan c)) c y ∙ y;
        filled = λ c h u y. u (was_empty (position (s.plan c)) (emptied_by (s.plan c)) y);
        settled = λ c h e. (e, λ k d y. kept_empty k d y ∙ y);
      }

  pub replace_rows : (k : ℕ) (op : Op ℕ) → meant_of (set_cell s i v) k op ≡ meant_of s k op
  replace_rows k op = let x = replace_effect k in cc
