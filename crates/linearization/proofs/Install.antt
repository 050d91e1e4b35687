-- L4 installs an operation. The one before it is settled, so the size stays: a push finds its cell still empty, a pop its value.
use Rattle.std.proofs.Common.{◌≡◌, ℕ, ◌<◌, ◌≤◌, true, ◌≢◌, ◌⊎◌, sym, refl, ap, ◌∙◌, inl, inr, arith, Some, None, Option, is_some}
use Rattle.std.proofs.lemmas.Bool.{cases_eq}
use Rattle.vector.specs.declared.Op.{Op}
use Rattle.linearization.specs.Invariant.{Facts}
use Rattle.linearization.specs.Knowledge.{Puts, Final, Settled, Ready}
use Rattle.linearization.specs.Meaning.{size_now, meant_of}
use Rattle.descriptor_steps.specs.Shared.{empty, pending, Shared, upd, install, is_push, is_pop, position, emptied_by, size_after}
use Rattle.linearization.specs.Names.{Plan, pushing, popping}
use Rattle.linearization.proofs.Consequences.{SameMeaning, settled_size}
use Rattle.linearization.proofs.Follows.{Follows}
use Rattle.linearization.proofs.Stable.{pop_planned}
use Rattle.linearization.proofs.Tests.{no_way, upd_same, upd_other, same_cell_refl, at_upd}

module _ {s : Shared} {put : Puts} (g : Facts s put) (n c : ℕ) (p : Plan) (op : Op ℕ) (n≢0 : n ≢ 0) (un : s.plan n ≡ None) (is_c : s.cur ≡ c) (t : Settled s c) (ready : Ready s c p op) where
  -- an operation installed before is not n
  before : (k : ℕ) → is_some (s.plan k) ≡ true → upd s.plan n (Some p) k ≡ s.plan k
  before k h = elim (at_upd s.plan n (Some p) k) [ inl e ↦ no_way (cc) | inr e ↦ e.1 ]

  t' : Settled s s.cur
  t' = elim t [ inl e ↦ inl (is_c ∙ e) | inr e ↦ inr (cc) ]

  n_pending : s.status n ≡ pending
  n_pending = g.unplanned_pending n un

  size_same : size_now (install s n p) ≡ size_now s
  size_same = go p ready (upd_same s.plan n (Some p)) (settled_size g t').0
    where
      go : (q : Plan) → Ready s c q op → upd s.plan n (Some p) n ≡ Some q → size_now s ≡ size_after (s.plan s.cur) → size_now (install s n p) ≡ size_now s
      go (pushing m x d) r e z =
          let u = n_pending in
          let w = (r.3 is_c).0 in
          let v = same_cell_refl (empty d) in
          let y = r.1 in
          cc
      go (popping m) r e z =
          let u = n_pending in
          let y = r.1 in
          cc

  keep_pop : (k : ℕ) → is_pop (s.plan k) ≡ true → upd s.plan n (Some p) k ≡ s.plan k
  keep_pop k h = before k (pop_planned (s.plan k) h)

  after_cap : size_after (s.plan c) ≤ s.cap
  after_cap = go (s.plan c) refl
    where
      go : (q : Option Plan) → s.plan c ≡ q → size_after (s.plan c) ≤ s.cap
      go None e = rw e (omega arith)
      go (Some (pushing m x d)) e = let h : position (s.plan c) < s.cap = g.plan_within c (cc) in rw e (rw e at h)
      go (Some (popping m)) e = let h : position (s.plan c) < s.cap = g.plan_within c (cc) in
          let k = rw e at h in
          rw e (omega arith)

  at_n : (q : Plan) → Ready s c q op → (position (Some q) < s.cap) × ((k : ℕ) → is_push (Some q) ≡ true → s.cell (position (Some q)) ≡ empty k → k ≡ emptied_by (Some q)) × (is_push (Some q) ≡ true → (emptied_by (Some q) ≡ 0) ⊎ Final s (emptied_by (Some q)))
  at_n (pushing m x d) r = (r.2, (λ k h w. let y = (r.3 is_c).0 in cc), λ h. (r.3 is_c).1)
  at_n (popping m) r = (let a = after_cap in let b = r.1 in omega arith, (λ k h w. no_way (sym h)), λ h. no_way (sym h))

  pub install_facts : Facts (install s n p) put
  install_facts =
      let same = size_same in
      let is_p = upd_same s.plan n (Some p) in
      let np = n_pending in
      let q = at_n p ready in
      record {
        zero_unplanned = upd_other s.plan n (Some p) 0 (λ e. n≢0 (sym e)) ∙ g.zero_unplanned;
        current_planned = λ h. no_way (ap is_some (sym is_p ∙ h));
        others_final = λ k ne h. let e = upd_other s.plan n (Some p) k ne in
            elim (cases_eq k s.cur) [ inl x ↦ elim t [ inl y ↦ let z = g.zero_unplanned in no_way (cc) | inr y ↦ cc ] | inr x ↦ g.others_final k x (cc) ];
        unplanned_pending = λ k h. elim (at_upd s.plan n (Some p) k) [ inl e ↦ cc | inr e ↦ g.unplanned_pending k (cc) ];
        push_undone = λ k h. elim (at_upd s.plan n (Some p) k) [ inl e ↦ cc | inr e ↦ g.push_undone k (cc) ];
        below_size = λ i h. g.below_size i (omega arith);
        above_size = λ i h. elim (g.above_size i (omega arith)) [ inl x ↦ inl x | inr x ↦ let y = (settled_size g t').1 in no_way (cc) ];
        empty_by = λ i k h. elim (g.empty_by i k h) [ inl x ↦ inl x | inr x ↦ let e = keep_pop k x.0 in inr (cc, cc, x.2) ];
        frozen_by = λ i a d j h. let x = g.frozen_by i a d j h in
            let e = keep_pop d x.0 in
            (cc, cc, x.2);
        early_pop = λ a d j h. let x = g.early_pop a d j h in
            let e = keep_pop d x in
            cc;
        early_pending = λ a d j h u. let x = g.early_pop a d j h in
            let e = keep_pop d x in
            let y = g.early_pending a d j h u in
            cc;
        early_done = λ a b d j h u. let x = g.early_pop a d j h in
            let e = keep_pop d x in
            rw e (g.early_done a b d j h u);
        early_final = g.early_final;
        late_final = λ a d j h. let x = g.late_final a d j h in
            let e = keep_pop d x.0 in
            (cc, x.1);
        done_early = g.done_early;
        push_expects = λ k h u w. rw is_p (q.1 k (cc) (cc));
        push_emptied = λ d h. elim (at_upd s.plan n (Some p) d) [ inl e ↦ let z = e.1 in rw z (q.2 (cc)) | inr e ↦ let z = e.1 in rw z (g.push_emptied d (cc)) ];
        push_filled = λ d h u w. elim (at_upd s.plan n (Some p) d) [ inl e ↦ no_way (cc) | inr e ↦ let z = e.1 in g.push_filled d (cc) u (cc) ];
        plan_within = λ k h. elim (at_upd s.plan n (Some p) k) [ inl e ↦ let z = e.1 in rw z q.0 | inr e ↦ let z = e.1 in rw z (g.plan_within k (cc)) ];
      }

  pub install_follows : Follows n s put (install s n p) put
  install_follows =
      record {
        caps = refl;
        plans = λ k. elim (at_upd s.plan n (Some p) k) [ inl e ↦ inr (e.0, cc) | inr e ↦ inl e.1 ];
        puts = λ d j. inl refl;
        stats = λ k. inl refl;
        cleared = λ d h u w. w;
        filled = λ d h u. u;
        settled = λ d h e. elim h [ inl x ↦ absurd (n≢0 (e ∙ x)) | inr x ↦ let y = n_pending in no_way (cc) ];
      }

  pub install_same : SameMeaning s (install s n p)
  install_same = (
    (λ k o. elim (at_upd s.plan n (Some p) k) [ inl e ↦ new_row k o e.0 | inr e ↦ let z = e.1 in cc ]),
    let z = size_same in cc,
  )
    where
      new_row : (k : ℕ) (o : Op ℕ) → k ≡ n → meant_of (install s n p) k o ≡ meant_of s k o
      new_row k o e = go p ready (upd_same s.plan n (Some p))
        where
          go : (q : Plan) → Ready s c q op → upd s.plan n (Some p) n ≡ Some q → meant_of (install s n p) k o ≡ meant_of s k o
          go (pushing m x d) r z =
              let u = n_pending in
              let w = (r.3 is_c).0 in
              let v = same_cell_refl (empty d) in
              cc
          go (popping m) r z = let u = n_pending in cc
