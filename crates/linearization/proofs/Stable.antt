-- What a thread knows stays true when another thread steps: shown once for all stages, from what every change of memory follows.
use Rattle.std.proofs.Common.{◌≡◌, ℕ, ◌<◌, Bool, true, false, ◌≢◌, refl, ◌∙◌, inl, inr, arith, Some, None, Option, is_some}
use Rattle.vector.specs.declared.Answer.{Answer}
use Rattle.vector.specs.declared.Op.{Op}
use Rattle.linearization.specs.Invariant.{Facts}
use Rattle.linearization.specs.Knowledge.{unput, early, late, Puts, WasPut, is_done, Final, Settled, Replaceable, Verdict, Ready, Helping, Knows, Thread}
use Rattle.descriptor_steps.specs.Shared.{Cell, empty, plain, frozen, Status, pending, done, final, Shared, is_pending, is_final, held, is_push, is_pop, position, size_after}
use Rattle.linearization.specs.Names.{Then, own, to_L1, to_W1, Stage, L1, L2, L3, P1, L4, H1, H2, G1, G2, G3, G4, G5, G5w, G6, G7, O1, R1, R2, R3, W1, W2, W3, Plan, pushing, popping}
use Rattle.linearization.proofs.Follows.{Follows}
use Rattle.linearization.proofs.Tests.{no_way}

pub not_both : (v : Status) → is_final v ≡ true → is_done v ≡ true → ◌≡◌ {A = Bool} true false
not_both pending x y = cc
not_both (done a) x y = cc
not_both (final a) x y = cc

pub pop_planned : (p : Option Plan) → is_pop p ≡ true → is_some p ≡ true
pop_planned None h = h
pop_planned (Some p) h = refl

pub push_planned : (p : Option Plan) → is_push p ≡ true → is_some p ≡ true
push_planned None h = h
push_planned (Some p) h = refl

pub final_planned : {s : Shared} {put : Puts} → Facts s put → (c : ℕ) → Final s c → is_some (s.plan c) ≡ true
final_planned {s} g c h = go (s.plan c) refl
  where
    go : (p : Option Plan) → s.plan c ≡ p → is_some p ≡ true
    go None e = let x = g.unplanned_pending c e in no_way (cc)
    go (Some p) e = refl

module _ {m : ℕ} {s : Shared} {put : Puts} {s' : Shared} {put' : Puts} (f : Follows m s put s' put') where
  pub plan_kept : (k : ℕ) → is_some (s.plan k) ≡ true → s'.plan k ≡ s.plan k
  plan_kept k h = elim (f.plans k) [ inl e ↦ e | inr e ↦ no_way (cc) ]

  pub plan_other : (k : ℕ) → k ≢ m → s'.plan k ≡ s.plan k
  plan_other k h = elim (f.plans k) [ inl e ↦ e | inr e ↦ absurd (h e.0) ]

  pub final_kept : (k : ℕ) → Final s k → s'.status k ≡ s.status k
  final_kept k h = elim (f.stats k) [ inl e ↦ e | inr e ↦ elim e [ inl x ↦ no_way (cc) | inr x ↦ no_way (not_both (s.status k) h x.0) ] ]

  pub final_stays : (k : ℕ) → Final s k → Final s' k
  final_stays k h = let e = final_kept k h in cc

  pub not_pending_kept : (k : ℕ) → is_pending (s.status k) ≡ false → is_pending (s'.status k) ≡ false
  not_pending_kept k h = elim (f.stats k) [ inl e ↦ cc | inr e ↦ elim e [ inl x ↦ no_way (cc) | inr x ↦ cc ] ]

  pub held_kept : (k : ℕ) → is_pending (s.status k) ≡ false → held (s'.status k) ≡ held (s.status k)
  held_kept k h = elim (f.stats k) [ inl e ↦ cc | inr e ↦ elim e [ inl x ↦ no_way (cc) | inr x ↦ cc ] ]

  pub early_kept : (a c j : ℕ) → put c j ≡ early a → put' c j ≡ early a
  early_kept a c j h = elim (f.puts c j) [ inl e ↦ cc | inr e ↦ no_way (cc) ]

  pub late_kept : (a c j : ℕ) → put c j ≡ late a → put' c j ≡ late a
  late_kept a c j h = elim (f.puts c j) [ inl e ↦ cc | inr e ↦ no_way (cc) ]

  pub put_kept : (a c j : ℕ) → WasPut put c j a → WasPut put' c j a
  put_kept a c j h = elim h [ inl e ↦ inl (early_kept a c j e) | inr e ↦ inr (late_kept a c j e) ]

  pub settled_kept : (c : ℕ) → Settled s c → Settled s' c
  settled_kept c h = elim h [ inl e ↦ inl e | inr e ↦ inr (final_stays c e) ]

  pub old_kept : (w : Cell) → Replaceable s w → Replaceable s' w
  old_kept (empty k) h = h
  old_kept (plain a) h = h
  old_kept (frozen a k j) h = final_stays k h

  module _ (g : Facts s put) (m≢0 : m ≢ 0) where
    pub settled_plan : (c : ℕ) → Settled s c → s'.plan c ≡ s.plan c
    settled_plan c h = elim h [ inl e ↦ plan_other c (λ q. m≢0 (cc)) | inr e ↦ plan_kept c (final_planned g c e) ]

    module _ {n : ℕ} (op : Op ℕ) (ne : n ≢ m) where
      unput_kept : (c : ℕ) → put c n ≡ unput → put' c n ≡ unput
      unput_kept c h = elim (f.puts c n) [ inl e ↦ cc | inr e ↦ absurd (ne e.0) ]

      un_kept : s.plan n ≡ None → s'.plan n ≡ None
      un_kept h = let e = plan_other n ne in cc

      cap_kept : (i : ℕ) → i < s.cap → i < s'.cap
      cap_kept i h = let e = f.caps in omega arith

      pub helping_kept : (c : ℕ) (r : Then) → Helping s n op c r → Helping s' n op c r
      helping_kept c own h = let e = plan_kept n h.2 in (h.0, cc, cc)
      helping_kept c to_L1 h = (un_kept h.0, h.1)
      helping_kept c (to_W1 i x) h = (un_kept h.0, h.1, cap_kept i h.2)

      pub ready_kept : (c : ℕ) → Settled s c → (p : Plan) → Ready s c p op → Ready s' c p op
      ready_kept c t (pushing i x e) h =
          let q = settled_plan c t in (
            h.0,
            cc,
            cap_kept i h.2,
            λ z. let y = f.settled c t z in
                let w = h.3 y.0 in
                (y.1 i e w.0, settled_kept e w.1),
          )
      ready_kept c t (popping i) h = let q = settled_plan c t in (h.0, cc)

      pub verdict_kept : (c : ℕ) → Settled s c → (o : Op ℕ) (a : Answer ℕ) → Verdict o (size_after (s.plan c)) s.cap a → Verdict o (size_after (s'.plan c)) s'.cap a
      verdict_kept c t o a h = let q = settled_plan c t in
          let z = f.caps in
          rw (q, z) h

      pop_here : (c : ℕ) → is_pop (s.plan c) ≡ true → is_pop (s'.plan c) ≡ true
      pop_here c h = let e = plan_kept c (pop_planned (s.plan c) h) in cc

      push_here : (c : ℕ) → is_push (s.plan c) ≡ true → is_push (s'.plan c) ≡ true
      push_here c h = let e = plan_kept c (push_planned (s.plan c) h) in cc

      pos_here : (c : ℕ) → is_pop (s.plan c) ≡ true → position (s'.plan c) ≡ position (s.plan c)
      pos_here c h = let e = plan_kept c (pop_planned (s.plan c) h) in cc

      clear_here : (c : ℕ) → is_pop (s.plan c) ≡ true → is_pending (s.status c) ≡ false → (is_done (s.status c) ≡ true → s.cell (position (s.plan c)) ≡ empty c) → is_done (s'.status c) ≡ true → s'.cell (position (s'.plan c)) ≡ empty c
      clear_here c h u k d =
          let e = pos_here c h in
          let d0 : is_done (s.status c) ≡ true = elim (f.stats c) [ inl x ↦ cc | inr x ↦ elim x [ inl y ↦ no_way (cc) | inr y ↦ y.0 ] ] in
          let z = f.cleared c h d (k d0) in
          cc

      pub knows_kept : (x : Stage) → Knows s put n op x → Knows s' put' n op x
      knows_kept L1 h = (un_kept h.0, h.1)
      knows_kept (L2 c) h = (un_kept h.0, h.1, let e = plan_kept c h.2 in cc)
      knows_kept (L3 c a) h = (un_kept h.0, h.1, settled_kept c h.2, verdict_kept c h.2 op a h.3)
      knows_kept (P1 c i x) h = (un_kept h.0, h.1, settled_kept c h.2, h.3, let e = settled_plan c h.2 in cc, cap_kept i h.5)
      knows_kept (L4 c p) h = (un_kept h.0, h.1, settled_kept c h.2, ready_kept c h.2 p h.3)
      knows_kept (H1 c r) h = (helping_kept c r h.0, push_here c h.1)
      knows_kept (H2 c r) h = (
        helping_kept c r h.0,
        push_here c h.1,
        let e = plan_kept c (push_planned (s.plan c) h.1) in
            rw e (f.filled c h.1 h.2),
      )
      knows_kept (G1 c r) h = (helping_kept c r h.0, pop_here c h.1, unput_kept c h.2)
      knows_kept (G2 c a k j r) h =
          (helping_kept c r h.0, pop_here c h.1, unput_kept c h.2, elim h.3 [ inl e ↦ inl (final_stays k e) | inr e ↦ inr (final_stays c e) ], pop_here k h.4)
      knows_kept (G3 c w r) h = (helping_kept c r h.0, pop_here c h.1, unput_kept c h.2, old_kept w h.3)
      knows_kept (G4 c a j r) h = (helping_kept c r h.0, pop_here c h.1, put_kept a c j h.2)
      knows_kept (G5 c r) h =
          (helping_kept c r h.0, pop_here c h.1, unput_kept c h.2, not_pending_kept c h.3, clear_here c h.1 h.3 h.4)
      knows_kept (G5w c a j r) h = (helping_kept c r h.0, pop_here c h.1, put_kept a c j h.2, not_pending_kept c h.3)
      knows_kept (G6 c a j b r) h =
          (helping_kept c r h.0, pop_here c h.1, early_kept a c j h.2, not_pending_kept c h.3, held_kept c h.3 ∙ h.4)
      knows_kept (G7 c b r) h =
          (helping_kept c r h.0, pop_here c h.1, not_pending_kept c h.2, held_kept c h.2 ∙ h.3, clear_here c h.1 h.2 h.4)
      knows_kept O1 h = (h.0, pop_here n h.1, final_stays n h.2)
      knows_kept (R1 i) h = (un_kept h.0, h.1, cap_kept i h.2)
      knows_kept (R2 i a k j) h =
          (un_kept h.0, h.1, cap_kept i h.2, pop_here k h.3, pos_here k h.3 ∙ h.4, put_kept a k j h.5)
      knows_kept (R3 i a k j) h = (un_kept h.0, h.1, cap_kept i h.2, final_stays k h.3)
      knows_kept (W1 i x) h = (un_kept h.0, h.1, cap_kept i h.2)
      knows_kept (W2 i x a k j) h = (un_kept h.0, h.1, cap_kept i h.2, pop_here k h.3, pos_here k h.3 ∙ h.4)
      knows_kept (W3 i x w) h = (un_kept h.0, h.1, cap_kept i h.2, old_kept w h.3)

      pub thread_kept : (x : Stage) → Thread s put n op x → Thread s' put' n op x
      thread_kept x l =
          record {
            number = l.number;
            past = λ c. elim (l.past c) [ inl e ↦ inl (unput_kept c e) | inr e ↦ elim e [ inl y ↦ inr (inl (final_stays c y)) | inr y ↦ inr (inr y) ] ];
            here = knows_kept x l.here;
          }
