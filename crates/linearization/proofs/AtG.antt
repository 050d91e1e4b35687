-- The steps that help a pop, G1 to G7, and O1, where a pop looks up its answer.
use Rattle.std.proofs.Common.{◌≡◌, ℕ, suc, Bool, true, false, cond, eqb, ◌≢◌, ◌⊎◌, refl, ap, ◌∙◌, inl, inr, arith, Some}
use Rattle.std.proofs.lemmas.Bool.{cases_Bool, eqb-true, eqb-false}
use Rattle.vector.specs.Meaning.{served}
use Rattle.vector.specs.declared.Answer.TheVariants.{Value}
use Rattle.vector.specs.declared.Op.{Op}
use Rattle.linearization.specs.Invariant.{Facts}
use Rattle.linearization.specs.Knowledge.{unput, early, Puts, is_done, Final, Helping, Thread}
use Rattle.descriptor_steps.specs.Machine.{quiet, serving, go_on, on_G1, on_G2, on_G5, on_G5w, act}
use Rattle.linearization.specs.Meaning.{size_now, meant_of}
use Rattle.descriptor_steps.specs.Shared.{Cell, empty, plain, frozen, Status, pending, done, final, Shared, set_cell, set_status, is_pending, is_final, held, is_pop, position, value_in, same_cell, same_done}
use Rattle.linearization.specs.Names.{Then, own, to_L1, to_W1, G1, G2, G3, G4, G5, G5w, G6, G7, O1, goto, popping}
use Rattle.linearization.proofs.Clear.{clear_facts, clear_follows, clear_same}
use Rattle.linearization.proofs.Consequences.{done_held, final_status, pop_eta, is_current, done_cell}
use Rattle.linearization.proofs.Follows.{Follows}
use Rattle.linearization.proofs.Freeze.{put_cases, put_at, freeze_facts, freeze_follows, freeze_same, freeze_put}
use Rattle.linearization.proofs.MarkDone.{mark_facts, mark_follows, mark_rows, mark_waits, mark_served, mark_status, mark_takes}
use Rattle.linearization.proofs.Outcomes.{Outcome, moves, helps, same_same, Free, unchanged, free_from, stay, stay_with, tells, helping_after, go_on_pop}
use Rattle.linearization.proofs.PopFinal.{pop_final_facts, pop_final_follows, pop_final_same, pop_is_final}
use Rattle.linearization.proofs.Stable.{pop_planned, final_stays}
use Rattle.linearization.proofs.Tests.{no_way, upd_same, same_cell_true, same_cell_false, same_done_true, same_done_false}

past_after : {s s' : Shared} {put : Puts} {n : ℕ} → Follows n s put s' put → (d : ℕ) → ((c : ℕ) → (put c n ≡ unput) ⊎ (Final s c ⊎ (c ≡ d))) → (c : ℕ) → (put c n ≡ unput) ⊎ (Final s' c ⊎ (c ≡ d))
past_after f d h c = elim (h c) [ inl e ↦ inl e | inr e ↦ elim e [ inl x ↦ inr (inl (final_stays f c x)) | inr x ↦ inr (inr x) ] ]

module _ {s : Shared} {put : Puts} (g : Facts s put) (n : ℕ) (op : Op ℕ) (c : ℕ) where
  pub at_G1 : (r : Then) → Thread s put n op (G1 c r) → Outcome s put n op (act s n op (G1 c r))
  at_G1 r l = go (s.cell p) refl
    where
      p : ℕ
      p = position (s.plan c)

      pl : s.plan c ≡ Some (popping p)
      pl = pop_eta (s.plan c) l.here.1

      not_pending : (d : ℕ) → s.cell p ≡ empty d → (v : Status) → s.status c ≡ v → is_pending (s.status c) ≡ false
      not_pending d h pending u =
          let y = is_current g c (let z = pl in cc) (cc) in
          let k : size_now s ≡ suc p = let z = pl in cc in
          let m = g.below_size p (omega arith) in
          no_way (cc)
      not_pending d h (done a) u = cc
      not_pending d h (final a) u = cc

      is_clear : (d : ℕ) → s.cell p ≡ empty d → is_done (s.status c) ≡ true → s.cell p ≡ empty c
      is_clear d h y = elim (done_cell g c y).2 [ inl z ↦ no_way (cc) | inr z ↦ z ]

      either : (k : ℕ) → is_pop (s.plan k) ≡ true → eqb k c ≡ false → Final s k ⊎ Final s c
      either k h ne =
          elim (cases_Bool (is_final (s.status k))) [
            | inl y ↦ inl y
            | inr y ↦ elim (cases_Bool (is_final (s.status c))) [
              | inl z ↦ inr z
              | inr z ↦ let a = is_current g k (pop_planned (s.plan k) h) y in
                  let b = is_current g c (pop_planned (s.plan c) l.here.1) z in
                  absurd (eqb-false k c ne (cc))
            ]
          ]

      fork : (a k j : ℕ) → s.cell p ≡ frozen a k j → (b : Bool) → eqb k c ≡ b → Outcome s put n op (quiet s (goto (cond b (G4 c a j r) (G2 c a k j r))))
      fork a k j h true e =
          let q = eqb-true k c e in
          let z = (g.frozen_by p a k j h).2 in
          stay g (G1 c r) l (inl refl) (G4 c a j r) (l.here.0, l.here.1, rw q at z)
      fork a k j h false e = stay g (G1 c r) l (inl refl) (G2 c a k j r) (l.here.0, l.here.1, l.here.2, either k (g.frozen_by p a k j h).0 e, (g.frozen_by p a k j h).0)

      go : (w : Cell) → s.cell p ≡ w → Outcome s put n op (quiet s (goto (on_G1 c r w)))
      go (empty d) h = stay g (G1 c r) l (inl refl) (G5 c r) (l.here.0, l.here.1, l.here.2, not_pending d h (s.status c) refl, is_clear d h)
      go (plain a) h = stay g (G1 c r) l (inl refl) (G3 c (plain a) r) (l.here.0, l.here.1, l.here.2, tt)
      go (frozen a k j) h = fork a k j h (eqb k c) refl

  pub at_G2 : (a k j : ℕ) (r : Then) → Thread s put n op (G2 c a k j r) → Outcome s put n op (act s n op (G2 c a k j r))
  at_G2 a k j r l = go (s.status k) refl
    where
      fr : Free s put n
      fr = free_from g (G2 c a k j r) l (inl refl)

      is_fin : is_final (s.status k) ≡ false → Final s c
      is_fin h = elim l.here.3 [ inl e ↦ no_way (cc) | inr e ↦ e ]

      go : (v : Status) → s.status k ≡ v → Outcome s put n op (quiet s (on_G2 c (s.plan c) (frozen a k j) r v))
      go pending h = go_on_pop (unchanged g n) (same_same s) op c l.number fr (is_fin (cc)) refl r l.here.0 (s.plan c) refl l.here.1
      go (done b) h = go_on_pop (unchanged g n) (same_same s) op c l.number fr (is_fin (cc)) refl r l.here.0 (s.plan c) refl l.here.1
      go (final b) h = stay g (G2 c a k j r) l (inl refl) (G3 c (frozen a k j) r) (l.here.0, l.here.1, l.here.2, cc)

  pub at_G3 : (w : Cell) (r : Then) → Thread s put n op (G3 c w r) → Outcome s put n op (act s n op (G3 c w r))
  at_G3 w r l = go (same_cell (s.cell p) w) refl
    where
      p : ℕ
      p = position (s.plan c)

      fr : Free s put n
      fr = free_from g (G3 c w r) l (inl refl)

      go : (b : Bool) → same_cell (s.cell p) w ≡ b → Outcome s put n op (cond b (quiet (set_cell s p (frozen (value_in w) c n)) (goto (G4 c (value_in w) n r))) (quiet s (goto (G1 c r))))
      go true h =
          let e = same_cell_true (s.cell p) w h in
          let gl = freeze_facts g n c w l.here.1 l.here.2 l.here.3 e in
          let fo = freeze_follows g n c w l.here.1 l.here.2 l.here.3 e in
          let sa = freeze_same g n c w l.here.1 l.here.2 l.here.3 e in
          let pu = freeze_put g n c w l.here.1 l.here.2 l.here.3 e in
          moves (record { facts = gl; follows = fo }) sa
          (record {
            number = l.number;
            past = λ d. elim (put_cases put c n (put_at (s.status c) (value_in w)) d n) [ inl z ↦ elim (fr d) [ inl y ↦ inl (z ∙ y) | inr y ↦ inr (inl y) ] | inr z ↦ inr (inr z.0) ];
            here = (helping_kept r l.here.0, l.here.1, pu);
          })
        where
          helping_kept : (r : Then) → Helping s n op c r → Helping (set_cell s p (frozen (value_in w) c n)) n op c r
          helping_kept own b = b
          helping_kept to_L1 b = b
          helping_kept (to_W1 i x) b = b
      go false h = stay g (G3 c w r) l (inl refl) (G1 c r) (l.here.0, l.here.1, l.here.2)

  pub at_G4 : (a j : ℕ) (r : Then) → Thread s put n op (G4 c a j r) → Outcome s put n op (act s n op (G4 c a j r))
  at_G4 a j r l = go (s.status c) refl
    where
      p : ℕ
      p = position (s.plan c)

      pl : s.plan c ≡ Some (popping p)
      pl = pop_eta (s.plan c) l.here.1

      go : (v : Status) → s.status c ≡ v → Outcome s put n op (cond (is_pending v) (serving (set_status s c (done a)) c (goto (G6 c a j a r))) (quiet s (goto (G5w c a j r))))
      go pending h =
          let ea : put c j ≡ early a = elim l.here.2 [ inl z ↦ z | inr z ↦ let y = g.late_final a c j z in no_way (cc) ] in
          let gl = mark_facts g n c p a j pl h ea in
          let fo = mark_follows g n c p a j pl h ea in
          let st = mark_status g n c p a j pl h ea in
          let tk = mark_takes g n c p a j pl h ea in
          let pq = pl in
          helps (Value a) (record { facts = gl; follows = fo }) (cc) (cc) (mark_waits g n c p a j pl h ea) (mark_served g n c p a j pl h ea) (λ k o. mark_rows g n c p a j pl h ea k o) (cc, cc)
          (record { number = l.number; past = past_after fo c l.past; here = (helping_after fo op c r refl l.here.0, l.here.1, ea, cc, cc) })
      go (done b) h = stay_with g (G4 c a j r) l (G5w c a j r) refl (l.here.0, l.here.1, l.here.2, cc)
      go (final b) h = stay_with g (G4 c a j r) l (G5w c a j r) refl (l.here.0, l.here.1, l.here.2, cc)

  pub at_G5 : (r : Then) → Thread s put n op (G5 c r) → Outcome s put n op (act s n op (G5 c r))
  at_G5 r l = go (s.status c) refl
    where
      fr : Free s put n
      fr = free_from g (G5 c r) l (inl refl)

      go : (v : Status) → s.status c ≡ v → Outcome s put n op (quiet s (on_G5 c (s.plan c) r v))
      go pending h = let z = l.here.3 in no_way (cc)
      go (done b) h = stay g (G5 c r) l (inl refl) (G7 c b r) (l.here.0, l.here.1, l.here.3, cc, l.here.4)
      go (final b) h = go_on_pop (unchanged g n) (same_same s) op c l.number fr (cc) refl r l.here.0 (s.plan c) refl l.here.1

  pub at_G5w : (a j : ℕ) (r : Then) → Thread s put n op (G5w c a j r) → Outcome s put n op (act s n op (G5w c a j r))
  at_G5w a j r l = go (s.status c) refl
    where
      go : (v : Status) → s.status c ≡ v → Outcome s put n op (quiet s (on_G5w c (s.plan c) a j r v))
      go pending h = let z = l.here.3 in no_way (cc)
      go (done b) h =
          let ea : put c j ≡ early a = elim l.here.2 [ inl z ↦ z | inr z ↦ let y = g.late_final a c j z in no_way (cc) ] in
          stay_with g (G5w c a j r) l (G6 c a j b r) refl (l.here.0, l.here.1, ea, l.here.3, cc)
      go (final b) h = go_on_pop (unchanged g n) (same_same s) op c l.number (free_from g (G5w c a j r) l (inr (cc))) (cc) refl r l.here.0 (s.plan c) refl l.here.1

  pub at_G6 : (a j b : ℕ) (r : Then) → Thread s put n op (G6 c a j b r) → Outcome s put n op (act s n op (G6 c a j b r))
  at_G6 a j b r l = go (same_cell (s.cell p) (frozen a c j)) refl
    where
      p : ℕ
      p = position (s.plan c)

      pl : s.plan c ≡ Some (popping p)
      pl = pop_eta (s.plan c) l.here.1

      cleared : s.cell p ≢ frozen a c j → is_done (s.status c) ≡ true → s.cell p ≡ empty c
      cleared ne h = elim (g.early_done a (held (s.status c)) c j l.here.2 (done_held (s.status c) h)).1 [ inl z ↦ absurd (ne z) | inr z ↦ z ]

      go : (q : Bool) → same_cell (s.cell p) (frozen a c j) ≡ q → Outcome s put n op (quiet (cond q (set_cell s p (empty c)) s) (goto (G7 c b r)))
      go true h =
          let w = same_cell_true (s.cell p) (frozen a c j) h in
          let gl = clear_facts g n c a j p pl l.here.2 l.here.3 w in
          let fo = clear_follows g n c a j p pl l.here.2 l.here.3 w in
          let sa = clear_same g n c a j p pl l.here.2 l.here.3 w in
          moves (record { facts = gl; follows = fo }) sa
          (record { number = l.number; past = past_after fo c l.past; here = (helping_after fo op c r refl l.here.0, l.here.1, l.here.3, l.here.4, λ z. upd_same s.cell p (empty c)) })
      go false h = stay_with g (G6 c a j b r) l (G7 c b r) refl (l.here.0, l.here.1, l.here.3, l.here.4, cleared (same_cell_false (s.cell p) (frozen a c j) h))

  pub at_G7 : (b : ℕ) (r : Then) → Thread s put n op (G7 c b r) → Outcome s put n op (act s n op (G7 c b r))
  at_G7 b r l = go (same_done (s.status c) b) refl
    where
      p : ℕ
      p = position (s.plan c)

      pl : s.plan c ≡ Some (popping p)
      pl = pop_eta (s.plan c) l.here.1

      fr : Final s c → Free s put n
      fr f = free_from g (G7 c b r) l (inr f)

      not_done : s.status c ≢ done b → is_done (s.status c) ≡ false
      not_done ne = elim (cases_Bool (is_done (s.status c))) [ inl e ↦ absurd (ne (done_held (s.status c) e ∙ ap done l.here.3)) | inr e ↦ e ]

      go : (q : Bool) → same_done (s.status c) b ≡ q → Outcome s put n op (quiet (cond q (set_status s c (final b)) s) (go_on (s.plan c) r))
      go true h =
          let d = same_done_true (s.status c) b h in
          let cl = l.here.4 (cc) in
          let gl = pop_final_facts g n c p b pl d cl in
          let fo = pop_final_follows g n c p b pl d cl in
          let fi = pop_is_final g n c p b pl d cl in
          go_on_pop (record { facts = gl; follows = fo }) (pop_final_same g n c p b pl d cl) op c l.number
          (λ k. elim (past_after fo c l.past k) [ inl e ↦ inl e | inr e ↦ elim e [ inl x ↦ inr x | inr x ↦ inr (let y : Final (set_status s c (final b)) c = fi in rw x y) ] ])
          fi refl r l.here.0 (s.plan c) refl l.here.1
      go false h =
          let e = final_status (s.status c) (not_done (same_done_false (s.status c) b h)) l.here.2 in
          let f : Final s c = cc in
          go_on_pop (unchanged g n) (same_same s) op c l.number (fr f) f refl r l.here.0 (s.plan c) refl l.here.1

module _ {s : Shared} {put : Puts} (g : Facts s put) (n : ℕ) (op : Op ℕ) where
  pub at_O1 : Thread s put n op O1 → Outcome s put n op (act s n op O1)
  at_O1 l = tells g (Value (held (s.status n))) (row (s.status n) refl) l.here.2
    where
      row : (v : Status) → s.status n ≡ v → meant_of s n op ≡ served op n (Value (held (s.status n)))
      row pending u = let z = l.here.2 in no_way (cc)
      row (done a) u = let z = l.here.2 in no_way (cc)
      row (final a) u = let y = pop_eta (s.plan n) l.here.1 in cc
