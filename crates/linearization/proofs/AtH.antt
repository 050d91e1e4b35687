-- The steps that help a push: H1 fills its cell, H2 makes it final.
use Rattle.std.proofs.Common.{◌≡◌, ℕ, Bool, true, false, cond, refl, inl, inr, Some}
use Rattle.std.proofs.lemmas.Bool.{cases_Bool}
use Rattle.vector.specs.Meaning.{served}
use Rattle.vector.specs.declared.Answer.TheVariants.{Position}
use Rattle.vector.specs.declared.Op.{Op}
use Rattle.linearization.specs.Invariant.{Facts}
use Rattle.linearization.specs.Knowledge.{Puts, Thread}
use Rattle.descriptor_steps.specs.Machine.{quiet, serving, go_on, act}
use Rattle.linearization.specs.Meaning.{meant_of}
use Rattle.descriptor_steps.specs.Shared.{empty, plain, Status, pending, done, final, Shared, set_cell, set_status, is_pending, position, pushed, emptied_by, same_cell}
use Rattle.linearization.specs.Names.{Then, H1, H2, goto, pushing}
use Rattle.linearization.proofs.Consequences.{push_eta}
use Rattle.linearization.proofs.Fill.{fill_pending, fill_facts, fill_follows, fill_rows, fill_waits, fill_served, fill_takes}
use Rattle.linearization.proofs.Outcomes.{Outcome, helps, same_same, Free, unchanged, free_from, free_thread, stay, free_after, helping_after, go_on_push}
use Rattle.linearization.proofs.PushFinal.{push_final_facts, push_final_follows, push_final_same, push_is_final}
use Rattle.linearization.proofs.Tests.{no_way, upd_same, same_cell_true, same_cell_false}

module _ {s : Shared} {put : Puts} (g : Facts s put) (n : ℕ) (op : Op ℕ) (c : ℕ) where
  pub at_H1 : (r : Then) → Thread s put n op (H1 c r) → Outcome s put n op (act s n op (H1 c r))
  at_H1 r l = go (same_cell (s.cell p) (empty e)) refl
    where
      p : ℕ
      p = position (s.plan c)

      x : ℕ
      x = pushed (s.plan c)

      e : ℕ
      e = emptied_by (s.plan c)

      pl : s.plan c ≡ Some (pushing p x e)
      pl = push_eta (s.plan c) l.here.1

      go : (b : Bool) → same_cell (s.cell p) (empty e) ≡ b → Outcome s put n op (cond b (serving (set_cell s p (plain x)) c (goto (H2 c r))) (quiet s (goto (H2 c r))))
      go true h =
          let w = same_cell_true (s.cell p) (empty e) h in
          let gl = fill_facts g n c p x e pl w in
          let fo = fill_follows g n c p x e pl w in
          let pe = fill_pending g n c p x e pl w in
          let tk = fill_takes g n c p x e pl w in
          let pq = pl in
          helps (Position p) (record { facts = gl; follows = fo }) (cc) (cc) (fill_waits g n c p x e pl w) (fill_served g n c p x e pl w) (λ k o. fill_rows g n c p x e pl w k o) (cc, cc)
          (free_thread gl l.number (free_after fo (free_from g (H1 c r) l (inl refl))) (H2 c r) (helping_after fo op c r refl l.here.0, l.here.1, λ q. let y = upd_same s.cell p (plain x) in no_way (cc)))
      go false h = stay g (H1 c r) l (inl refl) (H2 c r) (l.here.0, l.here.1, same_cell_false (s.cell p) (empty e) h)

  pub at_H2 : (r : Then) → Thread s put n op (H2 c r) → Outcome s put n op (act s n op (H2 c r))
  at_H2 r l = go (s.status c) refl
    where
      p : ℕ
      p = position (s.plan c)

      x : ℕ
      x = pushed (s.plan c)

      e : ℕ
      e = emptied_by (s.plan c)

      pl : s.plan c ≡ Some (pushing p x e)
      pl = push_eta (s.plan c) l.here.1

      fr : Free s put n
      fr = free_from g (H2 c r) l (inl refl)

      not_same : same_cell (s.cell p) (empty e) ≡ false
      not_same = elim (cases_Bool (same_cell (s.cell p) (empty e))) [ inl h ↦ absurd (l.here.2 (same_cell_true (s.cell p) (empty e) h)) | inr h ↦ h ]

      row : (o : Op ℕ) → meant_of s c o ≡ served o c (Position p)
      row o = go (s.status c) refl
        where
          go : (v : Status) → s.status c ≡ v → meant_of s c o ≡ served o c (Position p)
          go pending u = let z = not_same in let y = pl in cc
          go (done a) u = let y = pl in cc
          go (final a) u = let y = pl in cc

      go : (v : Status) → s.status c ≡ v → Outcome s put n op (quiet (cond (is_pending v) (set_status s c (final 0)) s) (go_on (s.plan c) r))
      go pending h =
          let gl = push_final_facts g n c p x e pl h l.here.2 in
          let fo = push_final_follows g n c p x e pl h l.here.2 in
          go_on_push (record { facts = gl; follows = fo }) (push_final_same g n c p x e pl h l.here.2) op c l.number (free_after fo fr) (push_is_final g n c p x e pl h l.here.2) refl r l.here.0 (s.plan c) refl l.here.1 row
      go (done a) h = let z = g.push_undone c l.here.1 in no_way (cc)
      go (final a) h = go_on_push (unchanged g n) (same_same s) op c l.number fr (cc) refl r l.here.0 (s.plan c) refl l.here.1 row
