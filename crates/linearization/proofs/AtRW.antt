-- The steps of read and write: what stands in the cell, and for a frozen word the status of its pop, tell whether the index is
-- below the size.
use Rattle.std.proofs.Common.{◌≡◌, ℕ, suc, ◌<◌, ◌≤◌, Bool, true, false, cond, ltb, length, refl, inl, inr, arith, None}
use Rattle.std.proofs.lemmas.Bool.{cases_lt, le-ltb}
use Rattle.vector.specs.declared.Answer.TheVariants.{Value, Out, Done}
use Rattle.vector.specs.declared.Op.{Op}
use Rattle.vector.specs.declared.Op.TheVariants.{Read, Write}
use Rattle.linearization.specs.Invariant.{Facts}
use Rattle.linearization.specs.Knowledge.{Puts, freezing, Thread}
use Rattle.descriptor_steps.specs.Machine.{quiet, serving, help, on_R1, on_R2, on_W1, on_W2, act}
use Rattle.linearization.specs.Meaning.{size_now, items}
use Rattle.descriptor_steps.specs.Shared.{Cell, empty, plain, frozen, Status, pending, done, final, Shared, set_cell, is_pending, is_final, is_pop, position, value_in, same_cell}
use Rattle.linearization.specs.Names.{to_W1, Stage, R1, R2, R3, W1, W2, W3, goto, end}
use Rattle.linearization.proofs.AtL.{help_ok}
use Rattle.linearization.proofs.Consequences.{Plainly, pop_eta, is_current, replaceable_low}
use Rattle.linearization.proofs.Outcomes.{Outcome, ends_now, free_from, stay, says}
use Rattle.linearization.proofs.Overwrite.{write_facts, write_follows, write_rows, write_takes}
use Rattle.linearization.proofs.Stable.{pop_planned}
use Rattle.linearization.proofs.Tests.{no_way, same_cell_true}
use Rattle.linearization.proofs.Values.{values_length, values_nth, values_nth_past}

module _ {s : Shared} {put : Puts} (g : Facts s put) (n : ℕ) (op : Op ℕ) where
  reads : (i : ℕ) → op ≡ Read i → i < size_now s → Plainly s op s (Value (value_in (s.cell i)))
  reads i e h =
      let z = values_nth s.cell (size_now s) i h in
      (cc, cc)

  outside : (i : ℕ) → size_now s ≤ i → ltb i (length (items s)) ≡ false
  outside i h = let y = values_length s.cell (size_now s) in le-ltb i (length (items s)) (omega arith)

  read_out : (i : ℕ) → op ≡ Read i → size_now s ≤ i → Plainly s op s Out
  read_out i e h = let t = values_nth_past s.cell (size_now s) i h in (cc, cc)

  write_out : (i x : ℕ) → op ≡ Write i x → size_now s ≤ i → Plainly s op s Out
  write_out i x e h = let t = outside i h in (cc, cc)

  empty_high : (i k : ℕ) → s.cell i ≡ empty k → size_now s ≤ i
  empty_high i k h = elim (cases_lt i (size_now s)) [ inl e ↦ let z = g.below_size i e in no_way (cc) | inr e ↦ e ]

  -- the size while a pop is current
  pop_size : (k i : ℕ) → is_pop (s.plan k) ≡ true → position (s.plan k) ≡ i → (v : Status) → s.status k ≡ v → is_final v ≡ false → size_now s ≡ cond (is_pending v) (suc i) i
  pop_size k i h e pending u f = let a = is_current g k (pop_planned (s.plan k) h) (cc) in let b = pop_eta (s.plan k) h in cc
  pop_size k i h e (done b) u f = let a = is_current g k (pop_planned (s.plan k) h) (cc) in let d = pop_eta (s.plan k) h in cc
  pop_size k i h e (final b) u f = no_way f

  seen : (x : Stage) → freezing x ≡ 0 → Thread s put n op x → (i : ℕ) → s.plan n ≡ None → op ≡ Read i → i < s.cap → (w : Cell) → s.cell i ≡ w → Outcome s put n op (on_R1 s n i w)
  seen x f l i u e b (empty k) h = says g Out u (read_out i e (empty_high i k h))
  seen x f l i u e b (plain a) h = says g (Value a) u (let z = reads i e (replaceable_low g i (plain a) h tt) in (cc, cc))
  seen x f l i u e b (frozen a k j) h = let z = g.frozen_by i a k j h in stay g x l (inl f) (R2 i a k j) (u, e, b, z.0, z.1, z.2)

  pub at_R1 : (i : ℕ) → Thread s put n op (R1 i) → Outcome s put n op (act s n op (R1 i))
  at_R1 i l = seen (R1 i) refl l i l.here.0 l.here.1 l.here.2 (s.cell i) refl

  pub at_R2 : (i a k j : ℕ) → Thread s put n op (R2 i a k j) → Outcome s put n op (act s n op (R2 i a k j))
  at_R2 i a k j l = go (s.status k) refl
    where
      go : (v : Status) → s.status k ≡ v → Outcome s put n op (on_R2 s n i a k j v)
      go pending h =
          let z = pop_size k i l.here.3 l.here.4 pending h refl in
          let y = reads i l.here.1 (omega arith) in
          let q = l.here.4 in
          let w : s.cell i ≡ frozen a k j = elim l.here.5 [ inl e ↦ let x = g.early_pending a k j e h in cc | inr e ↦ let x = g.late_final a k j e in no_way (cc) ] in
          says g (Value a) l.here.0 (cc, cc)
      go (done b) h =
          let z = pop_size k i l.here.3 l.here.4 (done b) h refl in
          says g Out l.here.0 (read_out i l.here.1 (omega arith))
      go (final b) h = stay g (R2 i a k j) l (inl refl) (R3 i a k j) (l.here.0, l.here.1, l.here.2, cc)

  pub at_R3 : (i a k j : ℕ) → Thread s put n op (R3 i a k j) → Outcome s put n op (act s n op (R3 i a k j))
  at_R3 i a k j l = go (same_cell (s.cell i) (frozen a k j)) refl
    where
      go : (b : Bool) → same_cell (s.cell i) (frozen a k j) ≡ b → Outcome s put n op (cond b (serving s n (end (Value a))) (on_R1 s n i (s.cell i)))
      go true h =
          let e = same_cell_true (s.cell i) (frozen a k j) h in
          let y = reads i l.here.1 (replaceable_low g i (frozen a k j) e l.here.3) in
          says g (Value a) l.here.0 (cc, cc)
      go false h = seen (R3 i a k j) refl l i l.here.0 l.here.1 l.here.2 (s.cell i) refl

  pub at_W1 : (i x : ℕ) → Thread s put n op (W1 i x) → Outcome s put n op (act s n op (W1 i x))
  at_W1 i x l = go (s.cell i) refl
    where
      go : (w : Cell) → s.cell i ≡ w → Outcome s put n op (on_W1 s n i x w)
      go (empty k) h = says g Out l.here.0 (write_out i x l.here.1 (empty_high i k h))
      go (plain a) h = stay g (W1 i x) l (inl refl) (W3 i x (plain a)) (l.here.0, l.here.1, l.here.2, tt)
      go (frozen a k j) h = let z = g.frozen_by i a k j h in stay g (W1 i x) l (inl refl) (W2 i x a k j) (l.here.0, l.here.1, l.here.2, z.0, z.1)

  pub at_W2 : (i x a k j : ℕ) → Thread s put n op (W2 i x a k j) → Outcome s put n op (act s n op (W2 i x a k j))
  at_W2 i x a k j l = go (s.status k) refl
    where
      go : (v : Status) → s.status k ≡ v → Outcome s put n op (on_W2 s n i x a k j v)
      go pending h =
          stay g (W2 i x a k j) l (inl refl) (help k (s.plan k) (to_W1 i x))
          (help_ok g n op k (to_W1 i x) (free_from g (W2 i x a k j) l (inl refl)) (l.here.0, l.here.1, l.here.2) (s.plan k) refl (pop_planned (s.plan k) l.here.3) (cc))
      go (done b) h =
          let z = pop_size k i l.here.3 l.here.4 (done b) h refl in
          says g Out l.here.0 (write_out i x l.here.1 (omega arith))
      go (final b) h = stay g (W2 i x a k j) l (inl refl) (W3 i x (frozen a k j)) (l.here.0, l.here.1, l.here.2, cc)

  pub at_W3 : (i x : ℕ) (w : Cell) → Thread s put n op (W3 i x w) → Outcome s put n op (act s n op (W3 i x w))
  at_W3 i x w l = go (same_cell (s.cell i) w) refl
    where
      go : (b : Bool) → same_cell (s.cell i) w ≡ b → Outcome s put n op (cond b (serving (set_cell s i (plain x)) n (end Done)) (quiet s (goto (W1 i x))))
      go true h =
          let e = same_cell_true (s.cell i) w h in
          let o = l.here.3 in
          let t = write_takes g n i x w e o in
          let q = l.here.1 in
          ends_now (record { facts = write_facts g n i x w e o; follows = write_follows g n i x w e o }) (write_rows g n i x w e o) l.here.0 l.here.0 (cc, cc)
      go false h = stay g (W3 i x w) l (inl refl) (W1 i x) (l.here.0, l.here.1, l.here.2)
