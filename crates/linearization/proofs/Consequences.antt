-- Facts that follow from the invariant: who is current, what stands in the cell of a pop that is done, the size under a settled
-- operation, and that a replaceable word stands below the size.
use Rattle.std.proofs.Common.{◌≡◌, ℕ, ◌<◌, true, false, ◌⊎◌, sym, refl, inl, inr, Some, None, Option, is_some}
use Rattle.std.proofs.lemmas.Bool.{cases_eq, cases_lt}
use Rattle.vector.specs.Plain.{answer, after}
use Rattle.vector.specs.declared.Answer.{Answer}
use Rattle.vector.specs.declared.Op.{Op}
use Rattle.linearization.specs.Invariant.{is_empty, Facts}
use Rattle.linearization.specs.Knowledge.{early, Puts, is_done, Final, Settled, Replaceable}
use Rattle.linearization.specs.Meaning.{effected, size_now, items, meant_of}
use Rattle.descriptor_steps.specs.Shared.{Cell, empty, plain, frozen, Status, pending, done, final, Shared, is_pending, is_final, held, is_push, is_pop, position, pushed, emptied_by, size_after, same_cell}
use Rattle.linearization.specs.Names.{Plan, pushing, popping}
use Rattle.linearization.proofs.Stable.{not_both}
use Rattle.linearization.proofs.Tests.{no_way}

-- another memory means the same
abbrev pub SameMeaning : Shared → Shared → Type 0
SameMeaning s s' = ((k : ℕ) (op : Op ℕ) → meant_of s' k op ≡ meant_of s k op) × (items s' ≡ items s)

-- the plain vector answers a to op, and then holds the items of another memory
abbrev pub Plainly : Shared → Op ℕ → Shared → Answer ℕ → Type 0
Plainly s op s' a = (answer s.cap (items s) op ≡ a) × (after s.cap (items s) op ≡ items s')

pub done_held : (v : Status) → is_done v ≡ true → v ≡ done (held v)
done_held pending h = no_way (sym h)
done_held (done a) h = refl
done_held (final a) h = no_way (sym h)

pub pending_status : (v : Status) → is_final v ≡ false → is_done v ≡ false → v ≡ pending
pending_status pending h k = refl
pending_status (done a) h k = no_way k
pending_status (final a) h k = no_way h

pub done_status : (v : Status) → is_final v ≡ false → is_pending v ≡ false → v ≡ done (held v)
done_status pending h k = no_way k
done_status (done a) h k = refl
done_status (final a) h k = no_way h

pub final_status : (v : Status) → is_done v ≡ false → is_pending v ≡ false → v ≡ final (held v)
final_status pending h k = no_way k
final_status (done a) h k = no_way h
final_status (final a) h k = refl

-- a push and a pop by their parts
pub push_eta : (q : Option Plan) → is_push q ≡ true → q ≡ Some (pushing (position q) (pushed q) (emptied_by q))
push_eta None h = no_way (sym h)
push_eta (Some (pushing p x e)) h = refl
push_eta (Some (popping p)) h = no_way (sym h)

pub pop_eta : (q : Option Plan) → is_pop q ≡ true → q ≡ Some (popping (position q))
pop_eta None h = no_way (sym h)
pop_eta (Some (pushing p x e)) h = no_way (sym h)
pop_eta (Some (popping p)) h = refl

-- a word that may be replaced is not empty, and not frozen by a pop that is not final
pub replaceable_full : (s : Shared) (w : Cell) → Replaceable s w → is_empty w ≡ false
replaceable_full s (empty k) o = absurd o
replaceable_full s (plain a) o = refl
replaceable_full s (frozen a k j) o = refl

pub replaceable_final : (s : Shared) (w : Cell) → Replaceable s w → (a c j : ℕ) → w ≡ frozen a c j → Final s c
replaceable_final s (empty k) o a c j e = absurd o
replaceable_final s (plain b) o a c j e = no_way (cc)
replaceable_final s (frozen b k i) o a c j e = let q : k ≡ c = cc in cc

module _ {s : Shared} {put : Puts} (g : Facts s put) where
  -- an installed operation that is not final is the current one
  pub is_current : (k : ℕ) → is_some (s.plan k) ≡ true → is_final (s.status k) ≡ false → k ≡ s.cur
  is_current k p h = elim (cases_eq k s.cur) [ inl e ↦ e | inr e ↦ let x = g.others_final k e p in no_way (cc) ]

  -- the cell of a pop that is done
  pub done_cell : (c : ℕ) → is_done (s.status c) ≡ true → (j : ℕ) × (put c j ≡ early (held (s.status c))) × ((s.cell (position (s.plan c)) ≡ frozen (held (s.status c)) c j) ⊎ (s.cell (position (s.plan c)) ≡ empty c))
  done_cell c h =
      let e = done_held (s.status c) h in
      let x = g.done_early (held (s.status c)) c e in
      let y = g.early_done (held (s.status c)) (held (s.status c)) c x.0 x.1 e in
      (x.0, x.1, y.1)

  -- number 0 is never done nor final
  pub zero_pending : s.status 0 ≡ pending
  zero_pending = g.unplanned_pending 0 g.zero_unplanned

  -- with a settled current operation the size is its plan's
  pub settled_size : Settled s s.cur → (size_now s ≡ size_after (s.plan s.cur)) × (is_done (s.status s.cur) ≡ false)
  settled_size h = go h (s.plan s.cur) refl (s.status s.cur) refl
    where
      go : Settled s s.cur → (p : Option Plan) → s.plan s.cur ≡ p → (v : Status) → s.status s.cur ≡ v → (size_now s ≡ size_after (s.plan s.cur)) × (is_done (s.status s.cur) ≡ false)
      go (inl e) p q v u =
          let z = g.zero_unplanned in
          let y = zero_pending in
          (cc, cc)
      go (inr e) None q v u = let z = g.unplanned_pending s.cur q in no_way (cc)
      go (inr e) (Some (pushing a b d)) q (final w) u = (cc, cc)
      go (inr e) (Some (popping a)) q (final w) u = (cc, cc)
      go (inr e) (Some p) q pending u = no_way (cc)
      go (inr e) (Some p) q (done w) u = no_way (cc)

  -- a word that may be replaced stands below the size
  pub replaceable_low : (i : ℕ) (w : Cell) → s.cell i ≡ w → Replaceable s w → i < size_now s
  replaceable_low i w h o =
      let f = replaceable_full s w o in
      elim (cases_lt i (size_now s)) [ inl e ↦ e | inr e ↦ elim (g.above_size i e) [ inl x ↦ no_way (cc) | inr x ↦ done_case f x.0 x.1 (done_cell s.cur x.1) ] ]
    where
      done_case : is_empty w ≡ false → i ≡ position (s.plan s.cur) → is_done (s.status s.cur) ≡ true → (j : ℕ) × (put s.cur j ≡ early (held (s.status s.cur))) × ((s.cell (position (s.plan s.cur)) ≡ frozen (held (s.status s.cur)) s.cur j) ⊎ (s.cell (position (s.plan s.cur)) ≡ empty s.cur)) → i < size_now s
      done_case f q y d =
          elim d.2 [ inl x ↦ let z = replaceable_final s w o (held (s.status s.cur)) s.cur d.0 (cc) in no_way (not_both (s.status s.cur) z y) | inr x ↦ no_way (cc) ]

-- a cell that is not empty counts alike, whatever it holds
pub full_not_empty : (w : Cell) (e : ℕ) → is_empty w ≡ false → same_cell w (empty e) ≡ false
full_not_empty (empty k) e h = no_way h
full_not_empty (plain a) e h = refl
full_not_empty (frozen a k j) e h = refl

pub effected_full : (p : Option Plan) (v : Status) (w u : Cell) → is_empty w ≡ false → is_empty u ≡ false → effected p v w ≡ effected p v u
effected_full None v w u h k = refl
effected_full (Some (pushing a x e)) v w u h k =
    let y = full_not_empty w e h in
    let z = full_not_empty u e k in
    cc
effected_full (Some (popping a)) v w u h k = refl
