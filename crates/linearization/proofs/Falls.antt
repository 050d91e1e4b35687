-- While no other installed operation is open, each step of a thread leads to a stage of lower rank, or to its end.
use Rattle.std.proofs.Common.{◌≡◌, ℕ, zero, suc, ◌+◌, ◌<◌, Bool, true, false, cond, eqb, ltb, sym, refl, ◌∙◌, inl, inr, arith, Some, None, Option, is_some}
use Rattle.std.proofs.lemmas.Bool.{eqb-true, eq-eqb}
use Rattle.vector.specs.declared.Answer.{Answer}
use Rattle.vector.specs.declared.Answer.TheVariants.{Value, Full, Done}
use Rattle.vector.specs.declared.Op.{Op}
use Rattle.vector.specs.declared.Op.TheVariants.{Push, Pop, Read, Write, Size}
use Rattle.linearization.specs.Invariant.{is_empty, Facts}
use Rattle.linearization.specs.Knowledge.{Puts, Settled, from_L1, Ready, Thread}
use Rattle.linearization.specs.Left.{rest, stands, rank}
use Rattle.descriptor_steps.specs.Machine.{Res, quiet, serving, choose, help, go_on, on_L1, on_L2, on_P1, on_G1, on_G2, on_G5, on_G5w, on_R1, on_R2, on_W1, on_W2, act}
use Rattle.linearization.specs.Meaning.{size_now}
use Rattle.descriptor_steps.specs.Shared.{Cell, empty, plain, frozen, Status, pending, done, final, Shared, set_cell, set_status, install, is_pending, is_final, position, pushed, emptied_by, size_after, value_in, same_cell, same_done}
use Rattle.linearization.specs.Names.{Then, own, to_L1, to_W1, Stage, L1, L2, L3, P1, L4, H1, H2, G1, G2, G3, G4, G5, G5w, G6, G7, O1, R1, R2, R3, W1, W2, W3, Next, goto, end, Plan, pushing, popping}
use Rattle.linearization.proofs.Consequences.{settled_size}
use Rattle.linearization.proofs.Stable.{pop_planned, push_planned}
use Rattle.linearization.proofs.Tests.{no_way, same_cell_refl}

-- a step comes below m
abbrev pub Below : ℕ → Shared → Next → Type 0
Below m s (goto y) = rank s y < m
Below m s (end a) = 0 < m

abbrev pub Falls : ℕ → Res → Type 0
Falls m r = Below m r.sh r.nx

go_on_falls : (s : Shared) (m : ℕ) (p : Option Plan) (r : Then) → is_some p ≡ true → rest r < m → Below m s (go_on p r)
go_on_falls s m None own e h = no_way (sym e)
go_on_falls s m (Some (pushing q x d)) own e h = omega arith
go_on_falls s m (Some (popping q)) own e h = h
go_on_falls s m p to_L1 e h = h
go_on_falls s m p (to_W1 i x) e h = h

choose_falls : (s : Shared) (c m : ℕ) (op : Op ℕ) (n : ℕ) (b : Bool) → from_L1 op ≡ true → eqb s.cur c ≡ b → rank s (choose n c m op) < cond b 11 15
choose_falls s c m (Push x) n b o h = go (ltb m n) b h
  where
    go : (d b : Bool) → eqb s.cur c ≡ b → rank s (cond d (P1 c m x) (L3 c Full)) < cond b 11 15
    go true true h = rw h (omega arith)
    go true false h = rw h (omega arith)
    go false true h = rw h (omega arith)
    go false false h = rw h (omega arith)
choose_falls s c zero Pop n true o h = rw h (omega arith)
choose_falls s c zero Pop n false o h = rw h (omega arith)
choose_falls s c (suc m) Pop n true o h = rw h (omega arith)
choose_falls s c (suc m) Pop n false o h = rw h (omega arith)
choose_falls s c m Size n true o h = rw h (omega arith)
choose_falls s c m Size n false o h = rw h (omega arith)
choose_falls s c m (Read i) n b o h = no_way (sym o)
choose_falls s c m (Write i x) n b o h = no_way (sym o)

-- no other operation is installed and not final
abbrev pub Solo : Shared → ℕ → Type 0
Solo s n = (k : ℕ) → is_some (s.plan k) ≡ true → is_final (s.status k) ≡ false → k ≡ n

module _ {s : Shared} {put : Puts} (g : Facts s put) (n : ℕ) (op : Op ℕ) (solo : Solo s n) where
  fall_L1 : Thread s put n op L1 → Falls 12 (act s n op L1)
  fall_L1 l = go s.cur refl
    where
      go : (k : ℕ) → s.cur ≡ k → rank s (on_L1 s op k) < 12
      go zero e = let z = choose_falls s 0 0 op s.cap true l.here.1 (eq-eqb s.cur 0 e) in omega arith
      go (suc k) e = let h = eq-eqb s.cur (suc k) e in rw h (omega arith)

  fall_L2 : (c : ℕ) → Thread s put n op (L2 c) → Falls (rank s (L2 c)) (act s n op (L2 c))
  fall_L2 c l = go (s.status c) refl
    where
      not_open : is_final (s.status c) ≡ false → ◌≡◌ {A = Bool} true false
      not_open f = let e = solo c l.here.2 f in let z = l.here.0 in let y = l.here.2 in cc

      fin : (b : Bool) → eqb s.cur c ≡ b → rank s (choose s.cap c (size_after (s.plan c)) op) < rank s (L2 c)
      fin true h = let z = choose_falls s c (size_after (s.plan c)) op s.cap true l.here.1 h in rw h (omega arith)
      fin false h = let z = choose_falls s c (size_after (s.plan c)) op s.cap false l.here.1 h in rw h (omega arith)

      go : (v : Status) → s.status c ≡ v → rank s (on_L2 s op c v) < rank s (L2 c)
      go pending e = no_way (not_open (cc))
      go (done a) e = no_way (not_open (cc))
      go (final a) e = fin (eqb s.cur c) refl

  fall_L3 : (c : ℕ) (a : Answer ℕ) → Falls (rank s (L3 c a)) (act s n op (L3 c a))
  fall_L3 c a = go (eqb s.cur c) refl
    where
      go : (b : Bool) → eqb s.cur c ≡ b → Falls (rank s (L3 c a)) (cond b (serving s n (end a)) (quiet s (goto L1)))
      go true h = rw h (omega arith)
      go false h = rw h (omega arith)

  fall_P1 : (c m x : ℕ) → Thread s put n op (P1 c m x) → Falls (rank s (P1 c m x)) (act s n op (P1 c m x))
  fall_P1 c m x l = go (s.cell m) refl (eqb s.cur c) refl
    where
      still_empty : eqb s.cur c ≡ true → is_empty (s.cell m) ≡ true
      still_empty h =
          let e = eqb-true s.cur c h in
          let t : Settled s s.cur = elim l.here.2 [ inl x ↦ inl (e ∙ x) | inr x ↦ inr (cc) ] in
          let z = settled_size g t in
          let y = l.here.4 in
          let q : size_now s ≡ m = cc in
          elim (g.above_size m (omega arith)) [ inl w ↦ w | inr w ↦ no_way (cc) ]

      go : (w : Cell) → s.cell m ≡ w → (b : Bool) → eqb s.cur c ≡ b → rank s (on_P1 c m x w) < rank s (P1 c m x)
      go (empty e) u true h = rw h (omega arith)
      go (empty e) u false h = rw h (omega arith)
      go (plain a) u true h = let z = still_empty h in no_way (cc)
      go (plain a) u false h = rw h (omega arith)
      go (frozen a k j) u true h = let z = still_empty h in no_way (cc)
      go (frozen a k j) u false h = rw h (omega arith)

  fall_L4 : (c : ℕ) (p : Plan) → Thread s put n op (L4 c p) → Falls (rank s (L4 c p)) (act s n op (L4 c p))
  fall_L4 c p l = go (eqb s.cur c) refl
    where
      helping : (q : Plan) → Ready s c q op → rank (install s n p) (help n (Some q) own) < 9
      helping (pushing m x d) r = omega arith
      helping (popping m) r = omega arith

      go : (b : Bool) → eqb s.cur c ≡ b → Falls (rank s (L4 c p)) (cond b (quiet (install s n p) (goto (help n (Some p) own))) (quiet s (goto L1)))
      go true h = rw h (helping p l.here.3)
      go false h = rw h (omega arith)

  fall_H1 : (c : ℕ) (r : Then) → Falls (rank s (H1 c r)) (act s n op (H1 c r))
  fall_H1 c r = go (same_cell (s.cell (position (s.plan c))) (empty (emptied_by (s.plan c))))
    where
      go : (b : Bool) → Falls (rank s (H1 c r)) (cond b (serving (set_cell s (position (s.plan c)) (plain (pushed (s.plan c)))) c (goto (H2 c r))) (quiet s (goto (H2 c r))))
      go true = omega arith
      go false = omega arith

  fall_H2 : (c : ℕ) (r : Then) → Thread s put n op (H2 c r) → Falls (rank s (H2 c r)) (act s n op (H2 c r))
  fall_H2 c r l = go_on_falls (cond (is_pending (s.status c)) (set_status s c (final 0)) s) (1 + rest r) (s.plan c) r (push_planned (s.plan c) l.here.1) (omega arith)

  fall_G1 : (c : ℕ) (r : Then) → Falls (rank s (G1 c r)) (act s n op (G1 c r))
  fall_G1 c r = go (s.cell (position (s.plan c))) refl
    where
      fork : (a k j : ℕ) → s.cell (position (s.plan c)) ≡ frozen a k j → (b : Bool) → rank s (cond b (G4 c a j r) (G2 c a k j r)) < 7 + rest r
      fork a k j e true = omega arith
      fork a k j e false =
          let z = same_cell_refl (frozen a k j) in
          let y : stands s c (frozen a k j) ≡ true = cc in
          rw y (omega arith)

      go : (w : Cell) → s.cell (position (s.plan c)) ≡ w → rank s (on_G1 c r w) < 7 + rest r
      go (empty d) e = omega arith
      go (plain a) e =
          let z = same_cell_refl (plain a) in
          let y : stands s c (plain a) ≡ true = cc in
          rw y (omega arith)
      go (frozen a k j) e = fork a k j e (eqb k c)

  fall_G2 : (c a k j : ℕ) (r : Then) → Thread s put n op (G2 c a k j r) → Falls (rank s (G2 c a k j r)) (act s n op (G2 c a k j r))
  fall_G2 c a k j r l = go (s.status k) (stands s c (frozen a k j)) refl
    where
      pl : is_some (s.plan c) ≡ true
      pl = pop_planned (s.plan c) l.here.1

      go : (v : Status) (b : Bool) → stands s c (frozen a k j) ≡ b → Below (rank s (G2 c a k j r)) s (on_G2 c (s.plan c) (frozen a k j) r v)
      go pending true h = go_on_falls s (rank s (G2 c a k j r)) (s.plan c) r pl (rw h (omega arith))
      go pending false h = go_on_falls s (rank s (G2 c a k j r)) (s.plan c) r pl (rw h (omega arith))
      go (done b) true h = go_on_falls s (rank s (G2 c a k j r)) (s.plan c) r pl (rw h (omega arith))
      go (done b) false h = go_on_falls s (rank s (G2 c a k j r)) (s.plan c) r pl (rw h (omega arith))
      go (final b) true h = rw h (omega arith)
      go (final b) false h = rw h (omega arith)

  fall_G3 : (c : ℕ) (w : Cell) (r : Then) → Falls (rank s (G3 c w r)) (act s n op (G3 c w r))
  fall_G3 c w r = go (same_cell (s.cell (position (s.plan c))) w) refl
    where
      go : (b : Bool) → same_cell (s.cell (position (s.plan c))) w ≡ b → Falls (rank s (G3 c w r)) (cond b (quiet (set_cell s (position (s.plan c)) (frozen (value_in w) c n)) (goto (G4 c (value_in w) n r))) (quiet s (goto (G1 c r))))
      go true h = rw h (omega arith)
      go false h = rw h (omega arith)

  fall_G4 : (c a j : ℕ) (r : Then) → Falls (rank s (G4 c a j r)) (act s n op (G4 c a j r))
  fall_G4 c a j r = go (is_pending (s.status c))
    where
      go : (b : Bool) → Falls (rank s (G4 c a j r)) (cond b (serving (set_status s c (done a)) c (goto (G6 c a j a r))) (quiet s (goto (G5w c a j r))))
      go true = omega arith
      go false = omega arith

  fall_G5 : (c : ℕ) (r : Then) → Thread s put n op (G5 c r) → Falls (rank s (G5 c r)) (act s n op (G5 c r))
  fall_G5 c r l = go (s.status c) refl
    where
      go : (v : Status) → s.status c ≡ v → Below (2 + rest r) s (on_G5 c (s.plan c) r v)
      go pending h = let z = l.here.3 in no_way (cc)
      go (done b) h = omega arith
      go (final b) h = go_on_falls s (2 + rest r) (s.plan c) r (pop_planned (s.plan c) l.here.1) (omega arith)

  fall_G5w : (c a j : ℕ) (r : Then) → Thread s put n op (G5w c a j r) → Falls (rank s (G5w c a j r)) (act s n op (G5w c a j r))
  fall_G5w c a j r l = go (s.status c) refl
    where
      go : (v : Status) → s.status c ≡ v → Below (3 + rest r) s (on_G5w c (s.plan c) a j r v)
      go pending h = let z = l.here.3 in no_way (cc)
      go (done b) h = omega arith
      go (final b) h = go_on_falls s (3 + rest r) (s.plan c) r (pop_planned (s.plan c) l.here.1) (omega arith)

  fall_G7 : (c b : ℕ) (r : Then) → Thread s put n op (G7 c b r) → Falls (rank s (G7 c b r)) (act s n op (G7 c b r))
  fall_G7 c b r l = go_on_falls (cond (same_done (s.status c) b) (set_status s c (final b)) s) (1 + rest r) (s.plan c) r (pop_planned (s.plan c) l.here.1) (omega arith)

  -- a read of the cell as it stands
  fall_seen : (i m : ℕ) → 2 < m → (w : Cell) → s.cell i ≡ w → Falls m (on_R1 s n i w)
  fall_seen i m h (empty k) e = omega arith
  fall_seen i m h (plain a) e = omega arith
  fall_seen i m h (frozen a k j) e =
      let z = same_cell_refl (frozen a k j) in
      let y : same_cell (s.cell i) (frozen a k j) ≡ true = cc in
      rw y h

  fall_R2 : (i a k j : ℕ) → Falls (rank s (R2 i a k j)) (act s n op (R2 i a k j))
  fall_R2 i a k j = go (s.status k) (same_cell (s.cell i) (frozen a k j)) refl
    where
      go : (v : Status) (b : Bool) → same_cell (s.cell i) (frozen a k j) ≡ b → Falls (rank s (R2 i a k j)) (on_R2 s n i a k j v)
      go pending true h = rw h (omega arith)
      go pending false h = rw h (omega arith)
      go (done b) true h = rw h (omega arith)
      go (done b) false h = rw h (omega arith)
      go (final b) true h = rw h (omega arith)
      go (final b) false h = rw h (omega arith)

  fall_R3 : (i a k j : ℕ) → Falls (rank s (R3 i a k j)) (act s n op (R3 i a k j))
  fall_R3 i a k j = go (same_cell (s.cell i) (frozen a k j)) refl
    where
      go : (b : Bool) → same_cell (s.cell i) (frozen a k j) ≡ b → Falls (rank s (R3 i a k j)) (cond b (serving s n (end (Value a))) (on_R1 s n i (s.cell i)))
      go true h = rw h (omega arith)
      go false h = fall_seen i (rank s (R3 i a k j)) (rw h (omega arith)) (s.cell i) refl

  fall_W1 : (i x : ℕ) → Falls 3 (act s n op (W1 i x))
  fall_W1 i x = go (s.cell i) refl
    where
      go : (w : Cell) → s.cell i ≡ w → Falls 3 (on_W1 s n i x w)
      go (empty k) e = omega arith
      go (plain a) e =
          let z = same_cell_refl (plain a) in
          let y : same_cell (s.cell i) (plain a) ≡ true = cc in
          rw y (omega arith)
      go (frozen a k j) e =
          let z = same_cell_refl (frozen a k j) in
          let y : same_cell (s.cell i) (frozen a k j) ≡ true = cc in
          rw y (omega arith)

  fall_W2 : (i x a k j : ℕ) → Thread s put n op (W2 i x a k j) → Falls (rank s (W2 i x a k j)) (act s n op (W2 i x a k j))
  fall_W2 i x a k j l = go (s.status k) refl (same_cell (s.cell i) (frozen a k j)) refl
    where
      go : (v : Status) → s.status k ≡ v → (b : Bool) → same_cell (s.cell i) (frozen a k j) ≡ b → Falls (rank s (W2 i x a k j)) (on_W2 s n i x a k j v)
      go pending e b h =
          let p = pop_planned (s.plan k) l.here.3 in
          let q = solo k p (cc) in
          let z = l.here.0 in
          no_way (cc)
      go (done d) e true h = rw h (omega arith)
      go (done d) e false h = rw h (omega arith)
      go (final d) e true h = rw h (omega arith)
      go (final d) e false h = rw h (omega arith)

  fall_W3 : (i x : ℕ) (w : Cell) → Falls (rank s (W3 i x w)) (act s n op (W3 i x w))
  fall_W3 i x w = go (same_cell (s.cell i) w) refl
    where
      go : (b : Bool) → same_cell (s.cell i) w ≡ b → Falls (rank s (W3 i x w)) (cond b (serving (set_cell s i (plain x)) n (end Done)) (quiet s (goto (W1 i x))))
      go true h = rw h (omega arith)
      go false h = rw h (omega arith)

  pub falls : (x : Stage) → Thread s put n op x → Falls (rank s x) (act s n op x)
  falls L1 l = fall_L1 l
  falls (L2 c) l = fall_L2 c l
  falls (L3 c a) l = fall_L3 c a
  falls (P1 c m x) l = fall_P1 c m x l
  falls (L4 c p) l = fall_L4 c p l
  falls (H1 c r) l = fall_H1 c r
  falls (H2 c r) l = fall_H2 c r l
  falls (G1 c r) l = fall_G1 c r
  falls (G2 c a k j r) l = fall_G2 c a k j r l
  falls (G3 c w r) l = fall_G3 c w r
  falls (G4 c a j r) l = fall_G4 c a j r
  falls (G5 c r) l = fall_G5 c r l
  falls (G5w c a j r) l = fall_G5w c a j r l
  falls (G6 c a j b r) l = omega arith
  falls (G7 c b r) l = fall_G7 c b r l
  falls O1 l = omega arith
  falls (R1 i) l = fall_seen i 3 (omega arith) (s.cell i) refl
  falls (R2 i a k j) l = fall_R2 i a k j
  falls (R3 i a k j) l = fall_R3 i a k j
  falls (W1 i x) l = fall_W1 i x
  falls (W2 i x a k j) l = fall_W2 i x a k j l
  falls (W3 i x w) l = fall_W3 i x w
