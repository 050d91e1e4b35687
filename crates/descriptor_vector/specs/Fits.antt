-- A step leads to a stage in range.
use Rattle.std.specs.Prelude.{◌≡◌, ℕ, zero, suc, ◌^◌, ◌<◌, ◌≤◌, Bool, true, false, cond, List, ◌==◌, nat_le, nat_lt, slice_index, refl, Some, None, Option}
use Rattle.std.proofs.Common.{inl, inr, arith}
use Rattle.std.proofs.lemmas.Bool.{cases_Bool, ltb-true, and_from, le-leb}
use Rattle.vector.specs.declared.Op.{Op}
use Rattle.vector.specs.declared.Op.TheVariants.{Push, Pop, Read, Write, Size}
use Rattle.descriptor_words.specs.Words.{CellFits, StatusFits, numbered}
use Rattle.descriptor_words.specs.Accesses.{current_of}
use Rattle.descriptor_words.proofs.Codes.{in_range}
use Rattle.descriptor_steps.specs.declared.stage.Plans.{Plans}
use Rattle.descriptor_steps.specs.Shared.{Cell, empty, plain, frozen, Status, pending, done, final, Shared, position, emptied_by, size_after, same_cell, is_pending}
use Rattle.descriptor_steps.specs.Machine.{help, go_on, choose, Res, act, on_L1, on_L2, on_P1, on_G1, on_G2, on_G5, on_G5w, on_R1, on_R2, on_W1, on_W2}
use Rattle.descriptor_steps.specs.Steps.{plan_of}
use Rattle.linearization.specs.Names.{Plan, pushing, popping, Then, own, to_L1, to_W1, Stage, L1, L2, L3, P1, L4, H1, H2, G1, G2, G3, G4, G5, G5w, G6, G7, O1, R1, R2, R3, W1, W2, W3}
use Rattle.descriptor_vector.specs.View.{status_in, cell_in, view, PlanFits, Coded, ThenFits, StageFits, NextFits, OpFits}
use Rattle.descriptor_vector.specs.Changes.{status_fits, cell_fits}
use Rattle.descriptor_vector.specs.Stages.{plan_position, value_fits}

number_up : (c : ℕ) → suc c ≤ 400 → numbered (suc c) ≡ true
number_up c h = and_from (nat_le 1 (suc c)) (nat_le (suc c) 400) (le-leb 1 (suc c) (omega arith)) (le-leb (suc c) 400 h)

help_fits : (capacity c : ℕ) (p : Option Plan) (r : Then) → numbered c ≡ true → ThenFits capacity r → StageFits capacity (help c p r)
help_fits capacity c None r n f = tt
help_fits capacity c (Some (pushing p x e)) r n f = (n, f)
help_fits capacity c (Some (popping p)) r n f = (n, f)

go_on_fits : (capacity : ℕ) (p : Option Plan) (r : Then) → ThenFits capacity r → NextFits capacity (go_on p r)
go_on_fits capacity None own f = tt
go_on_fits capacity (Some (pushing p x e)) own f = tt
go_on_fits capacity (Some (popping p)) own f = tt
go_on_fits capacity None to_L1 f = tt
go_on_fits capacity (Some (pushing p x e)) to_L1 f = tt
go_on_fits capacity (Some (popping p)) to_L1 f = tt
go_on_fits capacity None (to_W1 i x) f = f
go_on_fits capacity (Some (pushing p y e)) (to_W1 i x) f = f
go_on_fits capacity (Some (popping p)) (to_W1 i x) f = f

choose_fits : (capacity c s : ℕ) (op : Op ℕ) → c ≤ 400 → s ≤ capacity → OpFits capacity op → StageFits capacity (choose capacity c s op)
choose_fits capacity c s (Push x) hc hs f =
    elim (cases_Bool (nat_lt s capacity)) [ inl b ↦ rw b (hc, ltb-true s capacity b, f) | inr b ↦ rw b hc ]
choose_fits capacity c zero Pop hc hs f = hc
choose_fits capacity c (suc s) Pop hc hs f = (hc, hs)
choose_fits capacity c s Size hc hs f = hc
choose_fits capacity c s (Read i) hc hs f = tt
choose_fits capacity c s (Write i x) hc hs f = tt

size_fits : (capacity : ℕ) (p : Option Plan) → PlanFits capacity p → size_after p ≤ capacity
size_fits capacity None f = omega arith
size_fits capacity (Some (pushing p x e)) f = f.0
size_fits capacity (Some (popping p)) f = omega arith

cond_fits : (capacity : ℕ) (b : Bool) (x y : Res) → NextFits capacity x.nx → NextFits capacity y.nx → NextFits capacity (cond b x y).nx
cond_fits capacity true x y p q = p
cond_fits capacity false x y p q = q

fits_L1 : (capacity : ℕ) (s : Shared) (op : Op ℕ) (c : ℕ) → s.cap ≡ capacity → c ≤ 400 → OpFits capacity op → StageFits capacity (on_L1 s op c)
fits_L1 capacity s op zero e h f = rw e (choose_fits capacity 0 0 op (omega arith) (omega arith) f)
fits_L1 capacity s op (suc c) e h f = number_up c h

fits_L2 : (capacity : ℕ) (s : Shared) (op : Op ℕ) (c : ℕ) (v : Status) → s.cap ≡ capacity → numbered c ≡ true → PlanFits capacity (s.plan c) → OpFits capacity op → StageFits capacity (on_L2 s op c v)
fits_L2 capacity s op c pending e n p f = help_fits capacity c (s.plan c) to_L1 n tt
fits_L2 capacity s op c (done a) e n p f = help_fits capacity c (s.plan c) to_L1 n tt
fits_L2 capacity s op c (final a) e n p f = rw e (choose_fits capacity c (size_after (s.plan c)) op (in_range c n).1 (size_fits capacity (s.plan c) p) f)

fits_P1 : (capacity c m x : ℕ) (w : Cell) → c ≤ 400 → m < capacity → x < 2 ^ 32 → CellFits w → StageFits capacity (on_P1 c m x w)
fits_P1 capacity c m x (empty e) hc hm hx f = (hc, (hm, hx, f))
fits_P1 capacity c m x (plain a) hc hm hx f = tt
fits_P1 capacity c m x (frozen a k j) hc hm hx f = tt

fits_G1 : (capacity c : ℕ) (r : Then) (w : Cell) → numbered c ≡ true → ThenFits capacity r → CellFits w → StageFits capacity (on_G1 c r w)
fits_G1 capacity c r (empty e) n h f = (n, h)
fits_G1 capacity c r (plain a) n h f = (n, h, f)
fits_G1 capacity c r (frozen a k j) n h f =
    elim (cases_Bool (k == c)) [ inl b ↦ rw b (n, h, (f.0, n, f.2)) | inr b ↦ rw b (n, h, f) ]

fits_G2 : (capacity c : ℕ) (p : Option Plan) (w : Cell) (r : Then) (v : Status) → numbered c ≡ true → ThenFits capacity r → CellFits w → NextFits capacity (on_G2 c p w r v)
fits_G2 capacity c p w r pending n h f = go_on_fits capacity p r h
fits_G2 capacity c p w r (done a) n h f = go_on_fits capacity p r h
fits_G2 capacity c p w r (final a) n h f = (n, h, f)

fits_G5 : (capacity c : ℕ) (p : Option Plan) (r : Then) (v : Status) → numbered c ≡ true → ThenFits capacity r → StatusFits v → NextFits capacity (on_G5 c p r v)
fits_G5 capacity c p r pending n h f = (n, h)
fits_G5 capacity c p r (done a) n h f = (n, h, f)
fits_G5 capacity c p r (final a) n h f = go_on_fits capacity p r h

fits_G5w : (capacity c : ℕ) (p : Option Plan) (a j : ℕ) (r : Then) (v : Status) → numbered c ≡ true → ThenFits capacity r → CellFits (frozen a c j) → StatusFits v → NextFits capacity (on_G5w c p a j r v)
fits_G5w capacity c p a j r pending n h w f = (n, h)
fits_G5w capacity c p a j r (done b) n h w f = (n, h, w, f)
fits_G5w capacity c p a j r (final b) n h w f = go_on_fits capacity p r h

fits_R1 : (capacity : ℕ) (s : Shared) (n i : ℕ) (w : Cell) → i < capacity → CellFits w → NextFits capacity (on_R1 s n i w).nx
fits_R1 capacity s n i (empty k) h f = tt
fits_R1 capacity s n i (plain a) h f = tt
fits_R1 capacity s n i (frozen a k j) h f = (h, f)

fits_R2 : (capacity : ℕ) (s : Shared) (n i a k j : ℕ) (v : Status) → i < capacity → CellFits (frozen a k j) → NextFits capacity (on_R2 s n i a k j v).nx
fits_R2 capacity s n i a k j pending h f = tt
fits_R2 capacity s n i a k j (done b) h f = tt
fits_R2 capacity s n i a k j (final b) h f = (h, f)

fits_W1 : (capacity : ℕ) (s : Shared) (n i x : ℕ) (w : Cell) → i < capacity → x < 2 ^ 32 → CellFits w → NextFits capacity (on_W1 s n i x w).nx
fits_W1 capacity s n i x (empty k) h hx f = tt
fits_W1 capacity s n i x (plain a) h hx f = (h, hx, f)
fits_W1 capacity s n i x (frozen a k j) h hx f = (h, hx, f)

fits_W2 : (capacity : ℕ) (s : Shared) (n i x a k j : ℕ) (v : Status) → i < capacity → x < 2 ^ 32 → CellFits (frozen a k j) → NextFits capacity (on_W2 s n i x a k j v).nx
fits_W2 capacity s n i x a k j pending h hx f = help_fits capacity k (s.plan k) (to_W1 i x) f.1 (h, hx)
fits_W2 capacity s n i x a k j (done b) h hx f = tt
fits_W2 capacity s n i x a k j (final b) h hx f = (h, hx, f)

module _ (ws : List ℕ) (plans : Plans) (capacity : ℕ) (coded : Coded ws plans capacity) where
  place : (k : ℕ) → position (plan_of plans k) < capacity
  place k = plan_position capacity (plan_of plans k) coded.some_cell (coded.plan k)

  pub act_fits : (n : ℕ) (op : Op ℕ) (g : Stage) → numbered n ≡ true → OpFits capacity op → StageFits capacity g → NextFits capacity (act (view ws plans capacity) n op g).nx
  act_fits n op L1 nn fo f = let small = coded.current in fits_L1 capacity (view ws plans capacity) op (current_of (slice_index ws 0)) refl (omega arith) fo
  act_fits n op (L2 c) nn fo f = fits_L2 capacity (view ws plans capacity) op c (status_in ws c) refl f (coded.plan c) fo
  act_fits n op (L3 c a) nn fo f = cond_fits capacity (current_of (slice_index ws 0) == c) _ _ tt tt
  act_fits n op (P1 c m x) nn fo f = fits_P1 capacity c m x (cell_in ws m) f.0 f.1 f.2 (cell_fits ws plans capacity coded m f.1)
  act_fits n op (L4 c p) nn fo f = cond_fits capacity (current_of (slice_index ws 0) == c) _ _ (help_fits capacity n (Some p) own nn tt) tt
  act_fits n op (H1 c r) nn fo f = cond_fits capacity (same_cell (cell_in ws (position (plan_of plans c))) (empty (emptied_by (plan_of plans c)))) _ _ f f
  act_fits n op (H2 c r) nn fo f = go_on_fits capacity (plan_of plans c) r f.1
  act_fits n op (G1 c r) nn fo f = fits_G1 capacity c r (cell_in ws (position (plan_of plans c))) f.0 f.1 (cell_fits ws plans capacity coded (position (plan_of plans c)) (place c))
  act_fits n op (G2 c a k j r) nn fo f = fits_G2 capacity c (plan_of plans c) (frozen a k j) r (status_in ws k) f.0 f.1 f.2
  act_fits n op (G3 c w r) nn fo f =
      cond_fits capacity (same_cell (cell_in ws (position (plan_of plans c))) w) _ _ (f.0, f.1, (value_fits w f.2, f.0, (in_range n nn).1)) (f.0, f.1)
  act_fits n op (G4 c a j r) nn fo f = cond_fits capacity (is_pending (status_in ws c)) _ _ (f.0, f.1, f.2, f.2.0) f
  act_fits n op (G5 c r) nn fo f = fits_G5 capacity c (plan_of plans c) r (status_in ws c) f.0 f.1 (status_fits ws plans capacity coded c f.0)
  act_fits n op (G5w c a j r) nn fo f = fits_G5w capacity c (plan_of plans c) a j r (status_in ws c) f.0 f.1 f.2 (status_fits ws plans capacity coded c f.0)
  act_fits n op (G6 c a j b r) nn fo f = (f.0, f.1, f.3)
  act_fits n op (G7 c b r) nn fo f = go_on_fits capacity (plan_of plans c) r f.1
  act_fits n op O1 nn fo f = tt
  act_fits n op (R1 i) nn fo f = fits_R1 capacity (view ws plans capacity) n i (cell_in ws i) f (cell_fits ws plans capacity coded i f)
  act_fits n op (R2 i a k j) nn fo f = fits_R2 capacity (view ws plans capacity) n i a k j (status_in ws k) f.0 f.1
  act_fits n op (R3 i a k j) nn fo f =
      cond_fits capacity (same_cell (cell_in ws i) (frozen a k j)) _ _ tt (fits_R1 capacity (view ws plans capacity) n i (cell_in ws i) f.0 (cell_fits ws plans capacity coded i f.0))
  act_fits n op (W1 i x) nn fo f = fits_W1 capacity (view ws plans capacity) n i x (cell_in ws i) f.0 f.1 (cell_fits ws plans capacity coded i f.0)
  act_fits n op (W2 i x a k j) nn fo f = fits_W2 capacity (view ws plans capacity) n i x a k j (status_in ws k) f.0 f.1 f.2
  act_fits n op (W3 i x w) nn fo f = cond_fits capacity (same_cell (cell_in ws i) w) _ _ tt (f.0, f.1)
