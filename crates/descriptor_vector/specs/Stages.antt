-- Each stage of the code is that stage of the machine: where the words are coded and the stage is in range, what the one access
-- leaves and leads to is what the machine does.
use Rattle.std.specs.Prelude.{◌≡◌, ℕ, ◌^◌, ◌<◌, ◌≤◌, Bool, true, false, cond, List, length, ◌==◌, slice_index, slice_set, refl, Some, None, Option}
use Rattle.std.proofs.Common.{sym, ap, ◌∙◌, subst, arith}
use Rattle.memory.specs.declared.Swapped.TheVariants.{Yes, No}
use Rattle.vector.specs.declared.Op.{Op}
use Rattle.vector.specs.declared.Answer.TheVariants.{Done, Value}
use Rattle.descriptor_words.specs.declared.access.Found.TheVariants.{Swap}
use Rattle.descriptor_words.specs.Words.{cell_word, status_word, status_of, CellFits, StatusFits, numbered}
use Rattle.descriptor_words.specs.Accesses.{location, swapped, answered, words_after, cell_at, current_of}
use Rattle.descriptor_words.proofs.Codes.{in_range}
use Rattle.descriptor_steps.specs.declared.stage.Moved.{Moved}
use Rattle.descriptor_vector.specs.declared.table.Table.{Table}
use Rattle.descriptor_steps.specs.declared.stage.Plans.{Plans}
use Rattle.descriptor_steps.specs.Shared.{Cell, empty, plain, frozen, Status, pending, done, final, Shared, position, pushed, emptied_by, value_in, set_cell, set_status, install, same_cell, same_done, is_pending, held}
use Rattle.descriptor_steps.specs.Machine.{help, go_on, Res, quiet, serving, act, on_L2, on_G2, on_G5, on_G5w, on_R2, on_W2}
use Rattle.descriptor_steps.specs.Steps.{plan_of, access, took, to, serves, installs, moved, plans_after}
use Rattle.linearization.specs.Names.{Plan, pushing, popping, own, Stage, L1, L2, L3, P1, L4, H1, H2, G1, G2, G3, G4, G5, G5w, G6, G7, O1, R1, R2, R3, W1, W2, W3, Next, goto, end}
use Rattle.descriptor_vector.specs.Calls.{finds, moves}
use Rattle.descriptor_vector.specs.View.{status_in, cell_in, view, PlanFits, Coded, StageFits}
use Rattle.descriptor_vector.specs.Looking as looking
use Rattle.descriptor_vector.specs.Changes.{status_is, cell_test, pending_test, done_test, current_test, put_cell, put_cell_coded, put_status, put_status_coded, put_current, put_current_coded}

-- the words, the plans and the move are those of a step of the machine
pub record Does (words : List ℕ) (plans : Plans) (capacity : ℕ) (r : Res) (m : Moved) : Type 0 where
  pub memory : view words plans capacity ≡ r.sh
  pub next : m.next ≡ r.nx
  pub served : m.served ≡ r.served
  pub coded : Coded words plans capacity

pub plan_position : (capacity : ℕ) (p : Option Plan) → 0 < capacity → PlanFits capacity p → position p < capacity
plan_position capacity None h f = h
plan_position capacity (Some (pushing p x e)) h f = f.0
plan_position capacity (Some (popping p)) h f = f

plan_by : (capacity : ℕ) (p : Option Plan) → PlanFits capacity p → emptied_by p ≤ 400
plan_by capacity None f = omega arith
plan_by capacity (Some (pushing p x e)) f = f.2
plan_by capacity (Some (popping p)) f = omega arith

plan_value : (capacity : ℕ) (p : Option Plan) → PlanFits capacity p → pushed p < 2 ^ 32
plan_value capacity None f = omega arith
plan_value capacity (Some (pushing p x e)) f = f.1
plan_value capacity (Some (popping p)) f = omega arith

pub value_fits : (w : Cell) → CellFits w → value_in w < 2 ^ 32
value_fits (empty k) f = omega arith
value_fits (plain a) f = f
value_fits (frozen a k j) f = f.0

module _ (T : Table) (W : List ℕ) (n : ℕ) (op : Op ℕ) (coded : Coded W T.plans T.threads.capacity) (own_number : numbered n ≡ true) where
  abbrev P : Plans
  P = T.plans

  abbrev V : Shared
  V = view W T.plans T.threads.capacity

  abbrev plan : ℕ → Option Plan
  plan = plan_of T.plans

  place : (c : ℕ) → position (plan c) < T.threads.capacity
  place c = plan_position T.threads.capacity (plan c) coded.some_cell (coded.plan c)

  -- a load
  loads : (r : Res) (m : Moved) → m ≡ moved r → r.sh ≡ V → Does W P T.threads.capacity r m
  loads r m e still =
      record { memory = sym still; next = ap (λ (x : Moved). x.next) e; served = ap (λ (x : Moved). x.served) e; coded = coded }

  -- a swap: the test of the words is the machine's, and a yes leaves what the machine does
  swaps : (at old new : ℕ) (m : Bool → Moved) (R : Bool → Res) (test : Bool) → (slice_index W at == old) ≡ test
      → Does (slice_set W at new) (plans_after P n (m true).plan) T.threads.capacity (R true) (m true)
      → Does W (plans_after P n (m false).plan) T.threads.capacity (R false) (m false)
      → Does (swapped W at old new) (plans_after P n (m (took (Swap (answered W at old)))).plan) T.threads.capacity (R test) (m (took (Swap (answered W at old))))
  swaps at old new m R test e taken left = go (slice_index W at == old) e
    where
      go : (b : Bool) → b ≡ test → Does (cond b (slice_set W at new) W) (plans_after P n (m (took (Swap (cond b Yes No)))).plan) T.threads.capacity (R test) (m (took (Swap (cond b Yes No))))
      go true h = subst (λ (t : Bool). Does (slice_set W at new) (plans_after P n (m true).plan) T.threads.capacity (R t) (m true)) h taken
      go false h = subst (λ (t : Bool). Does W (plans_after P n (m false).plan) T.threads.capacity (R t) (m false)) h left

  -- a no leaves all as it is; a yes leaves a cell or a status changed
  stay : (x : Next) → Does W P T.threads.capacity (quiet V x) (to x)
  stay x = record { memory = refl; next = refl; served = refl; coded = coded }

  cell_put : (i : ℕ) (new : Cell) → i < T.threads.capacity → CellFits new → (r : Res) (m : Moved) → r.sh ≡ set_cell V i new → m.next ≡ r.nx → m.served ≡ r.served
      → Does (slice_set W (cell_at i) (cell_word new)) P T.threads.capacity r m
  cell_put i new h f r m e x k =
      record { memory = put_cell W P T.threads.capacity coded i new h f ∙ sym e; next = x; served = k; coded = put_cell_coded W P T.threads.capacity coded i new h f }

  status_put : (c : ℕ) (new : Status) → numbered c ≡ true → StatusFits new → (r : Res) (m : Moved) → r.sh ≡ set_status V c new → m.next ≡ r.nx → m.served ≡ r.served
      → Does (slice_set W c (status_word new)) P T.threads.capacity r m
  status_put c new h f r m e x k =
      record { memory = put_status W P T.threads.capacity coded c new h f ∙ sym e; next = x; served = k; coded = put_status_coded W P T.threads.capacity coded c new h f }

  pub does : (g : Stage) → StageFits T.threads.capacity g
      → Does (words_after W (access plan n g)) (plans_after P n (moves T W n op g).plan) T.threads.capacity (act V n op g) (moves T W n op g)
  does L1 f = loads (act V n op L1) _ (ap (λ (g : Stage). to (goto g)) (looking.like_L1 P T.threads.capacity (finds T W n L1) W op (current_of (slice_index W 0)))) refl
  does (L2 c) f =
      loads (act V n op (L2 c)) _
      (ap (λ (g : Stage). to (goto g)) (looking.like_L2 P T.threads.capacity (finds T W n (L2 c)) W op c (status_of (slice_index W c)) ∙ ap (on_L2 V op c) (sym (status_is W c f)))) refl
  does (L3 c a) f =
      loads (act V n op (L3 c a)) _ (looking.like_cond (current_of (slice_index W 0) == c) _ _ _ _ refl refl)
      (looking.still_cond V (current_of (slice_index W 0) == c) _ _ refl refl)
  does (P1 c m x) f = loads (act V n op (P1 c m x)) _ refl refl
  does (L4 c p) f =
      swaps 0 c n (λ b. cond b (installs p (goto (help n (Some p) own))) (to (goto L1)))
      (λ b. cond b (quiet (install V n p) (goto (help n (Some p) own))) (quiet V (goto L1)))
      (current_of (slice_index W 0) == c) (current_test W P T.threads.capacity coded c)
      (record { memory = put_current W P T.threads.capacity coded n p own_number; next = refl; served = refl; coded = put_current_coded W P T.threads.capacity coded n p own_number f.1 })
      (stay (goto L1))
  does (H1 c r) f =
      swaps (cell_at (position (plan c))) (cell_word (empty (emptied_by (plan c)))) (cell_word (plain (pushed (plan c))))
      (λ b. cond b (serves c (goto (H2 c r))) (to (goto (H2 c r))))
      (λ b. cond b (serving (set_cell V (position (plan c)) (plain (pushed (plan c)))) c (goto (H2 c r))) (quiet V (goto (H2 c r))))
      (same_cell (cell_in W (position (plan c))) (empty (emptied_by (plan c))))
      (cell_test W P T.threads.capacity coded (position (plan c)) (empty (emptied_by (plan c))) (place c) (plan_by T.threads.capacity (plan c) (coded.plan c)))
      (cell_put (position (plan c)) (plain (pushed (plan c))) (place c) (plan_value T.threads.capacity (plan c) (coded.plan c)) _ _ refl refl refl)
      (stay (goto (H2 c r)))
  does (H2 c r) f =
      swaps c (status_word pending) (status_word (final 0)) (λ b. to (go_on (plan c) r))
      (λ b. quiet (cond b (set_status V c (final 0)) V) (go_on (plan c) r)) (is_pending (status_in W c))
      (pending_test W P T.threads.capacity coded c f.0)
      (status_put c (final 0) f.0 (omega arith) _ _ refl refl refl)
      (stay (go_on (plan c) r))
  does (G1 c r) f = loads (act V n op (G1 c r)) _ refl refl
  does (G2 c a k j r) f =
      loads (act V n op (G2 c a k j r)) _ (ap (λ (v : Status). to (on_G2 c (plan c) (frozen a k j) r v)) (sym (status_is W k f.2.1))) refl
  does (G3 c w r) f =
      swaps (cell_at (position (plan c))) (cell_word w) (cell_word (frozen (value_in w) c n))
      (λ b. cond b (to (goto (G4 c (value_in w) n r))) (to (goto (G1 c r))))
      (λ b. cond b (quiet (set_cell V (position (plan c)) (frozen (value_in w) c n)) (goto (G4 c (value_in w) n r))) (quiet V (goto (G1 c r))))
      (same_cell (cell_in W (position (plan c))) w)
      (cell_test W P T.threads.capacity coded (position (plan c)) w (place c) f.2)
      (cell_put (position (plan c)) (frozen (value_in w) c n) (place c) (value_fits w f.2, f.0, (in_range n own_number).1) _ _ refl refl refl)
      (stay (goto (G1 c r)))
  does (G4 c a j r) f =
      swaps c (status_word pending) (status_word (done a)) (λ b. cond b (serves c (goto (G6 c a j a r))) (to (goto (G5w c a j r))))
      (λ b. cond b (serving (set_status V c (done a)) c (goto (G6 c a j a r))) (quiet V (goto (G5w c a j r)))) (is_pending (status_in W c))
      (pending_test W P T.threads.capacity coded c f.0)
      (status_put c (done a) f.0 f.2.0 _ _ refl refl refl)
      (stay (goto (G5w c a j r)))
  does (G5 c r) f = loads (act V n op (G5 c r)) _ (ap (λ (v : Status). to (on_G5 c (plan c) r v)) (sym (status_is W c f.0))) refl
  does (G5w c a j r) f = loads (act V n op (G5w c a j r)) _ (ap (λ (v : Status). to (on_G5w c (plan c) a j r v)) (sym (status_is W c f.0))) refl
  does (G6 c a j b r) f =
      swaps (cell_at (position (plan c))) (cell_word (frozen a c j)) (cell_word (empty c)) (λ t. to (goto (G7 c b r)))
      (λ t. quiet (cond t (set_cell V (position (plan c)) (empty c)) V) (goto (G7 c b r)))
      (same_cell (cell_in W (position (plan c))) (frozen a c j))
      (cell_test W P T.threads.capacity coded (position (plan c)) (frozen a c j) (place c) f.2)
      (cell_put (position (plan c)) (empty c) (place c) (in_range c f.0).1 _ _ refl refl refl)
      (stay (goto (G7 c b r)))
  does (G7 c b r) f =
      swaps c (status_word (done b)) (status_word (final b)) (λ t. to (go_on (plan c) r))
      (λ t. quiet (cond t (set_status V c (final b)) V) (go_on (plan c) r)) (same_done (status_in W c) b)
      (done_test W P T.threads.capacity coded c b f.0 f.2)
      (status_put c (final b) f.0 f.2 _ _ refl refl refl)
      (stay (go_on (plan c) r))
  does O1 f = loads (act V n op O1) _ (ap (λ (v : Status). to (end (Value (held v)))) (sym (status_is W n own_number))) refl
  does (R1 i) f = loads (act V n op (R1 i)) _ (looking.like_R1 P T.threads.capacity (finds T W n (R1 i)) W n i (cell_in W i)) (looking.still_R1 V n i (cell_in W i))
  does (R2 i a k j) f =
      loads (act V n op (R2 i a k j)) _
      (looking.like_R2 P T.threads.capacity (finds T W n (R2 i a k j)) W n i a k j (status_of (slice_index W k)) ∙ ap (λ (v : Status). moved (on_R2 V n i a k j v)) (sym (status_is W k f.1.1)))
      (looking.still_R2 V n i a k j (status_in W k))
  does (R3 i a k j) f =
      loads (act V n op (R3 i a k j)) _
      (looking.like_cond (same_cell (cell_in W i) (frozen a k j)) _ _ _ _ refl (looking.like_R1 P T.threads.capacity (finds T W n (R3 i a k j)) W n i (cell_in W i)))
      (looking.still_cond V (same_cell (cell_in W i) (frozen a k j)) _ _ refl (looking.still_R1 V n i (cell_in W i)))
  does (W1 i x) f = loads (act V n op (W1 i x)) _ (looking.like_W1 P T.threads.capacity (finds T W n (W1 i x)) W n i x (cell_in W i)) (looking.still_W1 V n i x (cell_in W i))
  does (W2 i x a k j) f =
      loads (act V n op (W2 i x a k j)) _
      (looking.like_W2 P T.threads.capacity (finds T W n (W2 i x a k j)) W n i x a k j (status_of (slice_index W k)) ∙ ap (λ (v : Status). moved (on_W2 V n i x a k j v)) (sym (status_is W k f.2.1)))
      (looking.still_W2 V n i x a k j (status_in W k))
  does (W3 i x w) f =
      swaps (cell_at i) (cell_word w) (cell_word (plain x)) (λ b. cond b (serves n (end Done)) (to (goto (W1 i x))))
      (λ b. cond b (serving (set_cell V i (plain x)) n (end Done)) (quiet V (goto (W1 i x)))) (same_cell (cell_in W i) w)
      (cell_test W P T.threads.capacity coded i w f.0 f.2)
      (cell_put i (plain x) f.0 f.1 _ _ refl refl refl)
      (stay (goto (W1 i x)))

  -- the location of the access is there
  at_current : 0 < length W
  at_current = let room = coded.room in omega arith

  at_status : (k : ℕ) → numbered k ≡ true → k < length W
  at_status k h = let room = coded.room in let r = in_range k h in omega arith

  at_cell : (i : ℕ) → i < T.threads.capacity → cell_at i < length W
  at_cell i h = let room = coded.room in omega arith

  pub there : (g : Stage) → StageFits T.threads.capacity g → location (access plan n g) < length W
  there L1 f = at_current
  there (L2 c) f = at_status c f
  there (L3 c a) f = at_current
  there (P1 c m x) f = at_cell m f.1
  there (L4 c p) f = at_current
  there (H1 c r) f = at_cell (position (plan c)) (place c)
  there (H2 c r) f = at_status c f.0
  there (G1 c r) f = at_cell (position (plan c)) (place c)
  there (G2 c a k j r) f = at_status k f.2.1
  there (G3 c w r) f = at_cell (position (plan c)) (place c)
  there (G4 c a j r) f = at_status c f.0
  there (G5 c r) f = at_status c f.0
  there (G5w c a j r) f = at_status c f.0
  there (G6 c a j b r) f = at_cell (position (plan c)) (place c)
  there (G7 c b r) f = at_status c f.0
  there O1 f = at_status n own_number
  there (R1 i) f = at_cell i f
  there (R2 i a k j) f = at_status k f.1.1
  there (R3 i a k j) f = at_cell i f.0
  there (W1 i x) f = at_cell i f.0
  there (W2 i x a k j) f = at_status k f.2.1
  there (W3 i x w) f = at_cell i f.0
