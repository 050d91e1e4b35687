-- A word that is swapped is the machine's change of its memory: the test of two words is the test of what they stand for, and the
-- words after a swap are those of the memory changed at one place.
use Rattle.std.specs.Prelude.{◌≡◌, ℕ, ◌^◌, ◌<◌, ◌≤◌, true, cond, ◌≢◌, List, length, ◌==◌, nat_eq, slice_index, slice_index_or, slice_set, refl, Some, Option}
use Rattle.std.proofs.Common.{sym, ap, ◌∙◌, subst, inl, inr, arith, length-set, get_or-set_same, get_or-set_other}
use Rattle.std.proofs.lemmas.Bool.{cases_eq, cases_Bool, eq-eqb, ne_eqb}
use Rattle.descriptor_words.specs.Words.{cell_word, cell_of, status_word, status_of, CellFits, StatusFits, numbered}
use Rattle.descriptor_words.specs.Accesses.{cell_at, current_of}
use Rattle.descriptor_words.proofs.Codes.{in_range, cell_back, status_back, cell_same, status_same}
use Rattle.descriptor_steps.specs.declared.stage.Plans.{Plans}
use Rattle.descriptor_steps.specs.Shared.{Cell, Status, pending, done, final, Shared, same_cell, same_done, is_pending, set_cell, set_status, install}
use Rattle.descriptor_steps.specs.Steps.{plan_of, with_plan}
use Rattle.linearization.specs.Names.{Plan}
use Rattle.descriptor_vector.specs.View.{status_in, cell_in, view, PlanFits, Coded}
use Rattle.linearization.proofs.Tests.{same_cell_true, same_cell_false, same_done_true, same_done_false, at_upd}

cell_words : (w v : Cell) → CellFits w → CellFits v → (cell_word w == cell_word v) ≡ same_cell w v
cell_words w v fw fv =
    elim (cases_Bool (same_cell w v)) [
      | inl h ↦ eq-eqb (cell_word w) (cell_word v) (ap cell_word (same_cell_true w v h)) ∙ sym h
      | inr h ↦ ne_eqb (cell_word w) (cell_word v) (λ e. same_cell_false w v h (cell_same w v fw fv e)) ∙ sym h
    ]

pending_word : (v : Status) → (status_word v == 0) ≡ is_pending v
pending_word pending = refl
pending_word (done a) = ne_eqb (status_word (done a)) 0 (λ e. omega arith)
pending_word (final a) = ne_eqb (status_word (final a)) 0 (λ e. omega arith)

done_word : (v : Status) (b : ℕ) → StatusFits v → b < 2 ^ 32 → (status_word v == status_word (done b)) ≡ same_done v b
done_word v b fv fb =
    elim (cases_Bool (same_done v b)) [
      | inl h ↦ eq-eqb (status_word v) (status_word (done b)) (ap status_word (same_done_true v b h)) ∙ sym h
      | inr h ↦ ne_eqb (status_word v) (status_word (done b)) (λ e. same_done_false v b h (status_same v (done b) fv fb e)) ∙ sym h
    ]

pub same_shared : {a b : ℕ} {s t : ℕ → Status} {c d : ℕ → Cell} {p q : ℕ → Option Plan} (capacity : ℕ)
    → a ≡ b → ((k : ℕ) → s k ≡ t k) → ((k : ℕ) → c k ≡ d k) → ((k : ℕ) → p k ≡ q k)
    → ◌≡◌ {A = Shared} (record { cur = a; status = s; cell = c; plan = p; cap = capacity }) (record { cur = b; status = t; cell = d; plan = q; cap = capacity })
same_shared capacity e f g h = λ i. record { cur = e i; status = λ k. f k i; cell = λ k. g k i; plan = λ k. h k i; cap = capacity }

-- a word that is set leaves the status of a number whose location is another, and a cell whose location is another
status_apart : (ws : List ℕ) (at v k : ℕ) → (numbered k ≡ true → k ≢ at) → status_in (slice_set ws at v) k ≡ status_in ws k
status_apart ws at v k h =
    elim (cases_Bool (numbered k)) [
      | inl n ↦ (let ne : k ≢ at = h n in ap (λ w. cond (numbered k) (status_of w) pending) (get_or-set_other ws at k v 0 ne))
      | inr n ↦ rw n refl
    ]

cell_apart : (ws : List ℕ) (at v i : ℕ) → cell_at i ≢ at → cell_in (slice_set ws at v) i ≡ cell_in ws i
cell_apart ws at v i ne = ap cell_of (get_or-set_other ws at (cell_at i) v 0 ne)

pub status_is : (ws : List ℕ) (k : ℕ) → numbered k ≡ true → status_in ws k ≡ status_of (slice_index ws k)
status_is ws k n = rw n refl

module _ (ws : List ℕ) (plans : Plans) (capacity : ℕ) (coded : Coded ws plans capacity) where
  pub cell_test : (i : ℕ) (old : Cell) → i < capacity → CellFits old → (slice_index ws (cell_at i) == cell_word old) ≡ same_cell (cell_in ws i) old
  cell_test i old h f =
      let w = coded.cell i h in
      let back : cell_of (slice_index ws (cell_at i)) ≡ w.0 = ap cell_of w.2 ∙ cell_back w.0 w.1 in
      ap (λ n. nat_eq n (cell_word old)) w.2 ∙ cell_words w.0 old w.1 f ∙ ap (λ (v : Cell). same_cell v old) (sym back)

  coded_status : (k : ℕ) (n : numbered k ≡ true) → status_in ws k ≡ (coded.status k n).0
  coded_status k n = let w = coded.status k n in status_is ws k n ∙ ap status_of w.2 ∙ status_back w.0 w.1

  pub status_fits : (k : ℕ) → numbered k ≡ true → StatusFits (status_in ws k)
  status_fits k n = subst StatusFits (sym (coded_status k n)) (coded.status k n).1

  pub cell_fits : (i : ℕ) → i < capacity → CellFits (cell_in ws i)
  cell_fits i h = let w = coded.cell i h in subst CellFits (sym (ap cell_of w.2 ∙ cell_back w.0 w.1)) w.1

  pub pending_test : (k : ℕ) → numbered k ≡ true → (slice_index ws k == 0) ≡ is_pending (status_in ws k)
  pending_test k n =
      let w = coded.status k n in
      ap (λ x. nat_eq x 0) w.2 ∙ pending_word w.0 ∙ ap is_pending (sym (coded_status k n))

  pub done_test : (k b : ℕ) → numbered k ≡ true → b < 2 ^ 32 → (slice_index ws k == status_word (done b)) ≡ same_done (status_in ws k) b
  done_test k b n h =
      let w = coded.status k n in
      ap (λ x. nat_eq x (status_word (done b))) w.2 ∙ done_word w.0 b w.1 h ∙ ap (λ (v : Status). same_done v b) (sym (coded_status k n))

  pub current_test : (c : ℕ) → (slice_index ws 0 == c) ≡ (current_of (slice_index ws 0) == c)
  current_test c = let small = coded.current in let e : slice_index_or ws 0 0 ≡ current_of (slice_index ws 0) = omega arith in ap (λ x. nat_eq x c) e

  -- a cell is put
  pub put_cell : (i : ℕ) (new : Cell) → i < capacity → CellFits new → view (slice_set ws (cell_at i) (cell_word new)) plans capacity ≡ set_cell (view ws plans capacity) i new
  put_cell i new h f =
      let room = coded.room in
      let here : cell_at i < length ws = omega arith in
      same_shared capacity
      (ap current_of (get_or-set_other ws (cell_at i) 0 (cell_word new) 0 (λ e. omega arith)))
      (λ k. status_apart ws (cell_at i) (cell_word new) k (λ n e. let r = in_range k n in omega arith))
      (λ k. elim (at_upd (cell_in ws) i new k) [
        | inl e ↦ (let same : slice_index_or (slice_set ws (cell_at i) (cell_word new)) (cell_at k) 0 ≡ cell_word new = ap (λ x. slice_index (slice_set ws (cell_at i) (cell_word new)) (cell_at x)) e.0 ∙ get_or-set_same ws (cell_at i) (cell_word new) 0 here in
            ap cell_of same ∙ cell_back new f ∙ sym e.1)
        | inr e ↦ (let ne : cell_at k ≢ cell_at i = λ q. e.0 (omega arith) in cell_apart ws (cell_at i) (cell_word new) k ne ∙ sym e.1)
      ])
      (λ k. refl)

  pub put_cell_coded : (i : ℕ) (new : Cell) → i < capacity → CellFits new → Coded (slice_set ws (cell_at i) (cell_word new)) plans capacity
  put_cell_coded i new h f =
      let room = coded.room in
      let here : cell_at i < length ws = omega arith in
      record {
        some_cell = coded.some_cell;
        room = simp length-set coded.room;
        all_plans = coded.all_plans;
        current = subst (λ w. w ≤ 400) (sym (get_or-set_other ws (cell_at i) 0 (cell_word new) 0 (λ e. omega arith))) coded.current;
        status = λ k n. let w = coded.status k n in (w.0, w.1, get_or-set_other ws (cell_at i) k (cell_word new) 0 (λ e. let r = in_range k n in omega arith) ∙ w.2);
        cell = λ k b. elim (cases_eq k i) [
          | inl e ↦ (new, f, ap (λ x. slice_index (slice_set ws (cell_at i) (cell_word new)) (cell_at x)) e ∙ get_or-set_same ws (cell_at i) (cell_word new) 0 here)
          | inr e ↦ (let w = coded.cell k b in (w.0, w.1, get_or-set_other ws (cell_at i) (cell_at k) (cell_word new) 0 (λ q. e (omega arith)) ∙ w.2))
        ];
        plan = coded.plan;
      }

  -- a status is put
  pub put_status : (c : ℕ) (new : Status) → numbered c ≡ true → StatusFits new → view (slice_set ws c (status_word new)) plans capacity ≡ set_status (view ws plans capacity) c new
  put_status c new n f =
      let room = coded.room in
      let r = in_range c n in
      let here : c < length ws = omega arith in
      same_shared capacity
      (ap current_of (get_or-set_other ws c 0 (status_word new) 0 (λ e. omega arith)))
      (λ k. elim (at_upd (status_in ws) c new k) [
        | inl e ↦ (ap (status_in (slice_set ws c (status_word new))) e.0 ∙ status_is (slice_set ws c (status_word new)) c n ∙ ap status_of (get_or-set_same ws c (status_word new) 0 here) ∙ status_back new f ∙ sym e.1)
        | inr e ↦ (status_apart ws c (status_word new) k (λ _. e.0) ∙ sym e.1)
      ])
      (λ k. cell_apart ws c (status_word new) k (λ e. omega arith))
      (λ k. refl)

  pub put_status_coded : (c : ℕ) (new : Status) → numbered c ≡ true → StatusFits new → Coded (slice_set ws c (status_word new)) plans capacity
  put_status_coded c new n f =
      let room = coded.room in
      let r = in_range c n in
      let here : c < length ws = omega arith in
      record {
        some_cell = coded.some_cell;
        room = simp length-set coded.room;
        all_plans = coded.all_plans;
        current = subst (λ w. w ≤ 400) (sym (get_or-set_other ws c 0 (status_word new) 0 (λ e. omega arith))) coded.current;
        status = λ k m. elim (cases_eq k c) [
          | inl e ↦ (new, f, ap (λ x. slice_index (slice_set ws c (status_word new)) x) e ∙ get_or-set_same ws c (status_word new) 0 here)
          | inr e ↦ (let w = coded.status k m in (w.0, w.1, get_or-set_other ws c k (status_word new) 0 e ∙ w.2))
        ];
        cell = λ k b. let w = coded.cell k b in (w.0, w.1, get_or-set_other ws c (cell_at k) (status_word new) 0 (λ e. omega arith) ∙ w.2);
        plan = coded.plan;
      }

  -- a number is made current, and its plan installed
  pub put_current : (n : ℕ) (p : Plan) → numbered n ≡ true → view (slice_set ws 0 n) (with_plan plans n p) capacity ≡ install (view ws plans capacity) n p
  put_current n p h =
      let room = coded.room in
      let many = coded.all_plans in
      let r = in_range n h in
      let here : 0 < length ws = omega arith in
      let there : n < length plans.by_number = omega arith in
      let small : current_of n ≡ n = omega arith in
      same_shared capacity
      (ap current_of (get_or-set_same ws 0 n 0 here) ∙ small)
      (λ k. status_apart ws 0 n k (λ m e. let q = in_range k m in omega arith))
      (λ k. cell_apart ws 0 n k (λ e. omega arith))
      (λ k. elim (at_upd (plan_of plans) n (Some p) k) [
        | inl e ↦ (ap (plan_of (with_plan plans n p)) e.0 ∙ get_or-set_same plans.by_number n (Some p) _ there ∙ sym e.1)
        | inr e ↦ (get_or-set_other plans.by_number n k (Some p) _ e.0 ∙ sym e.1)
      ])

  pub put_current_coded : (n : ℕ) (p : Plan) → numbered n ≡ true → PlanFits capacity (Some p) → Coded (slice_set ws 0 n) (with_plan plans n p) capacity
  put_current_coded n p h f =
      let room = coded.room in
      let many = coded.all_plans in
      let r = in_range n h in
      let here : 0 < length ws = omega arith in
      let there : n < length plans.by_number = omega arith in
      record {
        some_cell = coded.some_cell;
        room = simp length-set coded.room;
        all_plans = length-set plans.by_number n (Some p) ∙ coded.all_plans;
        current = subst (λ w. w ≤ 400) (sym (get_or-set_same ws 0 n 0 here)) r.1;
        status = λ k m. let w = coded.status k m in (w.0, w.1, get_or-set_other ws 0 k n 0 (λ e. let q = in_range k m in omega arith) ∙ w.2);
        cell = λ k b. let w = coded.cell k b in (w.0, w.1, get_or-set_other ws 0 (cell_at k) n 0 (λ e. omega arith) ∙ w.2);
        plan = λ k. elim (at_upd (plan_of plans) n (Some p) k) [
          | inl e ↦ subst (PlanFits capacity) (sym (ap (plan_of (with_plan plans n p)) e.0 ∙ get_or-set_same plans.by_number n (Some p) _ there)) f
          | inr e ↦ subst (PlanFits capacity) (sym (get_or-set_other plans.by_number n k (Some p) _ e.0)) (coded.plan k)
        ];
      }
