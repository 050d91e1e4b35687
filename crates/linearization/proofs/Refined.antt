-- Every step is one of the plain vector: at most one waiting operation takes effect, as the plain vector takes it, and the
-- stepping thread may end with the answer kept.
use Rattle.std.proofs.Common.{◌≡◌, ℕ, ◌-◌, ◌≤◌, true, ◌≢◌, List, map, length, set, sym, refl, ap, ◌∙◌, inl, inr, arith, Some, None, Option, is_some}
use Rattle.std.proofs.lemmas.List.{length-map, length-set}
use Rattle.std.proofs.lemmas.Bool.{cases_eq}
use Rattle.vector.proofs.Rows.{row_set_same, row_set_other}
use Rattle.vector.proofs.Tasks.{same_meaning}
use Rattle.vector.specs.Calls.{taken, Moves}
use Rattle.vector.specs.Meaning.{waiting, served, row_of, Row as Meant, idle as no_operation}
use Rattle.vector.specs.Plain.{answer}
use Rattle.vector.specs.declared.Op.{Op}
use Rattle.vector.specs.declared.Op.TheVariants.{Pop}
use Rattle.vector.specs.Threads.{task_of}
use Rattle.linearization.specs.Invariant.{Invariant}
use Rattle.linearization.specs.Knowledge.{Puts, op_of, Helping, Knows}
use Rattle.descriptor_steps.specs.Machine.{Res, serving, act, row_after, told}
use Rattle.linearization.specs.Meaning.{items, meant_of, meant, meaning}
use Rattle.descriptor_steps.specs.Shared.{Shared, is_pop}
use Rattle.linearization.specs.Names.{Then, own, to_L1, to_W1, Stage, L1, L2, L3, P1, L4, H1, H2, G1, G2, G3, G4, G5, G5w, G6, G7, O1, R1, R2, R3, W1, W2, W3, goto, Row, idle, open_at, Plan, pushing, popping}
use Rattle.linearization.proofs.Consequences.{Plainly}
use Rattle.linearization.proofs.EveryStep.{outcome}
use Rattle.linearization.proofs.Kept.{row_thread}
use Rattle.linearization.proofs.Outcomes.{Outcome, moves, helps, ends, ends_now}
use Rattle.linearization.proofs.Tests.{no_way}
use Rattle.linearization.proofs.Threads.{is_set, same_rows, at_row, open_thread, row_meant}

-- a thread whose number is installed has the operation of its plan
own_back : (s : Shared) (n : ℕ) (op : Op ℕ) (c : ℕ) (r : Then) → Helping s n op c r → is_some (s.plan n) ≡ true → op ≡ op_of (s.plan n)
own_back s n op c own b p = b.1
own_back s n op c to_L1 b p = let z = b.0 in no_way (cc)
own_back s n op c (to_W1 i x) b p = let z = b.0 in no_way (cc)

pop_op : (q : Option Plan) → is_pop q ≡ true → Pop ≡ op_of q
pop_op None h = no_way (sym h)
pop_op (Some (pushing p x e)) h = no_way (sym h)
pop_op (Some (popping p)) h = refl

pub own_op : (s : Shared) (put : Puts) (n : ℕ) (op : Op ℕ) (x : Stage) → Knows s put n op x → is_some (s.plan n) ≡ true → op ≡ op_of (s.plan n)
own_op s put n op L1 h p = no_way (cc)
own_op s put n op (L2 c) h p = no_way (cc)
own_op s put n op (L3 c a) h p = let z = h.0 in no_way (cc)
own_op s put n op (P1 c m x) h p = let z = h.0 in no_way (cc)
own_op s put n op (L4 c q) h p = let z = h.0 in no_way (cc)
own_op s put n op (H1 c r) h p = own_back s n op c r h.0 p
own_op s put n op (H2 c r) h p = own_back s n op c r h.0 p
own_op s put n op (G1 c r) h p = own_back s n op c r h.0 p
own_op s put n op (G2 c a k j r) h p = own_back s n op c r h.0 p
own_op s put n op (G3 c w r) h p = own_back s n op c r h.0 p
own_op s put n op (G4 c a j r) h p = own_back s n op c r h.0 p
own_op s put n op (G5 c r) h p = own_back s n op c r h.0 p
own_op s put n op (G5w c a j r) h p = own_back s n op c r h.0 p
own_op s put n op (G6 c a j b r) h p = own_back s n op c r h.0 p
own_op s put n op (G7 c b r) h p = own_back s n op c r h.0 p
own_op s put n op O1 h p = h.0 ∙ pop_op (s.plan n) h.1
own_op s put n op (R1 i) h p = let z = h.0 in no_way (cc)
own_op s put n op (R2 i a k j) h p = let z = h.0 in no_way (cc)
own_op s put n op (R3 i a k j) h p = let z = h.0 in no_way (cc)
own_op s put n op (W1 i x) h p = let z = h.0 in no_way (cc)
own_op s put n op (W2 i x a k j) h p = let z = h.0 in no_way (cc)
own_op s put n op (W3 i x w) h p = let z = h.0 in no_way (cc)

-- rows mean the same where each number does
rows_same : (s s' : Shared) → ((k : ℕ) (o : Op ℕ) → meant_of s' k o ≡ meant_of s k o) → (r : Row) → meant s' r ≡ meant s r
rows_same s s' h None = refl
rows_same s s' h (Some w) = h w.number w.op

module _ {s : Shared} {rows : List Row} {given : ℕ} (i : Invariant s rows given) (t n : ℕ) (op : Op ℕ) (x : Stage) (is_row : task_of rows t ≡ open_at n op x) where
  within : (1 ≤ t) × (t ≤ length rows)
  within = open_thread rows t n op x is_row

  many : (s' : Shared) (r : Row) → length (map (meant s') (set rows (t - 1) r)) ≡ length (map (meant s) rows)
  many s' r =
      let a = length-map (set rows (t - 1) r) (meant s') in
      let b = length-set rows (t - 1) r in
      let c = length-map rows (meant s) in
      omega arith

  -- the thread's own row after the step, and those of the others
  own_meant : (s' : Shared) (r : Row) → row_of (map (meant s') (set rows (t - 1) r)) t ≡ meant s' r
  own_meant s' r =
      elim (at_row rows t r within.0 within.1 t) [ inl e ↦ row_meant s' (set rows (t - 1) r) t ∙ ap (meant s') e.1 | inr e ↦ absurd (e.0 refl) ]

  other_meant : (s' : Shared) (r : Row) (v : ℕ) → v ≢ t → row_of (map (meant s') (set rows (t - 1) r)) v ≡ meant s' (task_of rows v)
  other_meant s' r v ne =
      elim (at_row rows t r within.0 within.1 v) [ inl e ↦ absurd (ne e.0) | inr e ↦ row_meant s' (set rows (t - 1) r) v ∙ ap (meant s') e.1 ]

  -- a thread that goes on means what it meant
  goes_on : (s' : Shared) (y : Stage) (v : ℕ) → row_of (map (meant s') (set rows (t - 1) (open_at n op y))) v ≡ meant s' (task_of rows v)
  goes_on s' y v =
      elim (cases_eq v t) [
        | inl e ↦ let a = own_meant s' (open_at n op y) in let b : meant s' (task_of rows t) ≡ meant_of s' n op = ap (meant s') is_row in rw e (a ∙ sym b)
        | inr e ↦ other_meant s' (open_at n op y) v e
      ]

  moves_by : (r : Res) → Outcome s i.put n op r → Moves (meaning s rows given) t (told n r) (meaning r.sh (set rows (t - 1) (row_after n op r.nx)) given)
  moves_by r (moves {s'} {put'} {x = y} ch sa l) =
      (meaning s rows given, refl, same_meaning ch.follows.caps sa.1 same refl)
    where
      same : map (meant s') (set rows (t - 1) (open_at n op y)) ≡ map (meant s) rows
      same = same_rows (map (meant s') (set rows (t - 1) (open_at n op y))) (map (meant s) rows) (many s' (open_at n op y)) (λ v. goes_on s' y v ∙ rows_same s s' sa.0 (task_of rows v) ∙ sym (row_meant s rows v))
  moves_by r (helps {s'} {put'} {x = y} {c} a ch p f w v k tk l) = owner (i.owned c p f)
    where
      owner : (u : ℕ) × (o : Op ℕ) × (z : Stage) × (task_of rows u ≡ open_at c o z) → Moves (meaning s rows given) t (told n (serving s' c (goto y))) (meaning s' (set rows (t - 1) (open_at n op y)) given)
      owner q = (
        taken (meaning s rows given) q.0 q.1 c,
        (q.0, q.1, row_meant s rows q.0 ∙ ap (meant s) q.3 ∙ w q.1, refl),
        same_meaning ch.follows.caps (sym plain_op.1) same refl,
      )
        where
          -- the owner's operation is its plan's
          plain_op : Plainly s q.1 s' a
          plain_op =
              let lo = row_thread i q.0 c q.1 q.2 q.3 in
              let e = own_op s i.put c q.1 q.2 lo.0.here p in
              rw e tk

          others : (b : ℕ) → b ≢ q.0 → (r : Row) → task_of rows b ≡ r → meant s' (task_of rows b) ≡ meant s (task_of rows b)
          others b ne None h = rw h
          others b ne (Some w) h = rw h (k w.number w.op (λ m. ne (i.apart b q.0 c w.op q.1 w.stage q.2 (h ∙ ap (λ d. open_at d w.op w.stage) m) q.3)))

          same : map (meant s') (set rows (t - 1) (open_at n op y)) ≡ set (map (meant s) rows) (q.0 - 1) (served q.1 c (answer s.cap (items s) q.1))
          same =
              let u = open_thread rows q.0 c q.1 q.2 q.3 in
              let m = length-map rows (meant s) in
              let e = plain_op.0 in
              is_set no_operation (map (meant s) rows) (map (meant s') (set rows (t - 1) (open_at n op y))) q.0 (served q.1 c (answer s.cap (items s) q.1)) u.0 (omega arith) (many s' (open_at n op y))
              (goes_on s' y q.0 ∙ ap (meant s') q.3 ∙ v q.1 ∙ ap (served q.1 c) (sym e))
              (λ b ne. goes_on s' y b ∙ others b ne (task_of rows b) refl ∙ sym (row_meant s rows b))
  moves_by r (ends {s'} {put'} {a} ch sa m f) = (
    meaning s rows given,
    refl,
    (op, row_meant s rows t ∙ ap (meant s) is_row ∙ m, same_meaning ch.follows.caps sa.1 same refl),
  )
    where
      same : map (meant s') (set rows (t - 1) idle) ≡ set (map (meant s) rows) (t - 1) no_operation
      same =
          let z = length-map rows (meant s) in
          let h = within.1 in
          is_set no_operation (map (meant s) rows) (map (meant s') (set rows (t - 1) idle)) t no_operation within.0 (omega arith) (many s' idle) (own_meant s' idle)
          (λ v ne. other_meant s' idle v ne ∙ rows_same s s' sa.0 (task_of rows v) ∙ sym (row_meant s rows v))
  moves_by r (ends_now {s'} {put'} {a} ch k u u' tk) = (
    taken (meaning s rows given) t op n,
    (t, op, row_meant s rows t ∙ ap (meant s) is_row ∙ waits, refl),
    (op, row_set_same (map (meant s) rows) t mid within.0 high ∙ ap (served op n) tk.0, same_meaning ch.follows.caps (sym tk.1) same refl),
  )
    where
      waits : meant_of s n op ≡ waiting op n
      waits = cc

      mid : Meant
      mid = served op n (answer s.cap (items s) op)

      high : t ≤ length (map (meant s) rows)
      high = let z = length-map rows (meant s) in let h = within.1 in omega arith

      same : map (meant s') (set rows (t - 1) idle) ≡ set (set (map (meant s) rows) (t - 1) mid) (t - 1) no_operation
      same =
          let z = length-set (map (meant s) rows) (t - 1) mid in
          let h = high in
          is_set no_operation (set (map (meant s) rows) (t - 1) mid) (map (meant s') (set rows (t - 1) idle)) t no_operation within.0 (omega arith) (many s' idle ∙ sym z) (own_meant s' idle)
          (λ v ne. other_meant s' idle v ne ∙ rows_same s s' k (task_of rows v) ∙ sym (row_meant s rows v) ∙ sym (row_set_other (map (meant s) rows) t v mid within.0 ne))

  pub step_moves : Moves (meaning s rows given) t (told n (act s n op x)) (meaning (act s n op x).sh (set rows (t - 1) (row_after n op (act s n op x).nx)) given)
  step_moves = moves_by (act s n op x) (outcome i.facts n op x (row_thread i t n op x is_row).0)
