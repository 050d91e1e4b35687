-- A thread that is alone has between 1 and 48 steps left, and one fewer at least after each of its steps.
use Rattle.std.proofs.Common.{◌≡◌, ℕ, zero, suc, ◌-◌, ◌<◌, ◌≤◌, Bool, true, false, cond, eqb, ◌≢◌, ◌⊎◌, List, [], ◌∷◌, map, set, sym, refl, ap, ◌∙◌, inl, inr, arith, Some, None}
use Rattle.std.proofs.lemmas.Bool.{cases_eq}
use Rattle.vector.specs.Meaning.{waiting, served, Alone, idle as no_operation}
use Rattle.vector.specs.declared.Op.{Op}
use Rattle.vector.specs.Threads.{task_of}
use Rattle.linearization.specs.Invariant.{Invariant}
use Rattle.linearization.specs.Left.{rest, stands, rank, row_rank, left}
use Rattle.descriptor_steps.specs.Machine.{Res, act, row_after}
use Rattle.linearization.specs.Meaning.{took_effect, answer_of, meant}
use Rattle.descriptor_steps.specs.Shared.{frozen, Shared, same_cell}
use Rattle.linearization.specs.Names.{Then, own, to_L1, to_W1, Stage, L1, L2, L3, P1, L4, H1, H2, G1, G2, G3, G4, G5, G5w, G6, G7, O1, R1, R2, R3, W1, W2, W3, Next, goto, end, Row, idle, open_at}
use Rattle.linearization.proofs.Falls.{Falls, Solo, falls}
use Rattle.linearization.proofs.Kept.{row_thread}
use Rattle.linearization.proofs.Tests.{no_way}
use Rattle.linearization.proofs.Threads.{number_in, at_row, open_thread, row_meant}

pick_range : (b : Bool) (x y m : ℕ) → x ≤ m → y ≤ m → cond b x y ≤ m
pick_range true x y m h k = h
pick_range false x y m h k = k

pick_pos : (b : Bool) (x y : ℕ) → 0 < x → 0 < y → 0 < cond b x y
pick_pos true x y h k = h
pick_pos false x y h k = k

rest_range : (r : Then) → (rest r ≤ 12) × (0 < rest r)
rest_range own = (omega arith, omega arith)
rest_range to_L1 = (omega arith, omega arith)
rest_range (to_W1 i x) = (omega arith, omega arith)

rank_range : (s : Shared) (x : Stage) → (rank s x ≤ 21) × (0 < rank s x)
rank_range s L1 = (omega arith, omega arith)
rank_range s (L2 c) = (pick_range (eqb s.cur c) 11 15 21 (omega arith) (omega arith), pick_pos (eqb s.cur c) 11 15 (omega arith) (omega arith))
rank_range s (L3 c a) = (pick_range (eqb s.cur c) 1 13 21 (omega arith) (omega arith), pick_pos (eqb s.cur c) 1 13 (omega arith) (omega arith))
rank_range s (P1 c m x) = (pick_range (eqb s.cur c) 10 14 21 (omega arith) (omega arith), pick_pos (eqb s.cur c) 10 14 (omega arith) (omega arith))
rank_range s (L4 c p) = (pick_range (eqb s.cur c) 9 13 21 (omega arith) (omega arith), pick_pos (eqb s.cur c) 9 13 (omega arith) (omega arith))
rank_range s (H1 c r) = let z = rest_range r in (omega arith, omega arith)
rank_range s (H2 c r) = let z = rest_range r in (omega arith, omega arith)
rank_range s (G1 c r) = let z = rest_range r in (omega arith, omega arith)
rank_range s (G2 c a k j r) = let z = rest_range r in let y = pick_range (stands s c (frozen a k j)) 6 9 9 (omega arith) (omega arith) in (omega arith, omega arith)
rank_range s (G3 c w r) = let z = rest_range r in let y = pick_range (stands s c w) 5 8 9 (omega arith) (omega arith) in (omega arith, omega arith)
rank_range s (G4 c a j r) = let z = rest_range r in (omega arith, omega arith)
rank_range s (G5 c r) = let z = rest_range r in (omega arith, omega arith)
rank_range s (G5w c a j r) = let z = rest_range r in (omega arith, omega arith)
rank_range s (G6 c a j b r) = let z = rest_range r in (omega arith, omega arith)
rank_range s (G7 c b r) = let z = rest_range r in (omega arith, omega arith)
rank_range s O1 = (omega arith, omega arith)
rank_range s (R1 i) = (omega arith, omega arith)
rank_range s (R2 i a k j) = (pick_range (same_cell (s.cell i) (frozen a k j)) 2 4 21 (omega arith) (omega arith), pick_pos (same_cell (s.cell i) (frozen a k j)) 2 4 (omega arith) (omega arith))
rank_range s (R3 i a k j) = (pick_range (same_cell (s.cell i) (frozen a k j)) 1 3 21 (omega arith) (omega arith), pick_pos (same_cell (s.cell i) (frozen a k j)) 1 3 (omega arith) (omega arith))
rank_range s (W1 i x) = (omega arith, omega arith)
rank_range s (W2 i x a k j) = (pick_range (same_cell (s.cell i) (frozen a k j)) 2 5 21 (omega arith) (omega arith), pick_pos (same_cell (s.cell i) (frozen a k j)) 2 5 (omega arith) (omega arith))
rank_range s (W3 i x w) = (pick_range (same_cell (s.cell i) w) 1 4 21 (omega arith) (omega arith), pick_pos (same_cell (s.cell i) w) 1 4 (omega arith) (omega arith))

-- where all rows are idle no step is left; where all but one are, the one's rank is
none_open : (s : Shared) (rows : List Row) → ((u : ℕ) → task_of rows u ≡ idle) → left s rows ≡ 0
none_open s [] h = refl
none_open s (r ∷ rows) h =
    let a : r ≡ idle = h 1 in
    let b = none_open s rows (λ u. later u) in
    rw (a, b)
  where
    later : (u : ℕ) → task_of rows u ≡ idle
    later zero = refl
    later (suc u) = h (suc (suc u))

left_alone : (s : Shared) (rows : List Row) (t : ℕ) → ((u : ℕ) → u ≢ t → task_of rows u ≡ idle) → left s rows ≡ row_rank s (task_of rows t)
left_alone s [] zero h = refl
left_alone s [] (suc t) h = refl
left_alone s (r ∷ rows) zero h = none_open s (r ∷ rows) all
  where
    all : (u : ℕ) → task_of (r ∷ rows) u ≡ idle
    all zero = refl
    all (suc u) = h (suc u) (λ e. absurd (omega (arith, e)))
left_alone s (r ∷ rows) (suc zero) h = let b = none_open s rows later in omega arith
  where
    later : (u : ℕ) → task_of rows u ≡ idle
    later zero = refl
    later (suc u) = h (suc (suc u)) (λ e. absurd (omega (arith, e)))
left_alone s (r ∷ rows) (suc (suc t)) h =
    let a : row_rank s r ≡ 0 = ap (row_rank s) (h 1 (λ e. absurd (omega (arith, e)))) in
    let b = left_alone s rows (suc t) later in
    omega arith
  where
    later : (u : ℕ) → u ≢ suc t → task_of rows u ≡ idle
    later zero ne = refl
    later (suc u) ne = h (suc (suc u)) (λ e. ne (omega (arith, e)))

-- alone in the meaning is alone among the rows
meant_idle : (s : Shared) (r : Row) → meant s r ≡ no_operation → r ≡ idle
meant_idle s None h = refl
meant_idle s (Some w) h = go (took_effect s w.number) h
  where
    go : (b : Bool) → cond b (served w.op w.number (answer_of (s.plan w.number) (s.status w.number))) (waiting w.op w.number) ≡ no_operation → Some w ≡ idle
    go true h = no_way (cc)
    go false h = no_way (cc)

module _ (s : Shared) (rows : List Row) (t : ℕ) (alone : Alone (map (meant s) rows) t) where
  others_idle : (u : ℕ) → u ≢ t → task_of rows u ≡ idle
  others_idle u ne = meant_idle s (task_of rows u) (sym (row_meant s rows u) ∙ alone.1 u ne)

  pub left_range : (0 < left s rows) × (left s rows ≤ 48)
  left_range =
      let e = left_alone s rows t others_idle in
      let z = go (task_of rows t) refl in
      (omega arith, omega arith)
    where
      go : (r : Row) → task_of rows t ≡ r → (0 < row_rank s r) × (row_rank s r ≤ 48)
      go None h =
          let a = alone.0 in
          let b = row_meant s rows t in
          let c = ap (meant s) h in
          no_way (cc)
      go (Some w) h = let z = rank_range s w.stage in (omega arith, omega arith)

-- an installed operation that is not final is open, so it is the lone thread's own
lone : {s : Shared} {rows : List Row} {given : ℕ} → Invariant s rows given → (t n : ℕ) (op : Op ℕ) (g : Stage) → task_of rows t ≡ open_at n op g → ((u : ℕ) → u ≢ t → task_of rows u ≡ idle) → Solo s n
lone {s} {rows} i t n op g e only k p f =
    let z = i.owned k p f in
    let q = z.3 in
    elim (cases_eq z.0 t) [ inl h ↦ ap number_in (sym q ∙ ap (task_of rows) h ∙ e) | inr h ↦ let y = only z.0 h in no_way (cc) ]

pub step_falls : {s : Shared} {rows : List Row} {given : ℕ} → Invariant s rows given → (t n : ℕ) (op : Op ℕ) (g : Stage) → task_of rows t ≡ open_at n op g → Alone (map (meant s) rows) t → left (act s n op g).sh (set rows (t - 1) (row_after n op (act s n op g).nx)) < left s rows
step_falls {s} {rows} i t n op g e alone =
    let a = left_alone s rows t only in
    let b = left_alone (act s n op g).sh (set rows (t - 1) (row_after n op (act s n op g).nx)) t later in
    let c = own_row in
    let d = falls i.facts n op (lone i t n op g e only) g (row_thread i t n op g e).0 in
    let h = next_rank (act s n op g) (rank s g) d in
    let k : row_rank s (task_of rows t) ≡ rank s g = ap (row_rank s) e in
    let m = ap (row_rank (act s n op g).sh) c in
    omega arith
  where
    only : (u : ℕ) → u ≢ t → task_of rows u ≡ idle
    only = others_idle s rows t alone

    at_next : (u : ℕ) → ((u ≡ t) × (task_of (set rows (t - 1) (row_after n op (act s n op g).nx)) u ≡ row_after n op (act s n op g).nx)) ⊎ ((u ≢ t) × (task_of (set rows (t - 1) (row_after n op (act s n op g).nx)) u ≡ task_of rows u))
    at_next = let w = open_thread rows t n op g e in at_row rows t (row_after n op (act s n op g).nx) w.0 w.1

    own_row : task_of (set rows (t - 1) (row_after n op (act s n op g).nx)) t ≡ row_after n op (act s n op g).nx
    own_row = elim (at_next t) [ inl h ↦ h.1 | inr h ↦ absurd (h.0 refl) ]

    later : (u : ℕ) → u ≢ t → task_of (set rows (t - 1) (row_after n op (act s n op g).nx)) u ≡ idle
    later u ne = elim (at_next u) [ inl h ↦ absurd (ne h.0) | inr h ↦ h.1 ∙ only u ne ]

    next_rank : (r : Res) (m : ℕ) → Falls m r → row_rank r.sh (row_after n op r.nx) < m
    next_rank r m h = go r.nx refl
      where
        go : (y : Next) → r.nx ≡ y → row_rank r.sh (row_after n op y) < m
        go (goto y) q = rw q at h
        go (end a) q = rw q at h
