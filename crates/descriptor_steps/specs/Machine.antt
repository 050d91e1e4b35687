-- The descriptor vector's step table: what one step of a thread does to the shared memory, and where the thread goes on.
-- A step accesses the memory once: it loads the current number, a status or a cell, or compares and swaps one of them.
use Rattle.std.specs.Prelude.{ℕ, zero, suc, ◌-◌, cond, List, Some, None, Option, ◌==◌, nat_lt, slice_set}
use Rattle.vector.specs.declared.Op.{Op}
use Rattle.vector.specs.declared.Op.TheVariants.{Push, Pop, Read, Write, Size}
use Rattle.vector.specs.declared.Answer.TheVariants.{Position, Value, Full, Empty, Out, Done, Length}
use Rattle.vector.specs.declared.Ended.{Ended}
use Rattle.vector.specs.declared.Stepped.{Stepped}
use Rattle.vector.specs.declared.threads.Task.{Task}
use Rattle.descriptor_steps.specs.Shared.{Cell, empty, plain, frozen, Status, pending, done, final, Plan, pushing, popping, Shared, set_cell, set_status, install, is_pending, held, position, pushed, emptied_by, size_after, value_in, same_cell, same_done}
pub use Rattle.descriptor_steps.specs.declared.stage.Then.{Then}
pub use Rattle.descriptor_steps.specs.declared.stage.Then.TheVariants.{Own as own, ToL1 as to_L1, ToW1 as to_W1}
pub use Rattle.descriptor_steps.specs.declared.stage.Stage.{Stage}
pub use Rattle.descriptor_steps.specs.declared.stage.Stage.TheVariants.{L1, L2, L3, P1, L4, H1, H2, G1, G2, G3, G4, G5, G5w, G6, G7, O1, R1, R2, R3, W1, W2, W3}
pub use Rattle.descriptor_steps.specs.declared.stage.Next.{Next}
pub use Rattle.descriptor_steps.specs.declared.stage.Next.TheVariants.{Goto as goto, End as end}

-- A thread's row: what it has open, if anything.
abbrev pub Row : Type 0
Row = Option (Task Stage)

abbrev pub idle : Row
idle = None

abbrev pub open_at : ℕ → Op ℕ → Stage → Row
open_at n op g = Some (record { number = n; op = op; stage = g })

-- What a step gives: the memory, where the thread goes on or what it ends with, and the number of the operation that took effect.
pub record Res : Type 0 where
  pub sh : Shared
  pub nx : Next
  pub served : Option ℕ

abbrev pub quiet : Shared → Next → Res
quiet s x = record { sh = s; nx = x; served = None }

abbrev pub serving : Shared → ℕ → Next → Res
serving s k x = record { sh = s; nx = x; served = Some k }

-- The current operation c is over, and left size m: a push looks at the cell to fill, or finds the vector full; a pop has its plan,
-- or finds the vector empty; a size has its answer.
abbrev pub choose : ℕ → ℕ → ℕ → Op ℕ → Stage
choose capacity c m (Push x) = cond (nat_lt m capacity) (P1 c m x) (L3 c Full)
choose capacity c zero Pop = L3 c Empty
choose capacity c (suc m) Pop = L4 c (popping m)
choose capacity c m Size = L3 c (Length m)
choose capacity c m (Read i) = L1
choose capacity c m (Write i x) = L1

-- Help of operation c begins at H1 for a push, at G1 for a pop.
abbrev pub help : ℕ → Option Plan → Then → Stage
help c None r = L1
help c (Some (pushing p x e)) r = H1 c r
help c (Some (popping p)) r = G1 c r

-- Help is over: a thread that helped its own push ends, its own pop looks up its answer; who helped another goes back.
abbrev pub go_on : Option Plan → Then → Next
go_on (Some (pushing p x e)) own = end (Position p)
go_on (Some (popping p)) own = goto O1
go_on None own = goto L1
go_on p to_L1 = goto L1
go_on p (to_W1 i x) = goto (W1 i x)

-- L: look at the current operation; help it if it is not final; else install the own operation, or answer if nothing changed.
abbrev pub on_L1 : Shared → Op ℕ → ℕ → Stage
on_L1 s op zero = choose s.cap 0 0 op
on_L1 s op (suc c) = L2 (suc c)

abbrev pub on_L2 : Shared → Op ℕ → ℕ → Status → Stage
on_L2 s op c pending = help c (s.plan c) to_L1
on_L2 s op c (done a) = help c (s.plan c) to_L1
on_L2 s op c (final a) = choose s.cap c (size_after (s.plan c)) op

-- P: a push remembers who emptied the cell that it is to fill.
abbrev pub on_P1 : ℕ → ℕ → ℕ → Cell → Stage
on_P1 c m x (empty e) = L4 c (pushing m x e)
on_P1 c m x (plain a) = L1
on_P1 c m x (frozen a k j) = L1

-- G: a pop freezes its cell (G1 to G3), marks itself done with the value (G4), empties the cell (G5, G6) and is final (G7).
abbrev pub on_G1 : ℕ → Then → Cell → Stage
on_G1 c r (empty e) = G5 c r
on_G1 c r (plain a) = G3 c (plain a) r
on_G1 c r (frozen a k j) = cond (k == c) (G4 c a j r) (G2 c a k j r)

abbrev pub on_G2 : ℕ → Option Plan → Cell → Then → Status → Next
on_G2 c p w r pending = go_on p r
on_G2 c p w r (done a) = go_on p r
on_G2 c p w r (final a) = goto (G3 c w r)

abbrev pub on_G5 : ℕ → Option Plan → Then → Status → Next
on_G5 c p r pending = goto (G1 c r)
on_G5 c p r (done a) = goto (G7 c a r)
on_G5 c p r (final a) = go_on p r

abbrev pub on_G5w : ℕ → Option Plan → ℕ → ℕ → Then → Status → Next
on_G5w c p a j r pending = goto (G1 c r)
on_G5w c p a j r (done b) = goto (G6 c a j b r)
on_G5w c p a j r (final b) = go_on p r

-- R: a read of a frozen cell asks the status of who froze it: pending, the value stands; done, it is gone; final, look again.
abbrev pub on_R1 : Shared → ℕ → ℕ → Cell → Res
on_R1 s n i (empty k) = serving s n (end Out)
on_R1 s n i (plain a) = serving s n (end (Value a))
on_R1 s n i (frozen a k j) = quiet s (goto (R2 i a k j))

abbrev pub on_R2 : Shared → ℕ → ℕ → ℕ → ℕ → ℕ → Status → Res
on_R2 s n i a k j pending = serving s n (end (Value a))
on_R2 s n i a k j (done b) = serving s n (end Out)
on_R2 s n i a k j (final b) = quiet s (goto (R3 i a k j))

-- W: a write replaces a plain cell, or one frozen by a final pop; it helps a pending pop first.
abbrev pub on_W1 : Shared → ℕ → ℕ → ℕ → Cell → Res
on_W1 s n i x (empty k) = serving s n (end Out)
on_W1 s n i x (plain a) = quiet s (goto (W3 i x (plain a)))
on_W1 s n i x (frozen a k j) = quiet s (goto (W2 i x a k j))

abbrev pub on_W2 : Shared → ℕ → ℕ → ℕ → ℕ → ℕ → ℕ → Status → Res
on_W2 s n i x a k j pending = quiet s (goto (help k (s.plan k) (to_W1 i x)))
on_W2 s n i x a k j (done b) = serving s n (end Out)
on_W2 s n i x a k j (final b) = quiet s (goto (W3 i x (frozen a k j)))

-- One step of the thread whose operation is op, with number n, at a stage.
abbrev pub act : Shared → ℕ → Op ℕ → Stage → Res
-- L1 loads the current number, L2 its status; L3 answers, and L4 installs, if the current number is still the same.
act s n op L1 = quiet s (goto (on_L1 s op s.cur))
act s n op (L2 c) = quiet s (goto (on_L2 s op c (s.status c)))
act s n op (L3 c a) = cond (s.cur == c) (serving s n (end a)) (quiet s (goto L1))
act s n op (P1 c m x) = quiet s (goto (on_P1 c m x (s.cell m)))
act s n op (L4 c p) = cond (s.cur == c) (quiet (install s n p) (goto (help n (Some p) own))) (quiet s (goto L1))
-- H1 fills the cell of push c, if it is still empty by whom the plan says; H2 makes c final.
act s n op (H1 c r) =
    cond (same_cell (s.cell (position (s.plan c))) (empty (emptied_by (s.plan c))))
    (serving (set_cell s (position (s.plan c)) (plain (pushed (s.plan c)))) c (goto (H2 c r)))
    (quiet s (goto (H2 c r)))
act s n op (H2 c r) = quiet (cond (is_pending (s.status c)) (set_status s c (final 0)) s) (go_on (s.plan c) r)
-- G1 loads the cell of pop c, G2 the status of who froze it; G3 freezes it for c through n; G4 marks c done; G5 loads c's status;
-- G6 empties the cell, if the word seen still stands; G7 makes c final.
act s n op (G1 c r) = quiet s (goto (on_G1 c r (s.cell (position (s.plan c)))))
act s n op (G2 c a k j r) = quiet s (on_G2 c (s.plan c) (frozen a k j) r (s.status k))
act s n op (G3 c w r) =
    cond (same_cell (s.cell (position (s.plan c))) w)
    (quiet (set_cell s (position (s.plan c)) (frozen (value_in w) c n)) (goto (G4 c (value_in w) n r)))
    (quiet s (goto (G1 c r)))
act s n op (G4 c a j r) =
    cond (is_pending (s.status c)) (serving (set_status s c (done a)) c (goto (G6 c a j a r))) (quiet s (goto (G5w c a j r)))
act s n op (G5 c r) = quiet s (on_G5 c (s.plan c) r (s.status c))
act s n op (G5w c a j r) = quiet s (on_G5w c (s.plan c) a j r (s.status c))
act s n op (G6 c a j b r) =
    quiet (cond (same_cell (s.cell (position (s.plan c))) (frozen a c j)) (set_cell s (position (s.plan c)) (empty c)) s) (goto (G7 c b r))
act s n op (G7 c b r) = quiet (cond (same_done (s.status c) b) (set_status s c (final b)) s) (go_on (s.plan c) r)
-- O1 loads the own pop's status, which holds its answer.
act s n op O1 = quiet s (end (Value (held (s.status n))))
-- R1 loads the cell, R2 the status of who froze it; R3 loads the cell again, and starts anew if it changed.
act s n op (R1 i) = on_R1 s n i (s.cell i)
act s n op (R2 i a k j) = on_R2 s n i a k j (s.status k)
act s n op (R3 i a k j) = cond (same_cell (s.cell i) (frozen a k j)) (serving s n (end (Value a))) (on_R1 s n i (s.cell i))
-- W1 loads the cell, W2 the status of who froze it; W3 writes, if the word seen still stands.
act s n op (W1 i x) = on_W1 s n i x (s.cell i)
act s n op (W2 i x a k j) = on_W2 s n i x a k j (s.status k)
act s n op (W3 i x w) = cond (same_cell (s.cell i) w) (serving (set_cell s i (plain x)) n (end Done)) (quiet s (goto (W1 i x)))

-- The stage that an operation begins at.
abbrev pub first : Op ℕ → Stage
first (Push x) = L1
first Pop = L1
first Size = L1
first (Read i) = R1 i
first (Write i x) = W1 i x

-- A thread's row after its step, and what the step tells.
abbrev pub row_after : ℕ → Op ℕ → Next → Row
row_after n op (goto g) = open_at n op g
row_after n op (end a) = idle

abbrev pub ended : ℕ → Next → Option (Ended ℕ)
ended n (goto g) = None
ended n (end a) = Some (record { number = n; answer = a })

abbrev pub told : ℕ → Res → Stepped ℕ
told n r = record { effect = r.served; end = ended n r.nx }

-- The rows where thread t begins op with the next number, and after a step of thread t.
abbrev pub rows_begun : List Row → ℕ → ℕ → Op ℕ → List Row
rows_begun rows given t op = slice_set rows (t - 1) (open_at (suc given) op (first op))

abbrev pub rows_stepped : List Row → ℕ → ℕ → Op ℕ → Res → List Row
rows_stepped rows t n op r = slice_set rows (t - 1) (row_after n op r.nx)
