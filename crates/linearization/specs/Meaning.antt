-- What a descriptor vector means: which installed operations have taken effect, the plain vector, and each thread's row.
use Rattle.std.specs.Prelude.{ℕ, zero, suc, Bool, true, false, cond, not, ◌&&◌, List, [], ◌∷◌, ◌++◌, map, Some, None, Option}
use Rattle.vector.specs.declared.Op.{Op}
use Rattle.vector.specs.declared.Answer.{Answer}
use Rattle.vector.specs.declared.Answer.TheVariants.{Position, Value, Out}
use Rattle.vector.specs.Meaning.{Row as Meant, idle as no_operation, waiting, served, Meaning}
use Rattle.descriptor_steps.specs.Shared.{Cell, empty, Status, Shared, is_pending, held, position, value_in, same_cell}
use Rattle.linearization.specs.Names.{Plan, pushing, popping, Row}

-- An installed push has taken effect once it is not pending or its cell is no more as it found it; a pop, once it is not pending.
abbrev pub effected : Option Plan → Status → Cell → Bool
effected None v w = false
effected (Some (pushing p x e)) v w = not (is_pending v && same_cell w (empty e))
effected (Some (popping p)) v w = not (is_pending v)

abbrev pub took_effect : Shared → ℕ → Bool
took_effect s k = effected (s.plan k) (s.status k) (s.cell (position (s.plan k)))

-- what an operation that took effect is answered
abbrev pub answer_of : Option Plan → Status → Answer ℕ
answer_of None v = Out
answer_of (Some (pushing p x e)) v = Position p
answer_of (Some (popping p)) v = Value (held v)

-- The size is what the current operation makes it, if it has taken effect, or what it found.
abbrev pub sized : Option Plan → Bool → ℕ
sized None b = 0
sized (Some (pushing p x e)) true = suc p
sized (Some (pushing p x e)) false = p
sized (Some (popping p)) true = p
sized (Some (popping p)) false = suc p

abbrev pub size_now : Shared → ℕ
size_now s = sized (s.plan s.cur) (took_effect s s.cur)

-- The plain vector: the values of the cells below the size.
abbrev pub values : (ℕ → Cell) → ℕ → List ℕ
values f zero = []
values f (suc n) = values f n ++ value_in (f n) ∷ []

abbrev pub items : Shared → List ℕ
items s = values s.cell (size_now s)

-- The operation with number n waits until it has taken effect.
abbrev pub meant_of : Shared → ℕ → Op ℕ → Meant
meant_of s n op = cond (took_effect s n) (served op n (answer_of (s.plan n) (s.status n))) (waiting op n)

abbrev pub meant : Shared → Row → Meant
meant s None = no_operation
meant s (Some w) = meant_of s w.number w.op

abbrev pub meaning : Shared → List Row → ℕ → Meaning
meaning s rows given = record { capacity = s.cap; items = items s; rows = map (meant s) rows; given = given }
