-- The step table of a vector under a lock: the one load or swap of each stage K1 to K6, and what follows from what it finds.
use Rattle.std.specs.Prelude.{ℕ, ◌+◌, ◌-◌, ◌*◌, ◌%◌, ◌^◌, min, cond, Some, None, ◌==◌, nat_lt}
use Rattle.memory.specs.declared.Swapped.{Swapped}
use Rattle.memory.specs.declared.Swapped.TheVariants.{Yes, No}
use Rattle.vector.specs.declared.Op.{Op}
use Rattle.vector.specs.declared.Op.TheVariants.{Push, Pop, Read, Write, Size}
use Rattle.vector.specs.declared.Answer.{Answer}
use Rattle.vector.specs.declared.Answer.TheVariants.{Position, Value, Full, Empty, Out, Done, Length}
use Rattle.vector.specs.declared.threads.Task.{Task}
use Rattle.lock_vector.specs.declared.stages.Loading.{Loading}
use Rattle.lock_vector.specs.declared.stages.Loading.TheVariants.{K2, K3}
use Rattle.lock_vector.specs.declared.stages.Swapping.{Swapping}
use Rattle.lock_vector.specs.declared.stages.Swapping.TheVariants.{K1, K4, K5, K6}
use Rattle.lock_vector.specs.declared.stages.Stage.{Stage}
use Rattle.lock_vector.specs.declared.stages.Stage.TheVariants.{Load, Swap}
use Rattle.lock_vector.specs.declared.stages.Moved.{Moved}

-- THE WORDS. Location 0 is the lock (0 is free), location 1 the length, and here is cell i
abbrev pub cell : ℕ → ℕ
cell i = 401 + i

-- a cell with value a holds form 1 and a
abbrev pub plain : ℕ → ℕ
plain a = 1 * 2 ^ 50 + a

-- the value of a cell's word is its lowest 32 bits
abbrev pub value_of : ℕ → ℕ
value_of w = w % 2 ^ 32

-- THE ACCESS OF EACH STAGE. K2 loads the length, K3 the cell at a position
abbrev pub load_at : Loading → ℕ
load_at K2 = 1
load_at (K3 i) = cell i

-- K1 and K6 swap the lock, K4 a cell, K5 the length
abbrev pub swap_at : Swapping → ℕ
swap_at K1 = 0
swap_at (K4 i seen a) = cell i
swap_at (K5 from to answer) = 1
swap_at (K6 answer) = 0

-- the old word of a swap, of the operation with this number
abbrev pub swap_old : ℕ → Swapping → ℕ
swap_old number K1 = 0
swap_old number (K4 i seen a) = seen
swap_old number (K5 from to answer) = from
swap_old number (K6 answer) = number

-- the new word of a swap
abbrev pub swap_new : ℕ → Swapping → ℕ
swap_new number K1 = number
swap_new number (K4 i seen a) = plain a
swap_new number (K5 from to answer) = to
swap_new number (K6 answer) = 0

-- WHAT FOLLOWS, for the open operation o. It goes on to a stage, and the step tells nothing
abbrev pub quiet : Task Stage → Stage → Moved
quiet o next = record { row = Some (record { number = o.number; op = o.op; stage = next }); stepped = record { effect = None; end = None } }

-- it takes effect with an answer, and has the lock left to free
abbrev pub effected : Task Stage → Answer ℕ → Moved
effected o a =
    record { row = Some (record { number = o.number; op = o.op; stage = Swap (K6 a) }); stepped = record { effect = Some o.number; end = None } }

-- it ends with the answer kept
abbrev pub finished : Task Stage → Answer ℕ → Moved
finished o a = record { row = None; stepped = record { effect = None; end = Some (record { number = o.number; answer = a }) } }

-- K2 has loaded length n: full, empty, out and size take effect; else the cell concerned is next
abbrev pub chosen : ℕ → Task Stage → ℕ → Op ℕ → Moved
chosen capacity o n (Push a) = cond (nat_lt n capacity) (quiet o (Load (K3 n))) (effected o Full)
chosen capacity o n Pop = cond (n == 0) (effected o Empty) (quiet o (Load (K3 (n - 1))))
chosen capacity o n (Read i) = cond (nat_lt i n) (quiet o (Load (K3 i))) (effected o Out)
chosen capacity o n (Write i a) = cond (nat_lt i n) (quiet o (Load (K3 i))) (effected o Out)
chosen capacity o n Size = effected o (Length n)

-- K3 has loaded the word w of cell i: a read takes effect; size never comes here
abbrev pub found : Task Stage → ℕ → ℕ → Op ℕ → Moved
found o i w (Push a) = quiet o (Swap (K4 i w a))
found o i w Pop = quiet o (Swap (K5 (i + 1) i (Value (value_of w))))
found o i w (Read j) = effected o (Value (value_of w))
found o i w (Write j a) = quiet o (Swap (K4 i w a))
found o i w Size = effected o (Value (value_of w))

-- K4 has swapped cell i: a push goes on to the length, a write takes effect; no other comes here
abbrev pub put : Task Stage → ℕ → Op ℕ → Moved
put o i (Push a) = quiet o (Swap (K5 i (i + 1) (Position i)))
put o i Pop = effected o Done
put o i (Read j) = effected o Done
put o i (Write j a) = effected o Done
put o i Size = effected o Done

-- after a load that found w; a length above the capacity, which is never there, would count as the capacity
abbrev pub loaded : ℕ → Task Stage → Loading → ℕ → Moved
loaded capacity o K2 w = chosen capacity o (min w capacity) o.op
loaded capacity o (K3 i) w = found o i w o.op

-- after a swap that was answered: K1 is done again until yes, and the others, which have the lock, are always answered yes
abbrev pub swapped : Task Stage → Swapping → Swapped → Moved
swapped o K1 Yes = quiet o (Load K2)
swapped o K1 No = quiet o (Swap K1)
swapped o (K4 i seen a) answered = put o i o.op
swapped o (K5 from to answer) answered = effected o answer
swapped o (K6 answer) answered = finished o answer
