-- The plain vector: a list with a capacity. What it answers to an operation, and what it then holds.
use Rattle.std.specs.Prelude.{ℕ, ◌^◌, ◌<◌, Bool, true, cond, List, [], ◌∷◌, ◌++◌, length, Some, None, Option, nat_lt, slice_set}
use Rattle.std.specs.List.{slice_get}
use Rattle.vector.specs.declared.Op.{Op}
use Rattle.vector.specs.declared.Op.TheVariants.{Push, Pop, Read, Write, Size}
use Rattle.vector.specs.declared.Answer.{Answer}
use Rattle.vector.specs.declared.Answer.TheVariants.{Position, Value, Full, Empty, Out, Done, Length}

-- the last of a list that begins with v, and the list without it
abbrev pub last : {V : Type 0} → V → List V → V
last v [] = v
last v (x ∷ xs) = last x xs

abbrev pub but_last : {V : Type 0} → V → List V → List V
but_last v [] = []
but_last v (x ∷ xs) = v ∷ but_last x xs

-- pop removes and answers the last value, or answers empty
abbrev pub popped : {V : Type 0} → List V → Answer V
popped [] = Empty
popped (x ∷ xs) = Value (last x xs)

abbrev pub after_pop : {V : Type 0} → List V → List V
after_pop [] = []
after_pop (x ∷ xs) = but_last x xs

-- the value at an index, or out
abbrev pub value_or_out : {V : Type 0} → Option V → Answer V
value_or_out (Some v) = Value v
value_or_out None = Out

abbrev pub answer : {V : Type 0} → ℕ → List V → Op V → Answer V
answer capacity xs (Push v) = cond (nat_lt (length xs) capacity) (Position (length xs)) Full
answer capacity xs Pop = popped xs
answer capacity xs (Read i) = value_or_out (slice_get xs i)
answer capacity xs (Write i v) = cond (nat_lt i (length xs)) Done Out
answer capacity xs Size = Length (length xs)

abbrev pub after : {V : Type 0} → ℕ → List V → Op V → List V
after capacity xs (Push v) = cond (nat_lt (length xs) capacity) (xs ++ v ∷ []) xs
after capacity xs Pop = after_pop xs
after capacity xs (Read i) = xs
after capacity xs (Write i v) = cond (nat_lt i (length xs)) (slice_set xs i v) xs
after capacity xs Size = xs

-- the operation names no index, or one below the capacity
abbrev pub index_fits : {V : Type 0} → ℕ → Op V → Bool
index_fits capacity (Push v) = true
index_fits capacity Pop = true
index_fits capacity (Read i) = nat_lt i capacity
index_fits capacity (Write i v) = nat_lt i capacity
index_fits capacity Size = true

-- what an operation puts in is a 32-bit value
abbrev pub Small : Op ℕ → Type 0
Small (Push v) = v < 2 ^ 32
Small Pop = Unit {0}
Small (Read i) = Unit {0}
Small (Write i v) = v < 2 ^ 32
Small Size = Unit {0}

-- an operation and an answer with other values in them
abbrev pub map_op : {V W : Type 0} → (V → W) → Op V → Op W
map_op f (Push v) = Push (f v)
map_op f Pop = Pop
map_op f (Read i) = Read i
map_op f (Write i v) = Write i (f v)
map_op f Size = Size

abbrev pub map_answer : {V W : Type 0} → (V → W) → Answer V → Answer W
map_answer f (Position n) = Position n
map_answer f (Value v) = Value (f v)
map_answer f Full = Full
map_answer f Empty = Empty
map_answer f Out = Out
map_answer f Done = Done
map_answer f (Length n) = Length n
