-- Runs of the step table, played step by step: what each step tells.
use Rattle.std.specs.Prelude.{◌≡◌, ℕ, zero, suc, List, [], ◌∷◌, ◌++◌, replicate, Some, None}
use Rattle.vector.specs.declared.Op.{Op}
use Rattle.vector.specs.declared.Op.TheVariants.{Push, Pop, Read, Size}
use Rattle.vector.specs.declared.Answer.{Answer}
use Rattle.vector.specs.declared.Answer.TheVariants.{Position, Value, Full, Empty, Out, Length}
use Rattle.vector.specs.declared.Stepped.{Stepped}
use Rattle.descriptor_steps.specs.Shared.{frozen, Shared, fresh}
use Rattle.vector.specs.Threads.{task_of}
use Rattle.descriptor_steps.specs.Machine.{Row, idle, Res, act, told, rows_begun, rows_stepped}

-- the shared memory, the rows, and how many numbers were given
pub record State : Type 0 where
  pub sh : Shared
  pub rows : List Row
  pub given : ℕ

abbrev pub start : ℕ → ℕ → State
start capacity threads = record { sh = fresh capacity; rows = replicate threads idle; given = 0 }

-- a thread begins an operation, or takes some steps
pub data Call : Type 0 where
  begins : ℕ → Op ℕ → Call
  steps : ℕ → ℕ → Call

abbrev pub begin : State → ℕ → Op ℕ → State
begin x t op = record { sh = x.sh; rows = rows_begun x.rows x.given t op; given = suc x.given }

-- One step of a thread by its row, and so many steps, with what each of them tells. An idle thread takes none.
pub record Played : Type 0 where
  pub state : State
  pub log : List (Stepped ℕ)

abbrev pub step : State → ℕ → Row → Played
step x t None = record { state = x; log = [] }
step x t (Some w) =
    let r : Res = act x.sh w.number w.op w.stage in
    record { state = record { sh = r.sh; rows = rows_stepped x.rows t w.number w.op r; given = x.given }; log = told w.number r ∷ [] }

abbrev pub then : Played → Played → Played
then p q = record { state = q.state; log = p.log ++ q.log }

abbrev pub take_steps : ℕ → State → ℕ → Played
take_steps zero x t = record { state = x; log = [] }
take_steps (suc k) x t = let p : Played = step x t (task_of x.rows t) in then p (take_steps k p.state t)

abbrev pub play : List Call → State → Played
play [] x = record { state = x; log = [] }
play (begins t op ∷ calls) x = play calls (begin x t op)
play (steps t k ∷ calls) x = let p : Played = take_steps k x t in then p (play calls p.state)

-- What a step tells: nothing, an effect, an end, or both of one operation.
abbrev pub still : Stepped ℕ
still = record { effect = None; end = None }

abbrev pub effect : ℕ → Stepped ℕ
effect n = record { effect = Some n; end = None }

abbrev pub finish : ℕ → Answer ℕ → Stepped ℕ
finish n a = record { effect = None; end = Some (record { number = n; answer = a }) }

abbrev pub at_once : ℕ → Answer ℕ → Stepped ℕ
at_once n a = record { effect = Some n; end = Some (record { number = n; answer = a }) }

-- a push of 17 onto a fresh vector, to its end
abbrev pub first_push : List Call
first_push = begins 1 (Push 17) ∷ steps 1 5 ∷ []

abbrev pub push_told : List (Stepped ℕ)
push_told = still ∷ still ∷ still ∷ effect 1 ∷ finish 1 (Position 0) ∷ []

-- Thread 1 is about to freeze the cell for its pop, when thread 2 helps that pop to its end, finds the vector empty, and pushes 5
-- again; then thread 1 freezes the new value, too late, and is answered the old one.
abbrev pub late_freeze : List Call
late_freeze =
    begins 1 (Push 5) ∷ steps 1 5 ∷ begins 1 Pop ∷ steps 1 4 ∷ begins 2 Pop ∷ steps 2 10 ∷ begins 2 (Push 5) ∷ steps 2 6 ∷ steps 1 4 ∷ []

pub record PlayedRuns : Type 0 where
  -- a push on a fresh vector takes 5 steps, its effect is at the 4th
  pub fresh_push : (play first_push (start 2 1)).log ≡ push_told
  -- a pop of a fresh vector takes 2
  pub fresh_pop : (play (begins 1 Pop ∷ steps 1 2 ∷ []) (start 2 1)).log ≡ still ∷ at_once 1 Empty ∷ []
  -- a pop after the push takes 9, its effect is at the 6th
  pub push_pop : (play (first_push ++ begins 1 Pop ∷ steps 1 9 ∷ []) (start 2 1)).log
      ≡ push_told ++ still ∷ still ∷ still ∷ still ∷ still ∷ effect 2 ∷ still ∷ still ∷ finish 2 (Value 17) ∷ []
  -- a push on a full vector takes 3
  pub push_full : (play (first_push ++ begins 1 (Push 3) ∷ steps 1 3 ∷ []) (start 1 1)).log ≡ push_told ++ still ∷ still ∷ at_once 2 Full ∷ []
  -- thread 1 is parked with its push installed: a read finds nothing there, a size completes the push first, and thread 1 ends it
  pub parked_push : (play (begins 1 (Push 17) ∷ steps 1 3 ∷ begins 2 (Read 0) ∷ steps 2 1 ∷ begins 2 Size ∷ steps 2 7 ∷ steps 1 2 ∷ []) (start 2 2)).log
      ≡ still ∷ still ∷ still
      ∷ at_once 2 Out
      ∷ still ∷ still ∷ effect 1 ∷ still ∷ still ∷ still ∷ at_once 3 (Length 1)
      ∷ still ∷ finish 1 (Position 0) ∷ []
  -- the late freeze does not take the new value: the cell's word, frozen by pop 2 through 2, means plain 5
  pub late_cell : (play late_freeze (start 2 2)).state.sh.cell 0 ≡ frozen 5 2 2
  -- a read then takes 3 steps and answers 5
  pub late_read : (play (late_freeze ++ begins 2 (Read 0) ∷ steps 2 3 ∷ []) (start 2 2)).log
      ≡ still ∷ still ∷ still ∷ effect 1 ∷ finish 1 (Position 0)
      ∷ still ∷ still ∷ still ∷ still
      ∷ still ∷ still ∷ still ∷ still ∷ effect 2 ∷ still ∷ still ∷ still ∷ still ∷ at_once 3 Empty
      ∷ still ∷ still ∷ still ∷ still ∷ effect 4 ∷ finish 4 (Position 0)
      ∷ still ∷ still ∷ still ∷ finish 2 (Value 5)
      ∷ still ∷ still ∷ at_once 5 (Value 5) ∷ []
