-- What the direct container shows, by its parts.
use Rattle.std.specs.Prelude.{ℕ, List, [], map, is_some, Some, None, count_by, Option}
use Rattle.vector.specs.Meaning.{Row, idle, waiting, Shown}
use Rattle.vector.specs.Threads.{rows_of}
use Rattle.vector.specs.declared.Answer.{Answer}
use Rattle.vector.specs.declared.Stepped.{Stepped}
use Rattle.vector.specs.declared.threads.Task.{Task}
use Rattle.vector.specs.declared.threads.Threads.{Threads}

-- an open operation, of whose one stage nothing is said
abbrev pub Own : Type 0
Own = Task (Unit {0})

-- a thread has no operation, or one that waits; none is ever served and not ended
abbrev pub row : Option Own → Row
row None = idle
row (Some w) = waiting w.op w.number

-- one step is left for each operation that waits, so never more than 8; no words are needed, and there are none
abbrev pub shown : Threads (Unit {0}) → List ℕ → Shown
shown T items = record {
  meaning = record { capacity = T.capacity; items = items; rows = map row (rows_of T); given = T.given };
  left = count_by is_some (rows_of T);
  make = record { bound = 8; numbers = 400; needs = λ _. 0 };
  words = [];
}

-- what a step tells: the effect of an operation, and its end with an answer
abbrev pub whole : ℕ → Answer ℕ → Stepped ℕ
whole number answer = record { effect = Some number; end = Some (record { number = number; answer = answer }) }
