-- What the calls of a bench do to it: to its container, to its threads and to its log.
-- `Container C` is what containers of the type C say of themselves: `shows`, and their own tables `setting`, `beginning` and `stepping`.
-- `Kind K T` is how items of the type T turn into values and back: `value` and `item`.
use Rattle.std.specs.Prelude.{◌≡◌, ℕ, ◌*◌, ◌≤◌, List, [], ◌∷◌, ◌++◌, take, Some, None, Ok, Err, vec_items, vec_capacity, Option, Result}
use Rattle.refusal.specs.declared.Refusal.{Refusal}
use Rattle.items.specs.declared.Kind.{Ghosts as Kind}
use Rattle.vector.specs.Plain.{map_op, map_answer}
use Rattle.vector.specs.Calls.{SetsUp, Begins, Steps}
use Rattle.vector.specs.Refusals.{Judged, outside}
use Rattle.vector.specs.declared.Op.{Op}
use Rattle.vector.specs.declared.Ended.{Ended}
use Rattle.vector.specs.declared.Stepped.{Stepped}
use Rattle.vector.specs.declared.container.Container.{Ghosts as Container}
use Rattle.stepping.specs.Log.{begin_records, step_records, told}
use Rattle.stepping.specs.declared.Open.{Open}
use Rattle.stepping.specs.declared.Record.{Record}
use Rattle.stepping.specs.declared.Call.{Call}
use Rattle.stepping.specs.declared.Call.TheVariants.{SetUp, Begin, Step, Look}
use Rattle.stepping.specs.declared.Event.{Event}
use Rattle.stepping.specs.declared.Event.TheVariants.{SetUp as SetUpCall, Begin as BeginCall, Step as StepCall, Look as LookCall}
use Rattle.stepping.specs.declared.running.Running.{Running}

-- the call of an event
abbrev pub call_of : {T : Type 0} → Event T → Call T
call_of (SetUpCall c n r) = SetUp c n
call_of (BeginCall t op r) = Begin t op
call_of (StepCall t r) = Step t
call_of (LookCall t r) = Look t

-- what a step did, with items for values
abbrev pub typed_end : {V W : Type 0} → (V → W) → Option (Ended V) → Option (Ended W)
typed_end f None = None
typed_end f (Some e) = Some (record { number = e.number; answer = map_answer f e.answer })

abbrev pub typed : {V W : Type 0} → (V → W) → Stepped V → Stepped W
typed f s = record { effect = s.effect; end = typed_end f s.end }

-- the result of a step on values, of which P holds, came back with items for values
abbrev pub Turned : {T : Type 0} → (ℕ → T) → Result (Stepped T) Refusal → (Result (Stepped ℕ) Refusal → Type 0) → Type 0
Turned item (Ok x) P = (y : Stepped ℕ) × (x ≡ typed item y) × P (Ok y)
Turned item (Err f) P = P (Err f)

-- the threads that a set-up names, if it is granted
abbrev pub named : {X : Type 0} → Result X Refusal → ℕ → ℕ → ℕ
named (Ok x) threads before = threads
named (Err f) threads before = before

-- a look of a thread from 1 to threads tells what is read off the log; any other is refused
abbrev pub Looks : {T : Type 0} → ℕ → List (Record T) → ℕ → Result (Option Open) Refusal → Type 0
Looks threads log t r = Judged ((outside 1 threads t, 20) ∷ []) r (Unit {0}) (λ o. o ≡ told t log)

module _ {C K T : Type 0} where
  -- the log has these records more, as far as it has room, and its room is as it was
  -- (in every run from a bench just made it has: the law of runs says that its log has all records)
  pub record Logs (b : Running C K T) (more : List (Record T)) (b' : Running C K T) : Type 0 where
    pub logged : vec_items b'.log ≡ take (vec_capacity b.log) (vec_items b.log ++ more)
    pub room : vec_capacity b'.log ≡ vec_capacity b.log

  module _ (c : Container C) where
    -- a bench just made: over the given container, with no threads, an empty log, and room for three records of every number
    pub record Makes (container : C) (b : Running C K T) : Type 0 where
      pub over : b.container ≡ container
      pub no_threads : b.threads ≡ 0
      pub empty : vec_items b.log ≡ []
      pub room : 3 * (c.shows container).make.numbers ≤ vec_capacity b.log

    -- a set-up: the container's, and if that is granted the bench has the threads that it names
    pub record BenchSetsUp (b : Running C K T) (capacity threads : ℕ) (r : Result (Unit {0}) Refusal) (b' : Running C K T) : Type 0 where
      pub means : SetsUp (c.shows b.container) capacity threads r (c.shows b'.container)
      pub table : c.setting b.container capacity threads r b'.container
      pub threads_now : b'.threads ≡ named r threads b.threads
      pub log_same : b'.log ≡ b.log

    module _ (k : Kind K T) where
      -- a begin: the container's with values for items, which come back; a granted one is recorded
      pub record BenchBegins (b : Running C K T) (t : ℕ) (op : Op T) (r : Result ℕ Refusal) (b' : Running C K T) : Type 0 where
        pub means : Begins (c.shows b.container) t (map_op k.value op) r (c.shows b'.container)
        pub table : c.beginning b.container t (map_op k.value op) r b'.container
        pub back : map_op k.item (map_op k.value op) ≡ op
        pub threads_same : b'.threads ≡ b.threads
        pub logs : Logs b (begin_records t op r) b'

      -- a step: the container's, with items for values in what it gave; its effect and its end are recorded
      pub record BenchSteps (b : Running C K T) (t : ℕ) (r : Result (Stepped T) Refusal) (b' : Running C K T) : Type 0 where
        pub turned : Turned k.item r (λ y. Steps (c.shows b.container) t y (c.shows b'.container) × c.stepping b.container t y b'.container)
        pub threads_same : b'.threads ≡ b.threads
        pub logs : Logs b (step_records r) b'

      -- one call of a bench, with what it gave
      abbrev pub Calls : Running C K T → Event T → Running C K T → Type 0
      Calls b (SetUpCall n m r) b' = BenchSetsUp b n m r b'
      Calls b (BeginCall t op r) b' = BenchBegins b t op r b'
      Calls b (StepCall t r) b' = BenchSteps b t r b'
      Calls b (LookCall t r) b' = Looks b.threads (vec_items b.log) t r × (b' ≡ b)
