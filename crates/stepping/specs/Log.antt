-- The log of a bench: the records of each call, and what a log says of an operation and of a thread.
use Rattle.std.specs.Prelude.{◌≡◌, ℕ, true, false, cond, ◌⊎◌, List, [], ◌∷◌, ◌++◌, Some, None, Ok, Err, fold, filter, Option, Result, ◌==◌, nat_eq}
use Rattle.std.specs.List.{flat_map}
use Rattle.refusal.specs.declared.Refusal.{Refusal}
use Rattle.vector.specs.declared.Op.{Op}
use Rattle.vector.specs.declared.Answer.{Answer}
use Rattle.vector.specs.declared.Ended.{Ended}
use Rattle.vector.specs.declared.Stepped.{Stepped}
use Rattle.stepping.specs.declared.Open.{Open}
use Rattle.stepping.specs.declared.Record.{Record}
use Rattle.stepping.specs.declared.Record.TheVariants.{Begin, Effect, End}
use Rattle.stepping.specs.declared.Event.{Event}
use Rattle.stepping.specs.declared.Event.TheVariants.{SetUp as SetUpCall, Begin as BeginCall, Step as StepCall, Look as LookCall}

-- One record for each granted begin, each effect and each end; an effect precedes an end of the same step.
abbrev pub effect_record : {T : Type 0} → Option ℕ → List (Record T)
effect_record None = []
effect_record (Some n) = Effect n ∷ []

abbrev pub end_record : {T : Type 0} → Option (Ended T) → List (Record T)
end_record None = []
end_record (Some e) = End e.number e.answer ∷ []

abbrev pub step_records : {T : Type 0} → Result (Stepped T) Refusal → List (Record T)
step_records (Ok s) = effect_record s.effect ++ end_record s.end
step_records (Err f) = []

abbrev pub begin_records : {T : Type 0} → ℕ → Op T → Result ℕ Refusal → List (Record T)
begin_records t op (Ok n) = Begin n t op ∷ []
begin_records t op (Err f) = []

abbrev pub records : {T : Type 0} → Event T → List (Record T)
records (SetUpCall c n r) = []
records (BeginCall t op r) = begin_records t op r
records (StepCall t r) = step_records r
records (LookCall t r) = []

-- the log of a run
abbrev pub recorded : {T : Type 0} → List (Event T) → List (Record T)
recorded es = flat_map records es

-- The begins of a log, its effects and its ends, in their order.
abbrev pub begin_of : {T : Type 0} → Record T → List (ℕ × ℕ × Op T)
begin_of (Begin n t op) = (n, t, op) ∷ []
begin_of (Effect n) = []
begin_of (End n a) = []

abbrev pub begins : {T : Type 0} → List (Record T) → List (ℕ × ℕ × Op T)
begins log = flat_map begin_of log

abbrev pub effect_of : {T : Type 0} → Record T → List ℕ
effect_of (Begin n t op) = []
effect_of (Effect n) = n ∷ []
effect_of (End n a) = []

abbrev pub effects : {T : Type 0} → List (Record T) → List ℕ
effects log = flat_map effect_of log

abbrev pub end_of : {T : Type 0} → Record T → List (ℕ × Answer T)
end_of (Begin n t op) = []
end_of (Effect n) = []
end_of (End n a) = (n, a) ∷ []

abbrev pub ends : {T : Type 0} → List (Record T) → List (ℕ × Answer T)
ends log = flat_map end_of log

-- x stands in the list
abbrev pub Among : {X : Type 0} → X → List X → Type 0
Among x [] = ⊥
Among x (y ∷ ys) = (x ≡ y) ⊎ Among x ys

-- the records of number n
abbrev pub number_of : {T : Type 0} → Record T → ℕ
number_of (Begin n t op) = n
number_of (Effect n) = n
number_of (End n a) = n

abbrev pub about : {T : Type 0} → ℕ → List (Record T) → List (Record T)
about n log = filter (λ r. nat_eq (number_of r) n) log

-- the course of an operation: it begins, then takes effect, then ends, each at most once
pub data Course {T : Type 0} (n : ℕ) : List (Record T) → Type 0 where
  not_begun : Course n []
  waits : {t : ℕ} {op : Op T} → Course n (Begin n t op ∷ [])
  effective : {t : ℕ} {op : Op T} → Course n (Begin n t op ∷ Effect n ∷ [])
  ended : {t : ℕ} {op : Op T} {a : Answer T} → Course n (Begin n t op ∷ Effect n ∷ End n a ∷ [])

-- thread t began number n, and that has not ended
abbrev pub OpenIn : {T : Type 0} → ℕ → ℕ → List (Record T) → Type 0
OpenIn {T} t n log = ((op : Op T) × Among (n, t, op) (begins log)) × ((a : Answer T) → Among (n, a) (ends log) → ⊥)

-- thread t has no open operation
abbrev pub IdleIn : {T : Type 0} → ℕ → List (Record T) → Type 0
IdleIn t log = (n : ℕ) → OpenIn t n log → ⊥

-- what a look tells is true: nothing is open; or this number and no other is, and it took effect just if the log has its effect
abbrev pub Tells : {T : Type 0} → ℕ → List (Record T) → Option Open → Type 0
Tells t log None = IdleIn t log
Tells t log (Some o) =
    OpenIn t o.number log
    × ((n : ℕ) → OpenIn t n log → n ≡ o.number)
    × (o.effect ≡ true → Among o.number (effects log))
    × (Among o.number (effects log) → o.effect ≡ true)

-- What a look reads off the log, record by record: the thread's begin opens a number, its effect marks it, its end closes it.
abbrev pub marked : ℕ → Option Open → Option Open
marked n None = None
marked n (Some o) = cond (o.number == n) (Some (record { number = o.number; effect = true })) (Some o)

abbrev pub closed : ℕ → Option Open → Option Open
closed n None = None
closed n (Some o) = cond (o.number == n) None (Some o)

abbrev pub follow : {T : Type 0} → ℕ → Option Open → Record T → Option Open
follow t o (Begin n u op) = cond (u == t) (Some (record { number = n; effect = false })) o
follow t o (Effect n) = marked n o
follow t o (End n a) = closed n o

abbrev pub told : {T : Type 0} → ℕ → List (Record T) → Option Open
told t log = fold (follow t) None log
