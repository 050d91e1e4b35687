-- The law of runs: (a) the log is true, (b) the operations answer as a plain vector that takes them in order of effect,
-- (c) a thread alone ends in time.
use Rattle.std.specs.Prelude.{◌≡◌, ℕ, ◌+◌, ◌≤◌, cond, ◌≢◌, List, [], ◌∷◌, ◌++◌, map, Some, None, Ok, Err, fold, Option, ◌==◌}
use Rattle.std.specs.List.{flat_map, AllByRecursion}
use Rattle.vector.specs.Plain.{answer, after}
use Rattle.vector.specs.Meaning.{Meaning}
use Rattle.vector.specs.declared.Op.{Op}
use Rattle.vector.specs.declared.Answer.{Answer}
use Rattle.vector.specs.declared.Ended.{Ended}
use Rattle.stepping.specs.Log.{recorded, begins, effects, ends, about, Course, Among, IdleIn, Tells}
use Rattle.stepping.specs.declared.Open.{Open}
use Rattle.stepping.specs.declared.Record.{Record}
use Rattle.stepping.specs.declared.Event.{Event}
use Rattle.stepping.specs.declared.Event.TheVariants.{SetUp as SetUpCall, Begin as BeginCall, Step as StepCall, Look as LookCall}

-- The begins that the calls were granted, the effects that the steps told, and the ends that they handed out.
abbrev pub granted_begin : {T : Type 0} → Event T → List (ℕ × ℕ × Op T)
granted_begin (SetUpCall c n r) = []
granted_begin (BeginCall t op (Ok n)) = (n, t, op) ∷ []
granted_begin (BeginCall t op (Err f)) = []
granted_begin (StepCall t r) = []
granted_begin (LookCall t r) = []

abbrev pub the_effect : Option ℕ → List ℕ
the_effect None = []
the_effect (Some n) = n ∷ []

abbrev pub told_effect : {T : Type 0} → Event T → List ℕ
told_effect (SetUpCall c n r) = []
told_effect (BeginCall t op r) = []
told_effect (StepCall t (Ok s)) = the_effect s.effect
told_effect (StepCall t (Err f)) = []
told_effect (LookCall t r) = []

abbrev pub the_end : {T : Type 0} → Option (Ended T) → List (ℕ × Answer T)
the_end None = []
the_end (Some e) = (e.number, e.answer) ∷ []

abbrev pub handed_end : {T : Type 0} → Event T → List (ℕ × Answer T)
handed_end (SetUpCall c n r) = []
handed_end (BeginCall t op r) = []
handed_end (StepCall t (Ok s)) = the_end s.end
handed_end (StepCall t (Err f)) = []
handed_end (LookCall t r) = []

-- (a) The log has the records of the calls, in their order: each begin, effect and end that a call gave, and no other. Each operation
-- has at most one effect, after its begin, and at most one end, after its effect. A granted look tells what the log then says.
pub record LogIsTrue {T : Type 0} (es : List (Event T)) (log : List (Record T)) : Type 0 where
  pub written : log ≡ recorded es
  pub begins_granted : begins log ≡ flat_map granted_begin es
  pub effects_told : effects log ≡ flat_map told_effect es
  pub ends_handed_out : ends log ≡ flat_map handed_end es
  pub courses : (n : ℕ) → Course n (about n log)
  pub looks : (pre post : List (Event T)) (t : ℕ) (o : Option Open) → es ≡ pre ++ LookCall t (Ok o) ∷ post → Tells t (recorded pre) o

-- (b) A plain vector takes numbered operations one by one: its answers, and what it holds in the end.
abbrev pub plain_answers : {T : Type 0} → ℕ → List T → List (ℕ × Op T) → List (ℕ × Answer T)
plain_answers capacity xs [] = []
plain_answers capacity xs ((n, op) ∷ ops) = (n, answer capacity xs op) ∷ plain_answers capacity (after capacity xs op) ops

abbrev pub plain_items : {T : Type 0} → ℕ → List T → List (ℕ × Op T) → List T
plain_items capacity xs [] = xs
plain_items capacity xs ((n, op) ∷ ops) = plain_items capacity (after capacity xs op) ops

-- the capacity that the granted set-up named, 0 before it
abbrev pub named_capacity : {T : Type 0} → ℕ → Event T → ℕ
named_capacity k (SetUpCall c n (Ok x)) = c
named_capacity k (SetUpCall c n (Err f)) = k
named_capacity k (BeginCall t op r) = k
named_capacity k (StepCall t r) = k
named_capacity k (LookCall t r) = k

abbrev pub capacity_of : {T : Type 0} → List (Event T) → ℕ
capacity_of es = fold named_capacity 0 es

-- these are the operations that took effect, each with its number, in the order of their effects
pub record InOrderOfEffect {T : Type 0} (log : List (Record T)) (ops : List (ℕ × Op T)) : Type 0 where
  pub by_effect : map (λ o. o.0) ops ≡ effects log
  pub begun : AllByRecursion (λ o. (t : ℕ) × Among (o.0, t, o.1) (begins log)) ops

-- A plain vector, empty at first, that takes the operations in order of effect gives each ended one the answer handed out, and then
-- holds what the container means.
pub record PlainlyOrdered {T : Type 0} (value : T → ℕ) (es : List (Event T)) (log : List (Record T)) (m : Meaning) : Type 0 where
  pub ops : List (ℕ × Op T)
  pub in_order : InOrderOfEffect log ops
  pub answered : AllByRecursion (λ e. Among e (plain_answers (capacity_of es) [] ops)) (ends log)
  pub capacity_meant : m.capacity ≡ capacity_of es
  pub items_meant : map value (plain_items (capacity_of es) [] ops) ≡ m.items

-- (c) the granted steps of thread t
abbrev pub is_step : {T : Type 0} → ℕ → Event T → ℕ
is_step t (SetUpCall c n r) = 0
is_step t (BeginCall u op r) = 0
is_step t (StepCall u (Ok s)) = cond (u == t) 1 0
is_step t (StepCall u (Err f)) = 0
is_step t (LookCall u r) = 0

abbrev pub steps_of : {T : Type 0} → ℕ → List (Event T) → ℕ
steps_of t [] = 0
steps_of t (e ∷ es) = is_step t e + steps_of t es

-- at every moment from the end of pre to the end of mid, no thread but t has an open operation
abbrev pub NoOther : {T : Type 0} → ℕ → List (Event T) → List (Event T) → Type 0
NoOther {T} t pre mid =
    (so_far later : List (Event T)) → mid ≡ so_far ++ later → (u : ℕ) → u ≢ t → IdleIn u (recorded (pre ++ so_far))

-- at some moment from the end of pre to the end of mid, thread t has no open operation
abbrev pub HasEnded : {T : Type 0} → ℕ → List (Event T) → List (Event T) → Type 0
HasEnded {T} t pre mid =
    (so_far : List (Event T)) × (later : List (Event T)) × (mid ≡ so_far ++ later) × IdleIn t (recorded (pre ++ so_far))

-- Counted from any moment, while no other thread has an open operation, a thread ends its own within the bound of steps of its own.
abbrev pub EndsInTime : {T : Type 0} → ℕ → List (Event T) → Type 0
EndsInTime {T} bound es =
    (pre mid post : List (Event T)) (t : ℕ) → es ≡ pre ++ (mid ++ post) → NoOther t pre mid → bound ≤ steps_of t mid → HasEnded t pre mid

pub record LawOfRuns {T : Type 0} (value : T → ℕ) (bound : ℕ) (es : List (Event T)) (log : List (Record T)) (m : Meaning) : Type 0 where
  pub log_is_true : LogIsTrue es log
  pub plainly_ordered : PlainlyOrdered value es log m
  pub ends_in_time : EndsInTime bound es
