-- The calls that a script makes, in the order of its lines, and when a history of calls is that of a script.
use Rattle.std.specs.Prelude.{◌≡◌, ℕ, List, [], ◌∷◌, ◌++◌, replicate, Some, None, Ok, Err, Option, Result}
use Rattle.refusal.specs.declared.Refusal.{Refusal}
use Rattle.stepping.specs.Bench.{call_of}
use Rattle.stepping.specs.declared.Call.{Call}
use Rattle.stepping.specs.declared.Call.TheVariants.{SetUp, Begin as BeginCall, Step as StepCall}
use Rattle.stepping.specs.declared.Event.{Event}
use Rattle.stepping.specs.declared.Event.TheVariants.{SetUp as SetUpEvent, Begin as BeginEvent, Step as StepEvent, Look as LookEvent}
use Rattle.script.specs.Faults.{at_line}
use Rattle.script.specs.Reading.{left}
use Rattle.script.specs.declared.fault.Fault.{Fault}
use Rattle.script.specs.declared.commands.Command.{Command}
use Rattle.script.specs.declared.commands.Command.TheVariants.{Begin, Steps}
use Rattle.script.specs.declared.headers.Header.{Header}
use Rattle.script.specs.declared.opening.Script.{Script}

-- what a line asks for: a call, with the line's number; or, of a line at fault, why it is refused
abbrev pub Asked : Type 0 → Type 0
Asked T = ℕ × Result (Call T) Refusal

-- the refusal that a call gave, if it was refused
abbrev pub refused_as : {X : Type 0} → Result X Refusal → Option Refusal
refused_as (Ok x) = None
refused_as (Err f) = Some f

module _ {T : Type 0} where
  -- a line begins an operation, or steps a thread some times
  abbrev pub asked : ℕ → Result (Command T) Refusal → List (Asked T)
  asked line (Ok (Begin thread op)) = (line, Ok (BeginCall thread op)) ∷ []
  asked line (Ok (Steps thread count)) = replicate count (line, Ok (StepCall thread))
  asked line (Err why) = (line, Err why) ∷ []

  abbrev pub asked_by : List (ℕ × Result (Command T) Refusal) → List (Asked T)
  asked_by [] = []
  asked_by (l ∷ ls) = asked l.0 l.1 ++ asked_by ls

  -- the header asks for the set-up, and the lines after it for the rest
  abbrev pub script_asks : ℕ → Header → List (ℕ × Result (Command T) Refusal) → List (Asked T)
  script_asks line header lines = (line, Ok (SetUp header.capacity header.threads)) ∷ asked_by lines

  -- what an opened script asks for
  abbrev pub calls_of : (List ℕ → Result T Refusal) → Script → List (Asked T)
  calls_of reads script = script_asks script.line script.header (left reads script.lines)

  abbrev pub refusal_in : Event T → Option Refusal
  refusal_in (SetUpEvent c n r) = refused_as r
  refusal_in (BeginEvent t op r) = refused_as r
  refusal_in (StepEvent t r) = refused_as r
  refusal_in (LookEvent t r) = refused_as r

  -- after a granted call the rest follows; a refused one is the last, and is the fault of its line
  abbrev pub After : ℕ → Option Refusal → Type 0 → List (Event T) → Result (Unit {0}) Fault → Type 0
  After line None Rest es r = Rest
  After line (Some why) Rest es r = (es ≡ []) × (r ≡ Err (at_line line why))

  -- the events are the calls asked for, one after the other, up to the first that is refused or the first line at fault
  abbrev pub Plays : List (Asked T) → List (Event T) → Result (Unit {0}) Fault → Type 0
  Plays [] es r = (es ≡ []) × (r ≡ Ok tt)
  Plays ((line, Err why) ∷ rest) es r = (es ≡ []) × (r ≡ Err (at_line line why))
  Plays ((line, Ok call) ∷ rest) [] r = ⊥
  Plays ((line, Ok call) ∷ rest) (e ∷ es) r = (call_of e ≡ call) × After line (refusal_in e) (Plays rest es r) es r
