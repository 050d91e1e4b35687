-- What asking a bench for calls, one after the other, does to it.
use Rattle.std.specs.Prelude.{◌≡◌, ℕ, List, [], ◌∷◌, Some, None, Ok, Err, Option, Result}
use Rattle.refusal.specs.declared.Refusal.{Refusal}
use Rattle.items.specs.declared.Kind.{Ghosts as Kind}
use Rattle.vector.specs.declared.container.Container.{Ghosts as Container}
use Rattle.stepping.specs.Bench.{call_of, Calls}
use Rattle.stepping.specs.declared.Event.{Event}
use Rattle.stepping.specs.declared.running.Running.{Running}
use Rattle.script.specs.Faults.{at_line}
use Rattle.script.specs.declared.fault.Fault.{Fault}
use Rattle.script_run.specs.Calls.{Asked, refusal_in}

-- what was answered, where a refusal is the fault of this line
abbrev pub told_at : {X : Type 0} → ℕ → Result X Refusal → Result X Fault
told_at line (Ok x) = Ok x
told_at line (Err why) = Err (at_line line why)

module _ {C K T : Type 0} (c : Container C) (k : Kind K T) where
  abbrev pub Then : ℕ → Option Refusal → Type 0 → Running C K T → Result (Unit {0}) Fault → Running C K T → Type 0
  Then line None Rest u r b' = Rest
  Then line (Some why) Rest u r b' = (b' ≡ u) × (r ≡ Err (at_line line why))

  -- the bench is asked for the calls up to the first that is refused or the first line at fault
  abbrev pub Drives : Running C K T → List (Asked T) → Result (Unit {0}) Fault → Running C K T → Type 0
  Drives b [] r b' = (b' ≡ b) × (r ≡ Ok tt)
  Drives b ((line, Err why) ∷ rest) r b' = (b' ≡ b) × (r ≡ Err (at_line line why))
  Drives b ((line, Ok call) ∷ rest) r b' =
      (e : Event T) × (u : Running C K T) × (call_of e ≡ call) × Calls c k b e u × Then line (refusal_in e) (Drives u rest r b') u r b'
