-- What comes of a script: a run of its calls, and then its listing or its first fault.
use Rattle.std.specs.Prelude.{◌≡◌, ℕ, List, Ok, Err, Result}
use Rattle.refusal.specs.declared.Refusal.TheVariants.{ListingTooLong}
use Rattle.items.specs.declared.Kind.{Ghosts as Kind}
use Rattle.vector.specs.Meaning.{unset}
use Rattle.vector.specs.declared.container.Container.{Ghosts as Container}
use Rattle.stepping.specs.Log.{recorded}
use Rattle.stepping.specs.History.{Ran}
use Rattle.stepping.specs.declared.Event.{Event}
use Rattle.script.specs.Faults.{at_line}
use Rattle.script.specs.declared.fault.Fault.{Fault}
use Rattle.listing.specs.Listings.{listing, Listed}
use Rattle.script_run.specs.Calls.{Asked, Plays}

-- a text is written to the output, or is too long for it, which is a fault of no line
abbrev pub Writes : List ℕ → List ℕ → Result ℕ Fault → List ℕ → Type 0
Writes text out (Ok n) out' = Listed text out out' (Ok n)
Writes text out (Err fault) out' = Listed text out out' (Err ListingTooLong) × (fault ≡ at_line 0 ListingTooLong)

-- a script without fault has its listing written; of any other the fault is told, and nothing is written
abbrev pub Tells : Result (Unit {0}) Fault → List ℕ → List ℕ → Result ℕ Fault → List ℕ → Type 0
Tells (Ok u) text out r out' = Writes text out r out'
Tells (Err fault) text out r out' = (r ≡ Err fault) × (out' ≡ out)

-- A run of the calls asked for, over a container made over a memory of these words: every call gave and did what it should, the
-- law of runs holds of it, and its log is listed.
pub record RunOf {C K T : Type 0} (c : Container C) (k : Kind K T) (text : T → List ℕ) (words : List ℕ) (calls : List (Asked T))
    (out : List ℕ) (r : Result ℕ Fault) (out' : List ℕ) : Type 0 where
  pub start : C
  pub last : C
  pub events : List (Event T)
  pub verdict : Result (Unit {0}) Fault
  pub not_set_up : (c.shows start).meaning ≡ unset
  pub over_words : (c.shows start).words ≡ words
  pub plays : Plays calls events verdict
  pub ran : Ran c k start events (recorded events) last
  pub tells : Tells verdict (listing text (recorded events)) out r out'

-- it was done; or there was no memory, and all is as it was
abbrev pub Done : {X E : Type 0} → Result X E → (X → Type 0) → Type 0 → Type 0
Done (Ok x) Did Same = Did x
Done (Err e) Did Same = Same

-- want of memory is told only where it holds that a bench is to be made
abbrev pub LacksOnly : {X E : Type 0} → Result X E → Type 0 → Type 0
LacksOnly (Ok x) Asked = Unit {0}
LacksOnly (Err e) Asked = Asked
