-- The history of a bench: the calls that led to it, with what they gave.
use Rattle.std.specs.Prelude.{◌≡◌, ℕ, List, [], ◌∷◌, ◌++◌, length, vec_items}
use Rattle.items.specs.declared.Kind.{Ghosts as Kind}
use Rattle.vector.specs.Plain.{map_op}
use Rattle.vector.specs.Meaning.{unset, Lawful}
use Rattle.vector.specs.Calls.{SetsUp, Begins, Steps}
use Rattle.vector.specs.declared.container.Container.{Ghosts as Container}
use Rattle.stepping.specs.Log.{records}
use Rattle.stepping.specs.Bench.{Turned, Looks, Makes, Calls}
use Rattle.stepping.specs.Runs.{LawOfRuns}
use Rattle.stepping.specs.declared.Record.{Record}
use Rattle.stepping.specs.declared.Event.{Event}
use Rattle.stepping.specs.declared.Event.TheVariants.{SetUp as SetUpCall, Begin as BeginCall, Step as StepCall, Look as LookCall}
use Rattle.stepping.specs.declared.running.Running.{Running}

module _ {C K T : Type 0} (c : Container C) (k : Kind K T) where
  -- these calls, one after the other, lead from one bench to another
  abbrev pub Leads : Running C K T → List (Event T) → Running C K T → Type 0
  Leads b [] b' = b' ≡ b
  Leads b (e ∷ es) b' = (u : Running C K T) × Calls c k b e u × Leads u es b'

  -- these calls led to the bench, from one just made over the container `start`, which was not yet set up
  pub record Led (start : C) (es : List (Event T)) (b : Running C K T) : Type 0 where
    pub first : Running C K T
    pub not_set_up : (c.shows start).meaning ≡ unset
    pub made : Makes c start first
    pub leads : Leads first es b

  -- a history that led to b goes on: with this call it leads to b'
  abbrev pub GoesOn : Running C K T → Event T → Running C K T → Type 0
  GoesOn b e b' = (start : C) (es : List (Event T)) → Led start es b → Led start (es ++ e ∷ []) b'

  -- One call gave and did what it should: by the tables of refusals, by what the container means, and by the container's own table.
  -- The items of an operation come back from their values.
  abbrev pub Does : List (Record T) → C → Event T → C → Type 0
  Does log x (SetUpCall n m r) x' = SetsUp (c.shows x) n m r (c.shows x') × c.setting x n m r x'
  Does log x (BeginCall t op r) x' =
      Begins (c.shows x) t (map_op k.value op) r (c.shows x')
      × c.beginning x t (map_op k.value op) r x'
      × (map_op k.item (map_op k.value op) ≡ op)
  Does log x (StepCall t r) x' = Turned k.item r (λ y. Steps (c.shows x) t y (c.shows x') × c.stepping x t y x')
  Does log x (LookCall t r) x' = Looks (length (c.shows x).meaning.rows) log t r × (x' ≡ x)

  -- every call did so, one after the other, each with its records added to the log, and the container stayed lawful
  abbrev pub Performed : List (Record T) → C → List (Event T) → C → Type 0
  Performed log x [] x' = x' ≡ x
  Performed log x (e ∷ es) x' = (u : C) × Does log x e u × Lawful (c.shows u) × Performed (log ++ records e) u es x'

  -- the same, from some container with these words that was not yet set up
  abbrev pub PerformedOver : List ℕ → List (Event T) → C → Type 0
  PerformedOver words es x = (start : C) × ((c.shows start).meaning ≡ unset) × ((c.shows start).words ≡ words) × Performed [] start es x

  -- a whole run, from the container `start` to x: every call gave and did what it should, and the law of runs holds
  pub record Ran (start : C) (es : List (Event T)) (log : List (Record T)) (x : C) : Type 0 where
    pub performed : Performed [] start es x
    pub law : LawOfRuns k.value (c.shows x).make.bound es log (c.shows x).meaning

  -- the law of runs holds of every history of the bench b that comes to this log and this container
  abbrev pub Closes : Running C K T → List (Record T) → C → Type 0
  Closes b log x = (start : C) (es : List (Event T)) → Led start es b → Ran start es log x

  -- every history of the bench b goes on with these calls to b', and the law of runs holds of the whole
  abbrev pub RunsOn : Running C K T → List (Event T) → Running C K T → Type 0
  RunsOn b more b' =
      (start : C) (es : List (Event T)) → Led start es b → Led start (es ++ more) b' × Ran start (es ++ more) (vec_items b'.log) b'.container
