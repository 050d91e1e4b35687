-- A listing determines its log, and its begin lines are lines of a script.
use Rattle.std.specs.Prelude.{◌≡◌, ℕ, ◌^◌, ◌<◌, List, ◌++◌, ℤ, Ok, codes, decimal, Result}
use Rattle.std.specs.Int.Signed.{mag}
use Rattle.std.specs.List.{AllByRecursion}
use Rattle.refusal.specs.declared.Refusal.{Refusal}
use Rattle.items.specs.declared.point.Point.{Point}
use Rattle.vector.specs.Plain.{answer}
use Rattle.vector.specs.declared.Op.{Op}
use Rattle.vector.specs.declared.Op.TheVariants.{Push, Pop, Read, Write, Size}
use Rattle.vector.specs.declared.Answer.{Answer}
use Rattle.vector.specs.declared.Answer.TheVariants.{Position, Value, Full, Empty, Out, Done, Length}
use Rattle.vector.specs.Meaning.{Meaning}
use Rattle.stepping.specs.Log.{Among}
use Rattle.stepping.specs.Runs.{LawOfRuns}
use Rattle.stepping.specs.declared.Event.{Event}
use Rattle.stepping.specs.declared.Record.{Record}
use Rattle.stepping.specs.declared.Record.TheVariants.{Begin, Effect, End}
use Rattle.script.specs.Commands.{command_of}
use Rattle.script.specs.declared.commands.Command.TheVariants.{Begin as Begins}
use Rattle.listing.specs.Listings.{op_text, listing}

-- the items of each kind: from -2^31 to 2^31 - 1, and any point
abbrev pub Number : ℤ → Type 0
Number z = mag z < 2147483648

abbrev pub AnyPoint : Point → Type 0
AnyPoint p = Unit {0}

module _ {T : Type 0} (Item : T → Type 0) where
  -- its index has ten digits at most, as a script can say it
  abbrev pub Sayable : Op T → Type 0
  Sayable (Push item) = Item item
  Sayable Pop = Unit {0}
  Sayable (Read index) = index < 10 ^ 10
  Sayable (Write index item) = (index < 10 ^ 10) × Item item
  Sayable Size = Unit {0}

  abbrev pub SayableAnswer : Answer T → Type 0
  SayableAnswer (Position place) = place < 10 ^ 10
  SayableAnswer (Value item) = Item item
  SayableAnswer Full = Unit {0}
  SayableAnswer Empty = Unit {0}
  SayableAnswer Out = Unit {0}
  SayableAnswer Done = Unit {0}
  SayableAnswer (Length count) = count < 10 ^ 10

  abbrev pub SayableRecord : Record T → Type 0
  SayableRecord (Begin number thread op) = (number < 10 ^ 10) × (thread < 10 ^ 10) × Sayable op
  SayableRecord (Effect number) = number < 10 ^ 10
  SayableRecord (End number a) = (number < 10 ^ 10) × SayableAnswer a

-- a thread and an operation, as a begin's line has them, are read as that thread and operation
abbrev pub ReadsBack : {T : Type 0} → (T → List ℕ) → (List ℕ → Result T Refusal) → (T → Type 0) → Type 0
ReadsBack {T} text reads Item =
    (thread : ℕ) (op : Op T) → thread < 10 ^ 10 → Sayable Item op → command_of reads (decimal thread ++ (codes " " ++ op_text text op)) ≡ Ok (Begins thread op)

-- an answer that a plain vector can give to the operation
abbrev pub CanAnswer : {T : Type 0} → Op T → Answer T → Type 0
CanAnswer {T} op a = (capacity : ℕ) × (items : List T) × (a ≡ answer capacity items op)

-- Every number begins one operation at most, and every end answers an operation that its number begins. An end's line does not
-- tell a position, an item and a length apart: its begin does.
pub record Answered {T : Type 0} (log : List (Record T)) : Type 0 where
  pub one_begin : (n t u : ℕ) (op oq : Op T) → Among (Begin n t op) log → Among (Begin n u oq) log → op ≡ oq
  pub ends : (n : ℕ) (a : Answer T) → Among (End n a) log → (t : ℕ) × (op : Op T) × Among (Begin n t op) log × CanAnswer op a

-- so is every log of a run
abbrev pub RunsAreAnswered : Type 0 → Type 0
RunsAreAnswered T =
    (value : T → ℕ) (bound : ℕ) (calls : List (Event T)) (log : List (Record T)) (m : Meaning) → LawOfRuns value bound calls log m → Answered log

-- a listing determines the log
abbrev pub ListingDetermines : {T : Type 0} → (T → List ℕ) → (T → Type 0) → Type 0
ListingDetermines {T} text Item =
    (log other : List (Record T)) → AllByRecursion (SayableRecord Item) log → AllByRecursion (SayableRecord Item) other → Answered log → Answered other
    → listing text log ≡ listing text other → log ≡ other
