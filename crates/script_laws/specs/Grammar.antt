-- The forms of lines, as a relation between a text and what it says.
use Rattle.std.specs.Prelude.{◌≡◌, ℕ, ◌+◌, ◌*◌, ◌/◌, ◌≤◌, ◌⊎◌, List, ◌++◌, length, ℤ, pos, neg_ℤ, Ok, codes, Result}
use Rattle.std.specs.Str.Parse.{AllDigits, digits_value}
use Rattle.refusal.specs.declared.Refusal.{Refusal}
use Rattle.items.specs.declared.point.Point.{Point}
use Rattle.vector.specs.declared.Op.{Op}
use Rattle.vector.specs.declared.Op.TheVariants.{Push, Pop, Read, Write, Size}
use Rattle.script.specs.Commands.{command_of}
use Rattle.script.specs.declared.commands.Command.{Command}
use Rattle.script.specs.declared.commands.Command.TheVariants.{Begin, Steps}
use Rattle.script_laws.specs.Laws.{Number}

-- one to ten digits that stand for n
pub record WritesNumber (n : ℕ) (text : List ℕ) : Type 0 where
  pub some : 1 ≤ length text
  pub few : length text ≤ 10
  pub digits : AllDigits 10 text
  pub stands : digits_value 10 text ≡ n

-- with a minus in front, or none
abbrev pub Signed : (ℕ → List ℕ → Type 0) → ℤ → List ℕ → Type 0
Signed Writes z text =
    (n : ℕ) × (digits : List ℕ) × Writes n digits
    × (((text ≡ digits) × (z ≡ pos n)) ⊎ ((text ≡ codes "-" ++ digits) × (z ≡ neg_ℤ (pos n))))

-- an item of the kind of numbers
abbrev pub WritesNumberItem : ℤ → List ℕ → Type 0
WritesNumberItem z text = Signed WritesNumber z text × Number z

-- a whole number, or one with one decimal, rounded, halves upwards
abbrev pub WritesMagnitude : ℕ → List ℕ → Type 0
WritesMagnitude m text =
    WritesNumber m text
    ⊎ ((n : ℕ) × (tenths : ℕ) × (whole : List ℕ) × (decimal : List ℕ) × (text ≡ whole ++ (codes "." ++ decimal)) × WritesNumber n whole
    × WritesNumber tenths decimal × (length decimal ≡ 1) × (m ≡ (10 * n + tenths + 5) / 10))

-- a point: x,y,z, each with a sign of its own
abbrev pub WritesPoint : Point → List ℕ → Type 0
WritesPoint p text =
    (x : List ℕ) × (y : List ℕ) × (z : List ℕ) × (text ≡ x ++ (codes "," ++ (y ++ (codes "," ++ z))))
    × Signed WritesMagnitude p.x x × Signed WritesMagnitude p.y y × Signed WritesMagnitude p.z z

module _ {T : Type 0} (WritesItem : T → List ℕ → Type 0) where
  abbrev pub WritesOp : Op T → List ℕ → Type 0
  WritesOp (Push x) text = (item : List ℕ) × (text ≡ codes "+ " ++ item) × WritesItem x item
  WritesOp Pop text = text ≡ codes "-"
  WritesOp (Read n) text = (index : List ℕ) × (text ≡ codes "r " ++ index) × WritesNumber n index
  WritesOp (Write n x) text =
      (index : List ℕ) × (item : List ℕ) × (text ≡ codes "w " ++ (index ++ (codes " " ++ item))) × WritesNumber n index × WritesItem x item
  WritesOp Size text = text ≡ codes "s"

  -- a thread, and then an operation or from 1 to 999 steps
  abbrev pub WritesCommand : Command T → List ℕ → Type 0
  WritesCommand (Begin t op) line =
      (thread : List ℕ) × (rest : List ℕ) × (line ≡ thread ++ (codes " " ++ rest)) × WritesNumber t thread × WritesOp op rest
  WritesCommand (Steps t n) line =
      (thread : List ℕ) × (count : List ℕ) × (line ≡ thread ++ (codes " . " ++ count)) × WritesNumber t thread × WritesNumber n count
      × (1 ≤ n) × (n ≤ 999)

-- each follows from the other
abbrev pub Iff : Type 0 → Type 0 → Type 0
Iff P Q = (P → Q) × (Q → P)

-- a line is read as a command just where it writes that command
abbrev pub ReadsJust : {T : Type 0} → (List ℕ → Result T Refusal) → (T → List ℕ → Type 0) → Type 0
ReadsJust {T} reads WritesItem = (line : List ℕ) (c : Command T) → Iff (command_of reads line ≡ Ok c) (WritesCommand WritesItem c line)
