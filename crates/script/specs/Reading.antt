-- What reading a script one line at a time gives.
use Rattle.std.specs.Prelude.{◌≡◌, ℕ, List, [], ◌∷◌, map, Ok, Err, Option, Result, MatchOption}
use Rattle.refusal.specs.declared.Refusal.{Refusal}
use Rattle.script.specs.Commands.{command_of}
use Rattle.script.specs.Lines.{EntryText, lines_of, entries}
use Rattle.script.specs.declared.commands.Command.{Command}
use Rattle.script.specs.declared.fault.Fault.{Fault}
use Rattle.script.specs.declared.headers.Header.{Header}
use Rattle.script.specs.declared.lines.Lines.{Lines}
use Rattle.script.specs.declared.lines.Line.{Line}
use Rattle.script.specs.declared.opening.Script.{Script}

-- the lines still to be read that are not skipped
abbrev pub texts_left : Lines → List EntryText
texts_left l = entries l.number (lines_of l.rest.bytes.now)

-- the header with the number of its line, and the lines after it
abbrev pub script_in : Result Script Fault → Result (ℕ × Header × List EntryText) Fault
script_in (Ok s) = Ok (s.line, s.header, texts_left s.lines)
script_in (Err f) = Err f

module _ {T : Type 0} (reads : List ℕ → Result T Refusal) where
  -- the command that a line holds, or why it is refused
  abbrev pub command_in : Result (List ℕ) Refusal → Result (Command T) Refusal
  command_in (Ok text) = command_of reads text
  command_in (Err why) = Err why

  abbrev pub said : EntryText → ℕ × Result (Command T) Refusal
  said e = (e.0, command_in e.1)

  -- the lines still to be read, each with its number and its command or why it is refused
  abbrev pub left : Lines → List (ℕ × Result (Command T) Refusal)
  left l = map said (texts_left l)

  -- the first of them is read, and the others are left; or there is none
  abbrev pub ReadsLine : Lines → Option (Line T) → Lines → Type 0
  ReadsLine l r l' = MatchOption r ((left l ≡ []) × (l' ≡ l)) (λ line. left l ≡ (line.number, line.command) ∷ left l')
