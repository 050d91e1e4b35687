-- The listing of a log, byte for byte, and when it is refused.
use Rattle.std.specs.Prelude.{◌≡◌, ℕ, ◌<◌, ◌≤◌, List, ◌++◌, length, drop, Ok, Err, codes, decimal, Result}
use Rattle.std.specs.List.{flat_map}
use Rattle.refusal.specs.declared.Refusal.{Refusal}
use Rattle.refusal.specs.declared.Refusal.TheVariants.{ListingTooLong}
use Rattle.vector.specs.declared.Op.{Op}
use Rattle.vector.specs.declared.Op.TheVariants.{Push, Pop, Read, Write, Size}
use Rattle.vector.specs.declared.Answer.{Answer}
use Rattle.vector.specs.declared.Answer.TheVariants.{Position, Value, Full, Empty, Out, Done, Length}
use Rattle.stepping.specs.declared.Record.{Record}
use Rattle.stepping.specs.declared.Record.TheVariants.{Begin, Effect, End}

module _ {T : Type 0} (text : T → List ℕ) where
  -- an operation, as a script's line has it
  abbrev pub op_text : Op T → List ℕ
  op_text (Push item) = codes "+ " ++ text item
  op_text Pop = codes "-"
  op_text (Read index) = codes "r " ++ decimal index
  op_text (Write index item) = codes "w " ++ (decimal index ++ (codes " " ++ text item))
  op_text Size = codes "s"

  abbrev pub answer_text : Answer T → List ℕ
  answer_text (Position place) = decimal place
  answer_text (Value item) = text item
  answer_text Full = codes "full"
  answer_text Empty = codes "empty"
  answer_text Out = codes "out"
  answer_text Done = codes "done"
  answer_text (Length count) = decimal count

  abbrev pub record_text : Record T → List ℕ
  record_text (Begin number thread op) = codes "begin " ++ (decimal number ++ (codes " " ++ (decimal thread ++ (codes " " ++ op_text op))))
  record_text (Effect number) = codes "effect " ++ decimal number
  record_text (End number answer) = codes "end " ++ (decimal number ++ (codes " " ++ answer_text answer))

  -- a record's line, ended by a line feed
  abbrev pub line_of : Record T → List ℕ
  line_of r = record_text r ++ codes "\n"

  abbrev pub listing : List (Record T) → List ℕ
  listing log = flat_map line_of log

-- the text stands at the beginning of the output where it fits, and the bytes after it are as they were; it is refused just
-- where it is longer than the output, which is then as it was
abbrev pub Listed : List ℕ → List ℕ → List ℕ → Result ℕ Refusal → Type 0
Listed text before after (Ok n) = (length text ≤ length before) × (after ≡ text ++ drop (length text) before) × (n ≡ length text)
Listed text before after (Err why) = (length before < length text) × (after ≡ before) × (why ≡ ListingTooLong)
