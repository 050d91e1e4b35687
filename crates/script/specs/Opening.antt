-- The beginning of a script: 40, then 43, then the first line at fault up to the header.
use Rattle.std.specs.Prelude.{ℕ, Bool, false, cond, not, ◌||◌, List, [], ◌∷◌, length, Some, None, Ok, Err, Option, Result, nat_lt}
use Rattle.refusal.specs.declared.Refusal.{Refusal}
use Rattle.refusal.specs.declared.Refusal.TheVariants.{ScriptTooLong, NoHeaderLine, NotOfAForm}
use Rattle.script.specs.Faults.{at_line}
use Rattle.script.specs.Headers.{header_of}
use Rattle.script.specs.Lines.{EntryText, lines_of, skipped, entries}
use Rattle.script.specs.declared.fault.Fault.{Fault}
use Rattle.script.specs.declared.headers.Header.{Header}

-- a line that is neither empty nor a comment, of a form or not
abbrev pub has_header : List (List ℕ × Bool) → Bool
has_header [] = false
has_header (l ∷ ls) = not (skipped l.0) || has_header ls

-- the header with the number of its line, and the lines after it
abbrev pub headed : ℕ → List EntryText → Option Header → Result (ℕ × Header × List EntryText) Fault
headed number others None = Err (at_line number NotOfAForm)
headed number others (Some h) = Ok (number, h, others)

abbrev pub in_line : ℕ → List EntryText → Result (List ℕ) Refusal → Result (ℕ × Header × List EntryText) Fault
in_line number others (Err why) = Err (at_line number why)
in_line number others (Ok text) = headed number others (header_of text)

abbrev pub first_header : List EntryText → Result (ℕ × Header × List EntryText) Fault
first_header [] = Err (at_line 0 NoHeaderLine)
first_header (e ∷ es) = in_line e.0 es e.1

abbrev pub opened : List ℕ → Result (ℕ × Header × List EntryText) Fault
opened bytes =
    cond (nat_lt 16384 (length bytes)) (Err (at_line 0 ScriptTooLong))
    (cond (has_header (lines_of bytes)) (first_header (entries 1 (lines_of bytes))) (Err (at_line 0 NoHeaderLine)))
