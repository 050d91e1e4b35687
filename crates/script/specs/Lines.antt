-- The lines of a script, and those that are not skipped.
use Rattle.std.specs.Prelude.{ℕ, ◌+◌, ◌-◌, ◌^◌, min, Bool, true, false, cond, ◌&&◌, ◌||◌, List, [], ◌∷◌, ◌++◌, length, Ok, Err, Result, ◌==◌, nat_lt, slice_index}
use Rattle.refusal.specs.declared.Refusal.{Refusal}
use Rattle.script.specs.Fields.{letter}
use Rattle.refusal.specs.declared.Refusal.TheVariants.{NotOfAForm}

-- one byte more in front of the first line
abbrev pub longer : ℕ → List (List ℕ × Bool) → List (List ℕ × Bool)
longer x [] = ((x ∷ []), false) ∷ []
longer x (l ∷ ls) = ((x ∷ l.0), l.1) ∷ ls

-- each line's text, and whether a line feed ends it
abbrev pub lines_of : List ℕ → List (List ℕ × Bool)
lines_of [] = []
lines_of (x ∷ xs) = cond (x == (letter "\n")) (([], true) ∷ lines_of xs) (longer x (lines_of xs))

abbrev pub ascii : List ℕ → Bool
ascii [] = true
ascii (c ∷ cs) = nat_lt c 128 && ascii cs

-- an empty line or a comment
abbrev pub skipped : List ℕ → Bool
skipped text = length text == 0 || slice_index text 0 == (letter "#")

-- a line's number, and its text or why it is refused
abbrev pub EntryText : Type 0
EntryText = ℕ × Result (List ℕ) Refusal

-- a line that no line feed ends, or that is not ASCII, is not of a form, even a comment; else an empty line or a comment is skipped
abbrev pub entry : ℕ → List ℕ × Bool → List EntryText
entry number l = cond (l.1 && ascii l.0) (cond (skipped l.0) [] ((number, Ok l.0) ∷ [])) ((number, Err NotOfAForm) ∷ [])

-- the number of the line after, as far as 64 bits can say: no script has so many lines
abbrev pub next_number : ℕ → ℕ
next_number number = min (number + 1) (2 ^ 64 - 1)

-- the lines that are not skipped, where the first of all has this number
abbrev pub entries : ℕ → List (List ℕ × Bool) → List EntryText
entries number [] = []
entries number (l ∷ ls) = entry number l ++ entries (next_number number) ls
