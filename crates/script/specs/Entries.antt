-- The next line that is not skipped.
use Rattle.std.specs.Prelude.{◌≡◌, ℕ, ◌<◌, Bool, List, [], ◌∷◌, length, Ok, Err, Option, Result, MatchOption}
use Rattle.std.specs.Borrow.{Bor}
use Rattle.refusal.specs.declared.Refusal.{Refusal}
use Rattle.script.specs.Reading.{texts_left}
use Rattle.script.specs.declared.lines.Entry.{Entry}
use Rattle.script.specs.declared.lines.Lines.{Lines}
use Rattle.script.specs.declared.texts.Row.{Row}

abbrev pub text_of : Result (Bor (List ℕ)) Refusal → Result (List ℕ) Refusal
text_of (Ok text) = Ok text.now
text_of (Err f) = Err f

-- a line's text, and whether a line feed ends it
abbrev pub row_of : Row → List ℕ × Bool
row_of row = (row.text.now, row.ended)

-- e is the first of the entries of l, and l' has the others
pub record Begins (l : Lines) (e : Entry) (l' : Lines) : Type 0 where
  pub split : texts_left l ≡ (e.number, text_of e.text) ∷ texts_left l'
  pub shorter : length l'.rest.bytes.now < length l.rest.bytes.now

abbrev pub NextEntry : Lines → Option Entry → Lines → Type 0
NextEntry l r l' = MatchOption r (texts_left l ≡ []) (λ e. Begins l e l')
