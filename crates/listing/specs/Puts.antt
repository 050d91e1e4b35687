-- A text written at a place of an output.
use Rattle.std.specs.Prelude.{◌≡◌, ℕ, ◌+◌, ◌<◌, ◌≤◌, List, ◌++◌, length, take, drop}

-- the output has room for the text at this place
pub record Room (text : List ℕ) (at : ℕ) (output : List ℕ) : Type 0 where
  pub fits : at + length text ≤ length output

-- the text stands at its place, within the output, all else is as it was, and next is the place after it
pub record Puts (text : List ℕ) (at : ℕ) (before after : List ℕ) (next : ℕ) : Type 0 where
  pub within : at + length text ≤ length before
  pub bytes : after ≡ take at before ++ (text ++ drop (at + length text) before)
  pub place : next ≡ at + length text

-- the same where there is room for the text, and else nothing is written
pub record PutsIfRoom (text : List ℕ) (at : ℕ) (before after : List ℕ) (next : ℕ) : Type 0 where
  pub room : Room text at before → Puts text at before after next
  pub none : length before < at + length text → (after ≡ before) × (next ≡ at)
