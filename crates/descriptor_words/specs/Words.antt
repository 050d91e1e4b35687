-- Which word stands for a cell or a status, and what a word stands for.
use Rattle.std.specs.Prelude.{◌≡◌, ℕ, ◌+◌, ◌*◌, ◌/◌, ◌%◌, ◌^◌, ◌<◌, ◌≤◌, Bool, true, cond, ◌&&◌, ◌==◌, nat_le}
use Rattle.descriptor_words.specs.declared.cell.Cell.{Cell}
use Rattle.descriptor_words.specs.declared.cell.Cell.TheVariants.{Empty, Plain, Frozen}
use Rattle.descriptor_words.specs.declared.cell.Status.{Status}
use Rattle.descriptor_words.specs.declared.cell.Status.TheVariants.{Pending, Done, Final}

-- A word is made of a form, two numbers and a value.
abbrev pub packed : ℕ → ℕ → ℕ → ℕ → ℕ
packed form k j value = form * 2 ^ 50 + k * 2 ^ 41 + j * 2 ^ 32 + value

-- The parts of a word.
abbrev pub form_part : ℕ → ℕ
form_part w = w / 2 ^ 50

abbrev pub by_part : ℕ → ℕ
by_part w = (w / 2 ^ 41) % 512

abbrev pub through_part : ℕ → ℕ
through_part w = (w / 2 ^ 32) % 512

abbrev pub value_part : ℕ → ℕ
value_part w = w % 2 ^ 32

-- A cell is empty by k (form 0), plain (form 1), or frozen by k through j (form 2).
abbrev pub cell_word : Cell → ℕ
cell_word (Empty k) = packed 0 k 0 0
cell_word (Plain a) = packed 1 0 0 a
cell_word (Frozen a k j) = packed 2 k j a

abbrev pub cell_of : ℕ → Cell
cell_of w =
    cond (form_part w == 0) (Empty (by_part w))
    (cond (form_part w == 1) (Plain (value_part w)) (Frozen (value_part w) (by_part w) (through_part w)))

-- A status is pending (the word 0), done (form 1) or final (form 2).
abbrev pub status_word : Status → ℕ
status_word Pending = 0
status_word (Done a) = packed 1 0 0 a
status_word (Final a) = packed 2 0 0 a

abbrev pub status_of : ℕ → Status
status_of w = cond (form_part w == 0) Pending (cond (form_part w == 1) (Done (value_part w)) (Final (value_part w)))

-- Operations have the numbers 1 to 400.
abbrev pub numbered : ℕ → Bool
numbered k = nat_le 1 k && nat_le k 400

-- What a word has room for: values of 32 bits, and numbers of operations (0 where a cell was never used).
abbrev pub CellFits : Cell → Type 0
CellFits (Empty k) = k ≤ 400
CellFits (Plain a) = a < 2 ^ 32
CellFits (Frozen a k j) = (a < 2 ^ 32) × (numbered k ≡ true) × (j ≤ 400)

abbrev pub StatusFits : Status → Type 0
StatusFits Pending = Unit {0}
StatusFits (Done a) = a < 2 ^ 32
StatusFits (Final a) = a < 2 ^ 32
