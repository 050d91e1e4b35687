-- What an access answers, and the words afterwards: each is one load or one compare-and-swap of the word at one location.
use Rattle.std.specs.Prelude.{◌≡◌, ℕ, ◌+◌, ◌%◌, ◌<◌, ◌≤◌, cond, List, length, Ok, Err, Result, ◌==◌, slice_index, slice_set}
use Rattle.refusal.specs.declared.Refusal.{Refusal}
use Rattle.refusal.specs.declared.Refusal.TheVariants.{NoSuchLocation}
use Rattle.memory.specs.declared.Swapped.{Swapped}
use Rattle.memory.specs.declared.Swapped.TheVariants.{Yes, No}
use Rattle.descriptor_words.specs.declared.access.Access.{Access}
use Rattle.descriptor_words.specs.declared.access.Access.TheVariants.{LoadCurrent, LoadStatus, LoadCell, SwapCurrent, SwapStatus, SwapCell}
use Rattle.descriptor_words.specs.declared.access.Found.{Found}
use Rattle.descriptor_words.specs.declared.access.Found.TheVariants.{Number, Status, Cell, Swap}
use Rattle.descriptor_words.specs.Words.{cell_word, cell_of, status_word, status_of}

-- The current operation's number stands at location 0, the status of operation k at k, and cell i here.
abbrev pub cell_at : ℕ → ℕ
cell_at i = 401 + i

abbrev pub current_of : ℕ → ℕ
current_of w = w % 512

abbrev pub location : Access → ℕ
location LoadCurrent = 0
location (LoadStatus k) = k
location (LoadCell i) = cell_at i
location (SwapCurrent old new) = 0
location (SwapStatus k old new) = k
location (SwapCell i old new) = cell_at i

-- A swap puts the new word if the old one stands there.
abbrev pub swapped : List ℕ → ℕ → ℕ → ℕ → List ℕ
swapped words at old new = cond (slice_index words at == old) (slice_set words at new) words

abbrev pub words_after : List ℕ → Access → List ℕ
words_after words LoadCurrent = words
words_after words (LoadStatus k) = words
words_after words (LoadCell i) = words
words_after words (SwapCurrent old new) = swapped words 0 old new
words_after words (SwapStatus k old new) = swapped words k (status_word old) (status_word new)
words_after words (SwapCell i old new) = swapped words (cell_at i) (cell_word old) (cell_word new)

abbrev pub answered : List ℕ → ℕ → ℕ → Swapped
answered words at old = cond (slice_index words at == old) Yes No

-- What an access finds.
abbrev pub found : List ℕ → Access → Found
found words LoadCurrent = Number (current_of (slice_index words 0))
found words (LoadStatus k) = Status (status_of (slice_index words k))
found words (LoadCell i) = Cell (cell_of (slice_index words (cell_at i)))
found words (SwapCurrent old new) = Swap (answered words 0 old)
found words (SwapStatus k old new) = Swap (answered words k (status_word old))
found words (SwapCell i old new) = Swap (answered words (cell_at i) (cell_word old))

-- An access is refused where its location is missing, and then nothing is altered.
abbrev pub Performs : List ℕ → Access → Result Found Refusal → List ℕ → Type 0
Performs words access (Ok f) words' = (location access < length words) × (f ≡ found words access) × (words' ≡ words_after words access)
Performs words access (Err e) words' = (length words ≤ location access) × (e ≡ NoSuchLocation) × (words' ≡ words)

-- A load of a word, as what it stands for.
abbrev pub Reads : {A : Type 0} → (ℕ → A) → List ℕ → ℕ → Result A Refusal → Type 0
Reads meant words at (Ok x) = (at < length words) × (x ≡ meant (slice_index words at))
Reads meant words at (Err e) = (length words ≤ at) × (e ≡ NoSuchLocation)
