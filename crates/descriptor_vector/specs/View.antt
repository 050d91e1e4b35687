-- The machine's memory, as the words of a memory, the plans and the capacity hold it; and when the words are those of such a memory.
use Rattle.std.specs.Prelude.{◌≡◌, ℕ, ◌^◌, ◌<◌, ◌≤◌, true, cond, List, length, Some, None, slice_index, slice_index_or, Option}
use Rattle.vector.specs.declared.Op.{Op}
use Rattle.vector.specs.declared.Op.TheVariants.{Push, Pop, Read, Write, Size}
use Rattle.descriptor_words.specs.Words.{cell_word, cell_of, status_word, status_of, CellFits, StatusFits, numbered}
use Rattle.descriptor_words.specs.Accesses.{cell_at, current_of}
use Rattle.descriptor_steps.specs.declared.stage.Plans.{Plans}
use Rattle.descriptor_steps.specs.Shared.{Cell, Status, pending, Shared}
use Rattle.descriptor_steps.specs.Steps.{plan_of}
use Rattle.linearization.specs.Names.{Plan, pushing, popping, Then, own, to_L1, to_W1, Stage, L1, L2, L3, P1, L4, H1, H2, G1, G2, G3, G4, G5, G5w, G6, G7, O1, R1, R2, R3, W1, W2, W3, Next, goto, end, Row}
use Rattle.descriptor_vector.specs.Calls.{needed}

-- What the words say; who has no number from 1 to 400 is pending.
abbrev pub status_in : List ℕ → ℕ → Status
status_in words k = cond (numbered k) (status_of (slice_index words k)) pending

abbrev pub cell_in : List ℕ → ℕ → Cell
cell_in words i = cell_of (slice_index words (cell_at i))

abbrev pub view : List ℕ → Plans → ℕ → Shared
view words plans capacity =
    record { cur = current_of (slice_index words 0); status = status_in words; cell = cell_in words; plan = plan_of plans; cap = capacity }

-- A plan in range: a position below the capacity, a 32-bit value, and the number of who emptied the cell.
abbrev pub PlanFits : ℕ → Option Plan → Type 0
PlanFits capacity None = Unit {0}
PlanFits capacity (Some (pushing p x e)) = (p < capacity) × (x < 2 ^ 32) × (e ≤ 400)
PlanFits capacity (Some (popping p)) = p < capacity

-- The words are those of a number, of statuses and of cells, and there is room for all.
pub record Coded (words : List ℕ) (plans : Plans) (capacity : ℕ) : Type 0 where
  pub some_cell : 0 < capacity
  pub room : needed capacity ≤ length words
  pub all_plans : length plans.by_number ≡ 401
  pub current : slice_index_or words 0 0 ≤ 400
  pub status : (k : ℕ) → numbered k ≡ true → (v : Status) × StatusFits v × (slice_index words k ≡ status_word v)
  pub cell : (i : ℕ) → i < capacity → (w : Cell) × CellFits w × (slice_index words (cell_at i) ≡ cell_word w)
  pub plan : (k : ℕ) → PlanFits capacity (plan_of plans k)

-- The numbers, positions and values that a thread remembers are in range: of where help returns to, of a word that a pop froze,
-- of a stage, of an operation, of a row.
abbrev pub ThenFits : ℕ → Then → Type 0
ThenFits capacity own = Unit {0}
ThenFits capacity to_L1 = Unit {0}
ThenFits capacity (to_W1 i x) = (i < capacity) × (x < 2 ^ 32)

abbrev pub FrozenFits : ℕ → ℕ → ℕ → Type 0
FrozenFits a k j = (a < 2 ^ 32) × (numbered k ≡ true) × (j ≤ 400)

abbrev pub StageFits : ℕ → Stage → Type 0
StageFits capacity L1 = Unit {0}
StageFits capacity (L2 c) = numbered c ≡ true
StageFits capacity (L3 c a) = c ≤ 400
StageFits capacity (P1 c m x) = (c ≤ 400) × (m < capacity) × (x < 2 ^ 32)
StageFits capacity (L4 c p) = (c ≤ 400) × PlanFits capacity (Some p)
StageFits capacity (H1 c r) = (numbered c ≡ true) × ThenFits capacity r
StageFits capacity (H2 c r) = (numbered c ≡ true) × ThenFits capacity r
StageFits capacity (G1 c r) = (numbered c ≡ true) × ThenFits capacity r
StageFits capacity (G2 c a k j r) = (numbered c ≡ true) × ThenFits capacity r × FrozenFits a k j
StageFits capacity (G3 c w r) = (numbered c ≡ true) × ThenFits capacity r × CellFits w
StageFits capacity (G4 c a j r) = (numbered c ≡ true) × ThenFits capacity r × FrozenFits a c j
StageFits capacity (G5 c r) = (numbered c ≡ true) × ThenFits capacity r
StageFits capacity (G5w c a j r) = (numbered c ≡ true) × ThenFits capacity r × FrozenFits a c j
StageFits capacity (G6 c a j b r) = (numbered c ≡ true) × ThenFits capacity r × FrozenFits a c j × (b < 2 ^ 32)
StageFits capacity (G7 c b r) = (numbered c ≡ true) × ThenFits capacity r × (b < 2 ^ 32)
StageFits capacity O1 = Unit {0}
StageFits capacity (R1 i) = i < capacity
StageFits capacity (R2 i a k j) = (i < capacity) × FrozenFits a k j
StageFits capacity (R3 i a k j) = (i < capacity) × FrozenFits a k j
StageFits capacity (W1 i x) = (i < capacity) × (x < 2 ^ 32)
StageFits capacity (W2 i x a k j) = (i < capacity) × (x < 2 ^ 32) × FrozenFits a k j
StageFits capacity (W3 i x w) = (i < capacity) × (x < 2 ^ 32) × CellFits w

abbrev pub NextFits : ℕ → Next → Type 0
NextFits capacity (goto g) = StageFits capacity g
NextFits capacity (end a) = Unit {0}

abbrev pub OpFits : ℕ → Op ℕ → Type 0
OpFits capacity (Push x) = x < 2 ^ 32
OpFits capacity Pop = Unit {0}
OpFits capacity (Read i) = i < capacity
OpFits capacity (Write i x) = (i < capacity) × (x < 2 ^ 32)
OpFits capacity Size = Unit {0}

abbrev pub RowFits : ℕ → Row → Type 0
RowFits capacity None = Unit {0}
RowFits capacity (Some w) = (numbered w.number ≡ true) × OpFits capacity w.op × StageFits capacity w.stage
