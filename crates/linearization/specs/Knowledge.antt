-- What a thread knows at each stage, whatever the other threads do.
use Rattle.std.specs.Prelude.{◌≡◌, ℕ, suc, ◌<◌, ◌≤◌, Bool, true, false, ◌≢◌, ◌⊎◌, Some, None, Option, is_some}
use Rattle.vector.specs.declared.Op.{Op}
use Rattle.vector.specs.declared.Op.TheVariants.{Push, Pop, Read, Write, Size}
use Rattle.vector.specs.declared.Answer.{Answer}
use Rattle.vector.specs.declared.Answer.TheVariants.{Full, Empty, Length}
use Rattle.descriptor_steps.specs.Shared.{Cell, empty, plain, frozen, Status, pending, done, final, Shared, is_pending, is_final, held, is_push, is_pop, position, emptied_by, size_after}
use Rattle.linearization.specs.Names.{Plan, pushing, popping, Then, own, to_L1, to_W1, Stage, L1, L2, L3, P1, L4, H1, H2, G1, G2, G3, G4, G5, G5w, G6, G7, O1, R1, R2, R3, W1, W2, W3}

-- A word frozen by pop c through j was never put; was put, with a value, while c was pending; or was put when c was final.
-- It is put at most once. `Puts` says for each c and j which.
pub data Put : Type 0 where
  unput : Put
  early : ℕ → Put
  late : ℕ → Put

abbrev pub Puts : Type 0
Puts = ℕ → ℕ → Put

abbrev pub WasPut : Puts → ℕ → ℕ → ℕ → Type 0
WasPut put c j a = (put c j ≡ early a) ⊎ (put c j ≡ late a)

abbrev pub is_done : Status → Bool
is_done pending = false
is_done (done a) = true
is_done (final a) = false

abbrev pub Final : Shared → ℕ → Type 0
Final s k = is_final (s.status k) ≡ true

-- no operation, or a final one: what a thread may build on
abbrev pub Settled : Shared → ℕ → Type 0
Settled s c = (c ≡ 0) ⊎ Final s c

-- the operation that a plan is of
abbrev pub op_of : Option Plan → Op ℕ
op_of None = Size
op_of (Some (pushing p x e)) = Push x
op_of (Some (popping p)) = Pop

-- the operations that begin at L1
abbrev pub from_L1 : Op ℕ → Bool
from_L1 (Push x) = true
from_L1 Pop = true
from_L1 (Read i) = false
from_L1 (Write i x) = false
from_L1 Size = true

-- A word that a freeze or a write may replace: plain, or frozen by a final pop.
abbrev pub Replaceable : Shared → Cell → Type 0
Replaceable s (empty k) = ⊥
Replaceable s (plain a) = Unit {0}
Replaceable s (frozen a k j) = Final s k

-- At L3: the answer is right for a vector of size m.
abbrev pub Verdict : Op ℕ → ℕ → ℕ → Answer ℕ → Type 0
Verdict (Push x) m capacity a = (capacity ≤ m) × (a ≡ Full)
Verdict Pop m capacity a = (m ≡ 0) × (a ≡ Empty)
Verdict Size m capacity a = a ≡ Length m
Verdict (Read i) m capacity a = ⊥
Verdict (Write i x) m capacity a = ⊥

-- At L4: the plan fits the operation and the size that c left; and while c is current, the cell to fill is empty by whom the plan says.
abbrev pub Ready : Shared → ℕ → Plan → Op ℕ → Type 0
Ready s c (pushing m x e) op =
    (op ≡ Push x) × (m ≡ size_after (s.plan c)) × (m < s.cap) × (s.cur ≡ c → (s.cell m ≡ empty e) × ((e ≡ 0) ⊎ Final s e))
Ready s c (popping m) op = (op ≡ Pop) × (suc m ≡ size_after (s.plan c))

-- Helping c: the own operation, which is installed, or another, to go on with the own one, which is not.
abbrev pub Helping : Shared → ℕ → Op ℕ → ℕ → Then → Type 0
Helping s n op c own = (c ≡ n) × (op ≡ op_of (s.plan n)) × (is_some (s.plan n) ≡ true)
Helping s n op c to_L1 = (s.plan n ≡ None) × (from_L1 op ≡ true)
Helping s n op c (to_W1 i x) = (s.plan n ≡ None) × (op ≡ Write i x) × (i < s.cap)

-- What the thread with number n and operation op knows at its stage.
abbrev pub Knows : Shared → Puts → ℕ → Op ℕ → Stage → Type 0
Knows s put n op L1 = (s.plan n ≡ None) × (from_L1 op ≡ true)
Knows s put n op (L2 c) = (s.plan n ≡ None) × (from_L1 op ≡ true) × (is_some (s.plan c) ≡ true)
Knows s put n op (L3 c a) =
    (s.plan n ≡ None) × (from_L1 op ≡ true) × Settled s c × Verdict op (size_after (s.plan c)) s.cap a
Knows s put n op (P1 c m x) =
    (s.plan n ≡ None) × (from_L1 op ≡ true) × Settled s c × (op ≡ Push x) × (m ≡ size_after (s.plan c)) × (m < s.cap)
Knows s put n op (L4 c p) = (s.plan n ≡ None) × (from_L1 op ≡ true) × Settled s c × Ready s c p op
-- H: c is a push; past H1 its cell is not as it found it
Knows s put n op (H1 c r) = Helping s n op c r × (is_push (s.plan c) ≡ true)
Knows s put n op (H2 c r) =
    Helping s n op c r × (is_push (s.plan c) ≡ true) × (s.cell (position (s.plan c)) ≢ empty (emptied_by (s.plan c)))
-- G: c is a pop. Up to G3 this thread has put no word for c; from G4 on it remembers a word that was put
Knows s put n op (G1 c r) = Helping s n op c r × (is_pop (s.plan c) ≡ true) × (put c n ≡ unput)
Knows s put n op (G2 c a k j r) =
    Helping s n op c r × (is_pop (s.plan c) ≡ true) × (put c n ≡ unput) × (Final s k ⊎ Final s c) × (is_pop (s.plan k) ≡ true)
Knows s put n op (G3 c w r) = Helping s n op c r × (is_pop (s.plan c) ≡ true) × (put c n ≡ unput) × Replaceable s w
Knows s put n op (G4 c a j r) = Helping s n op c r × (is_pop (s.plan c) ≡ true) × WasPut put c j a
Knows s put n op (G5 c r) =
    Helping s n op c r × (is_pop (s.plan c) ≡ true) × (put c n ≡ unput) × (is_pending (s.status c) ≡ false) × (is_done (s.status c) ≡ true → s.cell (position (s.plan c)) ≡ empty c)
Knows s put n op (G5w c a j r) = Helping s n op c r × (is_pop (s.plan c) ≡ true) × WasPut put c j a × (is_pending (s.status c) ≡ false)
Knows s put n op (G6 c a j b r) =
    Helping s n op c r × (is_pop (s.plan c) ≡ true) × (put c j ≡ early a) × (is_pending (s.status c) ≡ false) × (held (s.status c) ≡ b)
Knows s put n op (G7 c b r) =
    Helping s n op c r × (is_pop (s.plan c) ≡ true) × (is_pending (s.status c) ≡ false) × (held (s.status c) ≡ b) × (is_done (s.status c) ≡ true → s.cell (position (s.plan c)) ≡ empty c)
-- O1: the own pop is final
Knows s put n op O1 = (op ≡ Pop) × (is_pop (s.plan n) ≡ true) × Final s n
-- R, W: the index is within the capacity, and a frozen word seen is a pop's at that index
Knows s put n op (R1 i) = (s.plan n ≡ None) × (op ≡ Read i) × (i < s.cap)
Knows s put n op (R2 i a k j) =
    (s.plan n ≡ None) × (op ≡ Read i) × (i < s.cap) × (is_pop (s.plan k) ≡ true) × (position (s.plan k) ≡ i) × WasPut put k j a
Knows s put n op (R3 i a k j) = (s.plan n ≡ None) × (op ≡ Read i) × (i < s.cap) × Final s k
Knows s put n op (W1 i x) = (s.plan n ≡ None) × (op ≡ Write i x) × (i < s.cap)
Knows s put n op (W2 i x a k j) =
    (s.plan n ≡ None) × (op ≡ Write i x) × (i < s.cap) × (is_pop (s.plan k) ≡ true) × (position (s.plan k) ≡ i)
Knows s put n op (W3 i x w) = (s.plan n ≡ None) × (op ≡ Write i x) × (i < s.cap) × Replaceable s w

-- The pop that a thread may have put a word for, and is not through with (0: none).
abbrev pub freezing : Stage → ℕ
freezing L1 = 0
freezing (L2 c) = 0
freezing (L3 c a) = 0
freezing (P1 c m x) = 0
freezing (L4 c p) = 0
freezing (H1 c r) = 0
freezing (H2 c r) = 0
freezing (G1 c r) = 0
freezing (G2 c a k j r) = 0
freezing (G3 c w r) = 0
freezing (G4 c a j r) = c
freezing (G5 c r) = 0
freezing (G5w c a j r) = c
freezing (G6 c a j b r) = c
freezing (G7 c b r) = c
freezing O1 = 0
freezing (R1 i) = 0
freezing (R2 i a k j) = 0
freezing (R3 i a k j) = 0
freezing (W1 i x) = 0
freezing (W2 i x a k j) = 0
freezing (W3 i x w) = 0

-- An open thread: its number is not 0; it has put no word but for a final pop, or for the one that it is freezing; and it knows
-- what its stage says.
pub record Thread (s : Shared) (put : Puts) (n : ℕ) (op : Op ℕ) (g : Stage) : Type 0 where
  pub number : n ≢ 0
  pub past : (c : ℕ) → (put c n ≡ unput) ⊎ (Final s c ⊎ (c ≡ freezing g))
  pub here : Knows s put n op g
