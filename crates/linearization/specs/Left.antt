-- How many steps a thread takes at most, while it is the only one that is open.
use Rattle.std.specs.Prelude.{ℕ, ◌+◌, max, Bool, cond, List, [], ◌∷◌, Some, None, ◌==◌}
use Rattle.descriptor_steps.specs.Shared.{Cell, frozen, Shared, position, same_cell}
use Rattle.linearization.specs.Names.{Then, own, to_L1, to_W1, Stage, L1, L2, L3, P1, L4, H1, H2, G1, G2, G3, G4, G5, G5w, G6, G7, O1, R1, R2, R3, W1, W2, W3, Row}

-- what is left when help is over
abbrev pub rest : Then → ℕ
rest own = 1
rest to_L1 = 12
rest (to_W1 i x) = 3

-- the cell at c's position still holds w
abbrev pub stands : Shared → ℕ → Cell → Bool
stands s c w = same_cell (s.cell (position (s.plan c))) w

-- At a stage: fewer where what the thread saw still stands, more where it has to look again.
abbrev pub rank : Shared → Stage → ℕ
rank s L1 = 12
rank s (L2 c) = cond (s.cur == c) 11 15
rank s (L3 c a) = cond (s.cur == c) 1 13
rank s (P1 c m x) = cond (s.cur == c) 10 14
rank s (L4 c p) = cond (s.cur == c) 9 13
rank s (H1 c r) = 2 + rest r
rank s (H2 c r) = 1 + rest r
rank s (G1 c r) = 7 + rest r
rank s (G2 c a k j r) = cond (stands s c (frozen a k j)) 6 9 + rest r
rank s (G3 c w r) = cond (stands s c w) 5 8 + rest r
rank s (G4 c a j r) = 4 + rest r
rank s (G5 c r) = 2 + rest r
rank s (G5w c a j r) = 3 + rest r
rank s (G6 c a j b r) = 2 + rest r
rank s (G7 c b r) = 1 + rest r
rank s O1 = 1
rank s (R1 i) = 3
rank s (R2 i a k j) = cond (same_cell (s.cell i) (frozen a k j)) 2 4
rank s (R3 i a k j) = cond (same_cell (s.cell i) (frozen a k j)) 1 3
rank s (W1 i x) = 3
rank s (W2 i x a k j) = cond (same_cell (s.cell i) (frozen a k j)) 2 5
rank s (W3 i x w) = cond (same_cell (s.cell i) w) 1 4

abbrev pub row_rank : Shared → Row → ℕ
row_rank s None = 0
row_rank s (Some w) = rank s w.stage

-- The steps left: the largest rank of a thread.
abbrev pub left : Shared → List Row → ℕ
left s [] = 0
left s (r ∷ rows) = max (row_rank s r) (left s rows)
