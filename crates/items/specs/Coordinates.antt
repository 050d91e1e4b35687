-- A coordinate of a point, and the ten bits that it becomes.
use Rattle.std.specs.Prelude.{ℕ, ℤ, pos, negsuc, ◌+ℤ◌, ◌-ℤ◌, ◌≤ℤ◌, unsigned_abs}

-- from -512 to 511
abbrev pub Coordinate : ℤ → Type 0
Coordinate c = (negsuc 511 ≤ℤ c) × (c ≤ℤ pos 511)

-- c + 512, and back
abbrev pub ten_bits : ℤ → ℕ
ten_bits c = unsigned_abs (c +ℤ pos 512)

abbrev pub coordinate : ℕ → ℤ
coordinate v = pos v -ℤ pos 512
