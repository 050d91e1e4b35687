-- Numbers as 32-bit values, and back.
use Rattle.std.specs.Prelude.{ℕ, ℤ, pos, negsuc, ◌+ℤ◌, ◌-ℤ◌, ◌≤ℤ◌, ◌<ℤ◌, unsigned_abs}

-- n + 2^31, and back
abbrev pub number_value : ℤ → ℕ
number_value n = unsigned_abs (n +ℤ pos 2147483648)

abbrev pub value_number : ℕ → ℤ
value_number v = pos v -ℤ pos 2147483648

-- from -2^31 to 2^31 - 1
pub record IsNumber (n : ℤ) : Type 0 where
  pub low : negsuc 2147483647 ≤ℤ n
  pub high : n <ℤ pos 2147483648
