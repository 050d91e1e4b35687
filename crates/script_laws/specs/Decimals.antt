-- Numbers are written in the shortest form that reads back.
use Rattle.std.specs.Prelude.{◌≡◌, ℕ, ◌≤◌, List, length, ℤ, pos, negsuc, ◌≤ℤ◌, Some}
use Rattle.std.specs.Fmt.{signed_decimal}
use Rattle.script.specs.Numbers.{signed_of}

-- the text reads as the number, and no shorter text does
pub record Shortest (z : ℤ) (text : List ℕ) : Type 0 where
  pub reads : signed_of text ≡ Some z
  pub shortest : (other : List ℕ) → signed_of other ≡ Some z → length text ≤ length other

-- so are all numbers of 32 bits, with a sign or without; a number without one is written the same way
abbrev pub ShortestDecimals : Type 0
ShortestDecimals = (z : ℤ) → negsuc 2147483647 ≤ℤ z → z ≤ℤ pos 4294967295 → Shortest z (signed_decimal z)
