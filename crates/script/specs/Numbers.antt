-- Numbers as digits.
use Rattle.std.specs.Prelude.{ℕ, ◌+◌, ◌-◌, ◌*◌, Bool, true, false, cond, ◌&&◌, List, [], ◌∷◌, length, drop, ℤ, pos, neg_ℤ, Some, None, Option, ◌==◌, nat_le, slice_index}
use Rattle.script.specs.Fields.{letter}
use Rattle.std.specs.Option.{option_map}
use Rattle.std.specs.Char.{is_ascii_digit}

-- the number that n and the digits after it write
abbrev pub digits_on : ℕ → List ℕ → Option ℕ
digits_on n [] = Some n
digits_on n (c ∷ cs) = cond (is_ascii_digit c) (digits_on (n * 10 + (c - 48)) cs) None

-- one to ten digits
abbrev pub number_of : List ℕ → Option ℕ
number_of text = cond (nat_le 1 (length text) && nat_le (length text) 10) (digits_on 0 text) None

-- a minus in front, or none, and what follows it
abbrev pub minus : List ℕ → Bool
minus text = slice_index text 0 == (letter "-")

abbrev pub unsigned : List ℕ → List ℕ
unsigned text = cond (minus text) (drop 1 text) text

abbrev pub with_sign : Bool → ℕ → ℤ
with_sign true n = neg_ℤ (pos n)
with_sign false n = pos n

abbrev pub signed_of : List ℕ → Option ℤ
signed_of text = option_map (with_sign (minus text)) (number_of (unsigned text))
