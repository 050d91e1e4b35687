-- Items as text.
use Rattle.std.specs.Prelude.{◌≡◌, ℕ, ◌+◌, Bool, true, false, cond, ◌&&◌, List, length, ℤ, pos, negsuc, Some, None, Ok, Err, Option, Result, ◌==◌, nat_lt, refl}
use Rattle.std.proofs.Common.{arith}
use Rattle.std.specs.Int.Signed.{mag}
use Rattle.std.proofs.lemmas.Int.{ints}
use Rattle.std.proofs.lemmas.Bool.{and_parts, ltb-true}
use Rattle.std.specs.Option.{option_map}
use Rattle.items.specs.Coordinates.{Coordinate}
use Rattle.items.specs.declared.point.Point.{Point}
use Rattle.script.specs.Fields.{letter, before, after}
use Rattle.script.specs.Numbers.{number_of, minus, unsigned, with_sign, signed_of}
use Rattle.refusal.specs.declared.Refusal.{Refusal}
use Rattle.refusal.specs.declared.Refusal.TheVariants.{NotOfAForm, OutOfRange, BadCoordinate}

-- from -limit to limit - 1
abbrev pub within : ℕ → ℤ → Bool
within limit z = nat_lt (mag z) limit

abbrev pub ranged : Option ℤ → Result ℤ Refusal
ranged None = Err NotOfAForm
ranged (Some z) = cond (within 2147483648 z) (Ok z) (Err OutOfRange)

abbrev pub number_item : List ℕ → Result ℤ Refusal
number_item text = ranged (signed_of text)

-- one decimal or none; halves go up
abbrev pub rounded : ℕ → ℕ → ℕ
rounded whole tenth = cond (nat_lt tenth 5) whole (whole + 1)

abbrev pub tenth_of : List ℕ → Option ℕ
tenth_of text = cond (length text == 1) (number_of text) None

abbrev pub with_tenth : Option ℕ → Option (List ℕ) → Option ℕ
with_tenth None tenth = None
with_tenth (Some whole) None = Some whole
with_tenth (Some whole) (Some tenth) = option_map (rounded whole) (tenth_of tenth)

abbrev pub magnitude_of : List ℕ → Option ℕ
magnitude_of text = with_tenth (number_of (before (letter ".") text)) (after (letter ".") text)

-- halves go away from zero
abbrev pub coordinate_of : List ℕ → Option ℤ
coordinate_of text = option_map (with_sign (minus text)) (magnitude_of (unsigned text))

pub coordinate_within : (z : ℤ) → within 512 z ≡ true → Coordinate z
coordinate_within (pos n) h = let l = ltb-true n 512 h in (omega (arith, ints), omega (arith, ints))
coordinate_within (negsuc n) h = let l = ltb-true n 512 h in (omega (arith, ints), omega (arith, ints))

abbrev pub all_within : ℤ → ℤ → ℤ → Bool
all_within x y z = within 512 x && (within 512 y && within 512 z)

abbrev pub point_if : (x y z : ℤ) (b : Bool) → all_within x y z ≡ b → Result Point Refusal
point_if x y z true e =
    let p = and_parts (within 512 x) (within 512 y && within 512 z) e in
    let q = and_parts (within 512 y) (within 512 z) p.1 in
    Ok (record { x = x; y = y; z = z; ok = (coordinate_within x p.0, coordinate_within y q.0, coordinate_within z q.1) })
point_if x y z false e = Err BadCoordinate

unfoldable pub point_at : ℤ → ℤ → ℤ → Result Point Refusal
point_at x y z = point_if x y z (all_within x y z) refl

abbrev pub three : Option ℤ → Option ℤ → Option ℤ → Result Point Refusal
three None y z = Err NotOfAForm
three (Some x) None z = Err NotOfAForm
three (Some x) (Some y) None = Err NotOfAForm
three (Some x) (Some y) (Some z) = point_at x y z

-- x,y,z
abbrev pub last_two : Option ℤ → List ℕ → Option (List ℕ) → Result Point Refusal
last_two x y None = Err NotOfAForm
last_two x y (Some z) = three x (coordinate_of y) (coordinate_of z)

abbrev pub from_x : List ℕ → Option (List ℕ) → Result Point Refusal
from_x x None = Err NotOfAForm
from_x x (Some rest) = last_two (coordinate_of x) (before (letter ",") rest) (after (letter ",") rest)

abbrev pub point_item : List ℕ → Result Point Refusal
point_item text = from_x (before (letter ",") text) (after (letter ",") text)
