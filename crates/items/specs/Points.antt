-- Points as 32-bit values, and back.
use Rattle.std.specs.Prelude.{◌≡◌, ℕ, ◌+◌, ◌*◌, ◌/◌, ◌%◌, ◌^◌, ◌<◌, ℤ, Ok, Err, Result}
use Rattle.std.proofs.Common.{arith}
use Rattle.std.proofs.lemmas.Int.{ints}
use Rattle.refusal.specs.declared.Refusal.{Refusal}
use Rattle.refusal.specs.declared.Refusal.TheVariants.{BadCoordinate}
use Rattle.items.specs.Coordinates.{Coordinate, ten_bits, coordinate}
use Rattle.items.specs.declared.point.Point.{Point}

-- the point of these coordinates, or a refusal where one of them is out of range
abbrev pub MakesPoint : ℤ → ℤ → ℤ → Result Point Refusal → Type 0
MakesPoint x y z (Ok p) = (p.x ≡ x) × (p.y ≡ y) × (p.z ≡ z)
MakesPoint x y z (Err f) = (Coordinate x × Coordinate y × Coordinate z → ⊥) × (f ≡ BadCoordinate)

abbrev pub point_value : Point → ℕ
point_value p = ten_bits p.x * 2 ^ 20 + ten_bits p.y * 2 ^ 10 + ten_bits p.z

pub coordinates : (v : ℕ) → v < 1024 → Coordinate (coordinate v)
coordinates v h = (omega (arith, ints), omega (arith, ints))

-- ten bits for each coordinate, from the lowest up: the two highest bits of a value are ignored
abbrev pub value_point : ℕ → Point
value_point v = record {
  x = coordinate (v / 2 ^ 20 % 1024);
  y = coordinate (v / 2 ^ 10 % 1024);
  z = coordinate (v % 1024);
  ok = (
    coordinates (v / 2 ^ 20 % 1024) (omega arith),
    coordinates (v / 2 ^ 10 % 1024) (omega arith),
    coordinates (v % 1024) (omega arith),
  );
}
