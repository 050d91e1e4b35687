-- A point turned into a value and back.
use Rattle.std.specs.Prelude.{◌≡◌, ◌+◌, ◌*◌, ◌/◌, ◌%◌, ◌^◌, ◌<◌, ℤ}
use Rattle.std.proofs.Common.{◌∙◌, ap, arith}
use mathlib.Core.HLevel.{is_prop→PathP}
use denote.Struct.Props.{props}
use Rattle.std.proofs.lemmas.Int.{ints}
use Rattle.items.specs.Coordinates.{Coordinate, ten_bits, coordinate}
use Rattle.items.specs.Points.{point_value, value_point}
use Rattle.items.specs.declared.point.Point.{Point}

pub same_point : (p q : Point) → p.x ≡ q.x → p.y ≡ q.y → p.z ≡ q.z → p ≡ q
same_point p q ex ey ez = λ j. record {
  x = ex j;
  y = ey j;
  z = ez j;
  ok = is_prop→PathP (λ k. Coordinate (ex k) × Coordinate (ey k) × Coordinate (ez k)) (λ k. hlevel props) p.ok q.ok j;
}

small : (c : ℤ) → Coordinate c → ten_bits c < 1024
small c h = grind (arith, ints)

coordinate_back : (c : ℤ) → Coordinate c → coordinate (ten_bits c) ≡ c
coordinate_back c h = grind (arith, ints)

pub back : (p : Point) → value_point (point_value p) ≡ p
back p =
    let hx = small p.x p.ok.0 in
    let hy = small p.y p.ok.1 in
    let hz = small p.z p.ok.2 in
    let ax : (ten_bits p.x * 2 ^ 20 + ten_bits p.y * 2 ^ 10 + ten_bits p.z) / 2 ^ 20 % 1024 ≡ ten_bits p.x = omega arith in
    let ay : (ten_bits p.x * 2 ^ 20 + ten_bits p.y * 2 ^ 10 + ten_bits p.z) / 2 ^ 10 % 1024 ≡ ten_bits p.y = omega arith in
    let az : (ten_bits p.x * 2 ^ 20 + ten_bits p.y * 2 ^ 10 + ten_bits p.z) % 1024 ≡ ten_bits p.z = omega arith in
    same_point _ _
    (ap coordinate ax ∙ coordinate_back p.x p.ok.0)
    (ap coordinate ay ∙ coordinate_back p.y p.ok.1)
    (ap coordinate az ∙ coordinate_back p.z p.ok.2)
