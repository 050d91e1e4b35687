-- A point from its text.
use Rattle.std.proofs.Common.{◌≡◌, ℕ, Bool, true, false, ◌&&◌, List, ℤ, pos, negsuc, Some, None, Ok, Err, Option, Result, refl, ap, ◌∙◌, arith}
use Rattle.std.proofs.lemmas.Int.{ints}
use Rattle.std.proofs.lemmas.Bool.{and_parts, and_from, lt-ltb}
use Rattle.items.specs.Coordinates.{Coordinate}
use Rattle.items.specs.declared.point.Point.{Point}
use Rattle.items.specs.Points.{MakesPoint}
use Rattle.items.specs.Turned.{same_point}
use Rattle.std.specs.Option.{ok_or}
use Rattle.script.specs.Fields.{before, after}
use Rattle.script.specs.Items.{within, all_within, coordinate_within, point_if, point_at, three, coordinate_of, point_item}
use Rattle.refusal.specs.declared.Refusal.{Refusal}
use Rattle.refusal.specs.declared.Refusal.TheVariants.{NotOfAForm, BadCoordinate}

within_coordinate : (z : ℤ) → Coordinate z → within 512 z ≡ true
within_coordinate (pos n) h = lt-ltb n 512 (omega (arith, ints))
within_coordinate (negsuc n) h = lt-ltb n 512 (omega (arith, ints))

all : (x y z : ℤ) → Coordinate x → Coordinate y → Coordinate z → all_within x y z ≡ true
all x y z hx hy hz = and_from _ _ (within_coordinate x hx) (and_from _ _ (within_coordinate y hy) (within_coordinate z hz))

ok_if : (x y z : ℤ) (b : Bool) (e : all_within x y z ≡ b) (p : Point) → p.x ≡ x → p.y ≡ y → p.z ≡ z → Ok p ≡ point_if x y z b e
ok_if x y z true e p ex ey ez = ap (λ (q : Point). Ok q) (same_point p _ ex ey ez)
ok_if x y z false e p ex ey ez =
    let t = all p.x p.y p.z p.ok.0 p.ok.1 p.ok.2 in
    let z : ◌≡◌ {A = ℕ} 0 1 = cc in
    absurd (omega arith)

out_if : (x y z : ℤ) (b : Bool) (e : all_within x y z ≡ b) → (Coordinate x × Coordinate y × Coordinate z → ⊥) → Err BadCoordinate ≡ point_if x y z b e
out_if x y z true e outside =
    let p = and_parts (within 512 x) (within 512 y && within 512 z) e in
    let q = and_parts (within 512 y) (within 512 z) p.1 in
    absurd (outside (coordinate_within x p.0, coordinate_within y q.0, coordinate_within z q.1))
out_if x y z false e outside = refl

pub point_from : (x y z : ℤ) (r : Result Point Refusal) → MakesPoint x y z r → r ≡ point_at x y z
unfolding point_at
point_from x y z (Ok p) h = ok_if x y z (all_within x y z) refl p h.0 h.1 h.2
point_from x y z (Err f) h = ap (λ (g : Refusal). Err g) h.1 ∙ out_if x y z (all_within x y z) refl h.0

-- a text with two commas is a point where its three parts are coordinates
module _ (text x rest y z : List ℕ) (first : (x ≡ before 44 text) × (after 44 text ≡ Some rest)) (second : (y ≡ before 44 rest) × (after 44 rest ≡ Some z)) where
  pub point_parts : point_item text ≡ three (coordinate_of x) (coordinate_of y) (coordinate_of z)
  point_parts = rw (first.1, second.1, first.0, second.0)

-- the first part that is no coordinate, or the point of three that are
form : (why : Refusal) → ◌≡◌ {A = Result ℤ Refusal} (Err why) (Err NotOfAForm) → ◌≡◌ {A = Result Point Refusal} (Err why) (Err NotOfAForm)
form why e = let w : why ≡ NotOfAForm = grind arith in ap (λ (g : Refusal). Err g) w

pub no_x : (x y z : Option ℤ) (why : Refusal) → Err why ≡ ok_or x NotOfAForm → Err why ≡ three x y z
no_x None y z why e = form why e
no_x (Some u) y z why e = let z : ◌≡◌ {A = ℕ} 0 1 = cc in absurd (omega arith)

pub no_y : (x y z : Option ℤ) (why : Refusal) → Err why ≡ ok_or y NotOfAForm → Err why ≡ three x y z
no_y None None z why e = form why e
no_y (Some u) None z why e = form why e
no_y x (Some v) z why e = let z : ◌≡◌ {A = ℕ} 0 1 = cc in absurd (omega arith)

pub no_z : (x y z : Option ℤ) (why : Refusal) → Err why ≡ ok_or z NotOfAForm → Err why ≡ three x y z
no_z None y None why e = form why e
no_z (Some u) None None why e = form why e
no_z (Some u) (Some v) None why e = form why e
no_z x y (Some w) why e = let z : ◌≡◌ {A = ℕ} 0 1 = cc in absurd (omega arith)

pub all_three : (x y z : Option ℤ) (u v w : ℤ) → Ok u ≡ ok_or x NotOfAForm → Ok v ≡ ok_or y NotOfAForm → Ok w ≡ ok_or z NotOfAForm → three x y z ≡ point_at u v w
all_three x y z u v w ex ey ez =
    let dx : x ≡ Some u = grind arith in
    let dy : y ≡ Some v = grind arith in
    let dz : z ≡ Some w = grind arith in
    rw (dx, dy, dz)
