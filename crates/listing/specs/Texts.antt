-- The text of a point.
use Rattle.std.specs.Prelude.{ℕ, List, ◌++◌, codes}
use Rattle.std.specs.Fmt.{signed_decimal}
use Rattle.items.specs.declared.point.Point.{Point}

-- x,y,z
abbrev pub point_text : Point → List ℕ
point_text p = signed_decimal p.x ++ (codes "," ++ (signed_decimal p.y ++ (codes "," ++ signed_decimal p.z)))
