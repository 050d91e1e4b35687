-- A coordinate that is passed on keeps its value.
use Rattle.std.proofs.Common.{◌≡◌, ◌<◌, ℤ, arith, w16, w64, to_z, of_z}
use lib.Signed.{mag}
use Rattle.std.proofs.lemmas.Int.{ints}

pub cast_is : (z : ℤ) → mag z < 32768 → to_z w64 (of_z w64 (to_z w16 (of_z w16 z))) ≡ z
cast_is z h = omega (arith, ints)
