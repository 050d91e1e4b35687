-- The worked runs: what the definitions yield for inputs that were worked by hand.
use Rattle.std.specs.Prelude.{◌≡◌, ℕ, ℤ, pos, negsuc}
use Rattle.memory.specs.Buckets.{bucket_of}
use Rattle.items.specs.declared.point.Point.{Point}
use Rattle.items.specs.Points.{point_value}
use Rattle.items.specs.Numbers.{number_value}
use Rattle.lock_vector.specs.Played.{FreshPush, WaitingSize}
use Rattle.descriptor_steps.specs.Played.{PlayedRuns}

-- the value of every point with these coordinates
abbrev pub HasValue : ℤ → ℤ → ℤ → ℕ → Type 0
HasValue x y z v = (p : Point) → p.x ≡ x → p.y ≡ y → p.z ≡ z → point_value p ≡ v

pub record WorkedRuns : Type 0 where
  pub location_7 : bucket_of 7 ≡ 0
  pub location_8 : bucket_of 8 ≡ 1
  pub location_23 : bucket_of 23 ≡ 1
  pub location_24 : bucket_of 24 ≡ 2
  pub origin : HasValue (pos 0) (pos 0) (pos 0) 537395712
  pub lowest : HasValue (negsuc 511) (negsuc 511) (negsuc 511) 0
  pub highest : HasValue (pos 511) (pos 511) (pos 511) 1073741823
  pub minus_one : number_value (negsuc 0) ≡ 2147483647
  -- on the vector under a lock, a push takes 6 steps, with effect at the 5th; and a size that has to wait
  pub locked_push : FreshPush 5
  pub locked_size : WaitingSize
  -- on the descriptor vector: push, pop, full, empty, the parked push and the late freeze
  pub descriptor_runs : PlayedRuns
