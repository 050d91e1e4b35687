-- Every row is computed; those of the descriptor vector in its own crate.
use Rattle.std.proofs.Common.{refl}
use lib.Count.{count_leading_zeros}
use Rattle.played.proofs.worked.worked_runs.Goals as goal

pub returns : goal.returns
unfolding count_leading_zeros
returns c = record {
  location_7 = refl;
  location_8 = refl;
  location_23 = refl;
  location_24 = refl;
  origin = λ p ex ey ez. simp (ex, ey, ez);
  lowest = λ p ex ey ez. simp (ex, ey, ez);
  highest = λ p ex ey ez. simp (ex, ey, ez);
  minus_one = refl;
  locked_push = refl;
  locked_size = refl;
  descriptor_runs = c.played_runs.ensures;
}
