-- The rows of the threads: whether each is open in the meaning, and how many steps it has left.
use Rattle.std.specs.Prelude.{◌≡◌, ℕ, ◌*◌, ◌<◌, ◌≤◌, true, List, length, is_some, Some, None, sum_by, Option, refl}
use Rattle.std.proofs.Common.{arith}
use Rattle.std.proofs.lemmas.List.Sums.{sum_by-le}
use Rattle.vector.specs.Meaning.{is_open}
use Rattle.vector.specs.declared.threads.Task.{Task}
use Rattle.lock_vector.specs.declared.stages.Loading.TheVariants.{K2, K3}
use Rattle.lock_vector.specs.declared.stages.Swapping.TheVariants.{K1, K4, K5, K6}
use Rattle.lock_vector.specs.declared.stages.Stage.{Stage}
use Rattle.lock_vector.specs.declared.stages.Stage.TheVariants.{Load, Swap}
use Rattle.lock_vector.specs.Meaning.{meant, meant_at, rank, rank_at}

pub open_meant : (row : Option (Task Stage)) → is_open (meant row) ≡ is_some row
open_meant None = refl
open_meant (Some o) = go o.stage
  where
    go : (s : Stage) → is_open (meant_at s o.op o.number) ≡ true
    go (Load l) = refl
    go (Swap K1) = refl
    go (Swap (K4 i w a)) = refl
    go (Swap (K5 m n a)) = refl
    go (Swap (K6 a)) = refl

rank_within : (s : Stage) → (0 < rank_at s) × (rank_at s ≤ 6)
rank_within (Load K2) = (omega arith, omega arith)
rank_within (Load (K3 i)) = (omega arith, omega arith)
rank_within (Swap K1) = (omega arith, omega arith)
rank_within (Swap (K4 i w a)) = (omega arith, omega arith)
rank_within (Swap (K5 m n a)) = (omega arith, omega arith)
rank_within (Swap (K6 a)) = (omega arith, omega arith)

pub rank_open : (row : Option (Task Stage)) → is_some row ≡ true → 0 < rank row
rank_open None e = let z : ◌≡◌ {A = ℕ} 0 1 = cc in absurd (omega arith)
rank_open (Some o) e = (rank_within o.stage).0

rank_small : (row : Option (Task Stage)) → rank row ≤ 6
rank_small None = omega arith
rank_small (Some o) = (rank_within o.stage).1

pub ranks_small : (rows : List (Option (Task Stage))) → sum_by rank rows ≤ length rows * 6
ranks_small rows = sum_by-le rank 6 rows (λ k d l. rank_small _)
