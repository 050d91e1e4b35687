-- The theorem, from its parts: what the container's own proof cites.
use Rattle.std.proofs.Common.{◌≡◌, ℕ, zero, suc, ◌-◌, List, ◌∷◌, map, replicate, refl, ap, arith}
use Rattle.std.proofs.lemmas.List.{map-set}
use Rattle.vector.specs.Meaning.{waiting, Row as Meant, idle as no_operation}
use Rattle.linearization.specs.Linearization.{Starts, BeginsSo, StepsSo, EndsInTime, Linearizes}
use Rattle.descriptor_steps.specs.Machine.{first}
use Rattle.linearization.specs.Meaning.{meant_of, meant}
use Rattle.descriptor_steps.specs.Shared.{fresh}
use Rattle.linearization.specs.Names.{idle, open_at}
use Rattle.linearization.proofs.Alone.{left_range, step_falls}
use Rattle.linearization.proofs.Begun.{fresh_invariant, begin_invariant}
use Rattle.linearization.proofs.Kept.{step_kept}
use Rattle.linearization.proofs.Refined.{step_moves}

fresh_rows : (c n : ℕ) → map (meant (fresh c)) (replicate n idle) ≡ replicate n no_operation
fresh_rows c zero = refl
fresh_rows c (suc n) = ap {B = List Meant} (λ r. no_operation ∷ r) (fresh_rows c n)

pub starts : Starts
starts c n = (fresh_invariant c n, let e = fresh_rows c n in rw e)

pub begins_so : BeginsSo
begins_so s rows given t op i low high e fits =
    (begin_invariant i t op low high e fits, let u = waits in let z = map-set (meant s) rows (t - 1) (open_at (suc given) op (first op)) in rw (z, u))
  where
    waits : meant_of s (suc given) op ≡ waiting op (suc given)
    waits = let u = i.plan_later (suc given) (omega arith) in cc

pub steps_so : StepsSo
steps_so s rows given t n op g i e = (step_kept i t n op g e, step_moves i t n op g e, step_falls i t n op g e)

pub ends_in_time : EndsInTime
ends_in_time s rows given t i alone = left_range s rows t alone

pub linearizes : Linearizes 48
linearizes = record { starts = starts; begins = begins_so; steps = steps_so; in_time = ends_in_time }
