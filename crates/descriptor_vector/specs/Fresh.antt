-- Words that are all 0 are the machine's fresh memory.
use Rattle.std.specs.Prelude.{◌≡◌, ℕ, zero, suc, ◌<◌, ◌≤◌, List, [], length, replicate, slice_index, slice_index_or, refl, None, Option}
use Rattle.std.proofs.Common.{sym, ap, subst, inl, inr, arith}
use Rattle.std.proofs.lemmas.List.{length-replicate}
use Rattle.std.proofs.lemmas.Bool.{cases_Bool}
use Rattle.vector.specs.Meaning.{unset}
use Rattle.descriptor_words.specs.Words.{cell_of, status_of, numbered}
use Rattle.descriptor_words.specs.Accesses.{cell_at, current_of}
use Rattle.descriptor_steps.specs.Shared.{pending, empty, position, fresh}
use Rattle.linearization.specs.Meaning.{effected, sized, values, items}
use Rattle.descriptor_steps.specs.Steps.{no_plans, plan_of}
use Rattle.linearization.specs.Names.{Plan}
use Rattle.descriptor_vector.specs.Calls.{needed, prepared}
use Rattle.descriptor_vector.specs.View.{status_in, cell_in, view, PlanFits, Coded}
use Rattle.descriptor_vector.specs.Sound.{memory_of, shown}
use Rattle.descriptor_vector.specs.Changes.{same_shared}

none_at : (n k : ℕ) → ◌≡◌ {A = Option Plan} (slice_index_or (replicate n None) k None) None
none_at zero k = refl
none_at (suc n) zero = refl
none_at (suc n) (suc k) = none_at n k

never_planned : (k : ℕ) → plan_of no_plans k ≡ None
never_planned = none_at 401

module _ (words : List ℕ) (capacity : ℕ) (zeros : (at : ℕ) → slice_index words at ≡ 0) where
  all_pending : (k : ℕ) → status_in words k ≡ pending
  all_pending k = elim (cases_Bool (numbered k)) [ inl b ↦ rw b (ap status_of (zeros k)) | inr b ↦ rw b refl ]

  pub fresh_view : view words no_plans capacity ≡ fresh capacity
  fresh_view = same_shared capacity (ap current_of (zeros 0)) all_pending (λ i. ap cell_of (zeros (cell_at i))) never_planned

  pub fresh_coded : 0 < capacity → needed capacity ≤ length words → Coded words no_plans capacity
  fresh_coded some_cell room = record {
    some_cell = some_cell;
    room = room;
    all_plans = length-replicate {A = Option Plan} 401 None;
    current = subst (λ w. w ≤ 400) (sym (zeros 0)) (omega arith);
    status = λ k n. (pending, tt, zeros k);
    cell = λ i h. (empty 0, omega arith, zeros (cell_at i));
    plan = λ k. subst (PlanFits capacity) (sym (never_planned k)) tt;
  }

-- what is just made means nothing yet, whatever stands in its memory
pub means_nothing : (words : List ℕ) → (shown (prepared 0 0) words).meaning ≡ unset
means_nothing words = λ i. record { capacity = 0; items = no_items i; rows = []; given = 0 }
  where
    no_items : items (memory_of (prepared 0 0) words) ≡ []
    no_items = ap (λ (p : Option Plan). values (cell_in words) (sized p (effected p (status_in words (current_of (slice_index words 0))) (cell_in words (position p))))) (never_planned (current_of (slice_index words 0)))
