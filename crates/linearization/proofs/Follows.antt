-- What a step of the thread with number n may do to the memory, as the other threads see it: the one thing that each change of
-- memory is measured by, and all that a thread's knowledge rests on.
use Rattle.std.proofs.Common.{◌≡◌, ℕ, true, ◌≢◌, ◌⊎◌, None}
use Rattle.linearization.specs.Knowledge.{unput, Puts, is_done, Settled}
use Rattle.descriptor_steps.specs.Shared.{empty, pending, final, Shared, held, is_push, is_pop, position, emptied_by}

pub record Follows (n : ℕ) (s : Shared) (put : Puts) (s' : Shared) (put' : Puts) : Type 0 where
  -- the capacity stays
  pub caps : s'.cap ≡ s.cap
  -- a plan stays; only n's own is new
  pub plans : (k : ℕ) → (s'.plan k ≡ s.plan k) ⊎ ((k ≡ n) × (s.plan k ≡ None))
  -- a word put stays put; a new one is put through n
  pub puts : (c j : ℕ) → (put' c j ≡ put c j) ⊎ ((j ≡ n) × (put c j ≡ unput))
  -- a status goes on from pending, or from done to final with the same value
  pub stats : (k : ℕ) → (s'.status k ≡ s.status k) ⊎ ((s.status k ≡ pending) ⊎ ((is_done (s.status k) ≡ true) × (s'.status k ≡ final (held (s.status k)))))
  -- the cell that a pop emptied stays so while the pop is done
  pub cleared : (c : ℕ) → is_pop (s.plan c) ≡ true → is_done (s'.status c) ≡ true → s.cell (position (s.plan c)) ≡ empty c → s'.cell (position (s.plan c)) ≡ empty c
  -- the cell of a push never comes back to what the push found
  pub filled : (c : ℕ) → is_push (s.plan c) ≡ true → s.cell (position (s.plan c)) ≢ empty (emptied_by (s.plan c)) → s'.cell (position (s.plan c)) ≢ empty (emptied_by (s.plan c))
  -- while a settled operation is current, it was so before, and empty cells stay as they are
  pub settled : (c : ℕ) → Settled s c → s'.cur ≡ c → (s.cur ≡ c) × ((i e : ℕ) → s.cell i ≡ empty e → s'.cell i ≡ empty e)
