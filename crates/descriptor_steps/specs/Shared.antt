-- The memory that the threads of a descriptor vector share, as cells, statuses and plans of the code's own types.
use Rattle.std.specs.Prelude.{ℕ, suc, Bool, true, false, cond, ◌&&◌, ◌==◌, Some, None, Option}
pub use Rattle.descriptor_words.specs.declared.cell.Cell.{Cell}
pub use Rattle.descriptor_words.specs.declared.cell.Cell.TheVariants.{Empty as empty, Plain as plain, Frozen as frozen}
pub use Rattle.descriptor_words.specs.declared.cell.Status.{Status}
pub use Rattle.descriptor_words.specs.declared.cell.Status.TheVariants.{Pending as pending, Done as done, Final as final}
pub use Rattle.descriptor_steps.specs.declared.stage.Plan.{Plan}
pub use Rattle.descriptor_steps.specs.declared.stage.Plan.TheVariants.{Pushing as pushing, Popping as popping}

-- The current operation's number (0: none yet), the status and the plan of each number, the cells, and the capacity.
pub record Shared : Type 0 where
  pub cur : ℕ
  pub status : ℕ → Status
  pub cell : ℕ → Cell
  pub plan : ℕ → Option Plan
  pub cap : ℕ

-- Before the first step: no current operation, every cell empty by 0, every number pending and without a plan.
abbrev pub fresh : ℕ → Shared
fresh capacity = record { cur = 0; status = λ _. pending; cell = λ _. empty 0; plan = λ _. None; cap = capacity }

-- a function with one value changed
module _ {A : Type 0} where
  unfoldable pub upd : (ℕ → A) → ℕ → A → ℕ → A
  upd f i v k = cond (k == i) v (f k)

-- The three changes that a step may make: a cell, a status, or a new current operation with its plan.
abbrev pub set_cell : Shared → ℕ → Cell → Shared
set_cell s i w = record { cur = s.cur; status = s.status; cell = upd s.cell i w; plan = s.plan; cap = s.cap }

abbrev pub set_status : Shared → ℕ → Status → Shared
set_status s k v = record { cur = s.cur; status = upd s.status k v; cell = s.cell; plan = s.plan; cap = s.cap }

abbrev pub install : Shared → ℕ → Plan → Shared
install s n p = record { cur = n; status = s.status; cell = s.cell; plan = upd s.plan n (Some p); cap = s.cap }

-- Of a status: whether it is pending or final, and the value that it holds.
abbrev pub is_pending : Status → Bool
is_pending pending = true
is_pending (done a) = false
is_pending (final a) = false

abbrev pub is_final : Status → Bool
is_final pending = false
is_final (done a) = false
is_final (final a) = true

abbrev pub held : Status → ℕ
held pending = 0
held (done a) = a
held (final a) = a

-- Of a plan: whether it is a push or a pop, its position, the value pushed and who emptied the cell, and the size of the vector
-- once the plan is carried out.
abbrev pub is_push : Option Plan → Bool
is_push None = false
is_push (Some (pushing p x e)) = true
is_push (Some (popping p)) = false

abbrev pub is_pop : Option Plan → Bool
is_pop None = false
is_pop (Some (pushing p x e)) = false
is_pop (Some (popping p)) = true

abbrev pub position : Option Plan → ℕ
position None = 0
position (Some (pushing p x e)) = p
position (Some (popping p)) = p

abbrev pub pushed : Option Plan → ℕ
pushed None = 0
pushed (Some (pushing p x e)) = x
pushed (Some (popping p)) = 0

abbrev pub emptied_by : Option Plan → ℕ
emptied_by None = 0
emptied_by (Some (pushing p x e)) = e
emptied_by (Some (popping p)) = 0

abbrev pub size_after : Option Plan → ℕ
size_after None = 0
size_after (Some (pushing p x e)) = suc p
size_after (Some (popping p)) = p

-- the value in a cell
abbrev pub value_in : Cell → ℕ
value_in (empty k) = 0
value_in (plain a) = a
value_in (frozen a k j) = a

-- What a compare-and-swap compares: two cells, or a status with done a.
abbrev pub same_cell : Cell → Cell → Bool
same_cell (empty k) (empty l) = k == l
same_cell (empty k) (plain b) = false
same_cell (empty k) (frozen b l i) = false
same_cell (plain a) (empty l) = false
same_cell (plain a) (plain b) = a == b
same_cell (plain a) (frozen b l i) = false
same_cell (frozen a k j) (empty l) = false
same_cell (frozen a k j) (plain b) = false
same_cell (frozen a k j) (frozen b l i) = a == b && (k == l && j == i)

abbrev pub same_done : Status → ℕ → Bool
same_done pending a = false
same_done (done b) a = b == a
same_done (final b) a = false
