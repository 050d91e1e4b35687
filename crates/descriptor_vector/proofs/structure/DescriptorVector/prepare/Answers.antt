use Rattle.std.proofs.Common.{◌≡◌, ℕ, ◌-◌, ◌^◌, min, Bool, None, Ok, Result, sym, ◌∙◌, refl, arith}
use Rattle.refusal.specs.declared.Refusal.{Refusal}
use Rattle.vector.specs.Refusals.{first_row, set_up_rows}
use Rattle.vector.proofs.Tasks.{set_up_granted}
use Rattle.descriptor_vector.specs.declared.table.Table.{Table}
use Rattle.descriptor_vector.specs.Calls.{needed, Prepares}
use Rattle.descriptor_vector.specs.Once.{stays_set_up}
use Rattle.descriptor_vector.proofs.structure.DescriptorVector.prepare.Goals as goal

-- a capacity that is granted is so low that the words needed for it are a `usize`
granted : (set k n l l' r : ℕ) (z z' : Bool) → l ≡ l' → r ≡ min (needed k) (2 ^ 64 - 1) → z ≡ z'
    → first_row (set_up_rows set k n l r z) ≡ None → first_row (set_up_rows set k n l' (needed k) z') ≡ None
granted set k n l l' r z z' p q s e =
    let g = set_up_granted set k n l r z e in
    let low = g.2 in
    let same : r ≡ needed k = omega arith in
    sym (λ i. first_row (set_up_rows set k n (p i) (same i) (s i))) ∙ e

pub invariant_of-self-2-clause-sound : goal.invariant_of-self-2-clause-sound
invariant_of-self-2-clause-sound g c =
    let v = c.args.self.now in
    let words = g.M.Memory.words v.memory in
    let table : Table = record { threads = c.set_up.new.self; plans = c.new-self.result } in
    let done : Result (Unit {0}) Refusal = Ok tt in
    let h = c.in_ok-set_up.ensures in
    let rows = granted _ c.args.capacity c.args.threads _ _ _ _ _ c.len-words.ensures c.words_needed-needed.ensures c.all_zero-zeros.ensures h.0 in
    let does : Prepares v.table words c.args.capacity c.args.threads done table words =
    (rows, ((λ i. record { threads = h.1 i; plans = c.new-self.ensures i }), refl)) in
    stays_set_up v.table words v.sound c.args.capacity c.args.threads done table words does
