-- W3 overwrites a replaceable word, which stands below the size: the write takes effect.
use Rattle.std.proofs.Common.{◌≡◌, ℕ, true, ◌⊎◌, length, refl, inl, arith}
use Rattle.std.proofs.lemmas.Bool.{lt-ltb}
use Rattle.vector.specs.declared.Answer.TheVariants.{Done}
use Rattle.vector.specs.declared.Op.{Op}
use Rattle.vector.specs.declared.Op.TheVariants.{Write}
use Rattle.linearization.specs.Invariant.{Facts}
use Rattle.linearization.specs.Knowledge.{unput, Puts, WasPut, Replaceable}
use Rattle.linearization.specs.Meaning.{size_now, items, meant_of}
use Rattle.descriptor_steps.specs.Shared.{Cell, plain, frozen, Shared, set_cell, is_pop, position}
use Rattle.linearization.proofs.Consequences.{Plainly, replaceable_low}
use Rattle.linearization.proofs.Follows.{Follows}
use Rattle.linearization.proofs.Replace.{NewPut, replace_size, replace_facts, replace_follows, replace_rows}
use Rattle.linearization.proofs.Tests.{no_way}
use Rattle.linearization.proofs.Values.{values_length, values_set}

module _ {s : Shared} {put : Puts} (g : Facts s put) (n i x : ℕ) (w : Cell) (is_w : s.cell i ≡ w) (o : Replaceable s w) where
  grown : (d j : ℕ) → (put d j ≡ put d j) ⊎ ((j ≡ n) × (put d j ≡ unput) × NewPut s put i (plain x) d j)
  grown d j = inl refl

  new_word : (b d j : ℕ) → plain x ≡ frozen b d j → (put d j ≡ unput) × (is_pop (s.plan d) ≡ true) × (position (s.plan d) ≡ i) × WasPut put d j b
  new_word b d j e = no_way (cc)

  pub write_facts : Facts (set_cell s i (plain x)) put
  write_facts = replace_facts g n i w (plain x) put is_w o refl grown new_word

  pub write_follows : Follows n s put (set_cell s i (plain x)) put
  write_follows = replace_follows g n i w (plain x) put is_w o refl grown new_word

  pub write_rows : (k : ℕ) (op : Op ℕ) → meant_of (set_cell s i (plain x)) k op ≡ meant_of s k op
  write_rows = replace_rows g n i w (plain x) put is_w o refl grown new_word

  pub write_takes : Plainly s (Write i x) (set_cell s i (plain x)) Done
  write_takes =
      let z = replace_size g n i w (plain x) put is_w o refl grown new_word in
      let l = replaceable_low g i w is_w o in
      let y = values_set s.cell x (size_now s) i l in
      let e = values_length s.cell (size_now s) in
      let h = lt-ltb i (length (items s)) (omega arith) in
      (cc, cc)
