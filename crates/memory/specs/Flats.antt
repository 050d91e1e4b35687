-- The words of a flat memory.
use Rattle.std.specs.Prelude.{ℕ, List, vec_items}
use Rattle.memory.specs.declared.flat.FlatMemory.{FlatMemory}

abbrev pub flat_words : FlatMemory → List ℕ
flat_words m = vec_items m.cells
