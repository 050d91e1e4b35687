-- The kinds, memories and containers that there are, each by what it means.
use Rattle.std.specs.Prelude.{ℕ, List, ℤ}
use Rattle.items.specs.Numbers.{number_value, value_number, IsNumber}
use Rattle.items.specs.Points.{point_value, value_point}
use Rattle.items.specs.declared.Kind.{Ghosts as Kind}
use Rattle.items.specs.declared.numbers.Numbers.{Numbers}
use Rattle.items.specs.declared.point.Point.{Point}
use Rattle.items.specs.declared.points.Points.{Points}
use Rattle.vector.specs.declared.container.Container.{Ghosts as Container}
use Rattle.lock_vector.specs.Calls as lock_calls
use Rattle.lock_vector.specs.Meaning as lock_meaning
use Rattle.lock_vector.specs.declared.LockVector.{LockVector}
use Rattle.descriptor_vector.specs.Calls as descriptor_calls
use Rattle.descriptor_vector.specs.Sound as descriptor_meaning
use Rattle.descriptor_vector.specs.declared.structure.DescriptorVector.{DescriptorVector}

abbrev pub numbers : Kind Numbers ℤ
numbers = record { value = number_value; item = value_number; proper = IsNumber }

abbrev pub points : Kind Points Point
points = record { value = point_value; item = value_point; proper = λ _. Unit {0} }

-- the vector under a lock over a memory
abbrev pub lock_vector : {M : Type 0} (words : M → List ℕ) → Container (LockVector M (record { words = words }))
lock_vector words = record {
  shows = λ v. lock_meaning.shown v.threads (words v.memory);
  setting = λ v capacity threads r v'. lock_calls.Prepares v.threads (words v.memory) capacity threads r v'.threads (words v'.memory);
  beginning = λ v thread op r v'. lock_calls.Admits v.threads (words v.memory) thread op r v'.threads (words v'.memory);
  stepping = λ v thread r v'. lock_calls.Advances v.threads (words v.memory) thread r v'.threads (words v'.memory);
}

-- the descriptor vector over a memory
abbrev pub descriptor_vector : {M : Type 0} (words : M → List ℕ) → Container (DescriptorVector M (record { words = words }))
descriptor_vector words = record {
  shows = λ v. descriptor_meaning.shown v.table (words v.memory);
  setting = λ v capacity threads r v'. descriptor_calls.Prepares v.table (words v.memory) capacity threads r v'.table (words v'.memory);
  beginning = λ v thread op r v'. descriptor_calls.Admits v.table (words v.memory) thread op r v'.table (words v'.memory);
  stepping = λ v thread r v'. descriptor_calls.Advances v.table (words v.memory) thread r v'.table (words v'.memory);
}
