-- The form of the first line.
use Rattle.std.specs.Prelude.{ℕ, cond, List, length, Some, None, Option, ◌==◌, slice_index}
use Rattle.script.specs.Fields.{letter, before, after}
use Rattle.script.specs.Numbers.{number_of}
use Rattle.script.specs.declared.headers.ContainerChoice.{ContainerChoice}
use Rattle.script.specs.declared.headers.ContainerChoice.TheVariants.{Descriptor, Lock}
use Rattle.script.specs.declared.headers.MemoryChoice.{MemoryChoice}
use Rattle.script.specs.declared.headers.MemoryChoice.TheVariants.{Flat, Bucketed}
use Rattle.script.specs.declared.headers.KindChoice.{KindChoice}
use Rattle.script.specs.declared.headers.KindChoice.TheVariants.{Numbers, Points}
use Rattle.script.specs.declared.headers.Header.{Header}

abbrev pub container_of : ℕ → Option ContainerChoice
container_of l = cond (l == (letter "d")) (Some Descriptor) (cond (l == (letter "g")) (Some Lock) None)

abbrev pub memory_of : ℕ → Option MemoryChoice
memory_of l = cond (l == (letter "f")) (Some Flat) (cond (l == (letter "b")) (Some Bucketed) None)

abbrev pub kind_of : ℕ → Option KindChoice
kind_of l = cond (l == (letter "n")) (Some Numbers) (cond (l == (letter "p")) (Some Points) None)

abbrev pub optional : {A B : Type 0} → Option A → (A → Option B) → Option B
optional None f = None
optional (Some x) f = f x

-- three letters, then capacity and threads
abbrev pub header_of : List ℕ → Option Header
header_of line =
    optional (after (letter " ") line) (λ rest.
    optional (after (letter " ") rest) (λ last.
    cond (length (before (letter " ") line) == 3)
    (optional (container_of (slice_index (before (letter " ") line) 0)) (λ c.
    optional (memory_of (slice_index (before (letter " ") line) 1)) (λ m.
    optional (kind_of (slice_index (before (letter " ") line) 2)) (λ k.
    optional (number_of (before (letter " ") rest)) (λ n.
    optional (number_of last) (λ t.
    Some (record { container = c; memory = m; kind = k; capacity = n; threads = t }))))))) None))
