-- What comes of every byte string: the fault that the rules name, or a run of the script's calls, on a bench of the make that its
-- header names, and that run's listing.
use Rattle.std.specs.Prelude.{◌≡◌, ℕ, true, List, map, replicate, is_ok, Ok, Err, Result}
use Rattle.std.specs.Fmt.{signed_decimal}
use Rattle.items.specs.declared.Kind.{Ghosts as Kind}
use Rattle.memory.specs.Flats.{flat_words}
use Rattle.script.specs.Items.{number_item, point_item}
use Rattle.script.specs.Lines.{EntryText}
use Rattle.script.specs.Opening.{opened}
use Rattle.script.specs.Reading.{said}
use Rattle.script.specs.declared.fault.Fault.{Fault}
use Rattle.script.specs.declared.headers.Header.{Header}
use Rattle.script.specs.declared.headers.ContainerChoice.{ContainerChoice}
use Rattle.script.specs.declared.headers.ContainerChoice.TheVariants.{Descriptor, Lock}
use Rattle.script.specs.declared.headers.MemoryChoice.{MemoryChoice}
use Rattle.script.specs.declared.headers.MemoryChoice.TheVariants.{Flat, Bucketed}
use Rattle.script.specs.declared.headers.KindChoice.{KindChoice}
use Rattle.script.specs.declared.headers.KindChoice.TheVariants.{Numbers, Points}
use Rattle.listing.specs.Texts.{point_text}
use Rattle.script_run.specs.Calls.{Asked, script_asks}
use Rattle.memory.specs.Bucketed.{bucketed_words}
use Rattle.runs.specs.Makes.{numbers, points, lock_vector, descriptor_vector}
use Rattle.script_run.specs.Outcomes.{RunOf}

-- the container, over a memory M, whose words at first are these
module _ {M K T : Type 0} (words : M → List ℕ) (first : List ℕ) (k : Kind K T) (text : T → List ℕ) (calls : List (Asked T)) (out : List ℕ) (r : Result ℕ Fault)
    (out' : List ℕ) where
  abbrev pub ByContainer : ContainerChoice → Type 0
  ByContainer Descriptor = RunOf (descriptor_vector words) k text first calls out r out'
  ByContainer Lock = RunOf (lock_vector words) k text first calls out r out'

-- the memory: 465 words, or 504 in buckets, all 0
module _ {K T : Type 0} (k : Kind K T) (text : T → List ℕ) (calls : List (Asked T)) (container : ContainerChoice) (out : List ℕ) (r : Result ℕ Fault) (out' : List ℕ) where
  abbrev pub ByMemory : MemoryChoice → Type 0
  ByMemory Flat = ByContainer flat_words (replicate 465 0) k text calls out r out' container
  ByMemory Bucketed = ByContainer bucketed_words (replicate 504 0) k text calls out r out' container

-- the kind of item, by which the lines are read
module _ (line : ℕ) (header : Header) (lines : List EntryText) (out : List ℕ) (r : Result ℕ Fault) (out' : List ℕ) where
  abbrev pub ByKind : KindChoice → Type 0
  ByKind Numbers = ByMemory numbers signed_decimal (script_asks line header (map (said number_item) lines)) header.container out r out' header.memory
  ByKind Points = ByMemory points point_text (script_asks line header (map (said point_item) lines)) header.container out r out' header.memory

-- a script that cannot be opened is at fault; else its header says on what it is played
abbrev pub PlayedAs : Result (ℕ × Header × List EntryText) Fault → List ℕ → Result ℕ Fault → List ℕ → Type 0
PlayedAs (Err fault) out r out' = (r ≡ Err fault) × (out' ≡ out)
PlayedAs (Ok (line, header, lines)) out r out' = ByKind line header lines out r out' header.kind

-- the script asks for a bench: it can be opened
abbrev pub AsksForBench : List ℕ → Type 0
AsksForBench bytes = is_ok (opened bytes) ≡ true

abbrev pub ScriptRun : List ℕ → List ℕ → Result ℕ Fault → List ℕ → Type 0
ScriptRun bytes out r out' = PlayedAs (opened bytes) out r out'
