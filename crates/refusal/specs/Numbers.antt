-- The number of each refusal, upper row first: where several rows hold, the upper one is the answer.
use Rattle.std.specs.Prelude.{ℕ}
use Rattle.refusal.specs.declared.Refusal.{Refusal}
use Rattle.refusal.specs.declared.Refusal.TheVariants.{ScriptTooLong, NoHeaderLine, NotOfAForm, OutOfRange, BadCoordinate, SetUpBefore, BadCapacity, BadThreads, MemoryShort, MemoryUsed, NoThread, OperationOpen, NumbersGone, BadIndex, NothingOpen, NoSuchLocation, ListingTooLong}

abbrev pub number_of_refusal : Refusal → ℕ
number_of_refusal ScriptTooLong = 40
number_of_refusal NoHeaderLine = 43
number_of_refusal NotOfAForm = 41
number_of_refusal OutOfRange = 42
number_of_refusal BadCoordinate = 24
number_of_refusal SetUpBefore = 15
number_of_refusal BadCapacity = 10
number_of_refusal BadThreads = 11
number_of_refusal MemoryShort = 12
number_of_refusal MemoryUsed = 13
number_of_refusal NoThread = 20
number_of_refusal OperationOpen = 21
number_of_refusal NumbersGone = 22
number_of_refusal BadIndex = 23
number_of_refusal NothingOpen = 25
number_of_refusal NoSuchLocation = 30
number_of_refusal ListingTooLong = 44
