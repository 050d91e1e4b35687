-- A script, what it says, and the listing of its run.
use Rattle.std.specs.Prelude.{◌≡◌, ℕ, List, [], ◌∷◌, map, ℤ, pos, Ok, Err, codes, Result}
use Rattle.std.specs.Fmt.{signed_decimal}
use Rattle.refusal.specs.declared.Refusal.{Refusal}
use Rattle.vector.specs.declared.Op.TheVariants.{Push, Read, Size}
use Rattle.vector.specs.declared.Answer.TheVariants.{Position, Out, Length}
use Rattle.stepping.specs.declared.Record.{Record}
use Rattle.stepping.specs.declared.Record.TheVariants.{Begin, Effect, End}
use Rattle.script.specs.Examples.{headed_by}
use Rattle.script.specs.Items.{number_item}
use Rattle.script.specs.Lines.{EntryText}
use Rattle.script.specs.Opening.{opened}
use Rattle.script.specs.Reading.{said}
use Rattle.script.specs.declared.commands.Command.{Command}
use Rattle.script.specs.declared.commands.Command.TheVariants.{Begin as Begins, Steps}
use Rattle.script.specs.declared.fault.Fault.{Fault}
use Rattle.script.specs.declared.headers.ContainerChoice.TheVariants.{Descriptor}
use Rattle.script.specs.declared.headers.MemoryChoice.TheVariants.{Flat}
use Rattle.script.specs.declared.headers.KindChoice.TheVariants.{Numbers}
use Rattle.script.specs.declared.headers.Header.{Header}
use Rattle.listing.specs.Listings.{listing}

-- the lines after the header, as commands on numbers
abbrev pub commanded : Result (ℕ × Header × List EntryText) Fault → Result (ℕ × Header × List (ℕ × Result (Command ℤ) Refusal)) Fault
commanded (Ok s) = Ok (s.0, s.1, map (said number_item) s.2)
commanded (Err f) = Err f

abbrev pub worked_log : List (Record ℤ)
worked_log =
    Begin 1 1 (Push (pos 17))
    ∷ Begin 2 2 (Read 0)
    ∷ Effect 2
    ∷ End 2 Out
    ∷ Begin 3 2 Size
    ∷ Effect 1
    ∷ Effect 3
    ∷ End 3 (Length 1)
    ∷ End 1 (Position 0)
    ∷ []

abbrev pub worked_commands : List (ℕ × Result (Command ℤ) Refusal)
worked_commands =
    (2, Ok (Begins 1 (Push (pos 17))))
    ∷ (4, Ok (Steps 1 3))
    ∷ (5, Ok (Begins 2 (Read 0)))
    ∷ (6, Ok (Steps 2 1))
    ∷ (7, Ok (Begins 2 Size))
    ∷ (8, Ok (Steps 2 7))
    ∷ (9, Ok (Steps 1 2))
    ∷ []

pub record WorkedExample : Type 0 where
  pub read : commanded (opened (codes "dfn 2 2\n1 + 17\n# parked\n1 . 3\n2 r 0\n2 . 1\n2 s\n2 . 7\n1 . 2\n")) ≡ Ok (1, headed_by Descriptor Flat Numbers 2 2, worked_commands)
  pub listed : listing signed_decimal worked_log ≡ codes "begin 1 1 + 17\nbegin 2 2 r 0\neffect 2\nend 2 out\nbegin 3 2 s\neffect 1\neffect 3\nend 3 1\nend 1 0\n"
