-- The first fault of a script, as users see it.
use Rattle.std.specs.Prelude.{ℕ, List, ◌++◌, Some, codes, decimal, Option}
use Rattle.refusal.specs.Numbers.{number_of_refusal}
use Rattle.refusal.specs.declared.Refusal.{Refusal}
use Rattle.script.specs.declared.fault.Fault.{Fault}

-- the refusal at a line
abbrev pub at_line : ℕ → Refusal → Fault
at_line line why = record { line = line; refusal = why }

-- `fault LINE NUMBER`
abbrev pub fault_text : Fault → Option (List ℕ)
fault_text f = Some (codes "fault " ++ (decimal f.line ++ (codes " " ++ decimal (number_of_refusal f.refusal))))
