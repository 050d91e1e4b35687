use Rattle.std.proofs.Common.{ℕ, ◌-◌, replicate, Ok, Result}
use Rattle.script.specs.declared.fault.Fault.{Fault}
use Rattle.stepping.specs.declared.Call.TheVariants.{Step as StepCall}
use Rattle.stepping.specs.declared.running.Running.{Running}
use Rattle.script_run.specs.Drives.{Drives}
use Rattle.script_run.proofs.lines.perform.Given as goal

-- what comes of the steps still to be taken comes of all
abbrev pub invariant-loop : goal.invariant-loop
invariant-loop g l =
    (line : ℕ) (end : Running g.row.C.Denot g.row.K.Denot g.row.K-Item.Denot) (r : Result (Unit {0}) Fault)
    → Drives g.C.Container g.K.Kind l.bench (replicate (l.count - l.counter) (line, Ok (StepCall l.thread))) r end
    → Drives g.C.Container g.K.Kind l.initial.bench (replicate l.count (line, Ok (StepCall l.thread))) r end
