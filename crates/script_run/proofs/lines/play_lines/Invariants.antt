use Rattle.std.proofs.Common.{length, Result}
use Rattle.script.specs.Reading.{left}
use Rattle.script.specs.declared.fault.Fault.{Fault}
use Rattle.stepping.specs.declared.running.Running.{Running}
use Rattle.script_run.specs.Calls.{asked_by}
use Rattle.script_run.specs.Drives.{Drives}
use Rattle.script_run.proofs.lines.play_lines.Given as goal

-- what comes of the lines still to be read comes of all
abbrev pub invariant-loop-read : goal.invariant-loop-read
invariant-loop-read g l =
    (end : Running g.row.C.Denot g.row.K.Denot g.row.T.Denot) (r : Result (Unit {0}) Fault)
    → Drives g.C.Container g.K.Kind l.bench (asked_by (left g.T.ReadItem.reads l.lines)) r end
    → Drives g.C.Container g.K.Kind l.initial.bench (asked_by (left g.T.ReadItem.reads l.initial.lines)) r end

abbrev pub decreases-loop-read : goal.decreases-loop-read
decreases-loop-read g l = length (left g.T.ReadItem.reads l.lines)
