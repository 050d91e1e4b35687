use Rattle.std.proofs.Common.{◌≡◌, sym, ap, rules}
use Rattle.std.proofs.lemmas.Result.{err_from_is_err_and}
use Rattle.script.specs.Reading.{left}
use Rattle.script_run.specs.Calls.{asked, asked_by}
use Rattle.script_run.specs.Drives.{told_at}
use Rattle.script_run.proofs.Driving.{drives_then, drives_stop}
use Rattle.script_run.proofs.lines.play_lines.Goals as goal

pub loop-read-preserved : goal.loop-read-preserved
loop-read-preserved g c end r rest =
    let line = c.in-Some.read.number in
    let told : c.map_err.result ≡ told_at line c.perform.result = search rules in
    let did = rw (sym told, c.in_ok-map_err.was) at (c.perform.ensures line) in
    c.loop-read.invariant end r
    (rw (ap asked_by c.in-Some.ensures)
    (drives_then g.C.Container g.K.Kind c.loop-read.bench c.perform.new.bench end
    (asked line c.in-Some.read.command) (asked_by (left g.T.ReadItem.reads c.next_line.new.self)) r did rest))

pub returns-in_err-map_err : goal.returns-in_err-map_err
returns-in_err-map_err g c =
    let line = c.in-Some.read.number in
    let told : c.map_err.result ≡ told_at line c.perform.result = search rules in
    let did = rw (sym told, c.in_err-map_err.was) at (c.perform.ensures line) in
    let p = err_from_is_err_and c.from_residual.result c.from_residual.ensures.1 in
    rw (p.1, p.2)
    (c.loop-read.invariant c.perform.new.bench _
    (rw (ap asked_by c.in-Some.ensures)
    (drives_stop g.C.Container g.K.Kind c.loop-read.bench c.perform.new.bench
    (asked line c.in-Some.read.command) (asked_by (left g.T.ReadItem.reads c.next_line.new.self)) _ did)))
