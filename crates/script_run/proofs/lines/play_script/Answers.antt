use Rattle.std.proofs.Common.{◌≡◌, Ok, refl, sym, ◌∙◌, rules}
use Rattle.std.proofs.lemmas.Result.{err_from_is_err_and}
use Rattle.stepping.specs.declared.Event.TheVariants.{SetUp}
use Rattle.script_run.specs.Drives.{told_at}
use Rattle.script_run.proofs.Driving.{told_stop}
use Rattle.script_run.proofs.lines.play_script.Goals as goal

pub returns-in_err-map_err : goal.returns-in_err-map_err
returns-in_err-map_err g c =
    let told : c.map_err.result ≡ told_at c.args.script.line c.set_up.result = search rules in
    let p = err_from_is_err_and c.from_residual.result c.from_residual.ensures.1 in
    rw (p.1, p.2)
    (SetUp _ _ c.set_up.result, _, refl, c.set_up.ensures.does, told_stop g.C.Container g.K.Kind _ c.args.script.line c.set_up.result _ _ (sym told ∙ c.in_err-map_err.was))

pub returns : goal.returns
returns g c =
    let granted : c.set_up.result ≡ Ok tt = search rules in
    (SetUp _ _ (Ok tt), _, refl, rw granted at c.set_up.ensures.does, c.play_lines.ensures)
