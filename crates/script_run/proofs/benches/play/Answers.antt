use Rattle.std.proofs.Common.{◌≡◌, refl, rules}
use Rattle.std.proofs.lemmas.Result.{err_from_is_err_and}
use Rattle.script_run.specs.Drives.{told_at}
use Rattle.script_run.proofs.Outcome.{ran_so, writes_so}
use Rattle.script_run.proofs.benches.play.Goals as goal

pub returns-in_err-verdict : goal.returns-in_err-verdict
returns-in_err-verdict g c start new before =
    let p = err_from_is_err_and c.from_residual.result c.from_residual.ensures.1 in
    rw (p.1, p.2)
    (ran_so g.C.Container g.K.Kind g.T.WriteItem.text _ _ _ _ _ _ _ _ _ _ _ new refl before c.in_err-verdict.ensures c.close-closed.ensures.law (refl, refl))

pub returns : goal.returns
returns g c start new before =
    let told : c.map_err.result ≡ told_at 0 c.list.result = search rules in
    let wrote = simp c.records.ensures at c.list.ensures in
    rw told
    (ran_so g.C.Container g.K.Kind g.T.WriteItem.text _ _ _ _ _ _ _ _ _ _ _ new refl before c.in_ok-verdict.ensures c.close-closed.ensures.law (writes_so _ _ _ _ wrote))
