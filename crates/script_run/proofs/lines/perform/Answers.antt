use Rattle.std.proofs.Common.{◌≡◌, suc, ◌+◌, ◌-◌, Ok, Err, refl, arith}
use Rattle.std.proofs.lemmas.Result.{err_from_is_err_and}
use Rattle.stepping.specs.declared.Event.TheVariants.{Begin, Step}
use Rattle.script_run.proofs.lines.perform.Goals as goal

pub returns-in_err-begin-in-Begin : goal.returns-in_err-begin-in-Begin
returns-in_err-begin-in-Begin g c line =
    let p = err_from_is_err_and c.from_residual-in_err-begin-in-Begin.result c.from_residual-in_err-begin-in-Begin.ensures.1 in
    rw (c.in_ok-thread.was, c.in-Begin.is, p.1, p.2)
    (Begin c.in-Begin.thread c.in-Begin.op (Err c.in_err-begin-in-Begin.field-0.0), _, refl, c.in_err-begin-in-Begin.ensures.does, (refl, refl))

pub returns-in_ok-begin-in-Begin : goal.returns-in_ok-begin-in-Begin
returns-in_ok-begin-in-Begin g c line =
    rw (c.in_ok-thread.was, c.in-Begin.is)
    (Begin c.in-Begin.thread c.in-Begin.op (Ok c.in_ok-begin-in-Begin.field-0), _, refl, c.in_ok-begin-in-Begin.ensures.does, (refl, refl))

pub returns-in_err-step-in-Steps : goal.returns-in_err-step-in-Steps
returns-in_err-step-in-Steps g c line =
    let p = err_from_is_err_and c.from_residual-in_err-step-in-Steps.result c.from_residual-in_err-step-in-Steps.ensures.1 in
    let more : c.in-Steps.count - c.loop.counter ≡ suc (c.in-Steps.count - (c.loop.counter + 1)) = omega arith in
    rw (c.in_ok-thread.was, c.in-Steps.is, p.1, p.2)
    (c.loop.invariant line _ _ (rw more (Step c.in-Steps.thread (Err c.in_err-step-in-Steps.field-0.0), _, refl, c.in_err-step-in-Steps.ensures.does, (refl, refl))))

pub loop-preserved : goal.loop-preserved
loop-preserved g c line end r rest =
    let more : c.in-Steps.count - c.loop.counter ≡ suc (c.in-Steps.count - (c.loop.counter + 1)) = omega arith in
    c.loop.invariant line end r (rw more (Step c.in-Steps.thread (Ok c.in_ok-step-in-Steps.field-0), _, refl, c.in_ok-step-in-Steps.ensures.does, rest))
