-- The law holds of every history.
use Rattle.stepping.proofs.History.{ran}
use Rattle.stepping.proofs.running.Running.close.Goals as goal

pub returns-clause-law : goal.returns-clause-law
returns-clause-law g c = λ start es led. ran g.C.Container g.K.Kind g.met.C.Container.lawful start es c.args.self led
