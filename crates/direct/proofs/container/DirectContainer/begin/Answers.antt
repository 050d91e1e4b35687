use Rattle.direct.specs.Steps.{begins}
use Rattle.direct.proofs.container.DirectContainer.begin.Goals as goal

pub returns-clause-means : goal.returns-clause-means
returns-clause-means c =
    let d = c.args.self.now in
    let h = c.in_ok-number.ensures in
    rw (c.begin.ensures, c.from.ensures) (begins d.threads d.values.items d.few d.eight c.args.thread c.args.op c.in_ok-number.number h.0 h.1)
