use Rattle.direct.specs.Steps.{steps}
use Rattle.direct.proofs.container.DirectContainer.step.Goals as goal

pub returns-clause-means : goal.returns-clause-means
returns-clause-means c =
    let d = c.args.self.now in
    let h = c.in_ok-task.ensures in
    let does = c.perform-answer.ensures in
    rw (c.settle.ensures, c.from-number.ensures, does.answers, does.holds, c.from-capacity.ensures) (steps d.threads d.values.items d.few d.eight c.args.thread c.in_ok-task.task h.0 h.1)
