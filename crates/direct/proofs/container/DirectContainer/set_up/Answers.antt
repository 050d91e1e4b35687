use Rattle.direct.specs.Steps.{sets_up}
use Rattle.direct.proofs.container.DirectContainer.set_up.Goals as goal

pub returns-clause-means : goal.returns-clause-means
returns-clause-means c =
    let d = c.args.self.now in
    sets_up d.threads d.values.items d.few d.eight c.args.capacity c.args.threads c.set_up.result c.set_up.new.self (λ z. (d.bare z).1) c.set_up.ensures
