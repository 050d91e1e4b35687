use Rattle.descriptor_vector.specs.Once.{sets_up}
use Rattle.descriptor_vector.proofs.container.DescriptorVectorContainer.set_up.Goals as goal

pub returns : goal.returns
returns g c =
    let v = c.args.self.now in
    record { means = sets_up _ _ v.sound c.args.capacity c.args.threads c.prepare.result _ _ c.prepare.ensures; table = c.prepare.ensures }
