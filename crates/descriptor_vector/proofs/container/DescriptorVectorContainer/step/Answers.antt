use Rattle.descriptor_vector.specs.Once.{steps}
use Rattle.descriptor_vector.proofs.container.DescriptorVectorContainer.step.Goals as goal

pub returns : goal.returns
returns g c =
    let v = c.args.self.now in
    record { means = steps _ _ v.sound v.few v.eight c.args.thread c.advance.result _ _ c.advance.ensures; table = c.advance.ensures }
