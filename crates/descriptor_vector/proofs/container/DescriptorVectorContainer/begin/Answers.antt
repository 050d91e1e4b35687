use Rattle.descriptor_vector.specs.Once.{begins}
use Rattle.descriptor_vector.proofs.container.DescriptorVectorContainer.begin.Goals as goal

pub returns : goal.returns
returns g c =
    let v = c.args.self.now in
    record { means = begins _ _ v.sound v.few v.eight c.args.thread c.args.op c.admit.result _ _ c.admit.ensures; table = c.admit.ensures }
