use Rattle.std.proofs.Common.{rules, Ok}
use Rattle.descriptor_steps.specs.Steps.{tells}
use Rattle.descriptor_vector.specs.Calls.{Advances}
use Rattle.descriptor_vector.specs.Once.{stays_stepped}
use Rattle.descriptor_vector.proofs.structure.DescriptorVector.advance.Goals as goal

pub invariant_of-self-2-clause-sound : goal.invariant_of-self-2-clause-sound
invariant_of-self-2-clause-sound g c =
    let v = c.args.self.now in
    let words = g.M.Memory.words v.memory in
    let words' = g.M.Memory.words c.perform.new.memory in
    let stepped = tells c.in_ok-task.task.number c.lead-moved.result in
    let does : Advances v.table words c.args.thread (Ok stepped) c.settle.new.self words' = search rules in
    stays_stepped v.table words v.sound v.few v.eight c.args.thread (Ok stepped) c.settle.new.self words' does
