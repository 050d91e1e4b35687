use Rattle.std.proofs.Common.{rules, Ok}
use Rattle.descriptor_vector.specs.declared.table.Table.{Table}
use Rattle.descriptor_vector.specs.Calls.{Admits}
use Rattle.descriptor_vector.specs.Once.{stays_begun}
use Rattle.descriptor_vector.proofs.structure.DescriptorVector.admit.Goals as goal

pub invariant_of-self-clause-sound : goal.invariant_of-self-clause-sound
invariant_of-self-clause-sound g c =
    let v = c.args.self.now in
    let words = g.M.Memory.words v.memory in
    let number = c.in_ok-number.number in
    let table : Table = record { threads = c.begin.new.self; plans = v.table.plans } in
    let does : Admits v.table words c.args.thread c.args.op (Ok number) table words = search rules in
    stays_begun v.table words v.sound v.few v.eight c.args.thread c.args.op (Ok number) table words does
