use Rattle.std.proofs.Common.{rules, Ok}
use Rattle.lock_vector.specs.Calls.{Admits}
use Rattle.lock_vector.specs.Keeps.{keeps_begin}
use Rattle.lock_vector.proofs.LockVector.admit.Goals as goal

pub invariant_of-self : goal.invariant_of-self
invariant_of-self g c =
    let v = c.args.self.now in
    let words = g.M.Memory.words v.memory in
    let number = c.in_ok-number.number in
    let does : Admits v.threads words c.args.thread c.args.op (Ok number) c.begin.new.self words = search rules in
    record { sound = (keeps_begin v.threads words c.args.thread c.args.op (Ok number) c.begin.new.self words does v.sound).0 }
