use Rattle.std.proofs.Common.{rules, Ok}
use Rattle.lock_vector.specs.Calls.{Advances}
use Rattle.lock_vector.specs.Keeps.{keeps_step}
use Rattle.lock_vector.proofs.LockVector.advance.Goals as goal

pub invariant_of-self-2 : goal.invariant_of-self-2
invariant_of-self-2 g c =
    let v = c.args.self.now in
    let words = g.M.Memory.words v.memory in
    let words' = g.M.Memory.words c.act.new.memory in
    let stepped = c.in_ok-moved.moved.stepped in
    let does : Advances v.threads words c.args.thread (Ok stepped) c.settle.new.self words' = search rules in
    record { sound = (keeps_step v.threads words c.args.thread (Ok stepped) c.settle.new.self words' does v.sound).0 }
