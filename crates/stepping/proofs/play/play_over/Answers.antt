-- The history begins at the making, each turn of the loop takes it on by a call, and `close` has the law of it.
use Rattle.std.proofs.Common.{arith}
use Rattle.stepping.specs.Bench.{call_of}
use Rattle.stepping.proofs.Logs.{calls_push}
use Rattle.stepping.proofs.History.{leads_push, led_on}
use Rattle.stepping.proofs.play.play_over.Goals as goal

pub loop-call-preserved : goal.loop-call-preserved
loop-call-preserved g c =
    let so_far = c.loop-call.invariant in
    rw c.push_reserved.ensures.items (record {
      room = omega arith;
      played = omega arith;
      called = calls_push call_of _ _ _ _ _ (omega arith) c.call-item.is c.call.ensures.called so_far.called;
      leads = leads_push _ _ _ _ _ _ _ so_far.leads c.call.ensures.does;
    })

pub returns-clause-performed : goal.returns-clause-performed
returns-clause-performed g c =
    let made = c.over-container.ensures in
    let led = led_on _ _ _ _ _ c.loop-call.invariant.leads _ _ (c.in_ok-bench.ensures.led made.0) in
    (_, made.0, made.1, (c.close.ensures.law _ _ led).performed)

pub returns-clause-law : goal.returns-clause-law
returns-clause-law g c =
    let led = led_on _ _ _ _ _ c.loop-call.invariant.leads _ _ (c.in_ok-bench.ensures.led c.over-container.ensures.0) in
    (c.close.ensures.law _ _ led).law
