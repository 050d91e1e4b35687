-- Each turn of the loop takes the chain of calls on by one; at its end the law is that of every history with this chain after it.
use Rattle.std.proofs.Common.{◌≡◌, ◌<◌, length, take, sym, ◌∙◌, arith, rules}
use Rattle.std.proofs.lemmas.List.{length-set, take_all, take_more_set}
use Rattle.stepping.specs.Bench.{call_of}
use Rattle.stepping.specs.History.{Leads}
use Rattle.stepping.proofs.Logs.{calls_more, rest_more}
use Rattle.stepping.proofs.History.{leads_push, leads_log, runs_on}
use Rattle.stepping.proofs.running.Running.run.Goals as goal

pub offset_bounds-events-i : goal.offset_bounds-events-i
offset_bounds-events-i g c =
    let so_far = c.loop-i.invariant in
    let h : c.loop-i.i < length c.args.events.now = omega (arith, c.loop-i-test.true, so_far.in_calls, so_far.in_events, c.loop-i.auto.events) in search rules

pub loop-i-preserved : goal.loop-i-preserved
loop-i-preserved g c =
    let i = c.loop-i.i in
    let events = c.loop-i.events in
    let e = c.call.result in
    let so_far = c.loop-i.invariant in
    let in_events : i < length events = omega (arith, c.loop-i-test.true, so_far.in_calls, so_far.in_events) in
    record {
      in_calls = so_far.in_calls;
      in_events = omega (arith, length-set events i e, so_far.in_events);
      called = calls_more call_of _ _ _ _ _ in_events c.loop-i-test.true c.call-item.is c.call.ensures.called so_far.called;
      rest = rest_more events c.args.events.now i e so_far.rest;
      leads = rw (take_more_set events i e in_events) (leads_push _ _ _ _ _ _ _ so_far.leads c.call.ensures.does);
    }

pub returns : goal.returns
returns g c =
    let so_far = c.loop-i.invariant in
    let count = c.min-count.result in
    let all : c.loop-i.i ≡ count = omega (arith, c.loop-i-test.false, c.loop-i.auto.i-end, so_far.in_calls) in
    let leads : Leads g.C.Container g.K.Kind c.args.self.now (take count c.loop-i.events) c.loop-i.self = rw (sym all) so_far.leads in
    record {
      played = c.min-count.ensures;
      called = rw all at (so_far.called ∙ take_all _ _ c.loop-i-test.false);
      rest = rw all at so_far.rest;
      leads = leads;
      logs = leads_log _ _ _ _ _ leads;
      law = runs_on _ _ g.met.C.Container.lawful _ _ _ leads;
    }
