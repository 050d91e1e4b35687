-- The first i places have the events of the first i calls, which led from the bench at the start to the bench now.
use Rattle.std.proofs.Common.{◌≡◌, ◌≤◌, map, length, take, drop}
use Rattle.stepping.specs.Bench.{call_of}
use Rattle.stepping.specs.History.{Leads}
use Rattle.stepping.proofs.running.Running.run.Given as goal

abbrev pub invariant-loop-i : goal.invariant-loop-i
invariant-loop-i g l = record {
  in_calls : length l.call-items ≡ l.count;
  in_events : l.count ≤ length l.events;
  called : map call_of (take l.i l.events) ≡ take l.i l.call-items;
  rest : drop l.i l.events ≡ drop l.i l.initial.events;
  leads : Leads g.C.Container g.K.Kind l.initial.self (take l.i l.events) l.self;
}
