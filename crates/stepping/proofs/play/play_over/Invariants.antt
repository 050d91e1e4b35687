-- The events so far are those of the first calls, which led from the bench just made to the bench now; there is room for the rest.
use Rattle.std.proofs.Common.{◌≡◌, map, length, take, vec_len, vec_capacity}
use Rattle.stepping.specs.Bench.{call_of}
use Rattle.stepping.specs.History.{Leads}
use Rattle.stepping.proofs.play.play_over.Given as goal

abbrev pub invariant-loop-call : goal.invariant-loop-call
invariant-loop-call g l = record {
  room : vec_capacity l.events ≡ length l.calls;
  played : vec_len l.events ≡ l.call-index;
  called : map call_of l.events.items ≡ take l.call-index l.calls;
  leads : Leads g.C.Container g.K.Kind l.initial.bench l.events.items l.bench;
}
